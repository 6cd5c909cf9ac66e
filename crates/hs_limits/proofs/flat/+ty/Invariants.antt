use Rattle.std.proofs.Common.{◌≡◌, map, drop}
use Rattle.hs_limits.specs.Outline.{part}
use Rattle.hs_limits.specs.Nodes.{node_of_ty}
use Rattle.hs_limits.specs.Walk.{first_in, listed}
use Rattle.hs_limits.proofs.Steps.{row}
use Rattle.hs_limits.proofs.flat.+ty.Given as goal

abbrev pub invariant-tys-loop-index : goal.invariant-tys-loop-index
invariant-tys-loop-index l = first_in (listed l.limit part (map node_of_ty l.part-items)) ≡ first_in (row l.limit part l.index (map node_of_ty (drop l.index l.part-items)))
