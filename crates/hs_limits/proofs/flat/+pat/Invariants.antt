use Rattle.std.proofs.Common.{◌≡◌, map, drop}
use Rattle.hs_limits.specs.Outline.{part}
use Rattle.hs_limits.specs.Nodes.{node_of_pat}
use Rattle.hs_limits.specs.Walk.{first_in, listed}
use Rattle.hs_limits.proofs.Steps.{row}
use Rattle.hs_limits.proofs.flat.+pat.Given as goal

abbrev pub invariant-pats-loop-index : goal.invariant-pats-loop-index
invariant-pats-loop-index l = first_in (listed l.limit part (map node_of_pat l.part-items)) ≡ first_in (row l.limit part l.index (map node_of_pat (drop l.index l.part-items)))
