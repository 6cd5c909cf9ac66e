use Rattle.std.proofs.Common.{◌≡◌, Some, map, drop}
use Rattle.hs_limits.specs.Outline.{part, upto}
use Rattle.hs_limits.specs.Nodes.{node_of_ctor}
use Rattle.hs_limits.specs.Walk.{first_in}
use Rattle.hs_limits.proofs.Steps.{row}
use Rattle.hs_limits.proofs.items.ctors.Given as goal

abbrev pub invariant-loop-index : goal.invariant-loop-index
invariant-loop-index l = first_in (upto 256 part (map node_of_ctor l.ctor-items)) ≡ first_in (row (Some 256) part l.index (map node_of_ctor (drop l.index l.ctor-items)))
