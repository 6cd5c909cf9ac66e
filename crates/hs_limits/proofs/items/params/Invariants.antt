use Rattle.std.proofs.Common.{◌≡◌, Some, map, drop}
use Rattle.hs_limits.specs.Outline.{parameter, upto}
use Rattle.hs_limits.specs.Nodes.{node_of_param}
use Rattle.hs_limits.specs.Walk.{first_in}
use Rattle.hs_limits.proofs.Steps.{row}
use Rattle.hs_limits.proofs.items.params.Given as goal

abbrev pub invariant-loop-index : goal.invariant-loop-index
invariant-loop-index l = first_in (upto 32 parameter (map node_of_param l.param-items)) ≡ first_in (row (Some 32) parameter l.index (map node_of_param (drop l.index l.param-items)))
