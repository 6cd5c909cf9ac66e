use Rattle.std.proofs.Common.{◌≡◌, map, drop}
use Rattle.hs_marks.specs.First.{first}
use Rattle.hs_items.specs.Nodes.{row, in_param}
use Rattle.hs_items.specs.Walk.{at, nodes_of_ty}
use Rattle.hs_items.proofs.checks.params.Given as goal

abbrev pub invariant-loop-param : goal.invariant-loop-param
invariant-loop-param l =
    first (row (map (in_param (nodes_of_ty l.world.symbols.now (at l.world.facts.now))) l.param-items)) ≡ first (row (map (in_param (nodes_of_ty l.world.symbols.now (at l.world.facts.now))) (drop l.param-index l.param-items)))
