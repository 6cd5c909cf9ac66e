use Rattle.std.proofs.Common.{◌≡◌, map, drop}
use Rattle.hs_limits.specs.Outline.{all}
use Rattle.hs_limits.specs.Nodes.{node_of_item}
use Rattle.hs_limits.specs.Walk.{first_in}
use Rattle.hs_limits.proofs.items.items.Given as goal

abbrev pub invariant-loop-next : goal.invariant-loop-next
invariant-loop-next l = first_in (all (map node_of_item l.next-items)) ≡ first_in (all (map node_of_item (drop l.next-index l.next-items)))
