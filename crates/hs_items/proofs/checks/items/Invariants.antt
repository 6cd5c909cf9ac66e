use Rattle.std.proofs.Common.{◌≡◌, drop}
use Rattle.hs_marks.specs.First.{first}
use Rattle.hs_items.specs.Marks.{items_nodes}
use Rattle.hs_items.specs.Walk.{at, nodes_of_ty, facts_of_ty, AllFit}
use Rattle.hs_items.proofs.checks.items.Given as goal

abbrev pub invariant-loop-next : goal.invariant-loop-next
invariant-loop-next l = record {
  fit : AllFit (drop l.next-index l.items) → AllFit l.items;
  told : first (items_nodes (facts_of_ty l.world.symbols.now (at l.world.facts.now)) (nodes_of_ty l.world.symbols.now (at l.world.facts.now)) l.world.symbols.now l.items) ≡ first (items_nodes (facts_of_ty l.world.symbols.now (at l.world.facts.now)) (nodes_of_ty l.world.symbols.now (at l.world.facts.now)) l.world.symbols.now (drop l.next-index l.items));
}
