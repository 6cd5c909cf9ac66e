use Rattle.std.proofs.Common.{◌≡◌, Err, rules}
use Rattle.hs_syntax.specs.declared.item.Item.{Item}
use Rattle.hs_marks.specs.First.{first}
use Rattle.hs_items.specs.Marks.{item_nodes, items_nodes}
use Rattle.hs_items.specs.Walk.{at, facts_of_ty, nodes_of_ty}
use Rattle.hs_items.proofs.Rows.{row_stops}
use Rattle.hs_items.proofs.checks.items.Goals as goal

pub returns-in_err-item-clause-first : goal.returns-in_err-item-clause-first
returns-in_err-item-clause-first c =
    let e : c.from_residual.result ≡ Err c.in_err-item.field-0.0 = search rules in
    rw e (row_stops Item (item_nodes (facts_of_ty c.args.world.now.symbols.now (at c.args.world.now.facts.now)) (nodes_of_ty c.args.world.now.symbols.now (at c.args.world.now.facts.now)) c.args.world.now.symbols.now) c.args.items.now c.loop-next.next-index c.next-item.result
    (first (items_nodes (facts_of_ty c.args.world.now.symbols.now (at c.args.world.now.facts.now)) (nodes_of_ty c.args.world.now.symbols.now (at c.args.world.now.facts.now)) c.args.world.now.symbols.now c.args.items.now))
    c.loop-next-test.true c.next-item.is c.loop-next.invariant.told c.in_err-item.field-0.0 c.in_err-item.ensures.first)
