use Rattle.std.proofs.Common.{◌≡◌, get_or, slice_get, subst, List, ℕ, Some, None, rules, arith}
use Rattle.std.proofs.lemmas.List.{take_all}
use Rattle.std.proofs.lemmas.Grind.{common_steps}
use Rattle.hs_items.specs.Meaning.{known}
use Rattle.hs_items.specs.Walk.{at}
use Rattle.hs_items.proofs.Places.{found, missing}
use Rattle.hs_items.proofs.Listed.{Stands, turn_none, turn_some, turn_fits, are_decls}
use Rattle.hs_items.proofs.listing.list_all.Goals as goal

pub list-requires-clause-fits : goal.list-requires-clause-fits
list-requires-clause-fits c =
    let here : slice_get c.args.symbols.now.items (get_or c.args.order.now c.loop-place.place-index 0) ≡ Some c.in-Some.item.now =
    found c.args.symbols.now.items c.items-items.result.now (get_or c.args.order.now c.loop-place.place-index 0) c.in-Some.item.now c.items-items.ensures (c.in-Some.ensures.lookup.0, c.in-Some.ensures.lookup.1) in
    turn_fits c.args.symbols.now c.args.order.now c.loop-place.place-index c.loop-place-test.true c.in-Some.item.now c.requires.fits here

pub loop-place-preserved-in_default : goal.loop-place-preserved-in_default
loop-place-preserved-in_default c =
    let none : slice_get c.args.symbols.now.items (get_or c.args.order.now c.loop-place.place-index 0) ≡ None =
    missing c.args.symbols.now.items c.items-items.result.now (get_or c.args.order.now c.loop-place.place-index 0) c.items-items.ensures c.in_default.ensures.lookup.0 in
    turn_none c.args.symbols.now c.args.order.now c.loop-place.place-index c.loop-place-test.true c.loop-place.decls none c.loop-place.invariant

pub loop-place-preserved : goal.loop-place-preserved
loop-place-preserved c =
    let here : slice_get c.args.symbols.now.items (get_or c.args.order.now c.loop-place.place-index 0) ≡ Some c.in-Some.item.now =
    found c.args.symbols.now.items c.items-items.result.now (get_or c.args.order.now c.loop-place.place-index 0) c.in-Some.item.now c.items-items.ensures (c.in-Some.ensures.lookup.0, c.in-Some.ensures.lookup.1) in
    let is : c.unwrap_or-of_item.result ≡ at c.args.facts.now (get_or c.args.order.now c.loop-place.place-index 0) = first_of (search rules, grind (arith, common_steps)) in
    turn_some c.args.symbols.now c.args.order.now c.loop-place.place-index c.loop-place-test.true c.args.facts.now c.requires.facts c.requires.once c.loop-place.decls c.list.new.decls c.in-Some.item.now c.unwrap_or-of_item.result c.loop-place.invariant here is
    c.in_ok-list.ensures.table c.in_ok-list.ensures.items c.in_ok-list.ensures.facts

pub returns : goal.returns
returns c =
    are_decls c.args.symbols.now c.args.order.now c.loop-place.decls
    (subst (λ (o : List ℕ). Stands c.args.symbols.now o (known c.args.symbols.now c.args.order.now).table c.loop-place.decls) (take_all c.loop-place.place-index c.args.order.now c.loop-place-test.false) c.loop-place.invariant)
