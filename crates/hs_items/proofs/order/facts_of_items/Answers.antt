use Rattle.std.proofs.Common.{ℕ, ◌≡◌, ◌+◌, ◌<◌, ap, sym, ◌∙◌, subst, List, length, get_or, take, set, slice_get, Some, None, arith}
use Rattle.std.proofs.lemmas.List.{take_more, length-set}
use Rattle.std.proofs.lemmas.Option.{slice_get_within}
use Rattle.hs_syntax.specs.declared.file.File.{File}
use Rattle.hs_syntax.specs.declared.item.Item.{Item}
use Rattle.hs_items.specs.declared.facts.Facts.{Facts}
use Rattle.hs_items.specs.Meaning.{known, derives_copy}
use Rattle.hs_items.specs.Walk.{AgreeWith, at, facts_of_kind}
use Rattle.hs_items.proofs.Places.{found, missing}
use Rattle.hs_items.proofs.Known.{none_agrees, item_agrees, no_item_agrees}
use Rattle.hs_items.proofs.order.facts_of_items.Goals as goal

-- one item more
one_more : (file : File) (order : List ℕ) (n : ℕ) (all seen : List Facts) (it : Item) (f : Facts) → n < length order → AgreeWith file (known file (take n order)) all → length all ≡ length file.items
    → slice_get file.items (get_or order n 0) ≡ Some it → seen ≡ all → f ≡ facts_of_kind file (at seen) (derives_copy file it.derives) it.kind
    → AgreeWith file (known file (take (n + 1) order)) (set all (get_or order n 0) f)
one_more file order n all seen it f h agree count e s is =
    let here : get_or order n 0 < length all = let w = slice_get_within file.items (get_or order n 0) it e in omega (arith, w, count) in
    let same : f ≡ facts_of_kind file (at all) (derives_copy file it.derives) it.kind = is ∙ ap (λ (fs : List Facts). facts_of_kind file (at fs) (derives_copy file it.derives) it.kind) s in
    subst (λ (g : Facts). AgreeWith file (known file (take (n + 1) order)) (set all (get_or order n 0) g)) (sym same)
    (subst (λ (places : List ℕ). AgreeWith file (known file places) (set all (get_or order n 0) (facts_of_kind file (at all) (derives_copy file it.derives) it.kind))) (sym (take_more order n 0 h))
    (item_agrees file (take n order) all agree (get_or order n 0) it here e))

-- no item is there
none_more : (file : File) (order : List ℕ) (n : ℕ) (all : List Facts) → n < length order → AgreeWith file (known file (take n order)) all → slice_get file.items (get_or order n 0) ≡ None
    → AgreeWith file (known file (take (n + 1) order)) all
none_more file order n all h agree e =
    subst (λ (places : List ℕ). AgreeWith file (known file places) all) (sym (take_more order n 0 h)) (no_item_agrees file (take n order) all agree (get_or order n 0) e)

pub loop-place-init : goal.loop-place-init
loop-place-init c = record { agree = none_agrees c.args.symbols.now c.in_ok-all.all c.in_ok-all.ensures.singles; count = let e = c.in_ok-all.ensures.length in cc }

pub loop-place-preserved : goal.loop-place-preserved
loop-place-preserved c =
    record {
      agree = let e : slice_get c.args.symbols.now.items (get_or c.args.order.now c.loop-place.place-index 0) ≡ Some c.in-Some.item.now =
          found c.args.symbols.now.items c.items-items.result.now (get_or c.args.order.now c.loop-place.place-index 0) c.in-Some.item.now c.items-items.ensures (c.in-Some.ensures.lookup.0, c.in-Some.ensures.lookup.1) in
          rw c.set.ensures (one_more c.args.symbols.now c.args.order.now c.loop-place.place-index c.loop-place.all c.as_slice.result.now c.in-Some.item.now c.of_item-facts.result c.loop-place-test.true c.loop-place.invariant.agree c.loop-place.invariant.count e c.as_slice.ensures c.of_item-facts.ensures);
      count = rw c.set.ensures (length-set c.loop-place.all (get_or c.args.order.now c.loop-place.place-index 0) c.of_item-facts.result ∙ c.loop-place.invariant.count);
    }

pub loop-place-preserved-in_default : goal.loop-place-preserved-in_default
loop-place-preserved-in_default c =
    record {
      agree = let e : slice_get c.args.symbols.now.items (get_or c.args.order.now c.loop-place.place-index 0) ≡ None = missing c.args.symbols.now.items c.items-items.result.now (get_or c.args.order.now c.loop-place.place-index 0) c.items-items.ensures c.in_default.ensures.lookup.0 in
          none_more c.args.symbols.now c.args.order.now c.loop-place.place-index c.loop-place.all c.loop-place-test.true c.loop-place.invariant.agree e;
      count = c.loop-place.invariant.count;
    }
