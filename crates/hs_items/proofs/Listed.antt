-- What is listed of items, one by one.
use Rattle.std.proofs.Common.{ℕ, zero, suc, ◌+◌, ◌≡◌, ◌≢◌, ◌<◌, ◌≤◌, refl, sym, ◌∙◌, ap, ap₂, subst, Bool, true, false, cond, nat_eq, ◌||◌, List, [], ◌∷◌, ◌++◌, length, get_or, set, take, drop, replicate, slice_get, append_assoc, append-nil, option_map, Option, Some, None, arith}
use Rattle.std.proofs.Math.Path.{fun_ext}
use Rattle.std.proofs.lemmas.List.{length-append, length-set, length-replicate, length-take-le, get_or_append_left, get_or_push, get_or-set_same, get_or-set_other, take_more, take-append-drop}
use Rattle.std.proofs.lemmas.Bool.Decides.{nat_tests}
use Rattle.hs_order.specs.Order.{has}
use Rattle.hs_syntax.specs.declared.file.File.{File}
use Rattle.hs_syntax.specs.declared.item.Item.{Item}
use Rattle.hs_syntax.specs.declared.item.ItemKind.{ItemKind}
use Rattle.hs_syntax.specs.declared.item.ItemKind.TheVariants as item
use Rattle.hs_values.specs.declared.types.ValType.{ValType, roll-ValType}
use Rattle.hs_values.specs.declared.types.ValType.TheOpen as type
use Rattle.hs_values.specs.declared.types.ValType.TheFolds.{fold-roll-ValType}
use Rattle.hs_values.specs.declared.types.TypeDef.{TypeDef}
use Rattle.hs_items.specs.declared.facts.Facts.{Facts}
use Rattle.hs_items.specs.declared.decls.Declaration.{Declaration}
use Rattle.hs_items.specs.declared.decls.Declaration.TheVariants as d
use Rattle.hs_items.specs.declared.decls.Decls.{Decls}
use Rattle.hs_items.specs.Whole.{Whole, expand_layer, entry, expanded, facts_of}
use Rattle.hs_items.specs.Meaning.{definitions, declaration, derives_copy, type_in, Listed, stands, with_item, listed, known}
use Rattle.hs_items.specs.Declares.{AreDecls}
use Rattle.hs_items.specs.Walk.{limited, single, at, AgreeWith, EachOnce, LengthFits, AllFit, facts_if, stands_in}
use Rattle.hs_items.proofs.Known.{known_more}

-- a list by its length and its places
pub by_lengths : {X Y : Type 0} (xs : List X) (ys : List Y) (f : ℕ → X) (e : X) → length xs ≡ length ys → ((k : ℕ) → k < length xs → get_or xs k e ≡ f k)
    → (k : ℕ) → slice_get xs k ≡ option_map (λ (y : Y). f k) (slice_get ys k)
by_lengths [] [] f e l h k = refl
by_lengths [] (y ∷ ys) f e l h k = absurd (omega (arith, l))
by_lengths (x ∷ xs) [] f e l h k = absurd (omega (arith, l))
by_lengths (x ∷ xs) (y ∷ ys) f e l h zero = ap Some (h 0 (omega arith))
by_lengths (x ∷ xs) (y ∷ ys) f e l h (suc k) = by_lengths xs ys (λ j. f (suc j)) e (omega (arith, l)) (λ j less. h (suc j) (omega (arith, less))) k

-- nothing is declared past the items
get_within : {X : Type 0} (xs : List X) (i : ℕ) (x : X) → slice_get xs i ≡ Some x → i < length xs
get_within [] i x e = absurd cc
get_within (y ∷ xs) zero x e = omega arith
get_within (y ∷ xs) (suc i) x e = let h = get_within xs i x e in omega (arith, h)

-- what is left of an order that has each number once
pub once_drop : (order : List ℕ) (k : ℕ) (i : ℕ) → EachOnce order → k < length order → i ≡ get_or order k 0 → has (drop (k + 1) order) i ≡ false
once_drop [] k i o h e = absurd (omega (arith, h))
once_drop (x ∷ order) zero i o h e = ap (has order) e ∙ o.0
once_drop (x ∷ order) (suc k) i o h e = rw (add-suc-one k) (once_drop order k i o.1 (omega (arith, h)) e)
  where
    add-suc-one : (k : ℕ) → suc k + 1 ≡ suc (k + 1)
    add-suc-one k = omega arith

split_or : (a b : Bool) → (a || b) ≡ false → (a ≡ false) × (b ≡ false)
split_or true b h = cc
split_or false b h = (refl, h)

module _ (file : File) where
  -- an item that does not come again stays as it is
  stays_by : (i x : ℕ) (it : Option Item) (known : Listed) → nat_eq i x ≡ false → (with_item file x it known).declares i ≡ known.declares i
  stays_by i x None known e = refl
  stays_by i x (Some it) known e =
      let other : nat_eq x i ≡ false = grind (arith, nat_tests) in
      ap (λ (b : Bool). cond b (declaration file (stands known) (length known.table) it.kind) (known.declares i)) other

  pub declares_stays : (after before : List ℕ) (i : ℕ) → has after i ≡ false → (known file (before ++ after)).declares i ≡ (known file before).declares i
  declares_stays [] before i h = ap (λ (order : List ℕ). (known file order).declares i) (append-nil before)
  declares_stays (x ∷ after) before i h =
      let parts = split_or (nat_eq i x) (has after i) h in
      ap (λ (order : List ℕ). (known file order).declares i) (sym (append_assoc before (x ∷ []) after))
      ∙ declares_stays after (before ++ x ∷ []) i parts.1
      ∙ ap (λ (k : Listed). k.declares i) (known_more file before x)
      ∙ stays_by i x (slice_get file.items x) (known file before) parts.0

  pub known_item : (order : List ℕ) (i : ℕ) (it : Item) → slice_get file.items i ≡ Some it → known file (order ++ i ∷ []) ≡ with_item file i (Some it) (known file order)
  known_item order i it e = known_more file order i ∙ ap (λ (o : Option Item). with_item file i o (known file order)) e

  pub known_none : (order : List ℕ) (i : ℕ) → slice_get file.items i ≡ None → known file (order ++ i ∷ []) ≡ known file order
  known_none order i e = known_more file order i ∙ ap (λ (o : Option Item). with_item file i o (known file order)) e

-- what stands in the declarations behind so many items of an order, of which the last table is this
pub record Stands (file : File) (order : List ℕ) (last : List TypeDef) (decls : Decls) : Type 0 where
  pub table : decls.table ≡ (known file order).table
  pub all : length decls.items ≡ length file.items
  pub items : (k : ℕ) → get_or decls.items k d.Nothing ≡ (known file order).declares k
  pub count : length decls.facts ≡ length decls.table
  pub facts : (k : ℕ) → k < length decls.facts → get_or decls.facts k single ≡ limited (facts_of (entry last k))
  pub few : length decls.table ≤ length order

pub are_decls : (file : File) (order : List ℕ) (decls : Decls) → Stands file order (known file order).table decls → AreDecls file order decls
are_decls file order decls s =
    record {
      table = s.table;
      items = by_lengths decls.items file.items (λ k. (known file order).declares k) d.Nothing s.all (λ k h. s.items k);
      facts =
          by_lengths decls.facts (known file order).table (λ k. limited (facts_of (entry (known file order).table k))) single (s.count ∙ ap (λ (t : List TypeDef). length t) s.table) s.facts;
    }

nothing_at : (n k : ℕ) → get_or (replicate n d.Nothing) k d.Nothing ≡ d.Nothing
nothing_at zero k = refl
nothing_at (suc n) zero = refl
nothing_at (suc n) (suc k) = nothing_at n k

pub stands_first : (file : File) (last : List TypeDef) (decls : Decls) → decls.table ≡ [] → decls.items ≡ replicate (length file.items) d.Nothing → decls.facts ≡ [] → Stands file [] last decls
stands_first file last decls t i f =
    record {
      table = t;
      all = ap (λ (xs : List Declaration). length xs) i ∙ length-replicate (length file.items) d.Nothing;
      items = λ k. ap (λ (xs : List Declaration). get_or xs k d.Nothing) i ∙ nothing_at (length file.items) k;
      count = ap (λ (xs : List Facts). length xs) f ∙ sym (ap (λ (xs : List TypeDef). length xs) t);
      facts = λ k h. absurd (let e = ap (λ (xs : List Facts). length xs) f in omega (arith, h, e));
      few = let e = ap (λ (xs : List TypeDef). length xs) t in omega (arith, e);
    }

pub stands_none : (file : File) (order : List ℕ) (last : List TypeDef) (decls : Decls) (i : ℕ) → slice_get file.items i ≡ None → Stands file order last decls → Stands file (order ++ i ∷ []) last decls
stands_none file order last decls i e s =
    let same = known_none file order i e in
    record {
      table = s.table ∙ ap (λ (k : Listed). k.table) (sym same);
      all = s.all;
      items = λ k. s.items k ∙ ap (λ (l : Listed). l.declares k) (sym same);
      count = s.count;
      facts = s.facts;
      few = let l = length-append order (i ∷ []) in let f = s.few in omega (arith, l, f);
    }

-- one item more, of whose name this is asked
module _ (file : File) (order : List ℕ) (last : List TypeDef) (old new : Decls) (i : ℕ) (it : Item) (f : Facts) (s : Stands file order last old) (here : slice_get file.items i ≡ Some it) where
  abbrev stand : ℕ → ValType
  stand = stands_in old.items

  abbrev copies : Bool
  copies = derives_copy file it.derives

  same_stand : stand ≡ stands (known file order)
  same_stand = fun_ext (λ k. ap type_in (s.items k))

  abbrev before : Listed
  before = known file order

  abbrev behind : Listed
  behind = with_item file i (Some it) before

  table_is : new.table ≡ old.table ++ definitions file stand copies it.kind → new.table ≡ behind.table
  table_is e =
      e ∙ ap₂ (λ (t : List TypeDef) (g : ℕ → ValType). t ++ definitions file g copies it.kind) s.table same_stand

  declared_is : declaration file stand (length old.table) it.kind ≡ declaration file (stands before) (length before.table) it.kind
  declared_is = ap₂ (λ (g : ℕ → ValType) (t : List TypeDef). declaration file g (length t) it.kind) same_stand s.table

  item_is : (k : ℕ) (b : Bool) → nat_eq i k ≡ b → get_or (set old.items i (declaration file stand (length old.table) it.kind)) k d.Nothing ≡ cond b (declaration file (stands before) (length before.table) it.kind) (before.declares k)
  item_is k true e =
      let same : k ≡ i = grind (arith, nat_tests) in
      let within = get_within file.items i it here in
      let all = s.all in
      ap (λ (j : ℕ). get_or (set old.items i (declaration file stand (length old.table) it.kind)) j d.Nothing) same
      ∙ get_or-set_same old.items i (declaration file stand (length old.table) it.kind) d.Nothing (omega (arith, within, all)) ∙ declared_is
  item_is k false e =
      let other : k ≢ i = λ q. grind (arith, nat_tests) in
      get_or-set_other old.items i k (declaration file stand (length old.table) it.kind) d.Nothing other ∙ s.items k

  few_new : (k : ItemKind) → length (definitions file stand copies k) ≤ 1
  few_new item.Use = omega arith
  few_new (item.Const n t e) = omega arith
  few_new (item.Alias n t) = omega arith
  few_new (item.Struct n ts) = omega arith
  few_new (item.Enum n cs) = omega arith
  few_new (item.Fn n ps t b) = omega arith
  few_new (item.Array n i t) = omega arith
  few_new (item.Bytes n i) = omega arith
  few_new (item.NatMod n c i m) = omega arith

  named_new : (k : ItemKind) (new : TypeDef) (more : List TypeDef) (n : ℕ) → definitions file stand copies k ≡ new ∷ more → type_in (declaration file stand n k) ≡ roll-ValType (type.Named n)
  named_new item.Use new more n e = cc
  named_new (item.Const m t x) new more n e = cc
  named_new (item.Alias m t) new more n e = cc
  named_new (item.Struct m ts) new more n e = refl
  named_new (item.Enum m cs) new more n e = refl
  named_new (item.Fn m ps t b) new more n e = cc
  named_new (item.Array m i t) new more n e = refl
  named_new (item.Bytes m i) new more n e = refl
  named_new (item.NatMod m c i x) new more n e = cc

  facts_count : (ds : List TypeDef) → length ds ≤ 1 → length (facts_if ds f) ≡ length ds
  facts_count [] h = refl
  facts_count (one ∷ []) h = refl
  facts_count (one ∷ (two ∷ ds)) h = absurd (omega (arith, h))

  -- what is asked of the entries
  facts_at : (ds : List TypeDef) → ((one : TypeDef) (more : List TypeDef) → ds ≡ one ∷ more → f ≡ limited (facts_of (entry last (length old.table))))
      → (k : ℕ) → k < length (old.facts ++ facts_if ds f) → get_or (old.facts ++ facts_if ds f) k single ≡ limited (facts_of (entry last k))
  facts_at [] g k h =
      let e = append-nil old.facts in
      let l = ap (λ (xs : List Facts). length xs) e in
      ap (λ (xs : List Facts). get_or xs k single) e ∙ s.facts k (omega (arith, h, l))
  facts_at (one ∷ more) g k h = by (nat_eq k (length old.facts)) refl
    where
      by : (b : Bool) → nat_eq k (length old.facts) ≡ b → get_or (old.facts ++ f ∷ []) k single ≡ limited (facts_of (entry last k))
      by true e =
          let same : k ≡ length old.facts = grind (arith, nat_tests) in
          get_or_push old.facts f single k (sym same) ∙ g one more refl ∙ ap (λ (j : ℕ). limited (facts_of (entry last j))) (sym (same ∙ s.count))
      by false e =
          let l = length-append old.facts (f ∷ []) in
          let less : k < length old.facts = grind (arith, nat_tests) in
          get_or_append_left old.facts (f ∷ []) single k less ∙ s.facts k less

  pub stands_more : f ≡ limited (facts_of (expanded last (type_in ((known file (order ++ i ∷ [])).declares i))))
      → new.table ≡ old.table ++ definitions file stand copies it.kind → new.items ≡ set old.items i (declaration file stand (length old.table) it.kind)
      → new.facts ≡ old.facts ++ facts_if (definitions file stand copies it.kind) f → Stands file (order ++ i ∷ []) last new
  stands_more asked_is t is fs =
      let same = known_item file order i it here in
      let most = few_new it.kind in
      let itself : nat_eq i i ≡ true = grind (arith, nat_tests) in
      let declares : (known file (order ++ i ∷ [])).declares i ≡ declaration file stand (length old.table) it.kind =
      ap (λ (l : Listed). l.declares i) same ∙ ap (λ (b : Bool). cond b (declaration file (stands before) (length before.table) it.kind) (before.declares i)) itself ∙ sym declared_is in
      let asked : (one : TypeDef) (more : List TypeDef) → definitions file stand copies it.kind ≡ one ∷ more → f ≡ limited (facts_of (entry last (length old.table))) =
      λ one more e. asked_is ∙ ap (λ (one : Declaration). limited (facts_of (expanded last (type_in one)))) declares
      ∙ ap (λ (t : ValType). limited (facts_of (expanded last t))) (named_new it.kind one more (length old.table) e)
      ∙ ap (λ (w : Whole). limited (facts_of w)) (fold-roll-ValType Whole (expand_layer (entry last)) (type.Named (length old.table))) in
      let table_length = ap (λ (xs : List TypeDef). length xs) t ∙ length-append old.table (definitions file stand copies it.kind) in
      let facts_length = ap (λ (xs : List Facts). length xs) fs ∙ length-append old.facts (facts_if (definitions file stand copies it.kind) f) in
      let added = facts_count (definitions file stand copies it.kind) most in
      let was = s.count in
      let few = s.few in
      let order_length = length-append order (i ∷ []) in
      record {
        table = table_is t ∙ ap (λ (l : Listed). l.table) (sym same);
        all = ap (λ (xs : List Declaration). length xs) is ∙ length-set old.items i (declaration file stand (length old.table) it.kind) ∙ s.all;
        items = λ k. ap (λ (xs : List Declaration). get_or xs k d.Nothing) is ∙ item_is k (nat_eq i k) refl ∙ ap (λ (l : Listed). l.declares k) (sym same);
        count = omega (arith, table_length, facts_length, added, was);
        facts = λ k h. ap (λ (xs : List Facts). get_or xs k single) fs
            ∙ facts_at (definitions file stand copies it.kind) asked k (let l = ap (λ (xs : List Facts). length xs) fs in omega (arith, h, l));
        few = omega (arith, table_length, most, few, order_length);
      }

-- the length of an array is in bounds where those of all are
fits_at : (is : List Item) (k : ℕ) (it : Item) → AllFit is → slice_get is k ≡ Some it → LengthFits it.kind
fits_at [] k it f e = absurd cc
fits_at (i ∷ is) zero it f e = let same : i ≡ it = cc in subst (λ (j : Item). LengthFits j.kind) same f.0
fits_at (i ∷ is) (suc k) it f e = fits_at is k it f.1 e

-- one turn of the walk over an order
module _ (file : File) (order : List ℕ) (k : ℕ) (less : k < length order) where
  abbrev place : ℕ
  place = get_or order k 0

  abbrev front : List ℕ
  front = take k order

  abbrev last_table : List TypeDef
  last_table = (known file order).table

  next_is : take (k + 1) order ≡ front ++ place ∷ []
  next_is = take_more order k 0 less

  pub turn_none : (decls : Decls) → slice_get file.items place ≡ None → Stands file front last_table decls → Stands file (take (k + 1) order) last_table decls
  turn_none decls e s = subst (λ (o : List ℕ). Stands file o last_table decls) (sym next_is) (stands_none file front last_table decls place e s)

  -- what is asked of the name of an item is that of all, since it does not come again
  asked_now : (asked : List Facts) → AgreeWith file (known file order) asked → EachOnce order
      → at asked place ≡ limited (facts_of (expanded last_table (type_in ((known file (front ++ place ∷ [])).declares place))))
  asked_now asked agree once =
      agree place
      ∙ ap (λ (one : Declaration). limited (facts_of (expanded last_table (type_in one))))
      (ap (λ (o : List ℕ). (known file o).declares place) (sym (take-append-drop (k + 1) order))
      ∙ declares_stays file (drop (k + 1) order) (take (k + 1) order) place (once_drop order k place once less refl)
      ∙ ap (λ (o : List ℕ). (known file o).declares place) next_is)

  pub turn_some : (asked : List Facts) → AgreeWith file (known file order) asked → EachOnce order → (old new : Decls) (it : Item) (f : Facts)
      → Stands file front last_table old → slice_get file.items place ≡ Some it → f ≡ at asked place
      → new.table ≡ old.table ++ definitions file (stands_in old.items) (derives_copy file it.derives) it.kind
      → new.items ≡ set old.items place (declaration file (stands_in old.items) (length old.table) it.kind)
      → new.facts ≡ old.facts ++ facts_if (definitions file (stands_in old.items) (derives_copy file it.derives) it.kind) f
      → Stands file (take (k + 1) order) last_table new
  turn_some asked agree once old new it f s here is t i fs =
      subst (λ (o : List ℕ). Stands file o last_table new) (sym next_is)
      (stands_more file front last_table old new place it f s here (is ∙ asked_now asked agree once) t i fs)

  pub turn_place : (old : Decls) (it : Item) → Stands file front last_table old → slice_get file.items place ≡ Some it → place < length old.items
  turn_place old it s here = let within = get_within file.items place it here in let all = s.all in omega (arith, within, all)

  pub turn_fits : (it : Item) → AllFit file.items → slice_get file.items place ≡ Some it → LengthFits it.kind
  turn_fits it f here = fits_at file.items place it f here

  pub turn_few : (old : Decls) → Stands file front last_table old → length order ≤ 4294967295 → length old.table ≤ 4294967295
  turn_few old s most = let few = s.few in let l = length-take-le k order (omega (arith, less)) in omega (arith, few, l, less, most)
