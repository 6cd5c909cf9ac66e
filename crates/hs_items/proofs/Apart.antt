-- No two items of a file that keeps the rules on names have one name, and no two constructors of an enum.
use Rattle.std.proofs.Common.{ℕ, zero, suc, ◌≡◌, ◌≢◌, ◌<◌, ◌≤◌, ◌⊎◌, inl, inr, refl, sym, ◌∙◌, ap, subst, Bool, true, false, cond, ◌||◌, nat_eq, List, [], ◌∷◌, ◌++◌, map, length, slice_get, slice_index_or, append_assoc, append-nil, Option, Some, None, arith}
use Rattle.std.specs.Prelude.{bytes_eq, is_some}
use Rattle.std.specs.List.{AllByRecursion, IsDistinct, filter_map, cons_option, position_or_len}
use Rattle.std.proofs.lemmas.Bool.Decides.{nat_tests}
use Rattle.std.proofs.lemmas.Bool.{cases_lt}
use Rattle.std.proofs.lemmas.List.Elements.{recursion_from_All}
use Rattle.std.proofs.lemmas.List.Sums.{fails_before_first}
use Rattle.std.proofs.lemmas.Slice.Eq.{bytes_eq-Decides}
use Rattle.hs_base.specs.declared.rule.Rule.{Rule}
use Rattle.hs_base.specs.declared.rule.Rule.TheVariants.{N5, N6}
use Rattle.hs_syntax.specs.declared.span.Span.{Span}
use Rattle.hs_syntax.specs.declared.file.File.{File}
use Rattle.hs_syntax.specs.declared.item.Item.{Item}
use Rattle.hs_syntax.specs.declared.item.Ctor.{Ctor}
use Rattle.hs_syntax.specs.declared.item.ItemKind.{ItemKind}
use Rattle.hs_syntax.specs.declared.item.ItemKind.TheVariants as item
use Rattle.hs_syntax.specs.Texts.{bytes_at}
use Rattle.hs_order.specs.Order.{has}
use Rattle.hs_symbols.specs.Words.{built_in}
use Rattle.hs_symbols.specs.Symbols.{is_constant_name}
use Rattle.hs_resolver.specs.declared.known.Known.{Known}
use Rattle.hs_resolver.specs.Rules.{among, taken, repeated}
use Rattle.hs_resolver.specs.Parts as parts
use Rattle.hs_resolver.specs.Names.{fresh, is_function, names_of_tys, item_name, ctors_behind, kind_part, names_by, items_behind, rows}
use Rattle.hs_resolver.specs.Order.{broken}
use Rattle.hs_items.specs.Walk.{EachOnce}
use Rattle.hs_items.proofs.Clear.{Clear, clear_first, clear_second, clear_inside, clear_own}

-- ---- lists of names

abbrev pub Differ : List ℕ → List (List ℕ) → Type 0
Differ x ys = AllByRecursion (λ y. bytes_eq x y ≡ false) ys

pub flipped : (x y : List ℕ) → bytes_eq x y ≡ false → bytes_eq y x ≡ false
flipped x y h = by (bytes_eq y x) refl
  where
    by : (b : Bool) → bytes_eq y x ≡ b → b ≡ false
    by true e =
        let clash : true ≡ false = sym ((bytes_eq-Decides x y).1 (sym ((bytes_eq-Decides y x).0 e))) ∙ h in
        absurd cc
    by false e = refl

-- what is not among names differs from each
pub each_differs : (w : List ℕ) (ns : List (List ℕ)) → among w ns ≡ false → Differ w ns
each_differs w ns h = recursion_from_All (λ n. bytes_eq w n ≡ false) ns differs
  where
    behind : length ns ≤ position_or_len (bytes_eq w) ns
    behind = grind (arith, nat_tests, h)

    differs : (k : ℕ) (d : List ℕ) → k < length ns → bytes_eq w (slice_index_or ns k d) ≡ false
    differs k d l = fails_before_first (bytes_eq w) ns k d (omega (arith, l, behind))

all_push : {A : Type 0} (P : A → Type 0) (xs : List A) (y : A) → AllByRecursion P xs → P y → AllByRecursion P (xs ++ y ∷ [])
all_push P [] y a p = (p, tt)
all_push P (x ∷ xs) y a p = (a.0, all_push P xs y a.1 p)

all_append : {A : Type 0} (P : A → Type 0) (xs ys : List A) → AllByRecursion P xs → AllByRecursion P ys → AllByRecursion P (xs ++ ys)
all_append P [] ys a b = b
all_append P (x ∷ xs) ys a b = (a.0, all_append P xs ys a.1 b)

all_behind : {A : Type 0} (P : A → Type 0) (xs ys : List A) → AllByRecursion P (xs ++ ys) → AllByRecursion P ys
all_behind P [] ys a = a
all_behind P (x ∷ xs) ys a = all_behind P xs ys a.1

distinct_push : (xs : List (List ℕ)) (y : List ℕ) → IsDistinct bytes_eq xs → Differ y xs → IsDistinct bytes_eq (xs ++ y ∷ [])
unfolding IsDistinct
distinct_push [] y d a = (tt, tt)
distinct_push (x ∷ xs) y d a = (all_push (λ y. bytes_eq x y ≡ false) xs y d.0 (flipped y x a.0), distinct_push xs y d.1 a.1)

distinct_behind : (xs ys : List (List ℕ)) → IsDistinct bytes_eq (xs ++ ys) → IsDistinct bytes_eq ys
unfolding IsDistinct
distinct_behind [] ys d = d
distinct_behind (x ∷ xs) ys d = distinct_behind xs ys d.1

distinct_head : (x : List ℕ) (xs : List (List ℕ)) → IsDistinct bytes_eq (x ∷ xs) → Differ x xs
unfolding IsDistinct
distinct_head x xs d = d.0

pub distinct_append : (xs ys : List (List ℕ)) → IsDistinct bytes_eq xs → IsDistinct bytes_eq ys → AllByRecursion (λ x. Differ x ys) xs → IsDistinct bytes_eq (xs ++ ys)
unfolding IsDistinct
distinct_append [] ys d e a = e
distinct_append (x ∷ xs) ys d e a = (all_append (λ y. bytes_eq x y ≡ false) xs ys d.0 a.0, distinct_append xs ys d.1 e a.1)

pub distinct_cons : (x : List ℕ) (xs : List (List ℕ)) → Differ x xs → IsDistinct bytes_eq xs → IsDistinct bytes_eq (x ∷ xs)
unfolding IsDistinct
distinct_cons x xs a d = (a, d)

pub none_distinct : IsDistinct bytes_eq []
unfolding IsDistinct
none_distinct = tt

-- ---- what breaks no rule on names

not_broken : (b : Bool) (r : Rule) → parts.when b r ≡ [] → b ≡ false
not_broken true r e = absurd cc
not_broken false r e = refl

or_first : (a b : Bool) → (a || b) ≡ false → a ≡ false
or_first true b h = cc
or_first false b h = refl

module _ (file : File) where
  -- constructors
  abbrev pub titles : List Ctor → List (List ℕ)
  titles cs = map (λ (c : Ctor). bytes_at file.text c.name) cs

  pub ctors_apart : (cs : List Ctor) (before : List (List ℕ)) (at : Known) → Clear (ctors_behind file cs before at).nodes → IsDistinct bytes_eq before → IsDistinct bytes_eq (before ++ titles cs)
  ctors_apart [] before at c d = subst (IsDistinct bytes_eq) (sym (append-nil before)) d
  ctors_apart (x ∷ xs) before at c d =
      let w = bytes_at file.text x.name in
      let free : among w before ≡ false = or_first (among w before) (is_constant_name file.text file.items w) (not_broken (repeated file w before) N6 (clear_own (clear_first c))) in
      subst (IsDistinct bytes_eq) (append_assoc before (w ∷ []) (titles xs))
      (ctors_apart xs (before ++ w ∷ []) (names_of_tys file x.parts at).behind (clear_second (clear_second c)) (distinct_push before w d (each_differs w before free)))

  -- the name of an item
  named_apart : (n : Span) (before : List (List ℕ)) (at : Known) → Clear (item_name file n before at).nodes → IsDistinct bytes_eq before → IsDistinct bytes_eq (before ++ bytes_at file.text n ∷ [])
  named_apart n before at c d =
      let w = bytes_at file.text n in
      distinct_push before w d (each_differs w before (or_first (among w before) (is_some (built_in w)) (not_broken (taken file w before) N5 (clear_own c))))

  kind_apart : (k : ItemKind) (before : List (List ℕ)) (at : Known) → Clear (kind_part file k before at).nodes → IsDistinct bytes_eq before → IsDistinct bytes_eq (before ++ names_by file k)
  kind_apart item.Use before at c d = subst (IsDistinct bytes_eq) (sym (append-nil before)) d
  kind_apart (item.Const n t e) before at c d = named_apart n before at (clear_first c) d
  kind_apart (item.Alias n t) before at c d = named_apart n before at (clear_first c) d
  kind_apart (item.Struct n ts) before at c d = named_apart n before at (clear_first c) d
  kind_apart (item.Enum n cs) before at c d = named_apart n before at (clear_first c) d
  kind_apart (item.Fn n ps t b) before at c d = named_apart n before at (clear_first c) d
  kind_apart (item.Array n i t) before at c d = named_apart n before at (clear_first c) d
  kind_apart (item.Bytes n i) before at c d = named_apart n before at c d
  kind_apart (item.NatMod n v i m) before at c d =
      subst (IsDistinct bytes_eq) (append_assoc before (bytes_at file.text n ∷ []) (bytes_at file.text v ∷ []))
      (named_apart v (before ++ bytes_at file.text n ∷ []) at (clear_second c) (named_apart n before at (clear_first c) d))

  -- the names of items, in the order of the text
  abbrev pub all_names : List Item → List (List ℕ)
  all_names [] = []
  all_names (i ∷ is) = names_by file i.kind ++ all_names is

  items_apart : (is : List Item) (functions : ℕ) (before : List (List ℕ)) → Clear (rows file (items_behind file is functions before)) → IsDistinct bytes_eq before → IsDistinct bytes_eq (before ++ all_names is)
  items_apart [] functions before c d = subst (IsDistinct bytes_eq) (sym (append-nil before)) d
  items_apart (i ∷ is) functions before c d =
      subst (IsDistinct bytes_eq) (append_assoc before (names_by file i.kind) (all_names is))
      (items_apart is (cond (is_function i.kind) (suc functions) functions) (before ++ names_by file i.kind) (clear_second c) (kind_apart i.kind before fresh (clear_inside (clear_first c)) d))

  -- the nodes of an item
  item_at : (is : List Item) (functions : ℕ) (before : List (List ℕ)) (k : ℕ) (i : Item) → Clear (rows file (items_behind file is functions before)) → slice_get is k ≡ Some i
      → (bs : List (List ℕ)) × Clear (kind_part file i.kind bs fresh).nodes
  item_at [] functions before k i c e = absurd cc
  item_at (j ∷ is) functions before zero i c e = let same : j ≡ i = cc in (before, subst (λ (j : Item). Clear (kind_part file j.kind before fresh).nodes) same (clear_inside (clear_first c)))
  item_at (j ∷ is) functions before (suc k) i c e = item_at is (cond (is_function j.kind) (suc functions) functions) (before ++ names_by file j.kind) k i (clear_second c) e

  -- the first name of an item
  abbrev pub first_name : List (List ℕ) → Option (List ℕ)
  first_name [] = None
  first_name (n ∷ ns) = Some n

  abbrev pub own_name : Option Item → Option (List ℕ)
  own_name None = None
  own_name (Some i) = first_name (names_by file i.kind)

  all_own : (P : List ℕ → Type 0) (is : List Item) (k : ℕ) (a : List ℕ) → AllByRecursion P (all_names is) → own_name (slice_get is k) ≡ Some a → P a
  all_own P [] k a h e = absurd cc
  all_own P (i ∷ is) zero a h e = by (names_by file i.kind) h e
    where
      by : (ns : List (List ℕ)) → AllByRecursion P (ns ++ all_names is) → first_name ns ≡ Some a → P a
      by [] h e = absurd cc
      by (n ∷ ns) h e = let same : n ≡ a = cc in subst P same h.0
  all_own P (i ∷ is) (suc k) a h e = all_own P is k a (all_behind P (names_by file i.kind) (all_names is) h) e

  less_apart : (is : List Item) → IsDistinct bytes_eq (all_names is) → (j k : ℕ) (a b : List ℕ) → j < k → own_name (slice_get is j) ≡ Some a → own_name (slice_get is k) ≡ Some b → bytes_eq a b ≡ false
  less_apart [] d j k a b l e f = absurd cc
  less_apart (i ∷ is) d j zero a b l e f = absurd (omega (arith, l))
  less_apart (i ∷ is) d zero (suc k) a b l e f = by (names_by file i.kind) d e
    where
      by : (ns : List (List ℕ)) → IsDistinct bytes_eq (ns ++ all_names is) → first_name ns ≡ Some a → bytes_eq a b ≡ false
      by [] d e = absurd cc
      by (n ∷ ns) d e =
          let same : n ≡ a = cc in
          let differs = all_behind (λ y. bytes_eq n y ≡ false) ns (all_names is) (distinct_head n (ns ++ all_names is) d) in
          ap (λ n. bytes_eq n b) (sym same) ∙ all_own (λ y. bytes_eq n y ≡ false) is k b differs f
  less_apart (i ∷ is) d (suc j) (suc k) a b l e f = less_apart is (distinct_behind (names_by file i.kind) (all_names is) d) j k a b (omega (arith, l)) e f

  module _ (unbroken : broken file ≡ []) where
    rows_clear : Clear (rows file (items_behind file file.items 0 []))
    rows_clear = record { depth = 0; keeps = unbroken }

    pub item_clear : (k : ℕ) (i : Item) → slice_get file.items k ≡ Some i → (bs : List (List ℕ)) × Clear (kind_part file i.kind bs fresh).nodes
    item_clear k i e = item_at file.items 0 [] k i rows_clear e

    pub own_apart : (j k : ℕ) (a b : List ℕ) → j ≢ k → own_name (slice_get file.items j) ≡ Some a → own_name (slice_get file.items k) ≡ Some b → bytes_eq a b ≡ false
    own_apart j k a b h e f = by (cases_lt j k)
      where
        distinct : IsDistinct bytes_eq (all_names file.items)
        distinct = items_apart file.items 0 [] rows_clear none_distinct

        by : (j < k) ⊎ (k ≤ j) → bytes_eq a b ≡ false
        by (inl l) = less_apart file.items distinct j k a b l e f
        by (inr l) = flipped b a (less_apart file.items distinct k j b a (grind (arith, l, h)) f e)

    -- ---- selections

    -- each is the name of the item of this number
    abbrev pub Selects : (ℕ → Option (List ℕ)) → Type 0
    Selects f = (k : ℕ) (a : List ℕ) → f k ≡ Some a → own_name (slice_get file.items k) ≡ Some a

    -- no item has a name in both
    abbrev pub Disjoint : (ℕ → Option (List ℕ)) → (ℕ → Option (List ℕ)) → Type 0
    Disjoint f g = (k : ℕ) (a b : List ℕ) → f k ≡ Some a → g k ≡ Some b → ⊥

    -- where an item is not among others, or the others select no name of it
    differs_from : (g : ℕ → Option (List ℕ)) → Selects g → (j : ℕ) (a : List ℕ) → own_name (slice_get file.items j) ≡ Some a
        → (ks : List ℕ) → ((k : ℕ) (b : List ℕ) → has ks k ≡ true → g k ≡ Some b → j ≢ k) → Differ a (filter_map g ks)
    differs_from g s j a own [] apart = tt
    differs_from g s j a own (k ∷ ks) apart = by (g k) refl (differs_from g s j a own ks (λ i b h. apart i b (or_right (nat_eq i k) (has ks i) h)))
      where
        or_right : (b c : Bool) → c ≡ true → (b || c) ≡ true
        or_right true c h = refl
        or_right false c h = h

        here : has (k ∷ ks) k ≡ true
        here = let e : nat_eq k k ≡ true = grind (arith, nat_tests) in ap (λ b. b || has ks k) e

        by : (o : Option (List ℕ)) → g k ≡ o → Differ a (filter_map g ks) → Differ a (filter_map g (k ∷ ks))
        by None e rest = subst (λ (o : Option (List ℕ)). Differ a (cons_option o (filter_map g ks))) (sym e) rest
        by (Some b) e rest = subst (λ (o : Option (List ℕ)). Differ a (cons_option o (filter_map g ks))) (sym e) (own_apart j k a b (apart k b here e) own (s k b e), rest)

    other_item : (ks : List ℕ) (j k : ℕ) → has ks j ≡ false → has ks k ≡ true → j ≢ k
    other_item ks j k f h same = let clash : true ≡ false = sym h ∙ ap (has ks) (sym same) ∙ f in cc

    -- what is selected once of each item is apart
    selected_apart : (f : ℕ → Option (List ℕ)) → Selects f → (ks : List ℕ) → EachOnce ks → IsDistinct bytes_eq (filter_map f ks)
    selected_apart f s [] o = none_distinct
    selected_apart f s (k ∷ ks) o = by (f k) refl (selected_apart f s ks o.1)
      where
        by : (n : Option (List ℕ)) → f k ≡ n → IsDistinct bytes_eq (filter_map f ks) → IsDistinct bytes_eq (filter_map f (k ∷ ks))
        by None e rest = subst (λ (n : Option (List ℕ)). IsDistinct bytes_eq (cons_option n (filter_map f ks))) (sym e) rest
        by (Some a) e rest =
            subst (λ (n : Option (List ℕ)). IsDistinct bytes_eq (cons_option n (filter_map f ks))) (sym e)
            (distinct_cons a (filter_map f ks) (differs_from f s k a (s k a e) ks (λ i b h g. other_item ks k i o.0 h)) rest)

    -- and from what is selected of others, or of the same ones where that is disjoint
    both_apart : (f g : ℕ → Option (List ℕ)) → Selects f → Selects g → Disjoint f g → (ks js : List ℕ) → AllByRecursion (λ x. Differ x (filter_map g js)) (filter_map f ks)
    both_apart f g s t apart [] js = tt
    both_apart f g s t apart (k ∷ ks) js = by (f k) refl (both_apart f g s t apart ks js)
      where
        others : (a : List ℕ) → f k ≡ Some a → (i : ℕ) (b : List ℕ) → has js i ≡ true → g i ≡ Some b → k ≢ i
        others a e i b h e' same = apart i a b (ap f (sym same) ∙ e) e'

        by : (n : Option (List ℕ)) → f k ≡ n → AllByRecursion (λ x. Differ x (filter_map g js)) (filter_map f ks) → AllByRecursion (λ x. Differ x (filter_map g js)) (filter_map f (k ∷ ks))
        by None e rest = subst (λ (n : Option (List ℕ)). AllByRecursion (λ x. Differ x (filter_map g js)) (cons_option n (filter_map f ks))) (sym e) rest
        by (Some a) e rest =
            subst (λ (n : Option (List ℕ)). AllByRecursion (λ x. Differ x (filter_map g js)) (cons_option n (filter_map f ks))) (sym e)
            (differs_from g t k a (s k a e) js (others a e), rest)

    both_append : (f g h : ℕ → Option (List ℕ)) → Selects f → Selects g → Selects h → Disjoint f g → Disjoint f h → (ks : List ℕ) → AllByRecursion (λ x. Differ x (filter_map g ks ++ filter_map h ks)) (filter_map f ks)
    both_append f g h s t u p q ks = join_all (filter_map f ks) (both_apart f g s t p ks ks) (both_apart f h s u q ks ks)
      where
        join_all : (xs : List (List ℕ)) → AllByRecursion (λ x. Differ x (filter_map g ks)) xs → AllByRecursion (λ x. Differ x (filter_map h ks)) xs → AllByRecursion (λ x. Differ x (filter_map g ks ++ filter_map h ks)) xs
        join_all [] a b = tt
        join_all (x ∷ xs) a b = (all_append (λ y. bytes_eq x y ≡ false) (filter_map g ks) (filter_map h ks) a.0 b.0, join_all xs a.1 b.1)

    pub three_apart : (f g h : ℕ → Option (List ℕ)) → Selects f → Selects g → Selects h → Disjoint f g → Disjoint f h → Disjoint g h → (ks : List ℕ) → EachOnce ks
        → IsDistinct bytes_eq (filter_map f ks ++ filter_map g ks ++ filter_map h ks)
    three_apart f g h s t u p q r ks o =
        subst (IsDistinct bytes_eq) (sym (append_assoc (filter_map f ks) (filter_map g ks) (filter_map h ks)))
        (distinct_append (filter_map f ks) (filter_map g ks ++ filter_map h ks) (selected_apart f s ks o)
        (distinct_append (filter_map g ks) (filter_map h ks) (selected_apart g t ks o) (selected_apart h u ks o) (both_apart g h t u r ks ks))
        (both_append f g h s t u p q ks))
