-- A search among rising names.
use Rattle.std.proofs.Common.{◌≡◌, ℕ, zero, suc, ◌+◌, ◌<◌, ◌≤◌, Bool, true, false, ◌&&◌, List, [], ◌∷◌, length, map, get_or, Some, slice_get, refl, sym, ap, ◌∙◌, subst, inl, inr, arith, add-one}
use Rattle.std.specs.Cmp.Lexicographic.{slice_cmp}
use Rattle.std.specs.FinMap.{slice_cmp-IsAntisymmetric, nat_cmp-IsAntisymmetric}
use Rattle.std.specs.List.{HoldsAt, AllWithin}
use Rattle.std.specs.List.Sorted.{IsNonDecreasingBy, IsSortedBy}
use Rattle.std.specs.Ordering.{nat_cmp, ordering_index, is_lt, ordering_reverse}
use Rattle.std.specs.declared.cmp.Ordering.{Ordering}
use Rattle.std.specs.declared.cmp.Ordering.TheVariants.{Less, Equal, Greater}
use Rattle.std.proofs.lemmas.Bool.{cases_lt}
use Rattle.std.proofs.lemmas.Cmp.{nat_list_cmp_total, tied_itself}
use Rattle.std.proofs.lemmas.List.Elements.{at_read}
use Rattle.std.proofs.lemmas.List.Sorted.{searchable_from_sorted}
use Rattle.hs_ops.specs.Table.{rising, Distinct}

abbrev order : List ℕ → List ℕ → Ordering
order = slice_cmp nat_cmp

lt_less : (o : Ordering) → is_lt o ≡ true → o ≡ Less
lt_less Less e = refl
lt_less Equal e = cc e
lt_less Greater e = cc e

index_less : (o : Ordering) → ordering_index o ≤ 0 → o ≡ Less
index_less Less h = refl
index_less Equal h = absurd (omega arith)
index_less Greater h = absurd (omega arith)

index_greater : (o : Ordering) → 2 ≤ ordering_index o → o ≡ Greater
index_greater Less h = absurd (omega arith)
index_greater Equal h = absurd (omega arith)
index_greater Greater h = refl

both : (a b : Bool) → a && b ≡ true → (a ≡ true) × (b ≡ true)
both true true e = (refl, refl)
both true false e = cc e
both false b e = cc e

-- no name is below itself
not_below : (x y : List ℕ) → x ≡ y → order x y ≡ Less → ⊥
not_below x y e h =
    let same : order y y ≡ Equal = tied_itself nat_list_cmp_total y in
    let less : order y y ≡ Less = subst (λ (z : List ℕ). order z y ≡ Less) e h in cc (same, less)

rising_tail : (x : List ℕ) (xs : List (List ℕ)) → rising (x ∷ xs) ≡ true → rising xs ≡ true
rising_tail x [] e = refl
rising_tail x (y ∷ ys) e = (both (is_lt (order x y)) (rising (y ∷ ys)) e).1

first_below : (x : List ℕ) (xs : List (List ℕ)) → rising (x ∷ xs) ≡ true → (j : ℕ) (y : List ℕ) → slice_get xs j ≡ Some y → order x y ≡ Less
first_below x [] e j y h = cc h
first_below x (z ∷ zs) e zero y h =
    let less : order x z ≡ Less = lt_less (order x z) (both (is_lt (order x z)) (rising (z ∷ zs)) e).0 in
    let same : z ≡ y = cc h in subst (λ (w : List ℕ). order x w ≡ Less) same less
first_below x (z ∷ zs) e (suc j) y h =
    let less : order x z ≡ Less = lt_less (order x z) (both (is_lt (order x z)) (rising (z ∷ zs)) e).0 in
    nat_list_cmp_total.trans x z y less (first_below z zs (both (is_lt (order x z)) (rising (z ∷ zs)) e).1 j y h)

-- rising names are distinct
pub rising-Distinct : (xs : List (List ℕ)) → rising xs ≡ true → Distinct xs
rising-Distinct [] e i j x h k = cc h
rising-Distinct (y ∷ ys) e zero zero x h k = refl
rising-Distinct (y ∷ ys) e zero (suc j) x h k = let same : y ≡ x = cc h in absurd (not_below y x same (first_below y ys e j x k))
rising-Distinct (y ∷ ys) e (suc i) zero x h k = let same : y ≡ x = cc k in absurd (not_below y x same (first_below y ys e i x h))
rising-Distinct (y ∷ ys) e (suc i) (suc j) x h k = ap suc (rising-Distinct ys (rising_tail y ys e) i j x h k)

module _ {X : Type 0} (key : X → List ℕ) where
  sorted_next : (xs : List X) → rising (map key xs) ≡ true → (k : ℕ) (d : X) → suc k < length xs → is_lt (order (key (get_or xs (suc k) d)) (key (get_or xs k d))) ≡ false
  sorted_next [] e k d h = absurd (omega arith)
  sorted_next (x ∷ []) e k d h = absurd (omega arith)
  sorted_next (x ∷ y ∷ ys) e zero d h =
      let less : order (key x) (key y) ≡ Less = lt_less (order (key x) (key y)) (both (is_lt (order (key x) (key y))) (rising (map key (y ∷ ys))) e).0 in
      ap is_lt (nat_list_cmp_total.antisymm (key y) (key x)) ∙ ap (λ o. is_lt (ordering_reverse o)) less
  sorted_next (x ∷ y ∷ ys) e (suc k) d h = sorted_next (y ∷ ys) (both (is_lt (order (key x) (key y))) (rising (map key (y ∷ ys))) e).1 k d (omega arith)

  sorted : (xs : List X) → rising (map key xs) ≡ true → IsSortedBy (λ a b. is_lt (order (key a) (key b))) xs
  sorted xs e k d low h = rw add-one (sorted_next xs e k d (omega arith))

  -- the comparisons with a name do not fall along rising names
  searchable : (xs : List X) (name : List ℕ) → rising (map key xs) ≡ true → IsNonDecreasingBy (λ y. ordering_index (order (key y) name)) xs
  searchable xs name e = searchable_from_sorted nat_list_cmp_total key xs name (sorted xs e)

  found_there : (xs : List X) (name : List ℕ) (i : ℕ) → i < length xs → HoldsAt (λ y. order (key y) name ≡ Equal) xs i → slice_get (map key xs) i ≡ Some name
  found_there [] name i h at = absurd (omega arith)
  found_there (x ∷ xs) name zero h at = ap Some (slice_cmp-IsAntisymmetric nat_cmp-IsAntisymmetric (key x) name (at x))
  found_there (x ∷ xs) name (suc i) h at = found_there xs name i (omega arith) (λ d. at d)

  with_key : (xs : List X) (name : List ℕ) (k : ℕ) → slice_get (map key xs) k ≡ Some name → (x : X) × (k < length xs) × (get_or xs k x ≡ x) × (key x ≡ name)
  with_key [] name k h = cc h
  with_key (x ∷ xs) name zero h = (x, omega arith, refl, cc h)
  with_key (x ∷ xs) name (suc k) h = let r = with_key xs name k h in (r.0, omega (arith, r.1), r.2, r.3)

  -- what a search still looks through: from low up to high; the names before are below the name, and those behind above it
  pub record Narrowed (xs : List X) (name : List ℕ) (low high : ℕ) : Type 0 where
    pub ordered : low ≤ high
    pub within : high ≤ length xs
    pub below : AllWithin (λ y. order (key y) name ≡ Less) xs 0 low
    pub above : AllWithin (λ y. order (key y) name ≡ Greater) xs high (length xs)

  pub narrowed_first : (xs : List X) (name : List ℕ) (n : ℕ) → n ≡ length xs → Narrowed xs name 0 n
  narrowed_first xs name n e = record { ordered = omega arith; within = omega arith; below = λ k d low high. absurd (omega arith); above = λ k d low high. absurd (omega arith) }

  pub narrowed_up : (xs : List X) (name : List ℕ) (low high m : ℕ) (x : X) → rising (map key xs) ≡ true → Narrowed xs name low high → low ≤ m → m < high → x ≡ get_or xs m x → order (key x) name ≡ Less → Narrowed xs name (m + 1) high
  narrowed_up xs name low high m x e n l h at less = record {
    ordered = omega arith;
    within = n.within;
    below = λ k d _ under. index_less _ (
        let here : order (key (get_or xs m d)) name ≡ Less = at_read xs (λ y. order (key y) name ≡ Less) m x (omega (arith, n.within)) at less d in
        let falls = searchable xs name e k m d (omega arith) (omega (arith, n.within)) in
        omega (arith, falls, ap ordering_index here));
    above = n.above;
  }

  pub narrowed_down : (xs : List X) (name : List ℕ) (low high m : ℕ) (x : X) → rising (map key xs) ≡ true → Narrowed xs name low high → low ≤ m → m < high → x ≡ get_or xs m x → order (key x) name ≡ Greater → Narrowed xs name low m
  narrowed_down xs name low high m x e n l h at greater = record {
    ordered = l;
    within = omega (arith, n.within);
    below = n.below;
    above = λ k d over under. index_greater _ (
        let here : order (key (get_or xs m d)) name ≡ Greater = at_read xs (λ y. order (key y) name ≡ Greater) m x (omega (arith, n.within)) at greater d in
        let falls = searchable xs name e m k d over under in
        omega (arith, falls, ap ordering_index here));
  }

  -- a search ends where the name is
  pub narrowed_found : (xs : List X) (name : List ℕ) (m : ℕ) (x : X) → m < length xs → x ≡ get_or xs m x → order (key x) name ≡ Equal → slice_get (map key xs) m ≡ Some name
  narrowed_found xs name m x h at equal = found_there xs name m h (at_read xs (λ y. order (key y) name ≡ Equal) m x h at equal)

  -- or with nothing left, where it is nowhere
  pub narrowed_absent : (xs : List X) (name : List ℕ) (low high : ℕ) → Narrowed xs name low high → high ≤ low → (k : ℕ) → slice_get (map key xs) k ≡ Some name → ⊥
  narrowed_absent xs name low high n done k h =
      let x = with_key xs name k h in
      elim (cases_lt k low) [
        | inl below ↦ not_below (key x.0) name x.3 (subst (λ (y : X). order (key y) name ≡ Less) x.2 (n.below k x.0 (omega arith) below))
        | inr above ↦
            let greater : order (key x.0) name ≡ Greater = subst (λ (y : X). order (key y) name ≡ Greater) x.2 (n.above k x.0 (omega arith) x.1) in
            let equal : order (key x.0) name ≡ Equal = subst (λ (n : List ℕ). order n name ≡ Equal) (sym x.3) (tied_itself nat_list_cmp_total name) in
            cc (greater, equal)
      ]
