-- Sets of kinds.
use Rattle.std.proofs.Common.{◌≡◌, Bool, true, false, not, cond, List, [], ◌∷◌, ◌++◌, inl, inr, refl, subst}
use Rattle.std.proofs.lemmas.Bool.{both_ways, and_parts, or_cases, or_left, or_right, not-true}
use Rattle.hs_grammar.specs.Form.{Lexis}
use Rattle.hs_grammar.specs.Kinds.{Decides, has, disjoint, within, without}

-- what is in neither of two ways
pub not_true : (b : Bool) → (b ≡ true → ⊥) → b ≡ false
not_true true f = absurd (f refl)
not_true false f = refl

-- one kind for another
pub has_along : (L : Lexis) (xs : List L.kind) (j k : L.kind) → j ≡ k → has L xs j ≡ true → has L xs k ≡ true
has_along L xs j k e h = subst (λ i. has L xs i ≡ true) e h

module _ (L : Lexis) (K : Decides L) where
  -- what is in a set is in none that is disjoint from it
  pub has-disjoint : (xs ys : List L.kind) (k : L.kind) → disjoint L xs ys ≡ true → has L xs k ≡ true → has L ys k ≡ false
  has-disjoint [] ys k d h = absurd (both_ways false refl h)
  has-disjoint (x ∷ xs) ys k d h =
      let parts = and_parts (not (has L ys x)) (disjoint L xs ys) d in
      elim (or_cases (L.same x k) (has L xs k) h) [
        | inl e ↦ subst (λ i. has L ys i ≡ false) (K.one x k e) (not-true (has L ys x) parts.0)
        | inr m ↦ has-disjoint xs ys k parts.1 m
      ]

  -- what is in the first part is in the whole
  pub has-append-left : (xs ys : List L.kind) (k : L.kind) → has L xs k ≡ true → has L (xs ++ ys) k ≡ true
  has-append-left [] ys k h = absurd (both_ways false refl h)
  has-append-left (x ∷ xs) ys k h = elim (or_cases (L.same x k) (has L xs k) h) [
    | inl e ↦ or_left (L.same x k) (has L (xs ++ ys) k) e
    | inr m ↦ or_right (L.same x k) (has L (xs ++ ys) k) (has-append-left xs ys k m)
  ]

  -- what is in the second part is in the whole
  pub has-append-right : (xs ys : List L.kind) (k : L.kind) → has L ys k ≡ true → has L (xs ++ ys) k ≡ true
  has-append-right [] ys k h = h
  has-append-right (x ∷ xs) ys k h = or_right (L.same x k) (has L (xs ++ ys) k) (has-append-right xs ys k h)

  -- what is in a set is in each that holds it
  pub has-within : (xs ys : List L.kind) (k : L.kind) → within L xs ys ≡ true → has L xs k ≡ true → has L ys k ≡ true
  has-within [] ys k d h = absurd (both_ways false refl h)
  has-within (x ∷ xs) ys k d h =
      let parts = and_parts (has L ys x) (within L xs ys) d in
      elim (or_cases (L.same x k) (has L xs k) h) [ inl e ↦ has_along L ys x k (K.one x k e) parts.0 | inr m ↦ has-within xs ys k parts.1 m ]

  -- what is not taken away stays
  pub has-without : (ks xs : List L.kind) (k : L.kind) → has L ks k ≡ false → has L xs k ≡ true → has L (without L ks xs) k ≡ true
  has-without ks [] k d h = absurd (both_ways false refl h)
  has-without ks (x ∷ xs) k d h = go (has L ks x) refl (has-without ks xs k d)
    where
      go : (b : Bool) → has L ks x ≡ b → (has L xs k ≡ true → has L (without L ks xs) k ≡ true) → has L (cond b (without L ks xs) (x ∷ without L ks xs)) k ≡ true
      go true e ih = elim (or_cases (L.same x k) (has L xs k) h) [
        | inl i ↦ absurd (both_ways (has L ks k) d (has_along L ks x k (K.one x k i) e))
        | inr m ↦ ih m
      ]
      go false e ih = elim (or_cases (L.same x k) (has L xs k) h) [
        | inl i ↦ or_left (L.same x k) (has L (without L ks xs) k) i
        | inr m ↦ or_right (L.same x k) (has L (without L ks xs) k) (ih m)
      ]

  -- what is not in the whole is not in the first part
  pub lacks-left : (xs ys : List L.kind) (k : L.kind) → has L (xs ++ ys) k ≡ false → has L xs k ≡ false
  lacks-left xs ys k d = not_true (has L xs k) (λ h. both_ways (has L (xs ++ ys) k) d (has-append-left xs ys k h))

  -- what is not in the whole is not in the second part
  pub lacks-right : (xs ys : List L.kind) (k : L.kind) → has L (xs ++ ys) k ≡ false → has L ys k ≡ false
  lacks-right xs ys k d = not_true (has L ys k) (λ h. both_ways (has L (xs ++ ys) k) d (has-append-right xs ys k h))

  -- what is not in a set is not in what it holds
  pub lacks-within : (xs ys : List L.kind) (k : L.kind) → within L xs ys ≡ true → has L ys k ≡ false → has L xs k ≡ false
  lacks-within xs ys k i d = not_true (has L xs k) (λ h. both_ways (has L ys k) d (has-within xs ys k i h))

  -- two disjoint sets, the other way round
  pub apart : (xs ys : List L.kind) (k : L.kind) → disjoint L xs ys ≡ true → has L ys k ≡ true → has L xs k ≡ false
  apart xs ys k d h = not_true (has L xs k) (λ i. both_ways (has L ys k) (has-disjoint xs ys k d i) h)
