-- That one token of lookahead is enough, by a test that computes.
use Rattle.std.proofs.Common.{◌≡◌, Bool, true, false, not, ◌&&◌, ◌||◌, cond, List, [], ◌∷◌, ◌++◌, ◌⊎◌, inl, inr, refl, ap}
use Rattle.std.proofs.lemmas.Bool.{both_ways, and_parts, and_from, or_left, or_right, not-true}
use Rattle.hs_grammar.specs.Form.{Lexis, Rules, Form, Pure, Tok, Nt, Map, Seq, Split, Alt, Loop, Unless}
use Rattle.hs_grammar.specs.Kinds.{Decides, has, disjoint, within}
use Rattle.hs_grammar.specs.Derives.{Where}
use Rattle.hs_grammar.specs.Lookahead.{Tables, empty, begin, go_on, NoEmpty, GoesOn, IsMore, Fits, fits_test}
use Rattle.hs_grammar.specs.Combinators.{list_turn, list_read}

-- neither of two
pub neither : (a b : Bool) → (a || b) ≡ false → (a ≡ false) × (b ≡ false)
neither true b e = absurd (both_ways (true || b) e refl)
neither false b e = (refl, e)

module _ (L : Lexis) (K : Decides L) where
  within-append : (xs ys zs : List L.kind) → within L (xs ++ ys) zs ≡ true → (within L xs zs ≡ true) × (within L ys zs ≡ true)
  within-append [] ys zs e = (refl, e)
  within-append (x ∷ xs) ys zs e =
      let parts = and_parts (has L zs x) (within L (xs ++ ys) zs) e in
      let rest = within-append xs ys zs parts.1 in
      (and_from (has L zs x) (within L xs zs) parts.0 rest.0, rest.1)

  within_more : (xs ys : List L.kind) (z : L.kind) → within L xs ys ≡ true → within L xs (z ∷ ys) ≡ true
  within_more [] ys z e = refl
  within_more (x ∷ xs) ys z e =
      let parts = and_parts (has L ys x) (within L xs ys) e in
      and_from (L.same z x || has L ys x) (within L xs (z ∷ ys)) (or_right (L.same z x) (has L ys x) parts.0) (within_more xs ys z parts.1)

  -- a set is within itself
  pub within-self : (xs : List L.kind) → within L xs xs ≡ true
  within-self [] = refl
  within-self (x ∷ xs) = and_from (L.same x x || has L xs x) (within L xs (x ∷ xs)) (or_left (L.same x x) (has L xs x) (K.alike x x refl)) (within_more xs xs x (within-self xs))

module _ (L : Lexis) (R : Rules) (K : Decides L) (τ : Tables L R) where
  -- a form that is never empty derives no value from no token
  pub no_empty_of : {C : Type 0} (P : C → Type 0) (f : Form L R C) → empty τ f ≡ false → NoEmpty τ P f
  no_empty_of P (Pure c) e = absurd (both_ways true e refl)
  no_empty_of P (Tok ks h) e = tt
  no_empty_of P (Nt N h) e = e
  no_empty_of P (Map h f) e = no_empty_of (λ a. P (h a)) f e
  no_empty_of P (Seq h f g) e = e
  no_empty_of P (Split q h f g k) e = e
  no_empty_of P (Alt f g) e = let n = neither (empty τ f) (empty τ g) e in (no_empty_of P f n.0, no_empty_of P g n.1)
  no_empty_of P (Loop h f) e = absurd (both_ways true e refl)
  no_empty_of P (Unless ks f) e = no_empty_of P f e

  part_of : {D : Type 0} (P : D → Type 0) (g : Form L R D) (xs ks : List L.kind) (b : Bool) → empty τ g ≡ b → within L (cond b xs []) ks ≡ true → NoEmpty τ P g ⊎ (within L xs ks ≡ true)
  part_of P g xs ks true e w = inr w
  part_of P g xs ks false e w = inl (no_empty_of P g e)

  either_part : (b c : Bool) (xs ks : List L.kind) → within L (cond (b || c) xs []) ks ≡ true → (within L (cond b xs []) ks ≡ true) × (within L (cond c xs []) ks ≡ true)
  either_part true true xs ks w = (w, w)
  either_part true false xs ks w = (w, refl)
  either_part false true xs ks w = (refl, w)
  either_part false false xs ks w = (refl, refl)

  split_where : (q : Bool) {X Y : Type 0} → X → Y → Where q X Y
  split_where true x y = x
  split_where false x y = y

  -- behind any value a parser goes on with nothing but what goes on
  pub goes_on : {C : Type 0} (P : C → Type 0) (f : Form L R C) (ks : List L.kind) → within L (go_on τ f) ks ≡ true → GoesOn τ ks P f
  goes_on P (Pure c) ks w = tt
  goes_on P (Tok js h) ks w = tt
  goes_on P (Nt N h) ks w = w
  goes_on P (Map h f) ks w = goes_on (λ a. P (h a)) f ks w
  goes_on P (Seq h f g) ks w =
      let parts = within-append L K (go_on τ g) (cond (empty τ g) (go_on τ f) []) ks w in
      λ a. (goes_on (λ b. P (h a b)) g ks parts.0, part_of (λ b. P (h a b)) g (go_on τ f) ks (empty τ g) refl parts.1)
  goes_on P (Split q h f g k) ks w =
      let parts = within-append L K (go_on τ g ++ go_on τ k) (cond (empty τ g || empty τ k) (go_on τ f) []) ks w in
      let both = within-append L K (go_on τ g) (go_on τ k) ks parts.0 in
      let ends = either_part (empty τ g) (empty τ k) (go_on τ f) ks parts.1 in
      λ a. split_where (q a)
      (goes_on (λ b. P (h a b)) g ks both.0, part_of (λ b. P (h a b)) g (go_on τ f) ks (empty τ g) refl ends.0)
      (goes_on (λ b. P (h a b)) k ks both.1, part_of (λ b. P (h a b)) k (go_on τ f) ks (empty τ k) refl ends.1)
  goes_on P (Alt f g) ks w =
      let parts = within-append L K (go_on τ f ++ go_on τ g) (cond (empty τ g) (begin τ f) []) ks w in
      let both = within-append L K (go_on τ f) (go_on τ g) ks parts.0 in
      (goes_on P f ks both.0, goes_on P g ks both.1, part_of P g (begin τ f) ks (empty τ g) refl parts.1)
  goes_on P (Loop h f) ks w = w
  goes_on P (Unless js f) ks w = goes_on P f ks w

  -- where the test says so, one token of lookahead is enough
  pub fits_by : {C : Type 0} (f : Form L R C) → fits_test τ f ≡ true → Fits τ f
  fits_by (Pure c) e = tt
  fits_by (Tok ks h) e = tt
  fits_by (Nt N h) e = tt
  fits_by (Map h f) e = fits_by f e
  fits_by (Seq h f g) e =
      let parts = and_parts (disjoint L (go_on τ f) (begin τ g)) (fits_test τ f && fits_test τ g) e in
      let both = and_parts (fits_test τ f) (fits_test τ g) parts.1 in
      (fits_by f both.0, fits_by g both.1, parts.0)
  fits_by (Split q h f g k) e =
      let parts = and_parts (disjoint L (go_on τ f) (begin τ g ++ begin τ k)) (fits_test τ f && (fits_test τ g && fits_test τ k)) e in
      let first = and_parts (fits_test τ f) (fits_test τ g && fits_test τ k) parts.1 in
      let both = and_parts (fits_test τ g) (fits_test τ k) first.1 in
      (fits_by f first.0, fits_by g both.0, fits_by k both.1, parts.0)
  fits_by (Alt f g) e =
      let parts = and_parts (disjoint L (begin τ f) (begin τ g) && not (empty τ f)) (fits_test τ f && fits_test τ g) e in
      let sets = and_parts (disjoint L (begin τ f) (begin τ g)) (not (empty τ f)) parts.0 in
      let both = and_parts (fits_test τ f) (fits_test τ g) parts.1 in
      (fits_by f both.0, fits_by g both.1, sets.0, not-true (empty τ f) sets.1)
  fits_by (Loop h f) e =
      let parts = and_parts (disjoint L (go_on τ f) (begin τ f) && not (empty τ f)) (fits_test τ f) e in
      let sets = and_parts (disjoint L (go_on τ f) (begin τ f)) (not (empty τ f)) parts.0 in
      (fits_by f parts.1, go_on τ f, goes_on IsMore f (go_on τ f) (within-self L K (go_on τ f)), sets.0, not-true (empty τ f) sets.1, within-self L K (go_on τ f))
  fits_by (Unless ks f) e =
      let parts = and_parts (not (empty τ f)) (fits_test τ f) e in
      (fits_by f parts.1, not-true (empty τ f) parts.0)

  -- a test that computes, for lists with separators
  abbrev pub list_test : {A S : Type 0} → Form L R S → Form L R A → Bool
  list_test s f = (disjoint L (go_on τ f) (begin τ (list_turn s f)) && disjoint L (go_on τ s) (begin τ f ++ [])) && ((disjoint L (begin τ f) [] && within L (go_on τ f) (go_on τ (list_turn s f))) && (not (empty τ s) && not (empty τ f)))

  -- where the test says so, one token of lookahead is enough for the list
  pub fits_list : {A S : Type 0} (s : Form L R S) (f : Form L R A) → Fits τ s → Fits τ f → list_test s f ≡ true → Fits τ (list_read s f)
  fits_list s f i j e =
      let all = and_parts (disjoint L (go_on τ f) (begin τ (list_turn s f)) && disjoint L (go_on τ s) (begin τ f ++ [])) ((disjoint L (begin τ f) [] && within L (go_on τ f) (go_on τ (list_turn s f))) && (not (empty τ s) && not (empty τ f))) e in
      let apart = and_parts (disjoint L (go_on τ f) (begin τ (list_turn s f))) (disjoint L (go_on τ s) (begin τ f ++ [])) all.0 in
      let rest = and_parts (disjoint L (begin τ f) [] && within L (go_on τ f) (go_on τ (list_turn s f))) (not (empty τ s) && not (empty τ f)) all.1 in
      let sets = and_parts (disjoint L (begin τ f) []) (within L (go_on τ f) (go_on τ (list_turn s f))) rest.0 in
      let full = and_parts (not (empty τ s)) (not (empty τ f)) rest.1 in
      let no_s : empty τ s ≡ false = not-true (empty τ s) full.0 in
      let no_f : empty τ f ≡ false = not-true (empty τ f) full.1 in (
        j,
        (
          (i, (j, tt, sets.0, no_f), apart.1),
          go_on τ f,
          (λ a. ((goes_on (λ b. Unit {0}) f (go_on τ f) (within-self L K (go_on τ f)), tt, inl (λ n. n)), inl (no_empty_of (λ b. Unit {0}) f no_f, (λ n. n)))),
          apart.0,
          ap (λ b. b && (empty τ f || true)) no_s,
          sets.1,
        ),
        apart.0,
      )
