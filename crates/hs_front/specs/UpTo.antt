-- A form at most so many times.
use Rattle.std.proofs.Common.{◌≡◌, ℕ, zero, suc, Bool, true, false, not, ◌&&◌, ◌||◌, cond, List, [], ◌∷◌, ◌++◌, refl, ap}
use Rattle.std.proofs.lemmas.Bool.{false≢true}
use Rattle.hs_grammar.specs.Kinds.{disjoint, has}
use Rattle.hs_grammar.specs.Lookahead.{Fits, empty, begin, go_on}
use Rattle.hs_front.specs.Lexis.{lexis}
use Rattle.hs_front.specs.Written.{F, up_to}
use Rattle.hs_front.specs.Reading.{tables}

abbrev K : Type 0
K = lexis.kind

-- kinds in neither of two sets
pub disjoint-append : (xs ys zs : List K) → disjoint lexis xs zs ≡ true → disjoint lexis ys zs ≡ true → disjoint lexis (xs ++ ys) zs ≡ true
disjoint-append [] ys zs e f = f
disjoint-append (x ∷ xs) ys zs e f = go (has lexis zs x) (disjoint lexis xs zs) e (λ h. disjoint-append xs ys zs h f)
  where
    go : (a b : Bool) → (not a && b) ≡ true → (b ≡ true → disjoint lexis (xs ++ ys) zs ≡ true) → (not a && disjoint lexis (xs ++ ys) zs) ≡ true
    go false b e h = h e
    go true b e h = absurd (false≢true e)

-- nothing is in no set
pub disjoint-none : (xs : List K) → disjoint lexis xs [] ≡ true
disjoint-none [] = refl
disjoint-none (x ∷ xs) = disjoint-none xs

-- a set or none
pub disjoint-cond : (b : Bool) (xs zs : List K) → disjoint lexis xs zs ≡ true → disjoint lexis (cond b xs []) zs ≡ true
disjoint-cond true xs zs e = e
disjoint-cond false xs zs e = refl

module _ {A : Type 0} (f : F A) (full : empty tables f ≡ false) where
  -- it may be nothing
  pub up_to_empty : (n : ℕ) → empty tables (up_to n f) ≡ true
  unfolding up_to
  up_to_empty zero = refl
  up_to_empty (suc n) = ap (λ b. b && empty tables (up_to n f) || true) full

  -- it begins with nothing but what the form begins with
  pub up_to_begins : (n : ℕ) (zs : List K) → disjoint lexis (begin tables f) zs ≡ true → disjoint lexis (begin tables (up_to n f)) zs ≡ true
  unfolding up_to
  up_to_begins zero zs e = refl
  up_to_begins (suc n) zs e =
      disjoint-append (begin tables f ++ cond (empty tables f) (begin tables (up_to n f)) []) [] zs
      (disjoint-append (begin tables f) (cond (empty tables f) (begin tables (up_to n f)) []) zs e
      (disjoint-cond (empty tables f) (begin tables (up_to n f)) zs (up_to_begins n zs e))) refl

  -- behind it a parser goes on with nothing but what follows the form, or begins it
  pub up_to_goes_on : (n : ℕ) (zs : List K) → disjoint lexis (go_on tables f) zs ≡ true → disjoint lexis (begin tables f) zs ≡ true → disjoint lexis (go_on tables (up_to n f)) zs ≡ true
  unfolding up_to
  up_to_goes_on zero zs e i = refl
  up_to_goes_on (suc n) zs e i =
      let rest = up_to_goes_on n zs e i in
      let item = disjoint-append (go_on tables (up_to n f)) (cond (empty tables (up_to n f)) (go_on tables f) []) zs rest (disjoint-cond (empty tables (up_to n f)) (go_on tables f) zs e) in
      disjoint-append (go_on tables (up_to n f) ++ cond (empty tables (up_to n f)) (go_on tables f) [] ++ []) (begin tables f ++ cond (empty tables f) (begin tables (up_to n f)) []) zs
      (disjoint-append (go_on tables (up_to n f) ++ cond (empty tables (up_to n f)) (go_on tables f) []) [] zs item refl)
      (disjoint-append (begin tables f) (cond (empty tables f) (begin tables (up_to n f)) []) zs i (disjoint-cond (empty tables f) (begin tables (up_to n f)) zs (up_to_begins n zs i)))

  -- one token of lookahead is enough, where it is enough for the form and nothing that follows one begins another
  pub up_to_fits : (n : ℕ) → ((n : ℕ) → disjoint lexis (go_on tables f) (begin tables (up_to n f)) ≡ true) → Fits tables f → Fits tables (up_to n f)
  unfolding up_to
  up_to_fits zero apart i = tt
  up_to_fits (suc n) apart i =
      ((i, up_to_fits n apart i, apart n), tt, disjoint-none (begin tables f ++ cond (empty tables f) (begin tables (up_to n f)) []), ap (λ b. b && empty tables (up_to n f)) full)
