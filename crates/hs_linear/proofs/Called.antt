-- The first function of a name.
use Rattle.std.proofs.Common.{◌≡◌, ◌≢◌, ℕ, zero, suc, ◌<◌, Bool, true, false, cond, List, [], ◌∷◌, map, length, get_or, Some, refl, sym, ap, ◌∙◌, arith}
use Rattle.std.specs.Prelude.{bytes_eq, position}
use Rattle.std.proofs.lemmas.List.Quantifiers.{position-Some}
use Rattle.std.proofs.lemmas.Slice.Eq.{bytes_eq-Decides}
use Rattle.hs_tree.specs.Plain as plain
use Rattle.hs_tree.specs.Call.{modes}
use Rattle.hs_tree.specs.Of.{mode_of, param_of, function_of}
use Rattle.hs_tree.specs.declared.program.Param.{Param}
use Rattle.hs_tree.specs.declared.program.Function.{Function}
use Rattle.hs_linear.specs.Called.{names_of, modes_of}

bytes_swap : (a b : List ℕ) → bytes_eq a b ≡ bytes_eq b a
bytes_swap a b = grind (arith, bytes_eq-Decides)

module _ {F Place Nested Quest MutArg Exit Assign Loop Cf Acc Fold : Type 0} where
  same_modes : (names : List plain.Name) (ps : List (Param F Place Nested Quest MutArg Exit Assign Loop Cf Acc Fold)) → map (λ p. p.mode) (map (param_of names) ps) ≡ modes_of ps
  same_modes names [] = refl
  same_modes names (p ∷ ps) = ap (λ ms. mode_of p.mode ∷ ms) (same_modes names ps)

  first_at : (fs : List (Function F Place Nested Quest MutArg Exit Assign Loop Cf Acc Fold)) (name : List ℕ) (i : ℕ) (f : Function F Place Nested Quest MutArg Exit Assign Loop Cf Acc Fold) → i < length fs → f ≡ get_or fs i f → bytes_eq name f.name ≡ true
      → ((k : ℕ) → k < i → bytes_eq name (get_or (names_of fs) k []) ≡ false) → modes_of f.params ≡ modes (map function_of fs) name
  first_at [] name i f l e h n = absurd (omega (arith, l))
  first_at (g ∷ gs) name zero f l e h n =
      let test : bytes_eq g.name name ≡ true = bytes_swap g.name name ∙ ap (λ (x : Function F Place Nested Quest MutArg Exit Assign Loop Cf Acc Fold). bytes_eq name x.name) (sym e) ∙ h in
      ap (λ (x : Function F Place Nested Quest MutArg Exit Assign Loop Cf Acc Fold). modes_of x.params) e ∙ sym (same_modes g.body.locals g.params)
      ∙ sym (ap (λ b. cond b (map (λ p. p.mode) (function_of g).params) (modes (map function_of gs) name)) test)
  first_at (g ∷ gs) name (suc i) f l e h n =
      let test : bytes_eq g.name name ≡ false = bytes_swap g.name name ∙ n 0 (omega arith) in
      first_at gs name i f (omega (arith, l)) e h (λ k m. n (suc k) (omega (arith, m)))
      ∙ sym (ap (λ b. cond b (map (λ p. p.mode) (function_of g).params) (modes (map function_of gs) name)) test)

  pub first_found : (fs : List (Function F Place Nested Quest MutArg Exit Assign Loop Cf Acc Fold)) (name : List ℕ) (i : ℕ) (f : Function F Place Nested Quest MutArg Exit Assign Loop Cf Acc Fold) → position (bytes_eq name) (names_of fs) ≡ Some i → f ≡ get_or fs i f
      → modes_of f.params ≡ modes (map function_of fs) name
  first_found fs name i f p e =
      let at = position-Some (bytes_eq name) (names_of fs) i [] p in
      let within : i < length fs = named_length fs at.0 in
      first_at fs name i f within e (named fs i f within e at.1) at.2
    where
      many : (fs : List (Function F Place Nested Quest MutArg Exit Assign Loop Cf Acc Fold)) → length (names_of fs) ≡ length fs
      many [] = refl
      many (f ∷ fs) = ap suc (many fs)

      named_length : (fs : List (Function F Place Nested Quest MutArg Exit Assign Loop Cf Acc Fold)) → i < length (names_of fs) → i < length fs
      named_length fs h = omega (arith, h, many fs)

      at_is : (fs : List (Function F Place Nested Quest MutArg Exit Assign Loop Cf Acc Fold)) (i : ℕ) (f : Function F Place Nested Quest MutArg Exit Assign Loop Cf Acc Fold) → i < length fs → f ≡ get_or fs i f → get_or (names_of fs) i [] ≡ f.name
      at_is [] i f l e = absurd (omega (arith, l))
      at_is (g ∷ gs) zero f l e = ap (λ (x : Function F Place Nested Quest MutArg Exit Assign Loop Cf Acc Fold). x.name) (sym e)
      at_is (g ∷ gs) (suc i) f l e = at_is gs i f (omega (arith, l)) e

      named : (fs : List (Function F Place Nested Quest MutArg Exit Assign Loop Cf Acc Fold)) (i : ℕ) (f : Function F Place Nested Quest MutArg Exit Assign Loop Cf Acc Fold) → i < length fs → f ≡ get_or fs i f
          → bytes_eq name (get_or (names_of fs) i []) ≡ true → bytes_eq name f.name ≡ true
      named fs i f l e h = ap (bytes_eq name) (sym (at_is fs i f l e)) ∙ h

  -- no function has the name
  pub none_found : (fs : List (Function F Place Nested Quest MutArg Exit Assign Loop Cf Acc Fold)) (name : List ℕ) → ((k : ℕ) → k < length (names_of fs) → get_or (names_of fs) k [] ≢ name) → modes (map function_of fs) name ≡ []
  none_found [] name h = refl
  none_found (g ∷ gs) name h = go (bytes_eq g.name name) refl (none_found gs name (λ k m. h (suc k) (omega (arith, m))))
    where
      unlike : g.name ≢ name
      unlike = h 0 (omega arith)

      go : (b : Bool) → bytes_eq g.name name ≡ b → modes (map function_of gs) name ≡ [] → cond b (map (λ p. p.mode) (function_of g).params) (modes (map function_of gs) name) ≡ []
      go true e rest = let same : g.name ≡ name = grind (arith, bytes_eq-Decides) in absurd (unlike same)
      go false e rest = rest
