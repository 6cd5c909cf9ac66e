-- What names mean with one binding more or less, and with one name more.
use Rattle.std.proofs.Common.{◌≡◌, ℕ, Bool, true, false, cond, not, List, [], ◌∷◌, ◌++◌, length, bytes_eq, Option, Some, None, is_some, refl, sym, ap, ◌∙◌, arith}
use Rattle.std.specs.Prelude.{position}
use Rattle.std.specs.Cmp.Lexicographic.{nat_list_eq_equiv, bytes_decides}
use Rattle.std.proofs.lemmas.Bool.Decides.{nat_tests}
use Rattle.std.proofs.lemmas.List.{length-append}
use Rattle.std.proofs.lemmas.List.Folds.{position_or_len_push}
use Rattle.std.proofs.lemmas.List.Sums.{prefix_len-le-length}
use Rattle.hs_scope.specs.Scope.{Binding, look}
use Rattle.hs_scope.specs.Names.{number_of}

-- with one binding more
pub look_bound : (b : Binding) (bs : List Binding) (w : List ℕ) → look w (b ∷ bs) ≡ cond (bytes_eq b.name w) (Some b.number) (look w bs)
look_bound b bs w = ap (λ t. cond t (Some b.number) (look w bs)) (nat_list_eq_equiv.symm w b.name)

-- with one binding less
pub look_left : (b : Binding) (bs : List Binding) (w : List ℕ) → look w bs ≡ cond (bytes_eq b.name w) (look b.name bs) (look w (b ∷ bs))
look_left b bs w = go (bytes_eq b.name w) refl
  where
    go : (t : Bool) → bytes_eq b.name w ≡ t → look w bs ≡ cond t (look b.name bs) (look w (b ∷ bs))
    go true e = ap (λ v. look v bs) (sym ((bytes_decides b.name w).0 e))
    go false e = sym (look_bound b bs w ∙ ap (λ t. cond t (Some b.number) (look w bs)) e)

-- the latest binding is found
pub look_latest : (b : Binding) (bs : List Binding) → look b.name (b ∷ bs) ≡ Some b.number
look_latest b bs = ap (λ t. cond t (Some b.number) (look b.name bs)) (nat_list_eq_equiv.refl b.name)

-- one item more is found only where none was
position_more : {X : Type 0} (p : X → Bool) (xs : List X) (y : X) → position p (xs ++ y ∷ []) ≡ cond (is_some (position p xs)) (position p xs) (cond (p y) (Some (length xs)) None)
position_more p xs y = grind (arith, nat_tests, position_or_len_push p xs y, prefix_len-le-length (λ x. not (p x)) xs, length-append xs (y ∷ []))

module _ (names : List (List ℕ)) (name w : List ℕ) where
  -- a name that was there changes nothing
  pub number_again : is_some (number_of name names) ≡ true → number_of w (names ++ name ∷ []) ≡ number_of w names
  number_again h = position_more (bytes_eq w) names name ∙ go (number_of w names) (bytes_eq w name) refl refl
    where
      go : (o : Option ℕ) (t : Bool) → number_of w names ≡ o → bytes_eq w name ≡ t → cond (is_some o) o (cond t (Some (length names)) None) ≡ o
      go (Some n) t e f = refl
      go None false e f = refl
      go None true e f =
          let same : number_of name names ≡ None = ap (λ v. number_of v names) (sym ((bytes_decides w name).0 f)) ∙ e in
          absurd (cc (h, ap is_some same))

  -- a new one has the next number
  pub number_new : is_some (number_of name names) ≡ false → number_of w (names ++ name ∷ []) ≡ cond (bytes_eq name w) (Some (length names)) (number_of w names)
  number_new h =
      position_more (bytes_eq w) names name
      ∙ ap (λ t. cond (is_some (number_of w names)) (number_of w names) (cond t (Some (length names)) None)) (nat_list_eq_equiv.symm w name)
      ∙ go (number_of w names) (bytes_eq name w) refl refl
    where
      go : (o : Option ℕ) (t : Bool) → number_of w names ≡ o → bytes_eq name w ≡ t → cond (is_some o) o (cond t (Some (length names)) None) ≡ cond t (Some (length names)) o
      go None true e f = refl
      go None false e f = refl
      go (Some n) false e f = refl
      go (Some n) true e f =
          let same : number_of name names ≡ Some n = ap (λ v. number_of v names) ((bytes_decides name w).0 f) ∙ e in
          absurd (cc (h, ap is_some same))
