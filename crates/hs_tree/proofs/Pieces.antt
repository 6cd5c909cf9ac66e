-- The pieces of a text.
use Rattle.std.proofs.Common.{◌≡◌, ℕ, zero, suc, ◌+◌, ◌-◌, ◌<◌, ◌≤◌, List, [], ◌∷◌, ◌++◌, map, length, get_or, take, drop, take_all, drop-cons, append_assoc, append-nil, ap, refl, sym, ◌∙◌, codes, arith}
use Rattle.hs_values.specs.declared.types.ValType.{ValType}
use Rattle.hs_tree.specs.Text.{Form, word, between, Forms, no_forms, form, bytes_of, first_bytes, next_bytes, starred}
use Rattle.hs_tree.specs.Pending.{bytes_on, first_on, next_on}

-- the parts of a tuple's type behind the first, and the closing bracket
abbrev pub star_bytes : List Form → List ℕ
star_bytes [] = 41 ∷ []
star_bytes (f ∷ fs) = codes " * " ++ (bytes_of f ++ star_bytes fs)

-- such parts stand behind a space as they stand behind a bracket
next_starred : (f : Form) (fs : List Form) → next_bytes (starred (f ∷ fs)) ≡ 32 ∷ first_bytes (starred (f ∷ fs))
next_starred f [] = refl
next_starred f (g ∷ fs) = refl

-- the first part and those behind it
pub first_starred : (f : Form) (fs : List Form) → first_bytes (starred (f ∷ fs)) ≡ bytes_of f ++ star_bytes fs
first_starred f [] = refl
first_starred f (g ∷ fs) = ap (λ x. bytes_of f ++ 32 ∷ 42 ∷ x) (next_starred g fs ∙ ap (λ x. 32 ∷ x) (first_starred g fs))

module _ (shown : ValType → Form) where
  -- the parts behind a first one
  rest_of : (u : ValType) (us : List ValType) → drop 0 (take (length (u ∷ us) - 1) (drop 1 (u ∷ us))) ≡ us
  rest_of u us = let e : length us ≤ length (u ∷ us) - 1 = omega arith in take_all (length (u ∷ us) - 1) us e

  -- behind the first part those are left that stand behind it
  pub parts_begin : (ts : List ValType) (t : ValType) (old mid new : List ℕ) → 1 ≤ length ts → t ≡ get_or ts 0 t → mid ≡ old ++ 40 ∷ [] → new ≡ mid ++ bytes_of (shown t) → new ++ star_bytes (map shown (drop 0 (take (length ts - 1) (drop 1 ts)))) ≡ old ++ 40 ∷ first_bytes (starred (map shown ts))
  parts_begin [] t old mid new h e m n = absurd (omega arith)
  parts_begin (u ∷ us) t old mid new h e m n =
      let here : new ≡ (old ++ 40 ∷ []) ++ bytes_of (shown u) = n ∙ ap (λ x. x ++ bytes_of (shown t)) m ∙ ap (λ x. (old ++ 40 ∷ []) ++ bytes_of (shown x)) e in
      ap (λ x. new ++ star_bytes (map shown x)) (rest_of u us)
      ∙ ap (λ x. x ++ star_bytes (map shown us)) here
      ∙ append_assoc (old ++ 40 ∷ []) (bytes_of (shown u)) (star_bytes (map shown us))
      ∙ append_assoc old (40 ∷ []) (bytes_of (shown u) ++ star_bytes (map shown us))
      ∙ ap (λ x. old ++ 40 ∷ x) (sym (first_starred (shown u) (map shown us)))

  -- behind one more part one less is left
  pub parts_more : (ts : List ValType) (i : ℕ) (t : ValType) (old mid new all : List ℕ) → i < length ts → t ≡ get_or ts i t → mid ≡ old ++ codes " * " → new ≡ mid ++ bytes_of (shown t) → old ++ star_bytes (map shown (drop i ts)) ≡ all → new ++ star_bytes (map shown (drop (i + 1) ts)) ≡ all
  parts_more ts i t old mid new all h e m n k =
      let more : suc i ≡ i + 1 = omega arith in
      let left : drop i ts ≡ t ∷ drop (i + 1) ts = drop-cons ts i t h ∙ ap (λ x. x ∷ drop (suc i) ts) (sym e) ∙ ap (λ j. t ∷ drop j ts) more in
      ap (λ x. x ++ star_bytes (map shown (drop (i + 1) ts))) (n ∙ ap (λ x. x ++ bytes_of (shown t)) m)
      ∙ append_assoc (old ++ codes " * ") (bytes_of (shown t)) (star_bytes (map shown (drop (i + 1) ts)))
      ∙ append_assoc old (codes " * ") (bytes_of (shown t) ++ star_bytes (map shown (drop (i + 1) ts)))
      ∙ ap (λ x. old ++ star_bytes (map shown x)) (sym left) ∙ k

-- forms before other bytes
mutual
  pub on_bytes : (f : Form) (more : List ℕ) → bytes_of f ++ more ≡ bytes_on f more
  on_bytes (word w) more = refl
  on_bytes (between fs) more = ap (λ x. 40 ∷ x) (on_first fs more)

  on_first : (fs : Forms) (more : List ℕ) → first_bytes fs ++ more ≡ first_on fs more
  on_first no_forms more = refl
  on_first (form f fs) more = append_assoc (bytes_of f) (next_bytes fs) more ∙ ap (λ x. bytes_of f ++ x) (on_next fs more) ∙ on_bytes f (next_on fs more)

  on_next : (fs : Forms) (more : List ℕ) → next_bytes fs ++ more ≡ next_on fs more
  on_next no_forms more = refl
  on_next (form f fs) more =
      ap (λ x. 32 ∷ x) (append_assoc (bytes_of f) (next_bytes fs) more ∙ ap (λ x. bytes_of f ++ x) (on_next fs more) ∙ on_bytes f (next_on fs more))

-- what is left from a place on begins with the item there
pub left_from : {E : Type 0} (i : ℕ) (xs : List E) (x : E) → i < length xs → x ≡ get_or xs i x → drop i xs ≡ x ∷ drop (i + 1) xs
left_from i xs x h e =
    let more : suc i ≡ i + 1 = omega arith in
    drop-cons xs i x h ∙ ap (λ y. y ∷ drop (suc i) xs) (sym e) ∙ ap (λ k. x ∷ drop k xs) more

pub none_left : {E : Type 0} (i : ℕ) (xs : List E) → length xs ≤ i → drop i xs ≡ []
none_left zero [] h = refl
none_left zero (x ∷ xs) h = absurd (omega arith)
none_left (suc i) [] h = refl
none_left (suc i) (x ∷ xs) h = none_left i xs (omega arith)

-- what there is before nothing, and before nothing more
pub whole_bytes : (f : Form) → bytes_on f [] ≡ bytes_of f
whole_bytes f = sym (on_bytes f []) ∙ append-nil (bytes_of f)

pub nothing_more : (w : List ℕ) → w ++ [] ≡ w
nothing_more w = append-nil w
