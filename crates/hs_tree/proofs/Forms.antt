-- The bytes of forms determine them, where each word is one.
use Rattle.std.proofs.Common.{◌≡◌, ℕ, Bool, true, false, not, ◌&&◌, eqb, List, [], ◌∷◌, ◌++◌, refl, sym, ap, ap₂, ◌∙◌, append_assoc, arith}
use Rattle.std.proofs.lemmas.Bool.Decides.{nat_tests}
use Rattle.std.specs.List.{list_all}
use Rattle.hs_tree.specs.Text.{Form, word, between, Forms, no_forms, form, bytes_of, first_bytes, next_bytes, bare_byte, bare, bare_form, bare_forms, lines_of}

both : (a b : Bool) → (a && b) ≡ true → (a ≡ true) × (b ≡ true)
both true b h = (refl, h)
both false b h = absurd (cc)

-- the first byte, or 0
abbrev first : List ℕ → ℕ
first [] = 0
first (b ∷ w) = b

unlike : (a b : ℕ) → eqb a b ≡ false → a ≡ b → ⊥
unlike a b h e = grind (arith, nat_tests)

-- what follows a word ends it
abbrev ends : List ℕ → Bool
ends [] = true
ends (b ∷ r) = not (bare_byte b)

differs : (b : ℕ) → bare_byte b ≡ true → not (bare_byte b) ≡ true → ⊥
differs b h k = go (bare_byte b) h k
  where
    go : (x : Bool) → x ≡ true → not x ≡ true → ⊥
    go true d e = cc
    go false d e = cc

-- a byte that ends a word is not the first of one
not_first : (a b : ℕ) → a ≡ b → bare_byte b ≡ true → not (bare_byte a) ≡ true → ⊥
not_first a b e h k = differs b h (ap (λ c. not (bare_byte c)) (sym e) ∙ k)

words_once : (w v r q : List ℕ) → list_all bare_byte w ≡ true → list_all bare_byte v ≡ true → ends r ≡ true → ends q ≡ true → w ++ r ≡ v ++ q → (w ≡ v) × (r ≡ q)
words_once [] [] r q h k d e s = (refl, s)
words_once [] (b ∷ v) [] q h k d e s = absurd (cc)
words_once [] (b ∷ v) (a ∷ r) q h k d e s = let n : a ≡ b = cc (s) in absurd (not_first a b n (both _ _ k).0 d)
words_once (a ∷ w) [] r [] h k d e s = absurd (cc)
words_once (a ∷ w) [] r (b ∷ q) h k d e s = let n : b ≡ a = cc (s) in absurd (not_first b a n (both _ _ h).0 e)
words_once (a ∷ w) (b ∷ v) r q h k d e s =
    let n : a ≡ b = cc (s) in
    let m : w ++ r ≡ v ++ q = cc (s) in
    let t = words_once w v r q (both _ _ h).1 (both _ _ k).1 d e m in
    (ap₂ (λ (x : ℕ) (y : List ℕ). x ∷ y) n t.0, t.1)

all_bare : (w : List ℕ) → bare w ≡ true → list_all bare_byte w ≡ true
all_bare [] h = absurd (cc)
all_bare (b ∷ w) h = h

-- what follows a part ends it
next_ends : (fs : Forms) (r : List ℕ) → ends (next_bytes fs ++ r) ≡ true
next_ends no_forms r = refl
next_ends (form f fs) r = refl

-- no word begins with a bracket
no_bracket : (w : List ℕ) (b : ℕ) (x r : List ℕ) → bare w ≡ true → bare_byte b ≡ false → w ++ r ≡ b ∷ x → ⊥
no_bracket [] b x r h k e = absurd (cc)
no_bracket (a ∷ w) b x r h k e =
    let n : b ≡ a = cc (e) in
    let f : not (bare_byte b) ≡ true = ap not k in
    not_first b a n (both _ _ h).0 f

-- no form begins with a closing bracket
closing : (f : Form) (x q r : List ℕ) → bare_form f ≡ true → (bytes_of f ++ x) ++ r ≡ 41 ∷ q → ⊥
closing (word w) x q r h s = no_bracket w 41 q (x ++ r) h refl (sym (append_assoc w x r) ∙ s)
closing (between fs) x q r h s = unlike 40 41 refl (ap first s)

mutual
  form_once : (f g : Form) (r q : List ℕ) → bare_form f ≡ true → bare_form g ≡ true → ends r ≡ true → ends q ≡ true → bytes_of f ++ r ≡ bytes_of g ++ q → (f ≡ g) × (r ≡ q)
  form_once (word w) (word v) r q h k d e s =
      let t = words_once w v r q (all_bare w h) (all_bare v k) d e s in (ap word t.0, t.1)
  form_once (word w) (between gs) r q h k d e s = absurd (no_bracket w 40 (first_bytes gs ++ q) r h refl s)
  form_once (between fs) (word v) r q h k d e s = absurd (no_bracket v 40 (first_bytes fs ++ r) q k refl (sym s))
  form_once (between fs) (between gs) r q h k d e s =
      let m : first_bytes fs ++ r ≡ first_bytes gs ++ q = cc (s) in
      let t = first_once fs gs r q h k m in (ap between t.0, t.1)

  first_once : (fs gs : Forms) (r q : List ℕ) → bare_forms fs ≡ true → bare_forms gs ≡ true → first_bytes fs ++ r ≡ first_bytes gs ++ q → (fs ≡ gs) × (r ≡ q)
  first_once no_forms no_forms r q h k s = (refl, cc (s))
  first_once no_forms (form g gs) r q h k s = absurd (closing g (next_bytes gs) r q (both _ _ k).0 (sym s))
  first_once (form f fs) no_forms r q h k s = absurd (closing f (next_bytes fs) q r (both _ _ h).0 s)
  first_once (form f fs) (form g gs) r q h k s =
      let t = form_once f g (next_bytes fs ++ r) (next_bytes gs ++ q) (both _ _ h).0 (both _ _ k).0 (next_ends fs r) (next_ends gs q)
      (sym (append_assoc (bytes_of f) (next_bytes fs) r) ∙ s ∙ append_assoc (bytes_of g) (next_bytes gs) q) in
      let u = next_once fs gs r q (both _ _ h).1 (both _ _ k).1 t.1 in
      (ap₂ form t.0 u.0, u.1)

  next_once : (fs gs : Forms) (r q : List ℕ) → bare_forms fs ≡ true → bare_forms gs ≡ true → next_bytes fs ++ r ≡ next_bytes gs ++ q → (fs ≡ gs) × (r ≡ q)
  next_once no_forms no_forms r q h k s = (refl, cc (s))
  next_once no_forms (form g gs) r q h k s = absurd (unlike 41 32 refl (ap first s))
  next_once (form f fs) no_forms r q h k s = absurd (unlike 32 41 refl (ap first s))
  next_once (form f fs) (form g gs) r q h k s =
      let m : (bytes_of f ++ next_bytes fs) ++ r ≡ (bytes_of g ++ next_bytes gs) ++ q = cc (s) in
      let t = form_once f g (next_bytes fs ++ r) (next_bytes gs ++ q) (both _ _ h).0 (both _ _ k).0 (next_ends fs r) (next_ends gs q)
      (sym (append_assoc (bytes_of f) (next_bytes fs) r) ∙ m ∙ append_assoc (bytes_of g) (next_bytes gs) q) in
      let u = next_once fs gs r q (both _ _ h).1 (both _ _ k).1 t.1 in
      (ap₂ form t.0 u.0, u.1)

-- a line is not nothing
no_line : (f : Form) (r : List ℕ) → bare_form f ≡ true → [] ≡ bytes_of f ++ 10 ∷ r → ⊥
no_line (word []) r h s = cc
no_line (word (b ∷ w)) r h s = cc
no_line (between fs) r h s = cc

-- lines determine their forms
pub lines_once : (fs gs : List Form) → list_all bare_form fs ≡ true → list_all bare_form gs ≡ true → lines_of fs ≡ lines_of gs → fs ≡ gs
lines_once [] [] h k s = refl
lines_once [] (g ∷ gs) h k s = absurd (no_line g (lines_of gs) (both _ _ k).0 s)
lines_once (f ∷ fs) [] h k s = absurd (no_line f (lines_of fs) (both _ _ h).0 (sym s))
lines_once (f ∷ fs) (g ∷ gs) h k s =
    let t = form_once f g (10 ∷ lines_of fs) (10 ∷ lines_of gs) (both _ _ h).0 (both _ _ k).0 refl refl s in
    let m : lines_of fs ≡ lines_of gs = cc (t.1) in
    ap₂ (λ (x : Form) (y : List Form). x ∷ y) t.0 (lines_once fs gs (both _ _ h).1 (both _ _ k).1 m)
