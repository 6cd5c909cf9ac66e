-- Sets of kinds, as lists.
use Rattle.std.specs.Prelude.{◌≡◌, Bool, true, false, not, ◌&&◌, ◌||◌, cond, List, [], ◌∷◌}
use Rattle.hs_grammar.specs.Form.{Lexis}

-- the test of kinds tells exactly whether they are one
pub record Decides (L : Lexis) : Type 0 where
  pub one : (a b : L.kind) → L.same a b ≡ true → a ≡ b
  pub alike : (a b : L.kind) → a ≡ b → L.same a b ≡ true

-- whether the kind is in the set
abbrev pub has : (L : Lexis) → List L.kind → L.kind → Bool
has L [] k = false
has L (x ∷ xs) k = L.same x k || has L xs k

-- whether the two sets have no kind in common
abbrev pub disjoint : (L : Lexis) → List L.kind → List L.kind → Bool
disjoint L [] ys = true
disjoint L (x ∷ xs) ys = not (has L ys x) && disjoint L xs ys

-- whether each kind of the first set is in the second
abbrev pub within : (L : Lexis) → List L.kind → List L.kind → Bool
within L [] ys = true
within L (x ∷ xs) ys = has L ys x && within L xs ys

-- the second set without the kinds of the first
abbrev pub without : (L : Lexis) → List L.kind → List L.kind → List L.kind
without L ks [] = []
without L ks (x ∷ xs) = cond (has L ks x) (without L ks xs) (x ∷ without L ks xs)

-- whether there is a first token, and it is of one of these kinds
abbrev pub starts : (L : Lexis) → List L.kind → List L.token → Bool
starts L ks [] = false
starts L ks (t ∷ w) = has L ks (L.kind_of t)
