-- What is sure of the tokens of a text: a token of a name's kind has a name's bytes, and one of digits has decimal digits.
use Rattle.std.proofs.Common.{◌≡◌, ℕ, Bool, true, false, ◌||◌, List, [], ◌∷◌, ◌++◌, refl, subst}
use Rattle.hs_grammar.specs.Kinds.{has}
use Rattle.hs_syntax.specs.WellFormed.{named, decimal}
use Rattle.hs_forms.specs.declared.token.Kind.{Kind}
use Rattle.hs_forms.specs.declared.token.Kind.TheVariants as k
use Rattle.hs_forms.specs.declared.token.Token.{Token}
use Rattle.hs_forms.specs.Lexis.{lexis, same, decides}
use Rattle.hs_forms.specs.Reading.{name_kinds}

pub record IsSure (text : List ℕ) (t : Token) : Type 0 where
  pub name : has lexis name_kinds t.kind ≡ true → named text t.span ≡ true
  pub digits : has lexis (k.Digits ∷ []) t.kind ≡ true → decimal text t.span ≡ true

abbrev pub AllSure : List ℕ → List Token → Type 0
AllSure text [] = Unit {0}
AllSure text (t ∷ w) = IsSure text t × AllSure text w

pub divide : (text : List ℕ) (u v : List Token) → AllSure text (u ++ v) → AllSure text u × AllSure text v
divide text [] v s = (tt {0}, s)
divide text (t ∷ u) v (h, s) = let i = divide text u v s in ((h, i.0), i.1)

-- ---- kinds

abbrev pub OfEach : (Kind → Type 0) → List Kind → Type 0
OfEach P [] = Unit {0}
OfEach P (x ∷ ks) = P x × OfEach P ks

false_true : false ≡ true → ⊥
false_true e = cc

-- what holds of each kind of a list holds of a kind in it
pub among : (P : Kind → Type 0) (ks : List Kind) (kind : Kind) → has lexis ks kind ≡ true → OfEach P ks → P kind
among P [] kind h a = absurd (false_true h)
among P (x ∷ ks) kind h (p, a) = either (same x kind) refl h (λ i. among P ks kind i a)
  where
    either : (b : Bool) → same x kind ≡ b → (b || has lexis ks kind) ≡ true → (has lexis ks kind ≡ true → P kind) → P kind
    either true e i f = subst P (decides.one x kind e) p
    either false e i f = f i
