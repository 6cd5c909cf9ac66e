-- A list of tokens breaks the grammar at one place.
use Rattle.std.proofs.Common.{◌≡◌, ◌⊎◌, inl, inr, ℕ, List, [], ◌∷◌, ◌++◌, length, refl, sym, ap, ◌∙◌, subst, append_assoc, arith}
use Rattle.hs_grammar.specs.Break.{Breaks, CannotGoOn}
use Rattle.hs_grammar.specs.Whole.{ParseBreak}
use Rattle.hs_forms.specs.declared.token.Token.{Token}
use Rattle.hs_forms.specs.Reading.{RFile}
use Rattle.hs_forms.specs.Written.{written}

-- of two fronts of a list one is a front of the other
fronts : (a b c d : List Token) → a ++ b ≡ c ++ d → ((e : List Token) × (c ≡ a ++ e) × (b ≡ e ++ d)) ⊎ ((e : List Token) × (a ≡ c ++ e) × (d ≡ e ++ b))
fronts [] b c d e = inl (c, refl, e)
fronts (x ∷ a) b [] d e = inr (x ∷ a, refl, sym e)
fronts (x ∷ a) b (y ∷ c) d e =
    let one : x ≡ y = cc in
    let rest : a ++ b ≡ c ++ d = cc in
    elim (fronts a b c d rest) [
      | inl (f, i, j) ↦ inl (f, ap (λ z. z ∷ c) (sym one) ∙ ap (λ l. x ∷ l) i, j)
      | inr (f, i, j) ↦ inr (f, ap (λ z. z ∷ a) one ∙ ap (λ l. y ∷ l) i, j)
    ]

no_further : (w b d : List Token) (h : Breaks written RFile w b) (k : Breaks written RFile w d) (e : List Token) → k.before ≡ h.before ++ e → b ≡ e ++ d → b ≡ d
no_further w b d h k [] i j = j
no_further w b d h k (t ∷ e) i j =
    let over : CannotGoOn written RFile h.before (t ∷ (e ++ d)) = subst (CannotGoOn written RFile h.before) j h.over in
    absurd (over (k.begun (h.before ++ t ∷ []) e (i ∙ sym (append_assoc h.before (t ∷ []) e))))

breaks_once : (w b d : List Token) → Breaks written RFile w b → Breaks written RFile w d → b ≡ d
breaks_once w b d h k = elim (fronts h.before b k.before d (sym h.whole ∙ k.whole)) [
  | inl (e, i, j) ↦ no_further w b d h k e i j
  | inr (e, i, j) ↦ sym (no_further w d b k h e i j)
]

-- the place is determined
pub place_once : (w : List Token) (at to : ℕ) → ParseBreak written RFile w at → ParseBreak written RFile w to → at ≡ to
place_once w at to (b, h, n) (d, k, m) =
    let same : length b ≡ length d = ap length (breaks_once w b d h k) in omega (arith, n, m, same)
