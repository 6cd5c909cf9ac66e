-- The names of places.
use Rattle.std.proofs.Common.{ℕ, zero, suc, ◌≤◌, ◌≡◌, refl, ap, List, [], ◌∷◌, ◌++◌, map, drop, length, arith}
use Rattle.hs_syntax.specs.declared.span.Span.{Span}
use Rattle.hs_syntax.specs.Texts.{bytes_at}

-- the names behind the first so many of one place more
pub names_more : (text : List ℕ) (start : ℕ) (places : List Span) (s : Span) → start ≤ length places
    → map (bytes_at text) (drop start places) ++ bytes_at text s ∷ [] ≡ map (bytes_at text) (drop start (places ++ s ∷ []))
names_more text zero [] s l = refl
names_more text zero (q ∷ qs) s l = ap (λ (names : List (List ℕ)). bytes_at text q ∷ names) (names_more text zero qs s (omega arith))
names_more text (suc n) [] s l = absurd (omega (arith, l))
names_more text (suc n) (q ∷ qs) s l = names_more text n qs s (omega (arith, l))
