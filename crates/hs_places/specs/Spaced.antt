-- Tokens that stand one behind the other.
use Rattle.std.specs.Prelude.{◌≡◌, ℕ, ◌≤◌, ◌<◌, List, [], ◌∷◌}
use Rattle.hs_grammar.specs.Derives.{Where}
use Rattle.hs_forms.specs.declared.token.Kind.TheVariants as k
use Rattle.hs_forms.specs.declared.token.Token.{Token}
use Rattle.hs_forms.specs.Lexis.{same}

-- the token begins at the place or behind it; the second half of a `>>`, which has the bytes of the first, ends there
abbrev pub Behind : ℕ → Token → Type 0
Behind low t = Where (same t.kind k.ShiftBack) (t.span.end ≡ low) (low ≤ t.span.start)

-- the tokens stand one behind the other between the two places, and each has a byte at least
abbrev pub Spaced : ℕ → ℕ → List Token → Type 0
Spaced low high [] = low ≤ high
Spaced low high (t ∷ ts) = Behind low t × (t.span.start < t.span.end) × Spaced t.span.end high ts
