-- Where tokens stand in a text, and the bytes that spell them.
use Rattle.std.specs.Prelude.{◌≡◌, ℕ, ◌-◌, ◌≤◌, ◌<◌, List, [], ◌∷◌, true, Ok, length, take, drop}
use Rattle.hs_base.specs.Names.{is_name}
use Rattle.hs_lexer.specs.declared.token.TokenKind.TheVariants.{Name}
use Rattle.hs_lexer.specs.declared.token.Token.{Token}
use Rattle.hs_lexer.specs.Pieces.{kind_of_word}
use Rattle.hs_lexer.specs.Spellings.{is_word}

-- the tokens stand one behind the other between the two places, and each has a byte at least
abbrev pub Placed : ℕ → ℕ → List Token → Type 0
Placed from to [] = from ≤ to
Placed from to (t ∷ ts) = (from ≤ t.start) × (t.start < t.end) × Placed t.end to ts

-- the bytes that spell the token
abbrev pub spelling_of : List ℕ → Token → List ℕ
spelling_of text t = take (t.end - t.start) (drop t.start text)

-- where the token is a name, its bytes are a word that is one
abbrev pub IsNamed : List ℕ → Token → Type 0
IsNamed text t = t.kind ≡ Name → (is_word (spelling_of text t) ≡ true) × (kind_of_word (spelling_of text t) ≡ Ok Name)

-- where the token is a name, its bytes are a name of at most 64 bytes
abbrev pub IsName : List ℕ → Token → Type 0
IsName text t = t.kind ≡ Name → (is_name (spelling_of text t) ≡ true) × (length (spelling_of text t) ≤ 64)
