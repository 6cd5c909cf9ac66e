-- Which tokens a text spells, and what it breaks where it spells none.
use Rattle.std.specs.Prelude.{◌≡◌, ◌≢◌, ◌⊎◌, ℕ, ◌+◌, ◌<◌, ◌≤◌, List, [], ◌∷◌, ◌++◌, length, Option, Some, None, Ok, Err, drop}
pub use Rattle.hs_base.specs.Positions.{place_behind}
use Rattle.hs_base.specs.Positions.{told_at}
use Rattle.hs_base.specs.declared.rule.Rule.TheVariants.{S1}
use Rattle.hs_base.specs.declared.place.Broken.{Broken}
use Rattle.hs_lexer.specs.declared.token.TokenKind.{TokenKind}
use Rattle.hs_lexer.specs.declared.token.Token.{Token}
use Rattle.hs_lexer.specs.declared.piece.Piece.{Piece}
use Rattle.hs_lexer.specs.Pieces.{piece_at}

-- the text is these pieces, one after another, and then the rest: each is the one that begins at its place
abbrev pub Cut : List Piece → List ℕ → List ℕ → Type 0
Cut [] text rest = text ≡ rest
Cut (p ∷ ps) text rest = (piece_at text ≡ Ok p) × Cut ps (drop p.length text) rest

-- a piece's token, which begins at this byte, before further ones; a gap has none
abbrev pub token_before : ℕ → ℕ → Option TokenKind → List Token → List Token
token_before at n None tokens = tokens
token_before at n (Some kind) tokens = record { kind = kind; start = at; end = at + n } ∷ tokens

-- the tokens of the pieces, the first of which begins at this byte
abbrev pub tokens_of : ℕ → List Piece → List Token
tokens_of at [] = []
tokens_of at (p ∷ ps) = token_before at p.length p.kind (tokens_of (at + p.length) ps)

-- the text has at most 262,144 bytes and is cut whole into pieces, whose tokens are these
abbrev pub Lexes : List ℕ → List Token → Type 0
Lexes text tokens =
    (length text ≤ 262144) × ((pieces : List Piece) × Cut pieces text [] × (tokens ≡ tokens_of 0 pieces))

-- the text breaks the rule there: S1 at its beginning where it is too long, otherwise the rule of the first place at which
-- no piece begins
abbrev pub LexBreak : List ℕ → Broken → Type 0
LexBreak text broken =
    ((262144 < length text) × (broken ≡ told_at text S1 0))
    ⊎ ((length text ≤ 262144)
    × ((pieces : List Piece) × (before : List ℕ) × (rest : List ℕ)
    × (text ≡ before ++ rest) × Cut pieces text rest
    × (rest ≢ []) × (piece_at rest ≡ Err broken.rule) × (broken.at ≡ place_behind before)))
