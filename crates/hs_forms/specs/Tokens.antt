-- The tokens of a text as the grammar sees them.
use Rattle.std.specs.Prelude.{ℕ, List, [], ◌∷◌, ◌++◌, Option, None, if◌then◌else◌}
use Rattle.hs_words.specs.declared.kinds.IntTy.{IntTy}
use Rattle.hs_lexer.specs.declared.token.TokenKind.{TokenKind}
use Rattle.hs_lexer.specs.declared.token.TokenKind.TheVariants as token
use Rattle.hs_lexer.specs.declared.token.Token.{Token as Spelled}
use Rattle.hs_lexer.specs.Places.{spelling_of}
use Rattle.hs_forms.specs.declared.token.Kind.{Kind}
use Rattle.hs_forms.specs.declared.token.Kind.TheVariants as k
use Rattle.hs_forms.specs.declared.token.Token.{Token}
use Rattle.hs_forms.specs.Lexis.{same}
use Rattle.hs_forms.specs.Kinds.{kind_of}

-- the value of an integer, and 0 of any other token
abbrev pub value_of : TokenKind → ℕ
value_of token.Name = 0
value_of token.Reserved = 0
value_of (token.Int value suffix) = value
value_of token.Text = 0
value_of token.Mark = 0

-- the suffix of an integer
abbrev pub suffix_of : TokenKind → Option IntTy
suffix_of token.Name = None
suffix_of token.Reserved = None
suffix_of (token.Int value suffix) = suffix
suffix_of token.Text = None
suffix_of token.Mark = None

-- a token of this kind at the place of another
abbrev pub placed : Kind → Spelled → Token
placed kind t =
    record { kind = kind; span = record { start = t.start; end = t.end }; value = value_of t.kind; suffix = suffix_of t.kind }

-- a token of this kind, and behind the first half of a `>>` the second
abbrev pub both : Kind → Spelled → List Token
both kind t = if same kind k.ShiftFront then placed k.ShiftFront t ∷ placed k.ShiftBack t ∷ [] else placed kind t ∷ []

-- what the grammar sees of a token of this text
abbrev pub seen : List ℕ → Spelled → List Token
seen text t = both (kind_of t.kind (spelling_of text t)) t

-- what it sees of all tokens
unfoldable pub tokens_of : List ℕ → List Spelled → List Token
tokens_of text [] = []
tokens_of text (t ∷ ts) = seen text t ++ tokens_of text ts
