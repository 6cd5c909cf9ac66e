-- The kinds of words and marks, by which the grammar tells tokens apart.
use Rattle.std.specs.Prelude.{ℕ, List, [], ◌∷◌, bytes_eq, codes, if◌then◌else◌}
use Rattle.std.specs.Str.{all_ascii_digits}
use Rattle.hs_lexer.specs.declared.token.TokenKind.{TokenKind}
use Rattle.hs_lexer.specs.declared.token.TokenKind.TheVariants as token
use Rattle.hs_forms.specs.declared.token.Kind.{Kind}
use Rattle.hs_forms.specs.declared.token.Kind.TheVariants as k

-- the kind that a table names for these bytes, and another one where it names none
abbrev pub named : List (List ℕ × Kind) → Kind → List ℕ → Kind
named [] other bytes = other
named (row ∷ rows) other bytes = if bytes_eq bytes row.0 then row.1 else named rows other bytes

-- the reserved words that the grammar uses
abbrev pub reserved : List (List ℕ × Kind)
reserved =
    (codes "as", k.As) ∷ (codes "const", k.Const) ∷ (codes "else", k.Else) ∷ (codes "enum", k.Enum)
    ∷ (codes "false", k.False) ∷ (codes "fn", k.Fn) ∷ (codes "for", k.For) ∷ (codes "if", k.If)
    ∷ (codes "in", k.In) ∷ (codes "let", k.Let) ∷ (codes "match", k.Match) ∷ (codes "mut", k.Mut)
    ∷ (codes "pub", k.Pub) ∷ (codes "return", k.Return) ∷ (codes "struct", k.Struct) ∷ (codes "true", k.True)
    ∷ (codes "type", k.Type) ∷ (codes "use", k.Use) ∷ []

-- the names that stand for themselves somewhere in the grammar
abbrev pub names : List (List ℕ × Kind)
names =
    (codes "array", k.Array) ∷ (codes "bytes", k.Bytes) ∷ (codes "nat_mod", k.NatMod)
    ∷ (codes "hacspec_lib", k.HacspecLib) ∷ (codes "derive", k.Derive) ∷ (codes "type_name", k.TypeName)
    ∷ (codes "type_of_canvas", k.TypeOfCanvas) ∷ (codes "bit_size_of_field", k.BitSizeOfField)
    ∷ (codes "modulo_value", k.ModuloValue) ∷ []

-- the marks of one byte
abbrev pub short_marks : List (List ℕ × Kind)
short_marks =
    (codes "(", k.LeftParenthesis) ∷ (codes ")", k.RightParenthesis) ∷ (codes "[", k.LeftBracket)
    ∷ (codes "]", k.RightBracket) ∷ (codes "{", k.LeftBrace) ∷ (codes "}", k.RightBrace) ∷ (codes ",", k.Comma)
    ∷ (codes ";", k.Semicolon) ∷ (codes ":", k.Colon) ∷ (codes ".", k.Dot) ∷ (codes "?", k.Question)
    ∷ (codes "#", k.Hash) ∷ (codes "_", k.Underscore) ∷ (codes "=", k.Equals) ∷ (codes "<", k.Less)
    ∷ (codes ">", k.Greater) ∷ (codes "+", k.Plus) ∷ (codes "-", k.Minus) ∷ (codes "*", k.Star)
    ∷ (codes "/", k.Slash) ∷ (codes "%", k.Percent) ∷ (codes "&", k.And) ∷ (codes "|", k.Or) ∷ (codes "^", k.Caret)
    ∷ (codes "!", k.Not) ∷ []

-- the marks of two and three bytes; of `>>` the first half
abbrev pub long_marks : List (List ℕ × Kind)
long_marks =
    (codes "::", k.PathSeparator) ∷ (codes "..", k.DotDot) ∷ (codes "->", k.Arrow) ∷ (codes "=>", k.FatArrow)
    ∷ (codes "&&", k.AndAnd) ∷ (codes "||", k.OrOr) ∷ (codes "<<", k.ShiftLeft) ∷ (codes ">>", k.ShiftFront) ∷ (codes "==", k.EqualsEquals)
    ∷ (codes "!=", k.NotEquals) ∷ (codes "<=", k.LessEquals) ∷ (codes ">=", k.GreaterEquals)
    ∷ (codes "+=", k.PlusEquals) ∷ (codes "-=", k.MinusEquals) ∷ (codes "*=", k.StarEquals)
    ∷ (codes "/=", k.SlashEquals) ∷ (codes "%=", k.PercentEquals) ∷ (codes "&=", k.AndEquals)
    ∷ (codes "|=", k.OrEquals) ∷ (codes "^=", k.CaretEquals) ∷ (codes "<<=", k.ShiftLeftEquals)
    ∷ (codes ">>=", k.ShiftRightEquals) ∷ []

-- a reserved word
unfoldable pub reserved_kind : List ℕ → Kind
reserved_kind bytes = named reserved k.Unused bytes

-- a name
unfoldable pub name_kind : List ℕ → Kind
name_kind bytes = named names k.Name bytes

-- a mark; of `>>` the first half
unfoldable pub mark_kind : List ℕ → Kind
mark_kind bytes = named short_marks (named long_marks k.Unused bytes) bytes

-- an integer: whether it has decimal digits alone
abbrev pub number_kind : List ℕ → Kind
number_kind bytes = if all_ascii_digits bytes then k.Digits else k.Int

-- the kind of a token with these bytes, and of the first half of a `>>`
unfoldable pub kind_of : TokenKind → List ℕ → Kind
kind_of token.Name bytes = name_kind bytes
kind_of token.Reserved bytes = reserved_kind bytes
kind_of (token.Int value suffix) bytes = number_kind bytes
kind_of token.Text bytes = k.Text
kind_of token.Mark bytes = mark_kind bytes
