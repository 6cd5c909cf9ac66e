-- How deeply tokens nest: how much is unfinished at once.
use Rattle.std.specs.Prelude.{ℕ, ◌+◌, ◌<◌, List, [], ◌∷◌, Bool, false, ◌&&◌, ◌||◌, length, take, if◌then◌else◌}
use Rattle.hs_grammar.specs.Kinds.{has}
use Rattle.hs_forms.specs.declared.token.Kind.{Kind}
use Rattle.hs_forms.specs.declared.token.Kind.TheVariants as k
use Rattle.hs_forms.specs.declared.token.Token.{Token}
use Rattle.hs_forms.specs.Lexis.{lexis, same}
use Rattle.hs_forms.specs.Reading.{assign_kinds, is_name}
use Rattle.hs_parser.specs.BreakRule.{opens, closes}

-- prefixes and operators, but comparisons
abbrev pub operators : List Kind
operators = k.Not ∷ k.Star ∷ k.Minus ∷ k.Slash ∷ k.Percent ∷ k.Plus ∷ k.ShiftLeft ∷ k.ShiftFront ∷ k.And ∷ k.Caret ∷ k.Or ∷ []

-- comparisons, and what joins them; `<` and `>` enclose types too
abbrev pub comparisons : List Kind
comparisons =
    k.EqualsEquals ∷ k.NotEquals ∷ k.Less ∷ k.LessEquals ∷ k.Greater ∷ k.GreaterEquals ∷ k.AndAnd ∷ k.OrOr ∷ []

-- words before an expression or a block
abbrev pub branching : List Kind
branching = k.If ∷ k.Match ∷ k.Else ∷ []

-- whether a token of this kind waits for what stands behind it
unfoldable pub waits : Kind → Bool
waits kind =
    has lexis operators kind || (has lexis comparisons kind || (has lexis assign_kinds kind || has lexis branching kind))

-- what ends a statement or an arm's pattern, or begins a statement
abbrev pub dividing : List Kind
dividing = k.Semicolon ∷ k.FatArrow ∷ k.Let ∷ k.For ∷ k.Return ∷ []

-- what begins an item
abbrev pub declaring : List Kind
declaring = k.Fn ∷ k.Const ∷ k.Type ∷ k.Struct ∷ k.Enum ∷ k.Use ∷ k.Pub ∷ k.Hash ∷ []

-- what goes on with no expression, so that behind a `}` it begins a statement or an arm
abbrev pub beginning : List Kind
beginning = k.If ∷ k.Match ∷ k.Int ∷ k.Digits ∷ k.True ∷ k.False ∷ []

-- whether what stands before a token of this kind in the same bracket is finished, where the one before it is a `}` or not
unfoldable pub divides : Bool → Kind → Bool
divides behind_brace kind =
    has lexis dividing kind || (has lexis declaring kind || (behind_brace && (is_name kind || has lexis beginning kind)))

-- what is unfinished, the innermost first, without what is so inside the innermost bracket
abbrev pub to_bracket : List Kind → List Kind
to_bracket [] = []
to_bracket (kind ∷ around) = if opens kind then kind ∷ around else to_bracket around

-- and without that bracket
abbrev pub outside : List Kind → List Kind
outside [] = []
outside (kind ∷ around) = if opens kind then around else outside around

-- what is unfinished before a token of this kind itself is
unfoldable pub before : List Kind → Bool → Kind → List Kind
before unfinished behind_brace kind =
    if closes kind then outside unfinished else (if divides behind_brace kind then to_bracket unfinished else unfinished)

-- what is unfinished behind a token of this kind
unfoldable pub behind : List Kind → Bool → Kind → List Kind
behind unfinished behind_brace kind =
    if opens kind || waits kind then kind ∷ before unfinished behind_brace kind else before unfinished behind_brace kind

-- what is unfinished behind these tokens, and whether the last of them is a `}`, where this is so before them
abbrev pub unfinished_after : List Kind × Bool → List Token → List Kind × Bool
unfinished_after state [] = state
unfinished_after state (t ∷ ts) = unfinished_after (behind state.0 state.1 t.kind, same t.kind k.RightBrace) ts

-- how many open brackets and tokens that wait are unfinished behind these tokens
unfoldable pub nesting : List Token → ℕ
nesting tokens = length (unfinished_after ([], false) tokens).0

-- so much nesting is always read
abbrev pub least_depth : ℕ
least_depth = 320

-- behind the token at this place more nests than is always read
abbrev pub NestsAt : List Token → ℕ → Type 0
NestsAt tokens place = least_depth < nesting (take (place + 1) tokens)
