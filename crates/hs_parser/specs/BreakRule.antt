-- The rule that is told where tokens break the grammar.
use Rattle.std.specs.Prelude.{List, [], ◌∷◌, ◌++◌, Bool, false, ◌&&◌, ◌-◌, length, slice_get, Option, Some, None, if◌then◌else◌}
use Rattle.hs_base.specs.declared.rule.Rule.{Rule}
use Rattle.hs_base.specs.declared.rule.Rule.TheVariants.{G1, G2, G3, G4, G5, G6, G7, G8}
use Rattle.hs_grammar.specs.Kinds.{has}
use Rattle.hs_forms.specs.declared.token.Kind.{Kind}
use Rattle.hs_forms.specs.declared.token.Kind.TheVariants as k
use Rattle.hs_forms.specs.declared.token.Token.{Token}
use Rattle.hs_forms.specs.Lexis.{lexis, same}
use Rattle.hs_forms.specs.Reading.{name_kinds}

-- the brackets
abbrev pub opening : List Kind
opening = k.LeftParenthesis ∷ k.LeftBracket ∷ k.LeftBrace ∷ []

abbrev pub closing : List Kind
closing = k.RightParenthesis ∷ k.RightBracket ∷ k.RightBrace ∷ []

unfoldable pub opens : Kind → Bool
opens kind = has lexis opening kind

unfoldable pub closes : Kind → Bool
closes kind = has lexis closing kind

unfoldable pub is_name : Kind → Bool
is_name kind = has lexis name_kinds kind

-- a list without its last item
abbrev pub popped : List Kind → List Kind
popped [] = []
popped (a ∷ []) = []
popped (a ∷ (b ∷ bs)) = a ∷ popped (b ∷ bs)

-- the open brackets behind one more token, the innermost last
unfoldable pub open_behind : List Kind → Kind → List Kind
open_behind brackets kind =
    if opens kind then brackets ++ kind ∷ [] else (if closes kind then popped brackets else brackets)

-- the brackets that are open behind these tokens, where these were open before them
abbrev pub open_after : List Kind → List Token → List Kind
open_after brackets [] = brackets
open_after brackets (t ∷ ts) = open_after (open_behind brackets t.kind) ts

-- where a token cannot stand: in a bracket of this kind
abbrev pub in_bracket : Kind → Rule
in_bracket k.LeftParenthesis = G3
in_bracket k.LeftBracket = G4
in_bracket _ = G5

-- the last item of a list
abbrev pub last_of : {A : Type 0} → List A → Option A
last_of ts = slice_get ts (length ts - 1)

abbrev pub in_innermost : Option Kind → Rule
in_innermost None = G1
in_innermost (Some kind) = in_bracket kind

-- in the innermost of these, or outside brackets
abbrev pub innermost : List Kind → Rule
innermost brackets = in_innermost (last_of brackets)

abbrev pub is_named : Option Token → Bool
is_named None = false
is_named (Some t) = is_name t.kind

-- whether the last of these is a name
abbrev pub ends_in_name : List Token → Bool
ends_in_name before = is_named (last_of before)

-- the rule of a token that cannot stand behind these: the first of a word that the grammar never uses, a macro's `!`, a
-- closing bracket, and where it stands
abbrev pub rule_of : List Token → Kind → Rule
rule_of before kind =
    if same kind k.Unused then G8
    else (if same kind k.Not && ends_in_name before then G7
    else (if closes kind then G6
    else innermost (open_after [] before)))

-- the rule that is told where the tokens break before the rest: behind the last token the file ends too early
unfoldable pub break_rule : List Token → List Token → Rule
break_rule before [] = G2
break_rule before (t ∷ rest) = rule_of before t.kind
