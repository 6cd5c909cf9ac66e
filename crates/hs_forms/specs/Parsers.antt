-- The parser of a form of the grammar, and functions that are the parsers of its rules.
use Rattle.std.specs.Prelude.{ℕ, List, Result}
use Rattle.std.specs.declared.alloc.Global.{Global}
use Rattle.std.specs.Fn.{Shared}
use denote.Ref.{MutBor}
use Rattle.hs_grammar.specs.declared.error.ParseError.{ParseError}
use Rattle.hs_grammar.specs.Parser.{Res}
use Rattle.hs_grammar.specs.Reads.{read, Nests}
use Rattle.hs_forms.specs.declared.token.Token.{Token}
use Rattle.hs_forms.specs.Reading.{Rule, value, F, grammar, tables}

-- the parser of a form, where rules inside it nest no deeper than this
abbrev pub reads : ℕ → {A : Type 0} → F A → List Token → Res Token A
reads depth f w = read tables grammar depth f w

-- what is known of calls of functions that take an allocator, the tokens and a depth, and give such values
abbrev pub Parser : Type 0 → Type 0 → Type 1
Parser P A = Shared P (Global × (MutBor (List Token) × (ℕ × Unit {0}))) (Result A ParseError × (MutBor (List Token) × Unit {0}))

-- this function is the parser of the rule, where rules nest no deeper than this
abbrev pub Parses : (N : Rule) {P : Type 0} → Parser P (value N) → ℕ → P → Type 0
Parses N calls depth p =
    Nests tables grammar N depth (λ alloc old n. calls.pre p (alloc, (old, (n, tt)))) (λ alloc old n r new. calls.post p (alloc, (old, (n, tt))) (r, (new, tt)))
