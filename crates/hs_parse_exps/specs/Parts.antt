-- Parts of forms that have no name in the grammar.
use Rattle.hs_grammar.specs.Combinators.{word, ◌>>◌}
use Rattle.hs_syntax.specs.declared.span.Span.{Span}
use Rattle.hs_forms.specs.declared.token.Kind.TheVariants as k
use Rattle.hs_forms.specs.Reading.{F, name}

-- 'as' NAME
abbrev pub as_name : F Span
as_name = word k.As >> name
