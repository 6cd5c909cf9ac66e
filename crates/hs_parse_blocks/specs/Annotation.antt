-- What may stand behind the pattern of a `let`.
use Rattle.std.specs.Prelude.{Option}
use Rattle.hs_grammar.specs.Combinators.{word, optional, ◌>>◌}
use Rattle.hs_syntax.specs.declared.ty.Ty.{Ty}
use Rattle.hs_forms.specs.declared.token.Kind.TheVariants as k
use Rattle.hs_forms.specs.Reading.{F, type_}

-- (':' Type)?
abbrev pub annotation : F (Option Ty)
annotation = optional (word k.Colon >> type_)
