-- What may stand behind the name of a place.
use Rattle.std.specs.Prelude.{Bool}
use Rattle.hs_syntax.specs.declared.exp.Postfix.{Postfix}
use Rattle.hs_forms.specs.Blocks.{is_some, step_in}

-- whether this is an index or a part
unfoldable pub is_step : Postfix → Bool
is_step p = is_some (step_in p)
