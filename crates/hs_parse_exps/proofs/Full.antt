-- Forms that are never empty.
use Rattle.std.proofs.Common.{◌≡◌, false, refl}
use Rattle.hs_grammar.specs.Form.{Map}
use Rattle.hs_grammar.specs.Lookahead.{empty}
use Rattle.hs_forms.specs.Blocks.{step_of}
use Rattle.hs_forms.specs.Reading.{tables, postfix_form, index, arm_form, arm_pattern, name}
use Rattle.hs_parse_exps.specs.Parts.{as_name}

pub postfix_full : empty tables postfix_form ≡ false
unfolding postfix_form index
postfix_full = refl

pub as_name_full : empty tables as_name ≡ false
as_name_full = refl

pub arm_full : empty tables (Map step_of arm_form) ≡ false
unfolding arm_form arm_pattern name
arm_full = refl
