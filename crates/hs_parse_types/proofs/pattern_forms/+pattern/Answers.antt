use Rattle.std.proofs.Common.{◌-◌, arith}
use Rattle.hs_forms.specs.Reading.{RPat}
use Rattle.hs_parse_types.proofs.Nesting.{reads_rule}
use Rattle.hs_parse_types.proofs.pattern_forms.+pattern.Goals as goal

pub returns : goal.returns
returns t c = reads_rule RPat (c.args.depth - 1) c.args.depth c.args.tokens.now c.pat_form.new.tokens c.pat_form.result (omega arith) c.pat_form.ensures
