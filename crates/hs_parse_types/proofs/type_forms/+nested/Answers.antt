use Rattle.std.proofs.Common.{◌-◌, arith}
use Rattle.hs_forms.specs.Reading.{RType, RMaybe}
use Rattle.hs_parse_types.proofs.Nesting.{reads_rule}
use Rattle.hs_parse_types.proofs.type_forms.+nested.Goals as goal

pub maybe_open-returns : goal.maybe_open-returns
maybe_open-returns t c = reads_rule RMaybe (c.args.depth - 1) c.args.depth c.args.tokens.now c.maybe_form.new.tokens c.maybe_form.result (omega arith) c.maybe_form.ensures

pub ty-returns : goal.ty-returns
ty-returns t c = reads_rule RType (c.args.depth - 1) c.args.depth c.args.tokens.now c.type_form.new.tokens c.type_form.result (omega arith) c.type_form.ensures
