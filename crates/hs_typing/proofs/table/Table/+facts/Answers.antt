use Rattle.std.proofs.Common.{◌∙◌, ap, arith}
use Rattle.hs_values.specs.declared.types.ValType.{ValType}
use Rattle.hs_items.specs.Walk.{limited}
use Rattle.hs_typing.specs.Types.{asked_of}
use Rattle.hs_typing.proofs.Measured.{of_result, row_more}
use Rattle.hs_typing.proofs.table.Table.+facts.Goals as goal

pub facts_of-returns-in-Result : goal.facts_of-returns-in-Result
facts_of-returns-in-Result t c =
    let asked = λ (t : ValType). limited (asked_of c.args.self.now.types.now t) in
    of_result c.args.self.now.types.now c.args.ty.now c.in-Result.good c.in-Result.bad c.facts_of-good.result c.facts_of-in-Result.result c.joined.result c.over-in-Result.result c.in-Result.is
    (c.facts_of-good.ensures ∙ ap asked c.get-in-Result.ensures) (c.facts_of-in-Result.ensures ∙ ap asked c.get-in-Result-2.ensures) c.joined.ensures c.over-in-Result.ensures

pub facts_of_all-loop-back-preserved : goal.facts_of_all-loop-back-preserved
facts_of_all-loop-back-preserved t c =
    row_more c.args.self.now.types.now c.as_slice-types.result.now c.loop-back.back c.index-types-count.result c.facts_of.result c.loop-back.row c.joined-row.result (omega arith) c.index-types-count.is c.facts_of.ensures
    c.loop-back.invariant c.joined-row.ensures
