use Rattle.std.proofs.Common.{◌≡◌, subst}
use Rattle.hs_ops.specs.declared.operation.Operation.{Operation}
use Rattle.hs_ops.specs.declared.operation.Operation.TheVariants.{Single}
use Rattle.hs_ops.specs.declared.operation.SingleOp.TheVariants.{Same, Differ}
use Rattle.hs_ops.specs.declared.row.OpRow.{OpRow}
use Rattle.hs_ops.specs.Answer.{Tells}
use Rattle.hs_ops.specs.Op.{answer}
use Rattle.hs_ops.specs.Row.{ForKinds, Promised, have_kinds}
use Rattle.hs_ops.specs.Table.{called}
use Rattle.hs_ops.proofs.Accords.{promise_kept}
use Rattle.hs_ops.proofs.Complete.{called_there}
use Rattle.hs_ops.proofs.Entries.{row_is}
use Rattle.hs_ops.proofs.Misfits.{kinds_told}
use Rattle.hs_ops.proofs.Same.{same_tells, differ_tells}
use Rattle.hs_ops.proofs.table.OpTable.apply.Goals as goal

pub returns-clause-named : goal.returns-clause-named
returns-clause-named g c = λ o known name.
    let is = called_there c.args.self.now c.args.op.0 o c.operation.result known c.operation.ensures.known c.operation.ensures.value name in
    subst (λ (x : Operation). Tells c.apply.result (answer x c.args.args)) is c.apply.ensures

pub returns-clause-kinds : goal.returns-clause-kinds
returns-clause-kinds g c = λ row at.
    let is = row_is c.args.self.now c.args.op.0 c.operation.result row c.operation.ensures.value at in
    let told = kinds_told c.operation.result c.args.args c.apply.result c.operation.ensures.known c.apply.ensures in
    subst (λ (r : OpRow). ForKinds c.apply.result (have_kinds r.args c.args.args)) is told

pub returns-clause-promise : goal.returns-clause-promise
returns-clause-promise g c = λ row at.
    let is = row_is c.args.self.now c.args.op.0 c.operation.result row c.operation.ensures.value at in
    let kept = promise_kept (called c.args.self.now c.operation.result) c.operation.result c.args.args c.apply.result c.apply.ensures in
    subst (λ (r : OpRow). Promised c.apply.result r) is kept

pub returns-clause-same : goal.returns-clause-same
returns-clause-same g c = λ a b at args.
    let is : c.operation.result ≡ Single Same = cc (at, c.operation.ensures.value) in
    same_tells c.apply.result a b (rw (is, args) at c.apply.ensures)

pub returns-clause-differ : goal.returns-clause-differ
returns-clause-differ g c = λ a b at args.
    let is : c.operation.result ≡ Single Differ = cc (at, c.operation.ensures.value) in
    differ_tells c.apply.result a b (rw (is, args) at c.apply.ensures)
