use Rattle.std.proofs.Common.{refl}
use Rattle.hs_ops.proofs.Runs.{rows_first, rows_more}
use Rattle.hs_ops.proofs.catalog.push_all.Goals as goal

pub loop-operation-init : goal.loop-operation-init
loop-operation-init c = rows_first _ c.args.operations.now

pub loop-operation-preserved : goal.loop-operation-preserved
loop-operation-preserved c = rows_more _ _ _ c.loop-operation.operation-index c.args.operations.now _ _ c.loop-operation-test.true refl c.loop-operation.invariant c.in_ok-push_known.ensures
