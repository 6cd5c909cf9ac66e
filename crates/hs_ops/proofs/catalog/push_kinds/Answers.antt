use Rattle.std.proofs.Common.{refl}
use Rattle.hs_ops.proofs.Runs.{kinds_first, kinds_more}
use Rattle.hs_ops.proofs.catalog.push_kinds.Goals as goal

pub loop-kind-init : goal.loop-kind-init
loop-kind-init c = kinds_first _ c.args.kinds.now

pub loop-kind-preserved : goal.loop-kind-preserved
loop-kind-preserved c = kinds_more _ _ _ c.loop-kind.kind-index c.args.kinds.now _ _ _ c.loop-kind-test.true refl c.loop-kind.invariant c.for_kind.ensures c.in_ok-push_all.ensures
