use Rattle.std.proofs.Common.{refl}
use Rattle.hs_ops.proofs.Runs.{tuples_first, tuples_more}
use Rattle.hs_ops.proofs.catalog.push_tuples.Goals as goal

pub loop-count-init : goal.loop-count-init
loop-count-init c = tuples_first _ c.args.counts.now

pub loop-count-preserved : goal.loop-count-preserved
loop-count-preserved c = tuples_more _ _ _ c.loop-count.count-index c.args.counts.now _ _ _ c.loop-count-test.true refl c.loop-count.invariant c.for_tuple.ensures c.in_ok-push_all.ensures
