use Rattle.hs_ops.proofs.Lists.{written_more}
use Rattle.hs_ops.proofs.list.written.Goals as goal

pub loop-last-preserved : goal.loop-last-preserved
loop-last-preserved c = rw c.set.ensures (written_more _ _ _ _ _ c.in-Some.last c.args.start _ c.requires c.in-Some.ensures c.len.ensures c.loop-last.invariant)
