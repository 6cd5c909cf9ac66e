use Rattle.std.proofs.Common.{length}
use Rattle.hs_ops.proofs.Lists.{Written}
use Rattle.hs_ops.proofs.list.written.Given as goal

abbrev pub invariant-loop-last : goal.invariant-loop-last
invariant-loop-last l = Written l.initial.row l.start l.initial.items l.row l.items

abbrev pub decreases-loop-last : goal.decreases-loop-last
decreases-loop-last l = length l.items
