use Rattle.std.proofs.Common.{suc, append_assoc, arith}
use Rattle.std.proofs.lemmas.List.{append-nil}
use Rattle.hs_ops.proofs.byte.bytes_of.Goals as goal

pub loop-done-preserved : goal.loop-done-preserved
loop-done-preserved c = λ m e. rw (c.in_ok-push.ensures.items, append_assoc) (c.loop-done.invariant (suc m) (omega arith))

pub returns : goal.returns
returns c = rw append-nil at (c.loop-done.invariant 0 (omega arith))
