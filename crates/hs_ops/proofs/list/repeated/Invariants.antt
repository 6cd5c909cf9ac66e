use Rattle.std.proofs.Common.{◌≡◌, replicate}
use Rattle.hs_ops.proofs.list.repeated.Given as goal

abbrev pub invariant-loop-made : goal.invariant-loop-made
invariant-loop-made l = l.values ≡ replicate l._made l.value
