use Rattle.std.proofs.Common.{◌≡◌, [], replicate}
use Rattle.hs_order.proofs.waits.no_users.Given as goal

abbrev pub invariant-loop-item : goal.invariant-loop-item
invariant-loop-item l = l.users.items ≡ replicate l._item []
