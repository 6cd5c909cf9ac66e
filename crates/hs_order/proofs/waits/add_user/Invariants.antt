use Rattle.std.proofs.Common.{◌≡◌, ◌<◌, ◌+◌, ℕ, take, length, cond, nat_eq}
use Rattle.hs_order.specs.Counts.{times, list_at}
use Rattle.hs_order.proofs.waits.add_user.Given as goal

abbrev pub invariant-loop-need : goal.invariant-loop-need
invariant-loop-need l = (item other : ℕ) → item < length l.fn.users →
    times other (list_at l.users item) ≡ times other (list_at l.fn.users item) + cond (nat_eq other l.user) (times item (take l.need-index l.needs)) 0
