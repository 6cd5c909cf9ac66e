use Rattle.std.proofs.Common.{◌≡◌, ◌<◌, ℕ, length, cond, nat_lt}
use Rattle.hs_order.specs.Counts.{times, list_at}
use Rattle.hs_order.proofs.waits.users.Given as goal

abbrev pub invariant-loop-item : goal.invariant-loop-item
invariant-loop-item l = record {
  each : length l.users.items ≡ length l.needs;
  counts : (item user : ℕ) → item < length l.needs → times user (list_at l.users.items item) ≡ cond (nat_lt user l.item) (times item (list_at l.needs user)) 0;
}
