use Rattle.std.proofs.Common.{◌≡◌, ◌&&◌, ℕ, nat_eq, nat_lt, slice_index_or}
use Rattle.std.specs.Ordering.{nat_cmp}
use Rattle.std.specs.BTreeSet.{contains}
use Rattle.hs_order.proofs.waits.without_needs.Given as goal

abbrev pub invariant-loop-item : goal.invariant-loop-item
invariant-loop-item l = (item : ℕ) → contains nat_cmp l.ready item ≡ (nat_lt item l.item && nat_eq (slice_index_or l.counts item 0) 0)
