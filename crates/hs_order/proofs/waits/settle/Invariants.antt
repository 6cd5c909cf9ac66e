use Rattle.std.proofs.Common.{◌≡◌, ◌+◌, ◌||◌, ◌&&◌, ℕ, take, nat_eq, slice_index_or}
use Rattle.std.specs.Ordering.{nat_cmp}
use Rattle.std.specs.BTreeSet.{contains}
use Rattle.hs_order.specs.Order.{has}
use Rattle.hs_order.specs.Counts.{times}
use Rattle.hs_order.proofs.waits.settle.Given as goal

-- what is taken for the users so far
abbrev pub invariant-loop-user : goal.invariant-loop-user
invariant-loop-user l = record {
  taken : (item : ℕ) → slice_index_or l.counts item 0 + times item (take l.user-index l.users) ≡ slice_index_or l.fn.counts item 0;
  ready : (item : ℕ) → contains nat_cmp l.ready item ≡ (contains nat_cmp l.fn.ready item || (has (take l.user-index l.users) item && nat_eq (slice_index_or l.counts item 0) 0));
}
