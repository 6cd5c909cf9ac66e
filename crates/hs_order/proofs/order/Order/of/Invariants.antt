use Rattle.std.proofs.Common.{ℕ, [], List, ◌++◌, length}
use Rattle.std.specs.Ordering.{nat_cmp}
use Rattle.std.specs.BTreeSet.{contains}
use Rattle.hs_order.specs.Order.{IsOrder}
use Rattle.hs_order.proofs.Ready.{unlisted}
use Rattle.hs_order.proofs.Steps.{Waiting}
use Rattle.hs_order.proofs.order.Order.of.Given as goal

-- what comes behind the listed ones completes the order
abbrev pub invariant-loop-item : goal.invariant-loop-item
invariant-loop-item l = record {
  waiting : Waiting l.needs l.listed l.counts.items (contains nat_cmp l.ready);
  order : (rest : List ℕ) → IsOrder l.needs l.listed rest → IsOrder l.needs [] (l.listed ++ rest);
}

abbrev pub decreases-loop-item : goal.decreases-loop-item
decreases-loop-item l = unlisted l.listed (length l.needs)
