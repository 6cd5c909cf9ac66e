use Rattle.std.proofs.Common.{◌-◌}
use Rattle.hs_ops.specs.declared.table.Entry.{Entry}
use Rattle.hs_ops.proofs.Order.{Narrowed}
use Rattle.hs_ops.proofs.table.search.Given as goal

abbrev pub invariant-loop-low : goal.invariant-loop-low
invariant-loop-low l = Narrowed (λ (e : Entry). e.row.name) l.entries l.name l.low l.high

abbrev pub decreases-loop-low : goal.decreases-loop-low
decreases-loop-low l = l.high - l.low
