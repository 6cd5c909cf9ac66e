use Rattle.std.proofs.Common.{◌≡◌, ◌++◌, take}
use Rattle.hs_ops.specs.Standard.{rows_of, for_tuples}
use Rattle.hs_ops.proofs.catalog.push_tuples.Given as goal

abbrev pub invariant-loop-count : goal.invariant-loop-count
invariant-loop-count l = l.entries ≡ l.initial.entries ++ rows_of (for_tuples (take l.count-index l.counts))
