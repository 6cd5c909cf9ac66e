use Rattle.std.proofs.Common.{◌≡◌, ◌++◌, take}
use Rattle.hs_ops.specs.Standard.{rows_of, for_kinds}
use Rattle.hs_ops.proofs.catalog.push_kinds.Given as goal

abbrev pub invariant-loop-kind : goal.invariant-loop-kind
invariant-loop-kind l = l.entries ≡ l.initial.entries ++ rows_of (for_kinds (take l.kind-index l.kinds))
