use Rattle.std.proofs.Common.{◌≡◌, ◌++◌, take}
use Rattle.hs_ops.specs.Standard.{rows_of}
use Rattle.hs_ops.proofs.catalog.push_all.Given as goal

abbrev pub invariant-loop-operation : goal.invariant-loop-operation
invariant-loop-operation l = l.entries ≡ l.initial.entries ++ rows_of (take l.operation-index l.operations)
