use Rattle.std.proofs.Common.{◌≡◌, take}
use Rattle.hs_ops.proofs.list.copies.Given as goal

abbrev pub invariant-loop-item : goal.invariant-loop-item
invariant-loop-item l = l.copies ≡ take l.item-index l.items
