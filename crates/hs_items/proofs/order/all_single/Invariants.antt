use Rattle.std.proofs.Common.{◌≡◌, length}
use Rattle.hs_items.specs.Walk.{AllSingle}
use Rattle.hs_items.proofs.order.all_single.Given as goal

abbrev pub invariant-loop-item : goal.invariant-loop-item
invariant-loop-item l = record { singles : AllSingle l.all; count : length l.all ≡ l._item }
