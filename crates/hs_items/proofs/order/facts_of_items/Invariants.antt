use Rattle.std.proofs.Common.{◌≡◌, length, take}
use Rattle.hs_items.specs.Meaning.{known}
use Rattle.hs_items.specs.Walk.{AgreeWith}
use Rattle.hs_items.proofs.order.facts_of_items.Given as goal

abbrev pub invariant-loop-place : goal.invariant-loop-place
invariant-loop-place l = record { agree : AgreeWith l.symbols (known l.symbols (take l.place-index l.order)) l.all; count : length l.all ≡ length l.symbols.items }
