use Rattle.std.proofs.Common.{take}
use Rattle.hs_items.specs.Meaning.{known}
use Rattle.hs_items.proofs.Listed.{Stands}
use Rattle.hs_items.proofs.listing.list_all.Given as goal

abbrev pub invariant-loop-place : goal.invariant-loop-place
invariant-loop-place l = Stands l.symbols (take l.place-index l.order) (known l.symbols l.order).table l.decls
