use Rattle.std.proofs.Common.{◌≡◌, replicate}
use Rattle.hs_items.specs.declared.decls.Declaration.TheVariants.{Nothing}
use Rattle.hs_items.proofs.listing.all_nothing.Given as goal

abbrev pub invariant-loop-item : goal.invariant-loop-item
invariant-loop-item l = l.all ≡ replicate l._item Nothing
