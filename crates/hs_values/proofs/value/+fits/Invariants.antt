use Rattle.std.proofs.Common.{◌≡◌, drop}
use Rattle.std.specs.Prelude.{map}
use Rattle.hs_values.specs.Fits.{fits, all_fit, each_fits}
use Rattle.hs_values.proofs.value.+fits.Given as goal

abbrev pub invariant-all_of-loop-item : goal.invariant-all_of-loop-item
invariant-all_of-loop-item l =
    all_fit (map (fits l.table) l.item-items) l.ty ≡ all_fit (map (fits l.table) (drop l.item-index l.item-items)) l.ty

abbrev pub invariant-each_of-loop-i : goal.invariant-each_of-loop-i
invariant-each_of-loop-i l =
    each_fits (map (fits l.table) l.parts) l.types ≡ each_fits (map (fits l.table) (drop l.i l.parts)) (drop l.i l.types)
