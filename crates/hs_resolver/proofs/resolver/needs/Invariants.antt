use Rattle.std.proofs.Common.{◌≡◌, ◌++◌, map, drop}
use Rattle.hs_resolver.specs.declared.names.ItemNames.{ItemNames}
use Rattle.hs_resolver.specs.Order.{items_of}
use Rattle.hs_resolver.proofs.resolver.needs.Given as goal

abbrev pub invariant-loop-item : goal.invariant-loop-item
invariant-loop-item l =
    l.needs ++ map (λ (i : ItemNames). items_of i.uses) (drop l.item-index l.items) ≡ map (λ (i : ItemNames). items_of i.uses) l.items
