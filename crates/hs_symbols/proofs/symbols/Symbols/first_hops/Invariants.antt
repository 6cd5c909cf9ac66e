use Rattle.std.proofs.Common.{◌≡◌, ◌++◌, map, drop}
use Rattle.hs_syntax.specs.declared.item.Item.{Item}
use Rattle.hs_symbols.specs.Symbols.{target, way_from}
use Rattle.hs_symbols.proofs.symbols.Symbols.first_hops.Given as goal

abbrev pub invariant-loop-item : goal.invariant-loop-item
invariant-loop-item l =
    l.ways ++ map (λ (i : Item). way_from l.self.text l.self.items (target i.kind)) (drop l.item-index l.item-items)
    ≡ map (λ (i : Item). way_from l.self.text l.self.items (target i.kind)) l.self.items
