use Rattle.std.proofs.Common.{◌≡◌, ◌++◌, drop}
use Rattle.hs_items.specs.Meaning.{meanings}
use Rattle.hs_items.specs.Walk.{stands_in}
use Rattle.hs_items.proofs.meaning.Meanings.+meaning.Given as goal

abbrev pub invariant-of_all-loop-ty : goal.invariant-of_all-loop-ty
invariant-of_all-loop-ty l =
    l.all ++ meanings l.self.symbols.now (stands_in l.self.items.now) (drop l.ty-index l.ty-items) ≡ meanings l.self.symbols.now (stands_in l.self.items.now) l.ty-items
