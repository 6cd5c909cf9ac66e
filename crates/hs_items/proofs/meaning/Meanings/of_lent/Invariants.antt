use Rattle.std.proofs.Common.{◌≡◌, ◌++◌, drop}
use Rattle.hs_items.specs.Meaning.{lent_types}
use Rattle.hs_items.specs.Walk.{stands_in}
use Rattle.hs_items.proofs.meaning.Meanings.of_lent.Given as goal

abbrev pub invariant-loop-param : goal.invariant-loop-param
invariant-loop-param l =
    l.types ++ lent_types l.self.symbols.now (stands_in l.self.items.now) (drop l.param-index l.params) ≡ lent_types l.self.symbols.now (stands_in l.self.items.now) l.params
