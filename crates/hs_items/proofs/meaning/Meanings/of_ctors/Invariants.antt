use Rattle.std.proofs.Common.{◌≡◌, ◌++◌, drop}
use Rattle.hs_items.specs.Meaning.{ctors}
use Rattle.hs_items.specs.Walk.{stands_in}
use Rattle.hs_items.proofs.meaning.Meanings.of_ctors.Given as goal

abbrev pub invariant-loop-ctor : goal.invariant-loop-ctor
invariant-loop-ctor l =
    l.all ++ ctors l.self.symbols.now (stands_in l.self.items.now) (drop l.ctor-index l.ctors) ≡ ctors l.self.symbols.now (stands_in l.self.items.now) l.ctors
