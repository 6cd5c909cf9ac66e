use Rattle.std.proofs.Common.{◌≡◌, drop}
use Rattle.hs_symbols.specs.Symbols.{ctor_place}
use Rattle.hs_symbols.proofs.paths.Paths.ctor_place.Given as goal

abbrev pub invariant-loop-place : goal.invariant-loop-place
invariant-loop-place l =
    ctor_place l.self.text l.self.items 0 l.name l.ctors
    ≡ ctor_place l.self.text l.self.items l.place l.name (drop l.place l.ctors)
