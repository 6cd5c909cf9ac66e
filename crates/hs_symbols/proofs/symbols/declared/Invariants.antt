use Rattle.std.proofs.Common.{◌≡◌, ◌++◌, drop}
use Rattle.hs_symbols.specs.Symbols.{declared_from}
use Rattle.hs_symbols.proofs.symbols.declared.Given as goal

abbrev pub invariant-loop-number : goal.invariant-loop-number
invariant-loop-number l = l.declared ++ declared_from l.number (drop l.number l.items) ≡ declared_from 0 l.items
