use Rattle.hs_symbols.specs.Ends.{Reached, doublings}
use Rattle.hs_symbols.proofs.symbols.Symbols.ends.Given as goal

abbrev pub invariant-loop : goal.invariant-loop
invariant-loop l = Reached l.self.text l.self.items (doublings l.counter) l.ways
