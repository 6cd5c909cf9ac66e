use Rattle.std.proofs.Common.{◌≡◌, map, take}
use Rattle.hs_front.specs.Symbols.{symbol_of}
use Rattle.hs_front.proofs.symbol.symbols.Given as goal

abbrev pub invariant-loop-token : goal.invariant-loop-token
invariant-loop-token l = l.symbols ≡ map (symbol_of l.text) (take l.token-index l.tokens)
