use Rattle.std.proofs.Common.{◌≡◌, ◌++◌, map, drop}
use Rattle.hs_symbols.specs.Ends.{follow}
use Rattle.hs_symbols.proofs.paths.followed.Given as goal

abbrev pub invariant-loop-way : goal.invariant-loop-way
invariant-loop-way l = l.further ++ map (follow l.ways) (drop l.way-index l.ways) ≡ map (follow l.ways) l.ways
