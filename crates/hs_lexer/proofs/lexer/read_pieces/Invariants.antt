use Rattle.std.proofs.Common.{◌-◌, ◌≤◌, length}
use Rattle.hs_lexer.specs.Places.{Placed}
use Rattle.hs_lexer.proofs.Cuts.{Read}
use Rattle.hs_lexer.proofs.lexer.read_pieces.Given as goal

abbrev pub invariant-loop-at : goal.invariant-loop-at
invariant-loop-at l = Read l.bytes l.at l.tokens × Placed 0 l.at l.tokens × (l.at ≤ length l.bytes)

abbrev pub decreases-loop-at : goal.decreases-loop-at
decreases-loop-at l = length l.bytes - l.at
