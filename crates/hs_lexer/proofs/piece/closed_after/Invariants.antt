use Rattle.std.proofs.Common.{◌≡◌, ◌≤◌, ◌-◌, length}
use Rattle.hs_lexer.specs.Pieces.{closed_after}
use Rattle.hs_lexer.proofs.Closings.{closed_from}
use Rattle.hs_lexer.proofs.piece.closed_after.Given as goal

abbrev pub invariant-loop-at : goal.invariant-loop-at
invariant-loop-at l = (closed_after 0 l.inside ≡ closed_from l.depth l.at l.inside) × (l.depth ≤ l.at) × (l.at ≤ length l.inside)

abbrev pub decreases-loop-at : goal.decreases-loop-at
decreases-loop-at l = length l.inside - l.at
