use Rattle.std.proofs.Common.{◌≡◌, [], length}
use Rattle.hs_parser.specs.BreakRule as b
use Rattle.hs_parser.proofs.break_rule.open_after.Given as goal

abbrev pub invariant-loop-rest : goal.invariant-loop-rest
invariant-loop-rest l = b.open_after l.brackets l.rest ≡ b.open_after [] l.fn.before

abbrev pub decreases-loop-rest : goal.decreases-loop-rest
decreases-loop-rest l = length l.rest
