use Rattle.std.proofs.Common.{length}
use Rattle.hs_parser.proofs.stack.Stack.close_bracket.Given as goal

abbrev pub decreases-loop-outer : goal.decreases-loop-outer
decreases-loop-outer l = length l.self.around
