use Rattle.std.proofs.Common.{◌≡◌, length, reverse}
use Rattle.hs_parser.specs.Nesting as n
use Rattle.hs_parser.proofs.nesting.divide.Given as goal

abbrev pub invariant-loop-kind : goal.invariant-loop-kind
invariant-loop-kind l = n.to_bracket (reverse l.unfinished) ≡ n.to_bracket (reverse l.fn.unfinished)

abbrev pub decreases-loop-kind : goal.decreases-loop-kind
decreases-loop-kind l = length l.unfinished
