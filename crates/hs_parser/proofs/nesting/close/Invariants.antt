use Rattle.std.proofs.Common.{◌≡◌, length, reverse}
use Rattle.hs_parser.specs.Nesting as n
use Rattle.hs_parser.proofs.nesting.close.Given as goal

abbrev pub invariant-loop-kind : goal.invariant-loop-kind
invariant-loop-kind l = n.outside (reverse l.unfinished) ≡ n.outside (reverse l.fn.unfinished)

abbrev pub decreases-loop-kind : goal.decreases-loop-kind
decreases-loop-kind l = length l.unfinished
