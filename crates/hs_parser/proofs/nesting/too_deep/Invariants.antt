use Rattle.std.proofs.Common.{◌≡◌, ◌-◌, [], false, length, take, reverse}
use Rattle.hs_parser.specs.Nesting as n
use Rattle.hs_parser.proofs.nesting.too_deep.Given as goal

abbrev pub invariant-loop-place : goal.invariant-loop-place
invariant-loop-place l = (reverse l.unfinished, l.behind_brace) ≡ n.unfinished_after ([], false) (take l.place l.tokens)

abbrev pub decreases-loop-place : goal.decreases-loop-place
decreases-loop-place l = length l.tokens - l.place
