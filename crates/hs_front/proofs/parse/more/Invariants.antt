use Rattle.std.proofs.Common.{◌-◌, length}
use Rattle.hs_front.specs.Written.{addend}
use Rattle.hs_front.specs.Reading.{more, reads}
use Rattle.hs_front.specs.Lookahead.{addend_full}
use Rattle.hs_front.proofs.Repeats.{Going}
use Rattle.hs_front.proofs.parse.more.Given as goal

abbrev pub invariant-loop-tokens : goal.invariant-loop-tokens
invariant-loop-tokens l = Going addend addend_full 61 (λ ps. ps) l.parts l.tokens (reads more l.fn.tokens)

abbrev pub decreases-loop-tokens : goal.decreases-loop-tokens
decreases-loop-tokens l = 61 - length l.parts
