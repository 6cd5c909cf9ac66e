use Rattle.std.proofs.Common.{◌-◌, length}
use Rattle.hs_front.specs.Reading.{body_read, reads}
use Rattle.hs_front.proofs.Bodies.{Going}
use Rattle.hs_front.proofs.parse.body.Given as goal

abbrev pub invariant-loop-tokens : goal.invariant-loop-tokens
invariant-loop-tokens l = Going l.statements l.tokens (reads (body_read 1024) l.fn.tokens)

abbrev pub decreases-loop-tokens : goal.decreases-loop-tokens
decreases-loop-tokens l = 1024 - length l.statements
