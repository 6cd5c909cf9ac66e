use Rattle.std.proofs.Common.{◌≡◌, drop}
use Rattle.hs_typing.specs.Locals.{occurs}
use Rattle.hs_typing.proofs.uses.Uses.occurs.Given as goal

abbrev pub invariant-loop-place : goal.invariant-loop-place
invariant-loop-place l = occurs l.self.uses.now l.number l.whole ≡ occurs (drop l.place l.self.uses.now) l.number l.whole
