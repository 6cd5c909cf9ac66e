use Rattle.std.proofs.Common.{◌≡◌, length}
use Rattle.hs_scope.specs.Scope.{oldest}
use Rattle.hs_scope.proofs.scope.Scope.leave.Given as goal

abbrev pub invariant-loop-self : goal.invariant-loop-self
invariant-loop-self l = oldest l.kept l.self ≡ oldest l.kept l.fn.self

abbrev pub decreases-loop-self : goal.decreases-loop-self
decreases-loop-self l = length l.self
