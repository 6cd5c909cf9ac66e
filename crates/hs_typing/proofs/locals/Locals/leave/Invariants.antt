use Rattle.std.proofs.Common.{◌≡◌, length}
use Rattle.hs_typing.specs.Locals.{oldest}
use Rattle.hs_typing.specs.Held.{scope_of, typed_of}
use Rattle.hs_typing.proofs.locals.Locals.leave.Given as goal

abbrev pub invariant-loop-self : goal.invariant-loop-self
invariant-loop-self l = record { kept : oldest l.kept (scope_of l.self) ≡ oldest l.kept (scope_of l.fn.self); typed : typed_of l.self ≡ typed_of l.fn.self }

abbrev pub decreases-loop-self : goal.decreases-loop-self
decreases-loop-self l = length (scope_of l.self)
