use Rattle.std.proofs.Common.{◌≡◌, ◌-◌, length, take}
use Rattle.hs_typing.specs.Locals.{entry_of}
use Rattle.hs_typing.specs.Held.{scope_in}
use Rattle.hs_typing.proofs.locals.Locals.find.Given as goal

abbrev pub invariant-loop-back : goal.invariant-loop-back
invariant-loop-back l = entry_of l.number (scope_in l.bound) ≡ entry_of l.number (scope_in (take (length l.bound - l.back) l.bound))
