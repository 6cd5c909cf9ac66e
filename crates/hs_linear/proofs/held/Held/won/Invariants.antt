use Rattle.std.proofs.Common.{◌≡◌, take}
use Rattle.hs_linear.specs.Sets.{set_of, won_by}
use Rattle.hs_linear.proofs.held.Held.won.Given as goal

abbrev pub invariant-loop-local : goal.invariant-loop-local
invariant-loop-local l = l.locals.items ≡ won_by (set_of l.self) (take l.local-index l.ends)
