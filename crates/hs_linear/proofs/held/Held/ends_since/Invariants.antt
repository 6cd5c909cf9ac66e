use Rattle.std.proofs.Common.{◌≡◌, map, take}
use Rattle.hs_linear.specs.Sets.{set_of, ended_at}
use Rattle.hs_linear.proofs.held.Held.ends_since.Given as goal

abbrev pub invariant-loop-local : goal.invariant-loop-local
invariant-loop-local l = l.ends.items ≡ map (ended_at (set_of l.self)) (take l.local-index l.local-items)
