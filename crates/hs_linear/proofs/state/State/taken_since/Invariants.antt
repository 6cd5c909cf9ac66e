use Rattle.std.proofs.Common.{◌≡◌, not, filter, take}
use Rattle.hs_linear.specs.Sets.{set_of}
use Rattle.hs_linear.proofs.state.State.taken_since.Given as goal

abbrev pub invariant-loop-take : goal.invariant-loop-take
invariant-loop-take l = l.ended.items ≡ filter (λ t. not (set_of l.self.held t.local)) (take l.take-index l.take-items)
