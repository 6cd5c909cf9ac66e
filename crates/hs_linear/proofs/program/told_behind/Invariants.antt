use Rattle.std.proofs.Common.{map, drop}
use Rattle.hs_linear.specs.Seen.{gives}
use Rattle.hs_linear.proofs.Steps.{Front}
use Rattle.hs_linear.proofs.program.told_behind.Given as goal

abbrev pub invariant-loop-param : goal.invariant-loop-param
invariant-loop-param l = Front (gives (map (λ p. p.local) l.param-items)) (gives (map (λ p. p.local) (drop l.param-index l.param-items))) l.initial.state l.state
