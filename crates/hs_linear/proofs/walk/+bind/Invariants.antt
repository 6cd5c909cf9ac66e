use Rattle.std.proofs.Common.{map, drop}
use Rattle.hs_linear.specs.Seen.{gives}
use Rattle.hs_linear.specs.Nodes as n
use Rattle.hs_linear.proofs.Steps.{Front}
use Rattle.hs_linear.proofs.walk.+bind.Given as goal

abbrev pub invariant-bind_all-loop-pattern : goal.invariant-bind_all-loop-pattern
invariant-bind_all-loop-pattern l =
    Front (gives (n.all (map n.bound l.pattern-items))) (gives (n.all (map n.bound (drop l.pattern-index l.pattern-items)))) l.initial.state l.state
