use Rattle.std.proofs.Common.{◌≡◌, [], map, take, drop}
use Rattle.hs_front.specs.Scope.{text_at}
use Rattle.hs_front.specs.Walk.{param_walk}
use Rattle.hs_front.proofs.resolve.Resolver.once.Given as goal

abbrev pub invariant-loop-number : goal.invariant-loop-number
invariant-loop-number l =
    param_walk l.fn.self.text.now (map (text_at l.fn.self.text.now) (take l.number l.names)) (drop l.number l.names) ≡ param_walk l.fn.self.text.now [] l.fn.names
