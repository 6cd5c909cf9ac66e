use Rattle.std.proofs.Common.{◌≡◌, map, drop, bytes_eq}
use Rattle.std.specs.List.{list_any}
use Rattle.hs_front.specs.Scope.{text_at}
use Rattle.hs_front.proofs.resolve.Resolver.occurs.Given as goal

abbrev pub invariant-loop-other : goal.invariant-loop-other
invariant-loop-other l = list_any (bytes_eq l.fn.name) (map (text_at l.fn.self.text.now) (drop l.other-index l.names)) ≡ list_any (bytes_eq l.fn.name) (map (text_at l.fn.self.text.now) l.fn.names)
