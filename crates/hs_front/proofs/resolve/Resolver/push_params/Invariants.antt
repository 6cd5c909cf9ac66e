use Rattle.std.proofs.Common.{◌≡◌, ◌++◌, map, take}
use Rattle.hs_front.specs.Scope.{text_at}
use Rattle.hs_front.proofs.resolve.Resolver.push_params.Given as goal

abbrev pub invariant-loop-param : goal.invariant-loop-param
invariant-loop-param l = l.locals ≡ l.initial.locals ++ map (text_at l.fn.self.text.now) (take l.param-index l.params)
