use Rattle.std.proofs.Common.{◌≡◌, [], drop}
use Rattle.hs_front.specs.Marks.{with_params}
use Rattle.hs_front.proofs.resolve.Resolver.with_params.Given as goal

abbrev pub invariant-loop-param : goal.invariant-loop-param
invariant-loop-param l = with_params l.fn.self.text.now (drop l.param-index l.params) l.scope ≡ with_params l.fn.self.text.now l.fn.params []
