use Rattle.std.proofs.Common.{◌∙◌, ap, arith}
use Rattle.hs_typing.specs.Locals.{oldest}
use Rattle.hs_typing.specs.Held.{scope_of}
use Rattle.hs_typing.proofs.Scopes.{one_less}
use Rattle.hs_typing.proofs.locals.Locals.leave.Goals as goal

pub loop-self-preserved : goal.loop-self-preserved
loop-self-preserved c = record {
  kept = ap (oldest c.args.kept) c.unbind.ensures.scope ∙ one_less c.args.kept (scope_of c.loop-self.self) (omega arith) ∙ c.loop-self.invariant.kept;
  typed = c.unbind.ensures.typed ∙ c.loop-self.invariant.typed;
}
