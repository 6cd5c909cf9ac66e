use Rattle.std.proofs.Common.{◌≢◌, ◌↔◌, ℕ, Option, All, IsNone, subst, sym, ap, ◌∙◌}
use Rattle.hs_scope.specs.Scope.{look}
use Rattle.hs_scope.proofs.Missing.{unbound_is}
use Rattle.hs_scope.proofs.scope.Scope.find.Goals as goal

pub returns-clause-unbound : goal.returns-clause-unbound
returns-clause-unbound c =
    let w = c.args.name.now in
    let found = c.copied.ensures ∙ (c.get.ensures.value ∙ (c.self.invariant.latest w ∙ ap (look w) c.self.view_is)) in
    subst (λ (o : Option ℕ). IsNone o ↔ All (λ binding. binding.name ≢ w) c.args.self.now) (sym found) (unbound_is w c.args.self.now)
