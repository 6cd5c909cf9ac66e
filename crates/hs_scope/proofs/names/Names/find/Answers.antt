use Rattle.std.proofs.Common.{◌≢◌, ◌↔◌, ℕ, Option, All, IsNone, subst, sym, ap, ◌∙◌}
use Rattle.hs_scope.specs.Names.{number_of}
use Rattle.hs_scope.proofs.Missing.{absent_is}
use Rattle.hs_scope.proofs.names.Names.find.Goals as goal

pub returns-clause-absent : goal.returns-clause-absent
returns-clause-absent c =
    let w = c.args.name.now in
    let found = c.copied.ensures ∙ (c.get.ensures.value ∙ (c.self.invariant w ∙ ap (number_of w) c.self.view_is)) in
    subst (λ (o : Option ℕ). IsNone o ↔ All (λ other. other ≢ w) c.args.self.now) (sym found) (absent_is w c.args.self.now)
