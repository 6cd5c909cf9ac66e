use Rattle.std.proofs.Common.{◌∙◌}
use Rattle.hs_scope.proofs.Indexes.{indexed_more}
use Rattle.hs_scope.proofs.scope.Scope.bind.Goals as goal

pub invariant_of-self-in-Ok : goal.invariant_of-self-in-Ok
invariant_of-self-in-Ok c =
    indexed_more c.self.inside.latest c.insert.new.self c.self.inside.entries c.push.new.self
    (record { name = c.args.name; number = c.args.number; hidden = c.copied-hidden.result })
    c.in_ok-push.ensures.ok c.self.invariant (c.copied-hidden.ensures ∙ c.get.ensures.value ∙ c.self.invariant.latest c.args.name.now) c.in-Ok.ensures.updates
