use Rattle.std.proofs.Common.{◌∙◌, ap, is_some}
use Rattle.hs_scope.proofs.Indexes.{indexed_less, latest_there}
use Rattle.hs_scope.proofs.scope.Scope.unbind.Goals as goal

pub invariant_of-self : goal.invariant_of-self
invariant_of-self c =
    let there = latest_there c.self.inside.latest c.pop.new.self c.self.inside.entries c.in-Some.entry c.in-Some.ensures c.self.invariant in
    indexed_less c.self.inside.latest _ c.pop.new.self c.self.inside.entries c.in-Some.entry _ c.in-Some.ensures c.self.invariant c.in-Some-hidden.is
    ((c.get_mut.follows.holds c.in-Some-hidden.number).3 (ap is_some there))

pub invariant_of-self-in_default-get_mut : goal.invariant_of-self-in_default-get_mut
invariant_of-self-in_default-get_mut c =
    absurd (cc (c.in_default-get_mut.ensures.value ∙ latest_there c.self.inside.latest c.pop.new.self c.self.inside.entries c.in-Some.entry c.in-Some.ensures c.self.invariant))

pub invariant_of-self-in-None : goal.invariant_of-self-in-None
invariant_of-self-in-None c =
    indexed_less c.self.inside.latest c.swap_remove.new.self c.pop.new.self c.self.inside.entries c.in-Some.entry _ c.in-Some.ensures c.self.invariant c.in-None.is
    c.swap_remove.ensures.updates
