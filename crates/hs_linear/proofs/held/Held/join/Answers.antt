use Rattle.std.proofs.Common.{ap, ◌∙◌}
use Rattle.hs_linear.specs.Sets.{set_of, lost_by, won_by}
use Rattle.hs_linear.proofs.Back.{both_ok}
use Rattle.hs_linear.proofs.Steps.{joined_more}
use Rattle.hs_linear.proofs.held.Held.join.Goals as goal

pub returns-clause-joined : goal.returns-clause-joined
returns-clause-joined c =
    both_ok c.add.result _ _ _ c.add.ensures.lost c.add.ensures.won (λ l w d before led is.
    joined_more c.args.joined.now c.add.new.self c.args.self.now c.go_back.new.self d before c.args.moment c.in_ok-ends.ends.items c.in_ok-lost.lost.items c.in_ok-won.won.items led is
    (c.in_ok-go_back.ensures d before led is) c.in_ok-ends.ensures
    (c.in_ok-lost.ensures ∙ ap (lost_by (set_of c.go_back.new.self)) c.deref.ensures.value)
    (c.in_ok-won.ensures ∙ ap (won_by (set_of c.go_back.new.self)) c.deref-2.ensures.value) l w)
