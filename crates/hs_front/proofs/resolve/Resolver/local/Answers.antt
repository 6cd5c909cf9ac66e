use Rattle.std.proofs.Common.{refl, sym, ap, ◌∙◌}
use Rattle.hs_front.specs.Scope.{found}
use Rattle.hs_front.specs.Marks.{mark}
use Rattle.hs_front.specs.Walk.{known}
use Rattle.hs_front.proofs.resolve.Resolver.local.Goals as goal

pub returns-in-None : goal.returns-in-None
returns-in-None c =
    let m = mark c.args.rule c.args.name in
    rw c.broken_at.ensures (m, ap (λ o. known o m) (ap (λ w. found w c.args.scope.now) (sym c.text_of.ensures) ∙ c.in-None.ensures), refl)
