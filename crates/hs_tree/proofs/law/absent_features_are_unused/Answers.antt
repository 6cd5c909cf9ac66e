use Rattle.hs_tree.specs.Features.{Stage, stage_of}
use Rattle.hs_tree.specs.Features as feature
use Rattle.hs_tree.proofs.Unused.{no_uses, apart}
use Rattle.hs_tree.proofs.law.absent_features_are_unused.Goals as goal

pub returns : goal.returns
returns g c = λ f off.
    let stage : Stage = stage_of g.F.Place.Switch.on g.F.Nested.Switch.on g.F.Quest.Switch.on g.F.MutArg.Switch.on g.F.Exit.Switch.on g.F.Assign.Switch.on g.F.Loop.Switch.on g.F.Cf.Switch.on g.F.Acc.Switch.on g.F.Fold.Switch.on in
    no_uses _ _ _ _ _ _ _ _ _ _ _ f
    (λ x. apart stage f feature.Place (g.met.F.Place.Switch.inhabited x) off)
    (λ x. apart stage f feature.Nested (g.met.F.Nested.Switch.inhabited x) off)
    (λ x. apart stage f feature.Quest (g.met.F.Quest.Switch.inhabited x) off)
    (λ x. apart stage f feature.MutArg (g.met.F.MutArg.Switch.inhabited x) off)
    (λ x. apart stage f feature.Exit (g.met.F.Exit.Switch.inhabited x) off)
    (λ x. apart stage f feature.Assign (g.met.F.Assign.Switch.inhabited x) off)
    (λ x. apart stage f feature.Loop (g.met.F.Loop.Switch.inhabited x) off)
    (λ x. apart stage f feature.Cf (g.met.F.Cf.Switch.inhabited x) off)
    (λ x. apart stage f feature.Acc (g.met.F.Acc.Switch.inhabited x) off)
    (λ x. apart stage f feature.Fold (g.met.F.Fold.Switch.inhabited x) off)
    c.args.program.now
