use Rattle.hs_first_tree.proofs.Unused.{no_uses, unmarked}
use Rattle.hs_first_tree.proofs.law.absent_features_are_unused.Goals as goal

pub returns : goal.returns
returns g c = λ f off.
    no_uses _ _ _ _ _ _ _ _ _ _ _ f (λ x. unmarked f _ _ _ _ _ _ _ _ _ _ (g.met.F.Assign.Switch.inhabited x) off) c.args.program.now
