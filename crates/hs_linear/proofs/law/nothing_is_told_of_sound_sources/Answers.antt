use Rattle.hs_linear.proofs.Whole.{agree}
use Rattle.hs_linear.proofs.law.nothing_is_told_of_sound_sources.Goals as goal

pub returns : goal.returns
returns c = agree _ _ _ _ _ _ _ _ _ _ _ (λ x. elim x [ ]) (λ x. elim x [ ]) (λ x. elim x [ ]) c.args.program.now
