use Rattle.hs_first_em.proofs.Ends.{means_ended}
use Rattle.hs_first_em.proofs.law.scoped_modules_end.Goals as goal

pub returns : goal.returns
returns c = means_ended
