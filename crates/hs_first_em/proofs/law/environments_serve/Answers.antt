use Rattle.hs_first_em.proofs.Environment.{means_env}
use Rattle.hs_first_em.proofs.law.environments_serve.Goals as goal

pub returns : goal.returns
returns c = means_env
