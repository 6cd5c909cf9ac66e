use Rattle.hs_em.specs.Scoped.{breaks}
use Rattle.hs_em.proofs.Told.{told_exactly}
use Rattle.hs_em.proofs.law.unscoped_is_told.Goals as goal

pub returns : goal.returns
returns c m = told_exactly (breaks m)
