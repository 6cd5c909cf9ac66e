use Rattle.hs_fstar.proofs.Once.{reads_once}
use Rattle.hs_fstar.proofs.law.texts_are_read_once.Goals as goal

pub returns : goal.returns
returns c = reads_once
