use Rattle.hs_control.proofs.Settles.{values_settle}
use Rattle.hs_control.proofs.law.sources_values_settle.Goals as goal

pub returns : goal.returns
returns c = values_settle
