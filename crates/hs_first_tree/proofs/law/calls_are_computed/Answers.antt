use Rattle.hs_first_tree.proofs.Bridge.{same_call}
use Rattle.hs_first_tree.proofs.law.calls_are_computed.Goals as goal

pub returns : goal.returns
returns c = same_call
