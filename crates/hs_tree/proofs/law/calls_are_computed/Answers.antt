use Rattle.hs_tree.proofs.Programs.{same_results}
use Rattle.hs_tree.proofs.law.calls_are_computed.Goals as goal

pub returns : goal.returns
returns c = same_results
