use Rattle.hs_tree.proofs.Laws.{same_by_functions}
use Rattle.hs_tree.proofs.law.equal_functions_give_equal_results.Goals as goal

pub returns : goal.returns
returns c = same_by_functions
