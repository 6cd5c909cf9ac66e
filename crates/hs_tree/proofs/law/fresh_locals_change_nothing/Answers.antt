use Rattle.hs_tree.proofs.Fresh.{fresh_block}
use Rattle.hs_tree.proofs.law.fresh_locals_change_nothing.Goals as goal

pub returns : goal.returns
returns c = fresh_block
