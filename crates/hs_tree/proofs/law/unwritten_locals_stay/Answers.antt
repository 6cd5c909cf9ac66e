use Rattle.hs_tree.proofs.Frame.{unwritten_block}
use Rattle.hs_tree.proofs.law.unwritten_locals_stay.Goals as goal

pub returns : goal.returns
returns c = unwritten_block
