use Rattle.hs_tree.proofs.Told.{texts_tell}
use Rattle.hs_tree.proofs.law.texts_tell_programs.Goals as goal

pub returns : goal.returns
returns c = texts_tell
