use Rattle.hs_tree.proofs.Laws.{follows_on, follows_given}
use Rattle.hs_tree.proofs.law.runs_follow_one_another.Goals as goal

pub returns-clause-on : goal.returns-clause-on
returns-clause-on c = follows_on

pub returns-clause-given : goal.returns-clause-given
returns-clause-given c = follows_given
