use Rattle.hs_linear.proofs.Order.{told_answers, only_told}
use Rattle.hs_linear.proofs.law.one_is_told.Goals as goal

pub returns-clause-told : goal.returns-clause-told
returns-clause-told c = told_answers

pub returns-clause-alone : goal.returns-clause-alone
returns-clause-alone c = only_told
