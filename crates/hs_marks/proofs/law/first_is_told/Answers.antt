use Rattle.hs_marks.proofs.Order.{told_first, only_first, one_told, alone_told}
use Rattle.hs_marks.proofs.law.first_is_told.Goals as goal

pub returns : goal.returns
returns c = record { told = told_first; only = only_first; one = one_told; alone = alone_told }
