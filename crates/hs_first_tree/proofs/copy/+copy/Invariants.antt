use Rattle.std.proofs.Common.{◌≡◌, take}
use Rattle.hs_first_tree.proofs.copy.+copy.Given as goal

abbrev pub invariant-copy_exps-loop-exp : goal.invariant-copy_exps-loop-exp
invariant-copy_exps-loop-exp g l = l.copies ≡ take l.exp-index l.exp-items
