use Rattle.std.proofs.Common.{◌≡◌, take}
use Rattle.hs_first_tree.proofs.copy.copy_stmts.Given as goal

abbrev pub invariant-loop-stmt : goal.invariant-loop-stmt
invariant-loop-stmt g l = l.copies ≡ take l.stmt-index l.stmt-items
