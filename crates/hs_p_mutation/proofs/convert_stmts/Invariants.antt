use Rattle.std.proofs.Common.{◌≡◌, map, take}
use Rattle.hs_first_tree.specs.Of.{stmt_of}
use Rattle.hs_p_mutation.specs.Without.{stmt_without}
use Rattle.hs_p_mutation.proofs.convert_stmts.Given as goal

abbrev pub invariant-loop-stmt : goal.invariant-loop-stmt
invariant-loop-stmt l = map stmt_of l.made ≡ map stmt_without (map stmt_of (take l.stmt-index l.stmt-items))
