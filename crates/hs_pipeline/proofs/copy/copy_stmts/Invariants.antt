use Rattle.std.proofs.Common.{◌≡◌, map, take}
use Rattle.hs_first_tree.specs.Of.{stmt_of}
use Rattle.hs_pipeline.proofs.copy.copy_stmts.Given as goal

-- what is made is what the statements so far are
abbrev pub invariant-loop-stmt : goal.invariant-loop-stmt
invariant-loop-stmt l = map stmt_of l.made ≡ map stmt_of (take l.stmt-index l.stmt-items)
