use Rattle.std.proofs.Common.{◌≡◌, map, take}
use Rattle.hs_first_tree.specs.Of.{exp_of}
use Rattle.hs_pipeline.proofs.copy.+copy.Given as goal

-- what is made is what the operands so far are
abbrev pub invariant-copy_exps-loop-exp : goal.invariant-copy_exps-loop-exp
invariant-copy_exps-loop-exp l = map exp_of l.made ≡ map exp_of (take l.exp-index l.exp-items)
