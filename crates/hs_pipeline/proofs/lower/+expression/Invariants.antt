use Rattle.std.proofs.Common.{◌≡◌, map, take}
use Rattle.hs_first_tree.specs.Of.{exp_of}
use Rattle.hs_first_em.specs.Of.{em_of}
use Rattle.hs_pipeline.specs.Lower.{lowered_exp}
use Rattle.hs_pipeline.proofs.lower.+expression.Given as goal

-- what is made is what the operands so far are
abbrev pub invariant-lower_operands-loop-operand : goal.invariant-lower_operands-loop-operand
invariant-lower_operands-loop-operand l = map em_of l.made ≡ map (lowered_exp l.names) (map exp_of (take l.operand-index l.operand-items))
