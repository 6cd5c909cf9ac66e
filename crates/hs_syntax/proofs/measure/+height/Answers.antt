use Rattle.std.proofs.Common.{◌≡◌, suc, ap, ◌∙◌, arith, rules}
use Rattle.hs_syntax.specs.declared.exp.Arg.{the_lemmas}
use Rattle.hs_syntax.specs.Height.{height_of, arg_height, postfix_height, step_height, stmt_height, arm_height, operand_height, capped}
use Rattle.hs_syntax.proofs.Capped.{greatest_more, chained_more}
use Rattle.hs_syntax.proofs.measure.+height.Goals as goal

pub height-returns-in-Tuple : goal.height-returns-in-Tuple
unfolding capped
height-returns-in-Tuple t c = grind (arith, the_lemmas)

pub height-returns-in-Call : goal.height-returns-in-Call
unfolding capped
height-returns-in-Call t c = grind (arith, the_lemmas)

pub height_of_if-returns : goal.height_of_if-returns
unfolding capped
height_of_if-returns t c = grind (arith, the_lemmas)

pub height_of_else-returns-in-None : goal.height_of_else-returns-in-None
unfolding capped
height_of_else-returns-in-None t c = grind (arith, the_lemmas)

pub height_of_step-returns-in-Part : goal.height_of_step-returns-in-Part
unfolding capped
height_of_step-returns-in-Part t c = grind (arith, the_lemmas)

pub height-returns-in-Match : goal.height-returns-in-Match
unfolding capped
height-returns-in-Match t c = grind (arith, the_lemmas)

pub height-returns-in-Cast : goal.height-returns-in-Cast
unfolding capped
height-returns-in-Cast t c = grind (arith, the_lemmas)

pub height-returns-in-Int : goal.height-returns-in-Int
unfolding capped
height-returns-in-Int t c = grind (arith, the_lemmas)

pub height-returns-in-Int-2 : goal.height-returns-in-Int-2
unfolding capped
height-returns-in-Int-2 t c = grind (arith, the_lemmas)

pub height-returns-in-Int-3 : goal.height-returns-in-Int-3
unfolding capped
height-returns-in-Int-3 t c = grind (arith, the_lemmas)

pub height-returns-in-Int-4 : goal.height-returns-in-Int-4
unfolding capped
height-returns-in-Int-4 t c = grind (arith, the_lemmas)

pub height-returns-in-Group : goal.height-returns-in-Group
unfolding capped
height-returns-in-Group t c = grind (arith, the_lemmas)

pub height_of_arg-returns-in-Lent : goal.height_of_arg-returns-in-Lent
unfolding capped
height_of_arg-returns-in-Lent t c = grind (arith, the_lemmas)

pub height_of_block-returns : goal.height_of_block-returns
unfolding capped
height_of_block-returns t c = grind (arith, the_lemmas)

pub height_of_postfix-returns-in-Try : goal.height_of_postfix-returns-in-Try
unfolding capped
height_of_postfix-returns-in-Try t c = grind (arith, the_lemmas)

pub height_of_stmt-returns-in-Assign : goal.height_of_stmt-returns-in-Assign
unfolding capped
height_of_stmt-returns-in-Assign t c = grind (arith, the_lemmas)

pub height_of_stmt-returns-in-For : goal.height_of_stmt-returns-in-For
unfolding capped
height_of_stmt-returns-in-For t c = grind (arith, the_lemmas)

pub height_of_stmt-returns-in-Return-default-None : goal.height_of_stmt-returns-in-Return-default-None
unfolding capped
height_of_stmt-returns-in-Return-default-None t c = grind (arith, the_lemmas)

pub height_of_stmt-returns-in-Return-default-Some : goal.height_of_stmt-returns-in-Return-default-Some
unfolding capped
height_of_stmt-returns-in-Return-default-Some t c = grind (arith, the_lemmas)

pub height_of_stmt-returns-in-Let : goal.height_of_stmt-returns-in-Let
unfolding capped
height_of_stmt-returns-in-Let t c = grind (arith, the_lemmas)

pub height_of_optional-returns-in-None : goal.height_of_optional-returns-in-None
unfolding capped
height_of_optional-returns-in-None t c = grind (arith, the_lemmas)

pub highest_arg-loop-arg-init : goal.highest_arg-loop-arg-init
unfolding capped
highest_arg-loop-arg-init t c = grind (arith, the_lemmas)

pub highest_arm-loop-arm-init : goal.highest_arm-loop-arm-init
unfolding capped
highest_arm-loop-arm-init t c = grind (arith, the_lemmas)

pub highest_exp-loop-exp-init : goal.highest_exp-loop-exp-init
unfolding capped
highest_exp-loop-exp-init t c = grind (arith, the_lemmas)

pub highest_step-loop-step-init : goal.highest_step-loop-step-init
unfolding capped
highest_step-loop-step-init t c = grind (arith, the_lemmas)

pub highest_stmt-loop-stmt-init : goal.highest_stmt-loop-stmt-init
unfolding capped
highest_stmt-loop-stmt-init t c = grind (arith, the_lemmas)

pub highest_exp-loop-exp-preserved : goal.highest_exp-loop-exp-preserved
highest_exp-loop-exp-preserved t c =
    c.max-highest.ensures ∙ greatest_more height_of c.as_slice-exp-items.result.now c.loop-exp.exp-index c.exp-item.result (omega arith) c.loop-exp.highest c.height.result c.loop-exp.invariant (c.height.ensures ∙ ap (λ x. capped (height_of x)) c.exp-item.is)

pub highest_arg-loop-arg-preserved : goal.highest_arg-loop-arg-preserved
highest_arg-loop-arg-preserved t c =
    c.max-highest.ensures ∙ greatest_more arg_height c.as_slice-arg-items.result.now c.loop-arg.arg-index c.arg-item.result (omega arith) c.loop-arg.highest c.height_of_arg.result c.loop-arg.invariant (c.height_of_arg.ensures ∙ ap (λ x. capped (arg_height x)) c.arg-item.is)

pub highest_arm-loop-arm-preserved : goal.highest_arm-loop-arm-preserved
highest_arm-loop-arm-preserved t c =
    c.max-highest.ensures ∙ greatest_more arm_height c.as_slice-arm-items.result.now c.loop-arm.arm-index c.arm-item.result (omega arith) c.loop-arm.highest c.height.result c.loop-arm.invariant (let k : c.height.result ≡ capped (arm_height c.arm-item.result) = search (rules, the_lemmas) in k ∙ ap (λ x. capped (arm_height x)) c.arm-item.is)

pub highest_step-loop-step-preserved : goal.highest_step-loop-step-preserved
highest_step-loop-step-preserved t c =
    c.max-highest.ensures ∙ greatest_more step_height c.as_slice-step-items.result.now c.loop-step.step-index c.step-item.result (omega arith) c.loop-step.highest c.height_of_step.result c.loop-step.invariant (c.height_of_step.ensures ∙ ap (λ x. capped (step_height x)) c.step-item.is)

pub highest_stmt-loop-stmt-preserved : goal.highest_stmt-loop-stmt-preserved
highest_stmt-loop-stmt-preserved t c =
    c.max-highest.ensures ∙ greatest_more stmt_height c.as_slice-stmt-items.result.now c.loop-stmt.stmt-index c.stmt-item.result (omega arith) c.loop-stmt.highest c.height_of_stmt.result c.loop-stmt.invariant (c.height_of_stmt.ensures ∙ ap (λ x. capped (stmt_height x)) c.stmt-item.is)

pub height_behind-loop-step-preserved : goal.height_behind-loop-step-preserved
height_behind-loop-step-preserved t c =
    λ n e. c.one_more-before.ensures ∙ ap (λ x. capped (suc x)) c.max.ensures ∙ chained_more postfix_height c.as_slice-step-items.result.now c.loop-step.step-index c.step-item.result n (omega arith) c.loop-step.before c.height_of_postfix.result (c.loop-step.invariant n e) (c.height_of_postfix.ensures ∙ ap (λ x. capped (postfix_height x)) c.step-item.is)

pub height_with-loop-operand-preserved : goal.height_with-loop-operand-preserved
height_with-loop-operand-preserved t c =
    λ n e. c.one_more-before.ensures ∙ ap (λ x. capped (suc x)) c.max.ensures ∙ chained_more operand_height c.as_slice-operand-items.result.now c.loop-operand.operand-index c.operand-item.result n (omega arith) c.loop-operand.before c.height.result (c.loop-operand.invariant n e) (let k : c.height.result ≡ capped (operand_height c.operand-item.result) = search (rules, the_lemmas) in k ∙ ap (λ x. capped (operand_height x)) c.operand-item.is)
