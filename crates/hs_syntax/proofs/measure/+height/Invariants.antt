use Rattle.std.proofs.Common.{◌≡◌, ℕ, map, take}
use Rattle.hs_syntax.specs.Height.{height_of, arg_height, postfix_height, step_height, stmt_height, arm_height, operand_height, greatest, chained, capped}
use Rattle.hs_syntax.proofs.measure.+height.Given as goal

abbrev pub invariant-height_behind-loop-step : goal.invariant-height_behind-loop-step
invariant-height_behind-loop-step l = (n : ℕ) → l.first ≡ capped n → l.before ≡ capped (chained n (map postfix_height (take l.step-index l.step-items)))

abbrev pub invariant-height_with-loop-operand : goal.invariant-height_with-loop-operand
invariant-height_with-loop-operand l = (n : ℕ) → l.first ≡ capped n → l.before ≡ capped (chained n (map operand_height (take l.operand-index l.operand-items)))

abbrev pub invariant-highest_arg-loop-arg : goal.invariant-highest_arg-loop-arg
invariant-highest_arg-loop-arg l = l.highest ≡ capped (greatest (map arg_height (take l.arg-index l.arg-items)))

abbrev pub invariant-highest_arm-loop-arm : goal.invariant-highest_arm-loop-arm
invariant-highest_arm-loop-arm l = l.highest ≡ capped (greatest (map arm_height (take l.arm-index l.arm-items)))

abbrev pub invariant-highest_exp-loop-exp : goal.invariant-highest_exp-loop-exp
invariant-highest_exp-loop-exp l = l.highest ≡ capped (greatest (map height_of (take l.exp-index l.exp-items)))

abbrev pub invariant-highest_step-loop-step : goal.invariant-highest_step-loop-step
invariant-highest_step-loop-step l = l.highest ≡ capped (greatest (map step_height (take l.step-index l.step-items)))

abbrev pub invariant-highest_stmt-loop-stmt : goal.invariant-highest_stmt-loop-stmt
invariant-highest_stmt-loop-stmt l = l.highest ≡ capped (greatest (map stmt_height (take l.stmt-index l.stmt-items)))
