use Rattle.std.proofs.Common.{◌≡◌, Some, map, drop}
use Rattle.hs_limits.specs.Outline.{part, statement, all, upto}
use Rattle.hs_limits.specs.Nodes.{node_of_exp, node_of_arg, node_of_postfix, node_of_step, node_of_stmt, node_of_arm, node_of_operand}
use Rattle.hs_limits.specs.Walk.{first_in, high, first_chain, high_chain, listed}
use Rattle.hs_limits.proofs.Steps.{row}
use Rattle.hs_limits.proofs.walk.+walk.Given as goal

abbrev pub invariant-exps-loop-index : goal.invariant-exps-loop-index
invariant-exps-loop-index l = record {
  told : first_in (listed l.limit part (map node_of_exp l.part-items)) ≡ first_in (row l.limit part l.index (map node_of_exp (drop l.index l.part-items)));
  height : high (listed l.limit part (map node_of_exp l.part-items)) l.fn.before ≡ high (row l.limit part l.index (map node_of_exp (drop l.index l.part-items))) l.highest;
}

abbrev pub invariant-stmts-loop-index : goal.invariant-stmts-loop-index
invariant-stmts-loop-index l = record {
  told : first_in (upto 1024 statement (map node_of_stmt l.next-items)) ≡ first_in (row (Some 1024) statement l.index (map node_of_stmt (drop l.index l.next-items)));
  height : high (upto 1024 statement (map node_of_stmt l.next-items)) l.fn.before ≡ high (row (Some 1024) statement l.index (map node_of_stmt (drop l.index l.next-items))) l.highest;
}

abbrev pub invariant-args-loop-given : goal.invariant-args-loop-given
invariant-args-loop-given l = record {
  told : first_in (all (map node_of_arg l.given-items)) ≡ first_in (all (map node_of_arg (drop l.given-index l.given-items)));
  height : high (all (map node_of_arg l.given-items)) l.fn.before ≡ high (all (map node_of_arg (drop l.given-index l.given-items))) l.highest;
}

abbrev pub invariant-arms-loop-arm : goal.invariant-arms-loop-arm
invariant-arms-loop-arm l = record {
  told : first_in (all (map node_of_arm l.arm-items)) ≡ first_in (all (map node_of_arm (drop l.arm-index l.arm-items)));
  height : high (all (map node_of_arm l.arm-items)) l.fn.before ≡ high (all (map node_of_arm (drop l.arm-index l.arm-items))) l.highest;
}

abbrev pub invariant-steps-loop-next : goal.invariant-steps-loop-next
invariant-steps-loop-next l = record {
  told : first_in (all (map node_of_step l.next-items)) ≡ first_in (all (map node_of_step (drop l.next-index l.next-items)));
  height : high (all (map node_of_step l.next-items)) l.fn.before ≡ high (all (map node_of_step (drop l.next-index l.next-items))) l.highest;
}

abbrev pub invariant-steps_behind-loop-next : goal.invariant-steps_behind-loop-next
invariant-steps_behind-loop-next l = record {
  told : first_chain l.start (map node_of_postfix l.next-items) l.fn.first ≡ first_chain l.start (map node_of_postfix (drop l.next-index l.next-items)) l.height;
  height : high_chain (map node_of_postfix l.next-items) l.fn.first ≡ high_chain (map node_of_postfix (drop l.next-index l.next-items)) l.height;
}

abbrev pub invariant-operands_behind-loop-operand : goal.invariant-operands_behind-loop-operand
invariant-operands_behind-loop-operand l = record {
  told : first_chain l.start (map node_of_operand l.operand-items) l.fn.first ≡ first_chain l.start (map node_of_operand (drop l.operand-index l.operand-items)) l.height;
  height : high_chain (map node_of_operand l.operand-items) l.fn.first ≡ high_chain (map node_of_operand (drop l.operand-index l.operand-items)) l.height;
}
