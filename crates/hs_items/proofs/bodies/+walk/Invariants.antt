use Rattle.std.proofs.Common.{◌≡◌, map, drop}
use Rattle.hs_marks.specs.First.{first}
use Rattle.hs_items.specs.Nodes.{row, in_exp, in_arg, in_postfix, in_step, in_stmt, in_arm, in_operand}
use Rattle.hs_items.specs.Walk.{at, nodes_of_ty}
use Rattle.hs_items.proofs.bodies.+walk.Given as goal

abbrev pub invariant-exps-loop-part : goal.invariant-exps-loop-part
invariant-exps-loop-part l =
    first (row (map (in_exp (nodes_of_ty l.world.symbols.now (at l.world.facts.now))) l.part-items)) ≡ first (row (map (in_exp (nodes_of_ty l.world.symbols.now (at l.world.facts.now))) (drop l.part-index l.part-items)))

abbrev pub invariant-args-loop-given : goal.invariant-args-loop-given
invariant-args-loop-given l =
    first (row (map (in_arg (nodes_of_ty l.world.symbols.now (at l.world.facts.now))) l.given-items)) ≡ first (row (map (in_arg (nodes_of_ty l.world.symbols.now (at l.world.facts.now))) (drop l.given-index l.given-items)))

abbrev pub invariant-arms-loop-arm : goal.invariant-arms-loop-arm
invariant-arms-loop-arm l =
    first (row (map (in_arm (nodes_of_ty l.world.symbols.now (at l.world.facts.now))) l.arm-items)) ≡ first (row (map (in_arm (nodes_of_ty l.world.symbols.now (at l.world.facts.now))) (drop l.arm-index l.arm-items)))

abbrev pub invariant-behind-loop-next : goal.invariant-behind-loop-next
invariant-behind-loop-next l =
    first (row (map (in_postfix (nodes_of_ty l.world.symbols.now (at l.world.facts.now))) l.next-items)) ≡ first (row (map (in_postfix (nodes_of_ty l.world.symbols.now (at l.world.facts.now))) (drop l.next-index l.next-items)))

abbrev pub invariant-steps-loop-next : goal.invariant-steps-loop-next
invariant-steps-loop-next l =
    first (row (map (in_step (nodes_of_ty l.world.symbols.now (at l.world.facts.now))) l.next-items)) ≡ first (row (map (in_step (nodes_of_ty l.world.symbols.now (at l.world.facts.now))) (drop l.next-index l.next-items)))

abbrev pub invariant-operands-loop-operand : goal.invariant-operands-loop-operand
invariant-operands-loop-operand l =
    first (row (map (in_operand (nodes_of_ty l.world.symbols.now (at l.world.facts.now))) l.operand-items)) ≡ first (row (map (in_operand (nodes_of_ty l.world.symbols.now (at l.world.facts.now))) (drop l.operand-index l.operand-items)))

abbrev pub invariant-stmts-loop-next : goal.invariant-stmts-loop-next
invariant-stmts-loop-next l =
    first (row (map (in_stmt (nodes_of_ty l.world.symbols.now (at l.world.facts.now))) l.next-items)) ≡ first (row (map (in_stmt (nodes_of_ty l.world.symbols.now (at l.world.facts.now))) (drop l.next-index l.next-items)))
