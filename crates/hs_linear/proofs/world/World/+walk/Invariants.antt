use Rattle.std.proofs.Common.{map, drop}
use Rattle.std.specs.Prelude.{slice_get}
use Rattle.hs_tree.specs.Call.{lent_at}
use Rattle.hs_linear.specs.Seen.{each, in_row, one_of}
use Rattle.hs_linear.specs.Nodes as n
use Rattle.hs_linear.specs.Called.{modes_of}
use Rattle.hs_linear.specs.Known.{known_of, lent_in}
use Rattle.hs_linear.proofs.Steps.{Front, Branches}
use Rattle.hs_linear.proofs.Rows.{row_from}
use Rattle.hs_linear.proofs.world.World.+walk.Given as goal

abbrev pub invariant-exps-loop-place : goal.invariant-exps-loop-place
invariant-exps-loop-place l =
    Front (in_row (lent_in l.lent) (map (n.exp_seen (known_of l.self)) l.exp-items)) (row_from (lent_in l.lent) (n.exp_seen (known_of l.self)) l.place (drop l.place l.exp-items)) l.initial.state l.state

abbrev pub invariant-args-loop-place : goal.invariant-args-loop-place
invariant-args-loop-place l =
    Front (in_row (λ i. lent_at (slice_get (modes_of l.params) i)) (map (n.arg_seen (known_of l.self)) l.arg-items))
    (row_from (λ i. lent_at (slice_get (modes_of l.params) i)) (n.arg_seen (known_of l.self)) l.place (drop l.place l.arg-items)) l.initial.state l.state

abbrev pub invariant-arms-loop-arm : goal.invariant-arms-loop-arm
invariant-arms-loop-arm l =
    Branches (one_of (map (n.arm_seen (known_of l.self)) l.arm-items)) (one_of (map (n.arm_seen (known_of l.self)) (drop l.arm-index l.arm-items))) l.joined l.initial.state l.state

abbrev pub invariant-steps-loop-step : goal.invariant-steps-loop-step
invariant-steps-loop-step l =
    Front (each (map (n.step_seen (known_of l.self)) l.step-items)) (each (map (n.step_seen (known_of l.self)) (drop l.step-index l.step-items))) l.initial.state l.state

abbrev pub invariant-stmts-loop-stmt : goal.invariant-stmts-loop-stmt
invariant-stmts-loop-stmt l =
    Front (each (map (n.stmt_seen (known_of l.self)) l.stmt-items)) (each (map (n.stmt_seen (known_of l.self)) (drop l.stmt-index l.stmt-items))) l.initial.state l.state
