use mathlib.Core.Path.{fun_ext}
use Rattle.std.proofs.Common.{◌≡◌, ◌⊎◌, ⊎_elim, Bool, true, false, ◌&&◌, [], ◌∷◌, map, Result, Ok, Err, refl, sym, ap, ap₂, subst, ◌∙◌, rules, arith, slice_get}
use Rattle.std.specs.Prelude.{is_none}
use Rattle.hs_tree.specs.Plain as plain
use Rattle.hs_tree.specs.Types.{copied}
use Rattle.hs_tree.specs.World.{operand_lent, none_lent}
use Rattle.hs_tree.specs.Call.{modes, lent_at}
use Rattle.hs_tree.specs.Of.{function_of}
use Rattle.hs_tree.specs.Source.{takes_part}
use Rattle.hs_words.specs.Word.{Integer}
use Rattle.hs_tree.specs.declared.node.Exp.TheVariants as exp
use Rattle.hs_linear.specs.Rules.{of_operation, of_place}
use Rattle.hs_linear.specs.Seen.{Part, idle, nowhere, gives, asked, ◌&◌, each, in_row, either, one_of, turns}
use Rattle.hs_linear.specs.Nodes as n
use Rattle.hs_linear.specs.Uses.{lends}
use Rattle.hs_linear.specs.Called.{modes_of}
use Rattle.hs_linear.specs.Known.{known_of, lent_in}
use Rattle.hs_linear.specs.Sets.{set_of, changes_of}
use Rattle.hs_linear.specs.Moments.{Passed, Walks}
use Rattle.hs_linear.specs.declared.joined.Left.{Left}
use Rattle.hs_linear.specs.declared.joined.Left.TheVariants as left
use Rattle.hs_linear.proofs.Layers.{E, B, exp_var, exp_lit, exp_truth, exp_unit, exp_const, exp_tuple, exp_list, exp_ctor, exp_op, exp_call, exp_and, exp_or, exp_in, arg_value, arg_lend, rhs_exp, rhs_if, rhs_match, rhs_block, rhs_lendcall, rhs_quest, step_at, step_part, stmt_let, stmt_do, stmt_place, stmt_set, stmt_for, tail_rhs, tail_return, arm_of, block_of}
use Rattle.hs_linear.proofs.Steps.{whole, goes, gone, as_seen, stopped, ended, begun, idle_walked, reads_room, Branches, no_branch, idle_branch, branch, last_branch, behind, has_room, turned_once, turned_never}
use Rattle.hs_linear.proofs.Single.{empty_here, none_is}
use Rattle.hs_linear.proofs.Rows.{row_begins, row_goes, row_stops, row_done, each_goes, each_stops, each_done, arm_goes, arms_done}
use Rattle.hs_linear.proofs.world.World.+walk.Goals as goal
use Rattle.hs_linear.proofs.world.World.+walk.Goals.{stmt-then-is_none, stmt-else-is_none}

-- an expression that is this one is seen so
exp_as : (g : n.Known) (x y : E) (s : Bool → Part) (lent : Bool) → x ≡ y → n.exp_seen g y ≡ s → n.exp_seen g x lent ≡ s lent
exp_as g x y s lent e f = ap (λ (z : E). n.exp_seen g z lent) e ∙ ap (λ (t : Bool → Part). t lent) f

-- an expression that is none of these parts is idle
idle_as : (g : n.Known) (x : E) (lent : Bool) → ((i : Integer) × (x ≡ exp.Lit i)) ⊎ ((b : Bool) × (x ≡ exp.Truth b)) ⊎ (x ≡ exp.Unit) ⊎ ((k : plain.Name) × (x ≡ exp.Const k)) → n.exp_seen g x lent ≡ idle
idle_as g x lent is =
    ⊎_elim (λ h. exp_as g x _ _ lent h.1 (exp_lit g h.0)) (⊎_elim (λ h. exp_as g x _ _ lent h.1 (exp_truth g h.0)) (⊎_elim (λ h. exp_as g x _ _ lent h (exp_unit g)) (λ h. exp_as g x _ _ lent h.1 (exp_const g h.0)))) is

pub arg-returns-in-Value : goal.arg-returns-in-Value
arg-returns-in-Value t c =
    as_seen (Unit {0}) _ _ c.args.state.now c.exp.new.state c.exp.result (ap (λ x. n.arg_seen (known_of c.args.self.now) x c.args.is_lent) c.in-Value.is ∙ ap (λ (s : Bool → Part). s c.args.is_lent) (arg_value (known_of c.args.self.now) c.in-Value.exp)) c.exp.ensures

pub arg-returns-in-Lend : goal.arg-returns-in-Lend
arg-returns-in-Lend t c =
    as_seen (Unit {0}) _ _ c.args.state.now c.lend.new.self (Ok tt) (ap (λ x. n.arg_seen (known_of c.args.self.now) x c.args.is_lent) c.in-Lend.is ∙ ap (λ (s : Bool → Part). s c.args.is_lent) (arg_lend (known_of c.args.self.now) c.in-Lend.local c.in-Lend.span)) c.lend.ensures

pub args-loop-place-init : goal.args-loop-place-init
args-loop-place-init t c =
    row_begins (λ i. lent_at (slice_get (modes_of c.args.params.now) i)) (n.arg_seen (known_of c.args.self.now)) c.as_slice-arg-items.result.now c.args.state.now

pub args-returns-in_err-arg : goal.args-returns-in_err-arg
args-returns-in_err-arg t c =
    let e : c.from_residual.result ≡ Err c.in_err-arg.field-0.0 = search rules in
    subst (λ xs. Walks {A = (Unit {0})} (in_row (λ i. lent_at (slice_get (modes_of c.args.params.now) i)) (map (n.arg_seen (known_of c.args.self.now)) xs)) c.args.state.now c.arg.new.state c.from_residual.result) c.as_slice-arg-items.ensures
    (subst (λ (r : Result (Unit {0}) Left). Walks {A = (Unit {0})} (in_row (λ i. lent_at (slice_get (modes_of c.args.params.now) i)) (map (n.arg_seen (known_of c.args.self.now)) c.as_slice-arg-items.result.now)) c.args.state.now c.arg.new.state r) (sym e)
    (row_stops (Unit {0}) (Unit {0}) (λ i. lent_at (slice_get (modes_of c.args.params.now) i)) (n.arg_seen (known_of c.args.self.now)) (in_row (λ i. lent_at (slice_get (modes_of c.args.params.now) i)) (map (n.arg_seen (known_of c.args.self.now)) c.as_slice-arg-items.result.now)) c.loop-place.place c.as_slice-arg-items.result.now c.arg-item.result c.args.state.now c.loop-place.state c.arg.new.state c.in_err-arg.field-0.0 (omega arith) c.arg-item.is c.loop-place.invariant
    (subst (λ b. Walks {A = (Unit {0})} ((n.arg_seen (known_of c.args.self.now)) c.arg-item.result b) c.loop-place.state c.arg.new.state (Err c.in_err-arg.field-0.0)) c.at.ensures c.in_err-arg.ensures)))

pub args-loop-place-preserved : goal.args-loop-place-preserved
args-loop-place-preserved t c =
    row_goes (λ i. lent_at (slice_get (modes_of c.args.params.now) i)) (n.arg_seen (known_of c.args.self.now)) (in_row (λ i. lent_at (slice_get (modes_of c.args.params.now) i)) (map (n.arg_seen (known_of c.args.self.now)) c.as_slice-arg-items.result.now)) c.loop-place.place c.as_slice-arg-items.result.now c.arg-item.result c.args.state.now c.loop-place.state c.arg.new.state (omega arith) c.arg-item.is c.loop-place.invariant
    (subst (λ b. Passed ((n.arg_seen (known_of c.args.self.now)) c.arg-item.result b) c.loop-place.state c.arg.new.state) c.at.ensures c.in_ok-arg.ensures)

pub args-returns : goal.args-returns
args-returns t c =
    subst (λ xs. Passed (in_row (λ i. lent_at (slice_get (modes_of c.args.params.now) i)) (map (n.arg_seen (known_of c.args.self.now)) xs)) c.args.state.now c.loop-place.state) c.as_slice-arg-items.ensures
    (row_done (λ i. lent_at (slice_get (modes_of c.args.params.now) i)) (n.arg_seen (known_of c.args.self.now)) (in_row (λ i. lent_at (slice_get (modes_of c.args.params.now) i)) (map (n.arg_seen (known_of c.args.self.now)) c.as_slice-arg-items.result.now)) c.loop-place.place c.as_slice-arg-items.result.now c.args.state.now c.loop-place.state (omega arith) c.loop-place.invariant)

pub exps-loop-place-init : goal.exps-loop-place-init
exps-loop-place-init t c =
    row_begins (lent_in c.args.lent) (n.exp_seen (known_of c.args.self.now)) c.as_slice-exp-items.result.now c.args.state.now

pub exps-returns-in_err-exp : goal.exps-returns-in_err-exp
exps-returns-in_err-exp t c =
    let e : c.from_residual.result ≡ Err c.in_err-exp.field-0.0 = search rules in
    subst (λ xs. Walks {A = (Unit {0})} (in_row (lent_in c.args.lent) (map (n.exp_seen (known_of c.args.self.now)) xs)) c.args.state.now c.exp.new.state c.from_residual.result) c.as_slice-exp-items.ensures
    (subst (λ (r : Result (Unit {0}) Left). Walks {A = (Unit {0})} (in_row (lent_in c.args.lent) (map (n.exp_seen (known_of c.args.self.now)) c.as_slice-exp-items.result.now)) c.args.state.now c.exp.new.state r) (sym e)
    (row_stops (Unit {0}) (Unit {0}) (lent_in c.args.lent) (n.exp_seen (known_of c.args.self.now)) (in_row (lent_in c.args.lent) (map (n.exp_seen (known_of c.args.self.now)) c.as_slice-exp-items.result.now)) c.loop-place.place c.as_slice-exp-items.result.now c.exp-item.result c.args.state.now c.loop-place.state c.exp.new.state c.in_err-exp.field-0.0 (omega arith) c.exp-item.is c.loop-place.invariant
    (subst (λ b. Walks {A = (Unit {0})} ((n.exp_seen (known_of c.args.self.now)) c.exp-item.result b) c.loop-place.state c.exp.new.state (Err c.in_err-exp.field-0.0)) c.at.ensures c.in_err-exp.ensures)))

pub exps-loop-place-preserved : goal.exps-loop-place-preserved
exps-loop-place-preserved t c =
    row_goes (lent_in c.args.lent) (n.exp_seen (known_of c.args.self.now)) (in_row (lent_in c.args.lent) (map (n.exp_seen (known_of c.args.self.now)) c.as_slice-exp-items.result.now)) c.loop-place.place c.as_slice-exp-items.result.now c.exp-item.result c.args.state.now c.loop-place.state c.exp.new.state (omega arith) c.exp-item.is c.loop-place.invariant
    (subst (λ b. Passed ((n.exp_seen (known_of c.args.self.now)) c.exp-item.result b) c.loop-place.state c.exp.new.state) c.at.ensures c.in_ok-exp.ensures)

pub exps-returns : goal.exps-returns
exps-returns t c =
    subst (λ xs. Passed (in_row (lent_in c.args.lent) (map (n.exp_seen (known_of c.args.self.now)) xs)) c.args.state.now c.loop-place.state) c.as_slice-exp-items.ensures
    (row_done (lent_in c.args.lent) (n.exp_seen (known_of c.args.self.now)) (in_row (lent_in c.args.lent) (map (n.exp_seen (known_of c.args.self.now)) c.as_slice-exp-items.result.now)) c.loop-place.place c.as_slice-exp-items.result.now c.args.state.now c.loop-place.state (omega arith) c.loop-place.invariant)

pub steps-loop-step-init : goal.steps-loop-step-init
steps-loop-step-init t c =
    whole (each (map (n.step_seen (known_of c.args.self.now)) c.as_slice-step-items.result.now)) c.args.state.now

pub steps-returns-in_err-step : goal.steps-returns-in_err-step
steps-returns-in_err-step t c =
    let e : c.from_residual.result ≡ Err c.in_err-step.field-0.0 = search rules in
    subst (λ xs. Walks {A = (Unit {0})} (each (map (n.step_seen (known_of c.args.self.now)) xs)) c.args.state.now c.step.new.state c.from_residual.result) c.as_slice-step-items.ensures
    (subst (λ (r : Result (Unit {0}) Left). Walks {A = (Unit {0})} (each (map (n.step_seen (known_of c.args.self.now)) c.as_slice-step-items.result.now)) c.args.state.now c.step.new.state r) (sym e)
    (each_stops (Unit {0}) (Unit {0}) (n.step_seen (known_of c.args.self.now)) (each (map (n.step_seen (known_of c.args.self.now)) c.as_slice-step-items.result.now)) c.loop-step.step-index c.as_slice-step-items.result.now c.step-item.result c.args.state.now c.loop-step.state c.step.new.state c.in_err-step.field-0.0 (omega arith) c.step-item.is c.loop-step.invariant c.in_err-step.ensures))

pub steps-loop-step-preserved : goal.steps-loop-step-preserved
steps-loop-step-preserved t c =
    each_goes (n.step_seen (known_of c.args.self.now)) (each (map (n.step_seen (known_of c.args.self.now)) c.as_slice-step-items.result.now)) c.loop-step.step-index c.as_slice-step-items.result.now c.step-item.result c.args.state.now c.loop-step.state c.step.new.state (omega arith) c.step-item.is c.loop-step.invariant c.in_ok-step.ensures

pub steps-returns : goal.steps-returns
steps-returns t c =
    subst (λ xs. Passed (each (map (n.step_seen (known_of c.args.self.now)) xs)) c.args.state.now c.loop-step.state) c.as_slice-step-items.ensures
    (each_done (n.step_seen (known_of c.args.self.now)) (each (map (n.step_seen (known_of c.args.self.now)) c.as_slice-step-items.result.now)) c.loop-step.step-index c.as_slice-step-items.result.now c.args.state.now c.loop-step.state (omega arith) c.loop-step.invariant)

pub stmts-loop-stmt-init : goal.stmts-loop-stmt-init
stmts-loop-stmt-init t c =
    whole (each (map (n.stmt_seen (known_of c.args.self.now)) c.as_slice-stmt-items.result.now)) c.args.state.now

pub stmts-returns-in_err-stmt : goal.stmts-returns-in_err-stmt
stmts-returns-in_err-stmt t c =
    let e : c.from_residual.result ≡ Err c.in_err-stmt.field-0.0 = search rules in
    subst (λ xs. Walks {A = (Unit {0})} (each (map (n.stmt_seen (known_of c.args.self.now)) xs)) c.args.state.now c.stmt.new.state c.from_residual.result) c.as_slice-stmt-items.ensures
    (subst (λ (r : Result (Unit {0}) Left). Walks {A = (Unit {0})} (each (map (n.stmt_seen (known_of c.args.self.now)) c.as_slice-stmt-items.result.now)) c.args.state.now c.stmt.new.state r) (sym e)
    (each_stops (Unit {0}) (Unit {0}) (n.stmt_seen (known_of c.args.self.now)) (each (map (n.stmt_seen (known_of c.args.self.now)) c.as_slice-stmt-items.result.now)) c.loop-stmt.stmt-index c.as_slice-stmt-items.result.now c.stmt-item.result c.args.state.now c.loop-stmt.state c.stmt.new.state c.in_err-stmt.field-0.0 (omega arith) c.stmt-item.is c.loop-stmt.invariant c.in_err-stmt.ensures))

pub stmts-loop-stmt-preserved : goal.stmts-loop-stmt-preserved
stmts-loop-stmt-preserved t c =
    each_goes (n.stmt_seen (known_of c.args.self.now)) (each (map (n.stmt_seen (known_of c.args.self.now)) c.as_slice-stmt-items.result.now)) c.loop-stmt.stmt-index c.as_slice-stmt-items.result.now c.stmt-item.result c.args.state.now c.loop-stmt.state c.stmt.new.state (omega arith) c.stmt-item.is c.loop-stmt.invariant c.in_ok-stmt.ensures

pub stmts-returns : goal.stmts-returns
stmts-returns t c =
    subst (λ xs. Passed (each (map (n.stmt_seen (known_of c.args.self.now)) xs)) c.args.state.now c.loop-stmt.state) c.as_slice-stmt-items.ensures
    (each_done (n.stmt_seen (known_of c.args.self.now)) (each (map (n.stmt_seen (known_of c.args.self.now)) c.as_slice-stmt-items.result.now)) c.loop-stmt.stmt-index c.as_slice-stmt-items.result.now c.args.state.now c.loop-stmt.state (omega arith) c.loop-stmt.invariant)

pub arm-returns : goal.arm-returns
arm-returns t c =
    ended (Unit {0}) _ _ _ c.args.state.now c.bind.new.state c.block.new.state c.block.result (arm_of (known_of c.args.self.now) c.args.arm.now)
    (begun (gives (n.bound c.args.arm.now.pattern)) (n.block_seen (known_of c.args.self.now) c.args.arm.now.block) c.args.state.now c.bind.new.state c.in_ok-bind.ensures) c.block.ensures

pub arms-loop-arm-init : goal.arms-loop-arm-init
arms-loop-arm-init t c =
    no_branch (one_of (map (n.arm_seen (known_of c.args.self.now)) c.as_slice-arm-items.result.now)) c.new-joined.result c.args.state.now c.new-joined.ensures

pub arms-end_branch-requires : goal.arms-end_branch-requires
arms-end_branch-requires t c =
    has_room (Unit {0}) ((n.arm_seen (known_of c.args.self.now)) c.arm-item.result) (changes_of c.args.state.now.held) c.moment-moment.result c.loop-arm.state c.arm-ended.new.state c.arm-ended.result c.moment-moment.ensures c.loop-arm.invariant.back.1 c.arm-ended.ensures

pub arms-loop-arm-preserved : goal.arms-loop-arm-preserved
arms-loop-arm-preserved t c =
    arm_goes (n.arm_seen (known_of c.args.self.now)) (one_of (map (n.arm_seen (known_of c.args.self.now)) c.as_slice-arm-items.result.now)) c.loop-arm.arm-index c.as_slice-arm-items.result.now c.arm-item.result c.loop-arm.joined c.end_branch.new.joined c.args.state.now c.loop-arm.state c.arm-ended.new.state c.end_branch.new.state c.arm-ended.result (omega arith) c.arm-item.is c.loop-arm.invariant c.arm-ended.ensures
    (λ l. c.in_ok-end_branch.ensures.back (set_of c.args.state.now.held) (changes_of c.args.state.now.held) l c.moment-moment.ensures, λ l. c.in_ok-end_branch.ensures.joined (set_of c.args.state.now.held) (changes_of c.args.state.now.held) l c.moment-moment.ensures, c.in_ok-end_branch.ensures.taken, c.in_ok-end_branch.ensures.told, c.in_ok-end_branch.ensures.memory)

pub arms-returns : goal.arms-returns
arms-returns t c =
    subst (λ xs. Walks {A = (Unit {0})} (one_of (map (n.arm_seen (known_of c.args.self.now)) xs)) c.args.state.now (record { held = c.go_on.new.self; taken = c.loop-arm.state.taken; told = c.loop-arm.state.told }) c.go_on.result) c.as_slice-arm-items.ensures
    (behind (Unit {0}) (one_of (map (n.arm_seen (known_of c.args.self.now)) c.as_slice-arm-items.result.now)) c.loop-arm.joined c.args.state.now c.loop-arm.state (record { held = c.go_on.new.self; taken = c.loop-arm.state.taken; told = c.loop-arm.state.told }) c.go_on.result (arms_done (n.arm_seen (known_of c.args.self.now)) (one_of (map (n.arm_seen (known_of c.args.self.now)) c.as_slice-arm-items.result.now)) c.loop-arm.arm-index c.as_slice-arm-items.result.now c.loop-arm.joined c.args.state.now c.loop-arm.state (omega arith) c.loop-arm.invariant) c.go_on.ensures refl refl)

pub block-returns-in_err-stmts : goal.block-returns-in_err-stmts
block-returns-in_err-stmts t c =
    stopped (Unit {0}) (Unit {0}) _ _ (each (map (n.stmt_seen (known_of c.args.self.now)) c.args.block.now.statements)) (n.tail_seen (known_of c.args.self.now) c.args.block.now.tail) c.args.state.now c.args.state.now c.stmts.new.state c.in_err-stmts.field-0.0 c.from_residual.result (search rules) (block_of (known_of c.args.self.now) c.args.block.now) (whole _ c.args.state.now) c.in_err-stmts.ensures

pub block-returns : goal.block-returns
block-returns t c =
    ended (Unit {0}) _ _ _ c.args.state.now c.stmts.new.state c.tail.new.state c.tail.result (block_of (known_of c.args.self.now) c.args.block.now)
    (begun (each (map (n.stmt_seen (known_of c.args.self.now)) c.args.block.now.statements)) (n.tail_seen (known_of c.args.self.now) c.args.block.now.tail) c.args.state.now c.stmts.new.state c.in_ok-stmts.ensures) c.tail.ensures

pub maybe-end_branch-requires : goal.maybe-end_branch-requires
maybe-end_branch-requires t c =
    has_room (Unit {0}) (n.exp_seen (known_of c.args.self.now) c.args.exp.now false) (changes_of c.args.state.now.held) c.moment-moment.result c.args.state.now c.exp-ended.new.state c.exp-ended.result c.moment-moment.ensures refl c.exp-ended.ensures

pub maybe-returns : goal.maybe-returns
maybe-returns t c =
    behind (Unit {0}) (either idle (n.exp_seen (known_of c.args.self.now) c.args.exp.now false)) c.end_branch.new.joined c.args.state.now c.end_branch.new.state (record { held = c.go_on.new.self; taken = c.end_branch.new.state.taken; told = c.end_branch.new.state.told }) c.go_on.result
    (last_branch (either idle (n.exp_seen (known_of c.args.self.now) c.args.exp.now false)) (n.exp_seen (known_of c.args.self.now) c.args.exp.now false) c.idle-joined.result c.end_branch.new.joined c.args.state.now c.args.state.now c.exp-ended.new.state c.end_branch.new.state c.exp-ended.result (idle_branch (n.exp_seen (known_of c.args.self.now) c.args.exp.now false) c.idle-joined.result c.args.state.now c.idle-joined.ensures) c.exp-ended.ensures
    (λ l. c.in_ok-end_branch.ensures.back (set_of c.args.state.now.held) (changes_of c.args.state.now.held) l c.moment-moment.ensures, λ l. c.in_ok-end_branch.ensures.joined (set_of c.args.state.now.held) (changes_of c.args.state.now.held) l c.moment-moment.ensures, c.in_ok-end_branch.ensures.taken, c.in_ok-end_branch.ensures.told, c.in_ok-end_branch.ensures.memory)) c.go_on.ensures refl refl

pub exp-returns-in_ok-read-in-Var : goal.exp-returns-in_ok-read-in-Var
exp-returns-in_ok-read-in-Var t c =
    as_seen (Unit {0}) _ _ c.args.state.now c.read.new.state (Ok tt) (exp_as (known_of c.args.self.now) c.args.exp.now _ _ c.args.is_lent c.in-Var.is (exp_var (known_of c.args.self.now) c.in-Var.local c.in-Var.span)) c.in_ok-read-in-Var.ensures

pub exp-returns-in-Op : goal.exp-returns-in-Op
exp-returns-in-Op t c =
    as_seen (Unit {0}) _ _ c.args.state.now c.operation.new.state c.operation.result (exp_as (known_of c.args.self.now) c.args.exp.now _ _ c.args.is_lent c.in-Op.is (exp_op (known_of c.args.self.now) c.in-Op.name c.in-Op.note c.in-Op.operands)) c.operation.ensures

pub exp-returns-in-Call : goal.exp-returns-in-Call
exp-returns-in-Call t c =
    let these : modes_of c.params-params.result.now ≡ modes (map function_of c.args.self.now.callees.now.functions.now) c.in-Call.name = c.params-params.ensures ∙ ap (modes (map function_of c.args.self.now.callees.now.functions.now)) c.bytes.ensures in
    as_seen (Unit {0}) _ _ c.args.state.now c.exps.new.state c.exps.result ((exp_as (known_of c.args.self.now) c.args.exp.now _ _ c.args.is_lent c.in-Call.is (exp_call (known_of c.args.self.now) c.in-Call.name c.in-Call.arguments)) ∙ ap (λ ms. in_row (λ i. lent_at (slice_get ms i)) (map (n.exp_seen (known_of c.args.self.now)) c.in-Call.arguments)) (sym these)) c.exps.ensures

pub exp-returns-in-In : goal.exp-returns-in-In
exp-returns-in-In t c =
    as_seen (Unit {0}) _ _ c.args.state.now c.rhs.new.state c.rhs.result ((exp_as (known_of c.args.self.now) c.args.exp.now _ _ c.args.is_lent c.in-In.is (exp_in (known_of c.args.self.now) c.in-In.field-0 c.in-In.rhs)) ∙ ap (n.rhs_seen (known_of c.args.self.now)) (sym c.get.ensures)) c.rhs.ensures

pub exp-returns-in-Lit : goal.exp-returns-in-Lit
exp-returns-in-Lit t c =
    as_seen (Unit {0}) _ _ c.args.state.now c.args.state.now (Ok tt) (idle_as (known_of c.args.self.now) c.args.exp.now c.args.is_lent c.in-Lit.is) (idle_walked c.args.state.now)

pub exp-returns-in-Lit-2 : goal.exp-returns-in-Lit-2
exp-returns-in-Lit-2 t c =
    as_seen (Unit {0}) _ _ c.args.state.now c.args.state.now (Ok tt) (idle_as (known_of c.args.self.now) c.args.exp.now c.args.is_lent c.in-Lit.is) (idle_walked c.args.state.now)

pub exp-returns-in-Lit-3 : goal.exp-returns-in-Lit-3
exp-returns-in-Lit-3 t c =
    as_seen (Unit {0}) _ _ c.args.state.now c.args.state.now (Ok tt) (idle_as (known_of c.args.self.now) c.args.exp.now c.args.is_lent c.in-Lit.is) (idle_walked c.args.state.now)

pub exp-returns-in-Lit-4 : goal.exp-returns-in-Lit-4
exp-returns-in-Lit-4 t c =
    as_seen (Unit {0}) _ _ c.args.state.now c.args.state.now (Ok tt) (idle_as (known_of c.args.self.now) c.args.exp.now c.args.is_lent c.in-Lit.is) (idle_walked c.args.state.now)

pub exp-returns-in_err-exp-in-And : goal.exp-returns-in_err-exp-in-And
exp-returns-in_err-exp-in-And t c =
    let same : n.exp_seen (known_of c.args.self.now) c.args.exp.now c.args.is_lent ≡ (n.exp_seen (known_of c.args.self.now) c.in-And.first false & either idle (n.exp_seen (known_of c.args.self.now) c.in-And.second false)) =
    ⊎_elim (λ h. exp_as (known_of c.args.self.now) c.args.exp.now _ _ c.args.is_lent h (exp_and (known_of c.args.self.now) c.in-And.first c.in-And.second)) (λ h. exp_as (known_of c.args.self.now) c.args.exp.now _ _ c.args.is_lent h (exp_or (known_of c.args.self.now) c.in-And.first c.in-And.second)) c.in-And.is in
    stopped (Unit {0}) (Unit {0}) _ _ (n.exp_seen (known_of c.args.self.now) c.in-And.first false) (either idle (n.exp_seen (known_of c.args.self.now) c.in-And.second false)) c.args.state.now c.args.state.now c.exp.new.state c.in_err-exp-in-And.field-0.0 c.from_residual-in_err-exp-in-And.result (search rules) same (whole _ c.args.state.now) (as_seen (Unit {0}) _ _ c.args.state.now c.exp.new.state (Err c.in_err-exp-in-And.field-0.0) (ap (λ (x : E). n.exp_seen (known_of c.args.self.now) x false) (sym c.get-in-And.ensures)) c.in_err-exp-in-And.ensures)

pub exp-returns-in_ok-exp-in-And : goal.exp-returns-in_ok-exp-in-And
exp-returns-in_ok-exp-in-And t c =
    let same : n.exp_seen (known_of c.args.self.now) c.args.exp.now c.args.is_lent ≡ (n.exp_seen (known_of c.args.self.now) c.in-And.first false & either idle (n.exp_seen (known_of c.args.self.now) c.in-And.second false)) =
    ⊎_elim (λ h. exp_as (known_of c.args.self.now) c.args.exp.now _ _ c.args.is_lent h (exp_and (known_of c.args.self.now) c.in-And.first c.in-And.second)) (λ h. exp_as (known_of c.args.self.now) c.args.exp.now _ _ c.args.is_lent h (exp_or (known_of c.args.self.now) c.in-And.first c.in-And.second)) c.in-And.is in
    ended (Unit {0}) _ _ (either idle (n.exp_seen (known_of c.args.self.now) c.in-And.second false)) c.args.state.now c.exp.new.state c.maybe.new.state c.maybe.result same
    (begun (n.exp_seen (known_of c.args.self.now) c.in-And.first false) (either idle (n.exp_seen (known_of c.args.self.now) c.in-And.second false)) c.args.state.now c.exp.new.state (as_seen (Unit {0}) _ _ c.args.state.now c.exp.new.state (Ok tt) (ap (λ (x : E). n.exp_seen (known_of c.args.self.now) x false) (sym c.get-in-And.ensures)) c.in_ok-exp-in-And.ensures))
    (as_seen (Unit {0}) _ _ c.exp.new.state c.maybe.new.state c.maybe.result (ap (λ (x : E). either idle (n.exp_seen (known_of c.args.self.now) x false)) (sym c.get-in-And-2.ensures)) c.maybe.ensures)

pub exp-returns-in-Tuple : goal.exp-returns-in-Tuple
exp-returns-in-Tuple t c =
    let same : n.exp_seen (known_of c.args.self.now) c.args.exp.now c.args.is_lent ≡ in_row none_lent (map (n.exp_seen (known_of c.args.self.now)) c.in-Tuple.parts) =
    ⊎_elim (λ h. exp_as (known_of c.args.self.now) c.args.exp.now _ _ c.args.is_lent h (exp_tuple (known_of c.args.self.now) c.in-Tuple.parts)) (⊎_elim (λ h. exp_as (known_of c.args.self.now) c.args.exp.now _ _ c.args.is_lent h (exp_list (known_of c.args.self.now) c.in-Tuple.parts)) (λ h. exp_as (known_of c.args.self.now) c.args.exp.now _ _ c.args.is_lent h.2 (exp_ctor (known_of c.args.self.now) h.0 h.1 c.in-Tuple.parts))) c.in-Tuple.is in
    as_seen (Unit {0}) _ _ c.args.state.now c.exps-in-Tuple.new.state c.exps-in-Tuple.result same c.exps-in-Tuple.ensures

pub operation-returns-in_err-exps : goal.operation-returns-in_err-exps
operation-returns-in_err-exps t c =
    let same : (λ i. lends c.use_named-used.result i) ≡ operand_lent c.args.name.now = fun_ext (λ i. c.use_named-used.ensures.lends i ∙ ap (λ x. operand_lent x i) c.bytes.ensures) in
    let part : (in_row (operand_lent c.args.name.now) (map (n.exp_seen (known_of c.args.self.now)) c.args.operands.now)) ≡ in_row (λ i. lends c.use_named-used.result i) (map (n.exp_seen (known_of c.args.self.now)) c.args.operands.now) = ap (λ l. in_row l (map (n.exp_seen (known_of c.args.self.now)) c.args.operands.now)) (sym same) in
    stopped (Unit {0}) (Unit {0}) _ _ (in_row (operand_lent c.args.name.now) (map (n.exp_seen (known_of c.args.self.now)) c.args.operands.now)) (asked c.args.note.now.span (λ d. of_operation (takes_part c.args.name.now) c.args.is_lent (copied c.args.self.now.table.now c.args.note.now.ty))) c.args.state.now c.args.state.now c.exps.new.state c.in_err-exps.field-0.0 c.from_residual.result (search rules) refl (whole ((in_row (operand_lent c.args.name.now) (map (n.exp_seen (known_of c.args.self.now)) c.args.operands.now)) & (asked c.args.note.now.span (λ d. of_operation (takes_part c.args.name.now) c.args.is_lent (copied c.args.self.now.table.now c.args.note.now.ty)))) c.args.state.now) (as_seen (Unit {0}) _ _ c.args.state.now c.exps.new.state (Err c.in_err-exps.field-0.0) part c.in_err-exps.ensures)

pub operation-returns-then-is_part : goal.operation-returns-then-is_part
operation-returns-then-is_part t c =
    let same : (λ i. lends c.use_named-used.result i) ≡ operand_lent c.args.name.now = fun_ext (λ i. c.use_named-used.ensures.lends i ∙ ap (λ x. operand_lent x i) c.bytes.ensures) in
    let part : (in_row (operand_lent c.args.name.now) (map (n.exp_seen (known_of c.args.self.now)) c.args.operands.now)) ≡ in_row (λ i. lends c.use_named-used.result i) (map (n.exp_seen (known_of c.args.self.now)) c.args.operands.now) = ap (λ l. in_row l (map (n.exp_seen (known_of c.args.self.now)) c.args.operands.now)) (sym same) in
    let takes : takes_part c.args.name.now ≡ true = ap takes_part (sym c.bytes.ensures) ∙ sym c.use_named-used.ensures.part ∙ sym c.is_part.ensures ∙ c.if-is_part.true in
    let is : copied c.args.self.now.table.now c.args.note.now.ty ≡ c.is_copied-is_copied.result = sym (c.is_copied-is_copied.ensures ∙ ap (copied c.args.self.now.table.now) c.get.ensures) in
    let node : (asked c.args.note.now.span (λ d. of_operation (takes_part c.args.name.now) c.args.is_lent (copied c.args.self.now.table.now c.args.note.now.ty))) ≡ asked c.args.note.now.span (λ d. of_operation true c.args.is_lent c.is_copied-is_copied.result) = ap₂ (λ x y. asked c.args.note.now.span (λ d. of_operation x c.args.is_lent y)) takes is in
    ended (Unit {0}) _ _ (asked c.args.note.now.span (λ d. of_operation (takes_part c.args.name.now) c.args.is_lent (copied c.args.self.now.table.now c.args.note.now.ty))) c.args.state.now c.exps.new.state c.operate.new.self (Ok tt) refl (begun (in_row (operand_lent c.args.name.now) (map (n.exp_seen (known_of c.args.self.now)) c.args.operands.now)) (asked c.args.note.now.span (λ d. of_operation (takes_part c.args.name.now) c.args.is_lent (copied c.args.self.now.table.now c.args.note.now.ty))) c.args.state.now c.exps.new.state (as_seen (Unit {0}) _ _ c.args.state.now c.exps.new.state (Ok tt) part c.in_ok-exps.ensures)) (as_seen (Unit {0}) _ _ c.exps.new.state c.operate.new.self (Ok tt) node c.operate.ensures)

pub operation-returns-else-is_part : goal.operation-returns-else-is_part
operation-returns-else-is_part t c =
    let same : (λ i. lends c.use_named-used.result i) ≡ operand_lent c.args.name.now = fun_ext (λ i. c.use_named-used.ensures.lends i ∙ ap (λ x. operand_lent x i) c.bytes.ensures) in
    let part : (in_row (operand_lent c.args.name.now) (map (n.exp_seen (known_of c.args.self.now)) c.args.operands.now)) ≡ in_row (λ i. lends c.use_named-used.result i) (map (n.exp_seen (known_of c.args.self.now)) c.args.operands.now) = ap (λ l. in_row l (map (n.exp_seen (known_of c.args.self.now)) c.args.operands.now)) (sym same) in
    let takes : takes_part c.args.name.now ≡ false = ap takes_part (sym c.bytes.ensures) ∙ sym c.use_named-used.ensures.part ∙ sym c.is_part.ensures ∙ c.if-is_part.false in
    let node : (asked c.args.note.now.span (λ d. of_operation (takes_part c.args.name.now) c.args.is_lent (copied c.args.self.now.table.now c.args.note.now.ty))) ≡ idle = ap (λ x. asked c.args.note.now.span (λ d. of_operation x c.args.is_lent (copied c.args.self.now.table.now c.args.note.now.ty))) takes in
    ended (Unit {0}) _ _ (asked c.args.note.now.span (λ d. of_operation (takes_part c.args.name.now) c.args.is_lent (copied c.args.self.now.table.now c.args.note.now.ty))) c.args.state.now c.exps.new.state c.exps.new.state (Ok tt) refl (begun (in_row (operand_lent c.args.name.now) (map (n.exp_seen (known_of c.args.self.now)) c.args.operands.now)) (asked c.args.note.now.span (λ d. of_operation (takes_part c.args.name.now) c.args.is_lent (copied c.args.self.now.table.now c.args.note.now.ty))) c.args.state.now c.exps.new.state (as_seen (Unit {0}) _ _ c.args.state.now c.exps.new.state (Ok tt) part c.in_ok-exps.ensures)) (as_seen (Unit {0}) _ _ c.exps.new.state c.exps.new.state (Ok tt) node (idle_walked c.exps.new.state))

pub rhs-returns-in_err-exp-in-If : goal.rhs-returns-in_err-exp-in-If
rhs-returns-in_err-exp-in-If t c =
    stopped (Unit {0}) (Unit {0}) _ _ (n.exp_seen (known_of c.args.self.now) c.in-If.condition false) (either (n.block_seen (known_of c.args.self.now) c.in-If.then) (n.block_seen (known_of c.args.self.now) c.in-If.otherwise)) c.args.state.now c.args.state.now c.exp.new.state c.in_err-exp-in-If.field-0.0 c.from_residual.result (search rules) (ap (n.rhs_seen (known_of c.args.self.now)) c.in-If.is ∙ rhs_if (known_of c.args.self.now) c.in-If.condition c.in-If.then c.in-If.otherwise) (whole _ c.args.state.now) c.in_err-exp-in-If.ensures

pub rhs-end_branch-requires-in-If : goal.rhs-end_branch-requires-in-If
rhs-end_branch-requires-in-If t c =
    let first : Branches (either (n.block_seen (known_of c.args.self.now) c.get.result.now) (n.block_seen (known_of c.args.self.now) c.get-in-If.result.now)) (n.block_seen (known_of c.args.self.now) c.get-in-If.result.now) c.end_branch.new.joined c.exp.new.state c.end_branch.new.state =
    branch (either (n.block_seen (known_of c.args.self.now) c.get.result.now) (n.block_seen (known_of c.args.self.now) c.get-in-If.result.now)) (n.block_seen (known_of c.args.self.now) c.get.result.now) (n.block_seen (known_of c.args.self.now) c.get-in-If.result.now) c.new-joined.result c.end_branch.new.joined c.exp.new.state c.exp.new.state c.block-ended.new.state c.end_branch.new.state c.block-ended.result (no_branch (either (n.block_seen (known_of c.args.self.now) c.get.result.now) (n.block_seen (known_of c.args.self.now) c.get-in-If.result.now)) c.new-joined.result c.exp.new.state c.new-joined.ensures) c.block-ended.ensures
    (λ l. c.in_ok-end_branch-in-If.ensures.back (set_of c.exp.new.state.held) (changes_of c.exp.new.state.held) l c.moment-moment.ensures, λ l. c.in_ok-end_branch-in-If.ensures.joined (set_of c.exp.new.state.held) (changes_of c.exp.new.state.held) l c.moment-moment.ensures, c.in_ok-end_branch-in-If.ensures.taken, c.in_ok-end_branch-in-If.ensures.told, c.in_ok-end_branch-in-If.ensures.memory) in
    has_room (Unit {0}) (n.block_seen (known_of c.args.self.now) c.get-in-If.result.now) (changes_of c.exp.new.state.held) c.moment-moment.result c.end_branch.new.state c.block-ended-in-If.new.state c.block-ended-in-If.result c.moment-moment.ensures first.back.1 c.block-ended-in-If.ensures

pub rhs-returns-in_ok-end_branch-in-If-2 : goal.rhs-returns-in_ok-end_branch-in-If-2
rhs-returns-in_ok-end_branch-in-If-2 t c =
    let first : Branches (either (n.block_seen (known_of c.args.self.now) c.get.result.now) (n.block_seen (known_of c.args.self.now) c.get-in-If.result.now)) (n.block_seen (known_of c.args.self.now) c.get-in-If.result.now) c.end_branch.new.joined c.exp.new.state c.end_branch.new.state =
    branch (either (n.block_seen (known_of c.args.self.now) c.get.result.now) (n.block_seen (known_of c.args.self.now) c.get-in-If.result.now)) (n.block_seen (known_of c.args.self.now) c.get.result.now) (n.block_seen (known_of c.args.self.now) c.get-in-If.result.now) c.new-joined.result c.end_branch.new.joined c.exp.new.state c.exp.new.state c.block-ended.new.state c.end_branch.new.state c.block-ended.result (no_branch (either (n.block_seen (known_of c.args.self.now) c.get.result.now) (n.block_seen (known_of c.args.self.now) c.get-in-If.result.now)) c.new-joined.result c.exp.new.state c.new-joined.ensures) c.block-ended.ensures
    (λ l. c.in_ok-end_branch-in-If.ensures.back (set_of c.exp.new.state.held) (changes_of c.exp.new.state.held) l c.moment-moment.ensures, λ l. c.in_ok-end_branch-in-If.ensures.joined (set_of c.exp.new.state.held) (changes_of c.exp.new.state.held) l c.moment-moment.ensures, c.in_ok-end_branch-in-If.ensures.taken, c.in_ok-end_branch-in-If.ensures.told, c.in_ok-end_branch-in-If.ensures.memory) in
    ended (Unit {0}) _ _ (either (n.block_seen (known_of c.args.self.now) c.get.result.now) (n.block_seen (known_of c.args.self.now) c.get-in-If.result.now)) c.args.state.now c.exp.new.state (record { held = c.go_on.new.self; taken = c.end_branch-in-If.new.state.taken; told = c.end_branch-in-If.new.state.told }) c.go_on.result ((ap (n.rhs_seen (known_of c.args.self.now)) c.in-If.is ∙ rhs_if (known_of c.args.self.now) c.in-If.condition c.in-If.then c.in-If.otherwise) ∙ ap₂ (λ (x y : B). (n.exp_seen (known_of c.args.self.now) c.in-If.condition false) & either (n.block_seen (known_of c.args.self.now) x) (n.block_seen (known_of c.args.self.now) y)) (sym c.get.ensures) (sym c.get-in-If.ensures))
    (begun (n.exp_seen (known_of c.args.self.now) c.in-If.condition false) (either (n.block_seen (known_of c.args.self.now) c.get.result.now) (n.block_seen (known_of c.args.self.now) c.get-in-If.result.now)) c.args.state.now c.exp.new.state c.in_ok-exp-in-If.ensures)
    (behind (Unit {0}) (either (n.block_seen (known_of c.args.self.now) c.get.result.now) (n.block_seen (known_of c.args.self.now) c.get-in-If.result.now)) c.end_branch-in-If.new.joined c.exp.new.state c.end_branch-in-If.new.state (record { held = c.go_on.new.self; taken = c.end_branch-in-If.new.state.taken; told = c.end_branch-in-If.new.state.told }) c.go_on.result
    (last_branch (either (n.block_seen (known_of c.args.self.now) c.get.result.now) (n.block_seen (known_of c.args.self.now) c.get-in-If.result.now)) (n.block_seen (known_of c.args.self.now) c.get-in-If.result.now) c.end_branch.new.joined c.end_branch-in-If.new.joined c.exp.new.state c.end_branch.new.state c.block-ended-in-If.new.state c.end_branch-in-If.new.state c.block-ended-in-If.result first c.block-ended-in-If.ensures
    (λ l. c.in_ok-end_branch-in-If-2.ensures.back (set_of c.exp.new.state.held) (changes_of c.exp.new.state.held) l c.moment-moment.ensures, λ l. c.in_ok-end_branch-in-If-2.ensures.joined (set_of c.exp.new.state.held) (changes_of c.exp.new.state.held) l c.moment-moment.ensures, c.in_ok-end_branch-in-If-2.ensures.taken, c.in_ok-end_branch-in-If-2.ensures.told, c.in_ok-end_branch-in-If-2.ensures.memory)) c.go_on.ensures refl refl)

pub rhs-returns-in_err-exp-in-Match : goal.rhs-returns-in_err-exp-in-Match
rhs-returns-in_err-exp-in-Match t c =
    stopped (Unit {0}) (Unit {0}) _ _ (n.exp_seen (known_of c.args.self.now) c.in-Match.scrutinee false) (one_of (map (n.arm_seen (known_of c.args.self.now)) c.in-Match.arms)) c.args.state.now c.args.state.now c.exp-in-Match.new.state c.in_err-exp-in-Match.field-0.0 c.from_residual-in_err-exp-in-Match.result (search rules) (ap (n.rhs_seen (known_of c.args.self.now)) c.in-Match.is ∙ rhs_match (known_of c.args.self.now) c.in-Match.scrutinee c.in-Match.arms) (whole _ c.args.state.now) c.in_err-exp-in-Match.ensures

pub rhs-returns-in_ok-exp-in-Match : goal.rhs-returns-in_ok-exp-in-Match
rhs-returns-in_ok-exp-in-Match t c =
    ended (Unit {0}) _ _ (one_of (map (n.arm_seen (known_of c.args.self.now)) c.in-Match.arms)) c.args.state.now c.exp-in-Match.new.state c.arms.new.state c.arms.result (ap (n.rhs_seen (known_of c.args.self.now)) c.in-Match.is ∙ rhs_match (known_of c.args.self.now) c.in-Match.scrutinee c.in-Match.arms) (begun (n.exp_seen (known_of c.args.self.now) c.in-Match.scrutinee false) (one_of (map (n.arm_seen (known_of c.args.self.now)) c.in-Match.arms)) c.args.state.now c.exp-in-Match.new.state c.in_ok-exp-in-Match.ensures) c.arms.ensures

pub rhs-returns-in-Block : goal.rhs-returns-in-Block
rhs-returns-in-Block t c =
    as_seen (Unit {0}) _ _ c.args.state.now c.block.new.state c.block.result (ap (n.rhs_seen (known_of c.args.self.now)) c.in-Block.is ∙ rhs_block (known_of c.args.self.now) c.in-Block.block ∙ ap (n.block_seen (known_of c.args.self.now)) (sym c.get-in-Block.ensures)) c.block.ensures

pub rhs-returns-in-LendCall : goal.rhs-returns-in-LendCall
rhs-returns-in-LendCall t c =
    let these : modes_of c.params.result.now ≡ modes (map function_of c.args.self.now.callees.now.functions.now) c.in-LendCall.name = c.params.ensures ∙ ap (modes (map function_of c.args.self.now.callees.now.functions.now)) c.bytes.ensures in
    as_seen (Unit {0}) _ _ c.args.state.now c.args-in-LendCall.new.state c.args-in-LendCall.result (ap (n.rhs_seen (known_of c.args.self.now)) c.in-LendCall.is ∙ rhs_lendcall (known_of c.args.self.now) c.in-LendCall.field-0 c.in-LendCall.name c.in-LendCall.args ∙ ap (λ ms. in_row (λ i. lent_at (slice_get ms i)) (map (n.arg_seen (known_of c.args.self.now)) c.in-LendCall.args)) (sym these)) c.args-in-LendCall.ensures

pub rhs-returns-in-Exp : goal.rhs-returns-in-Exp
rhs-returns-in-Exp t c =
    let same : n.rhs_seen (known_of c.args.self.now) c.args.rhs.now ≡ n.exp_seen (known_of c.args.self.now) c.in-Exp.exp false =
    ⊎_elim (λ h. ap (n.rhs_seen (known_of c.args.self.now)) h ∙ rhs_exp (known_of c.args.self.now) c.in-Exp.exp) (λ h. ap (n.rhs_seen (known_of c.args.self.now)) h.2 ∙ rhs_quest (known_of c.args.self.now) h.0 h.1 c.in-Exp.exp) c.in-Exp.is in
    as_seen (Unit {0}) _ _ c.args.state.now c.exp-in-Exp.new.state c.exp-in-Exp.result same c.exp-in-Exp.ensures

pub step-returns-in-At : goal.step-returns-in-At
step-returns-in-At t c =
    as_seen (Unit {0}) _ _ c.args.state.now c.exp.new.state c.exp.result (ap (n.step_seen (known_of c.args.self.now)) c.in-At.is ∙ step_at (known_of c.args.self.now) c.in-At.index) c.exp.ensures

pub step-returns-in-Part : goal.step-returns-in-Part
step-returns-in-Part t c =
    as_seen (Unit {0}) _ _ c.args.state.now c.args.state.now (Ok tt) (ap (n.step_seen (known_of c.args.self.now)) c.in-Part.is ∙ step_part (known_of c.args.self.now) c.in-Part.field-0) (idle_walked c.args.state.now)

pub stmt-returns-in_err-rhs-in-Let : goal.stmt-returns-in_err-rhs-in-Let
stmt-returns-in_err-rhs-in-Let t c =
    stopped (Unit {0}) (Unit {0}) _ _ (n.rhs_seen (known_of c.args.self.now) c.in-Let.rhs) (gives (n.bound c.in-Let.pattern)) c.args.state.now c.args.state.now c.rhs.new.state c.in_err-rhs-in-Let.field-0.0 c.from_residual.result (search rules) (ap (n.stmt_seen (known_of c.args.self.now)) c.in-Let.is ∙ stmt_let (known_of c.args.self.now) c.in-Let.pattern c.in-Let.rhs) (whole _ c.args.state.now) c.in_err-rhs-in-Let.ensures

pub stmt-returns-in_ok-bind-in-Let : goal.stmt-returns-in_ok-bind-in-Let
stmt-returns-in_ok-bind-in-Let t c =
    ended (Unit {0}) _ _ (gives (n.bound c.in-Let.pattern)) c.args.state.now c.rhs.new.state c.bind.new.state (Ok tt) (ap (n.stmt_seen (known_of c.args.self.now)) c.in-Let.is ∙ stmt_let (known_of c.args.self.now) c.in-Let.pattern c.in-Let.rhs) (begun (n.rhs_seen (known_of c.args.self.now) c.in-Let.rhs) (gives (n.bound c.in-Let.pattern)) c.args.state.now c.rhs.new.state c.in_ok-rhs-in-Let.ensures) c.in_ok-bind-in-Let.ensures

pub stmt-returns-in-Do : goal.stmt-returns-in-Do
stmt-returns-in-Do t c =
    as_seen (Unit {0}) _ _ c.args.state.now c.rhs-in-Do.new.state c.rhs-in-Do.result (ap (n.stmt_seen (known_of c.args.self.now)) c.in-Do.is ∙ stmt_do (known_of c.args.self.now) c.in-Do.rhs) c.rhs-in-Do.ensures

pub stmt-returns-in_err-rhs-in-Set : goal.stmt-returns-in_err-rhs-in-Set
stmt-returns-in_err-rhs-in-Set t c =
    stopped (Unit {0}) (Unit {0}) _ _ (n.rhs_seen (known_of c.args.self.now) c.in-Set.rhs) (gives (c.in-Set.local ∷ [])) c.args.state.now c.args.state.now c.rhs-in-Set.new.state c.in_err-rhs-in-Set.field-0.0 c.from_residual-in_err-rhs-in-Set.result (search rules) (ap (n.stmt_seen (known_of c.args.self.now)) c.in-Set.is ∙ stmt_set (known_of c.args.self.now) c.in-Set.field-0 c.in-Set.local c.in-Set.rhs) (whole _ c.args.state.now) c.in_err-rhs-in-Set.ensures

pub stmt-returns-in_ok-give-in-Set : goal.stmt-returns-in_ok-give-in-Set
stmt-returns-in_ok-give-in-Set t c =
    ended (Unit {0}) _ _ (gives (c.in-Set.local ∷ [])) c.args.state.now c.rhs-in-Set.new.state c.give.new.self (Ok tt) (ap (n.stmt_seen (known_of c.args.self.now)) c.in-Set.is ∙ stmt_set (known_of c.args.self.now) c.in-Set.field-0 c.in-Set.local c.in-Set.rhs) (begun (n.rhs_seen (known_of c.args.self.now) c.in-Set.rhs) (gives (c.in-Set.local ∷ [])) c.args.state.now c.rhs-in-Set.new.state c.in_ok-rhs-in-Set.ensures) c.in_ok-give-in-Set.ensures

pub stmt-returns-in_err-exp-in-For : goal.stmt-returns-in_err-exp-in-For
stmt-returns-in_err-exp-in-For t c =
    stopped (Unit {0}) (Unit {0}) _ _ (n.exp_seen (known_of c.args.self.now) c.in-For.low false) ((n.exp_seen (known_of c.args.self.now) c.in-For.high false) & (turns c.in-For.variable (n.block_seen (known_of c.args.self.now) c.in-For.body))) c.args.state.now c.args.state.now c.exp.new.state c.in_err-exp-in-For.field-0.0 c.from_residual-in_err-exp-in-For.result (search rules) (ap (n.stmt_seen (known_of c.args.self.now)) c.in-For.is ∙ stmt_for (known_of c.args.self.now) c.in-For.field-0 c.in-For.field-1 c.in-For.variable c.in-For.low c.in-For.high c.in-For.body) (whole _ c.args.state.now) c.in_err-exp-in-For.ensures

pub stmt-returns-in_err-exp-in-For-2 : goal.stmt-returns-in_err-exp-in-For-2
stmt-returns-in_err-exp-in-For-2 t c =
    stopped (Unit {0}) (Unit {0}) _ _ (n.exp_seen (known_of c.args.self.now) c.in-For.high false) (turns c.in-For.variable (n.block_seen (known_of c.args.self.now) c.in-For.body)) c.args.state.now c.exp.new.state c.exp-in-For.new.state c.in_err-exp-in-For-2.field-0.0 c.from_residual-in_err-exp-in-For-2.result (search rules) (ap (n.stmt_seen (known_of c.args.self.now)) c.in-For.is ∙ stmt_for (known_of c.args.self.now) c.in-For.field-0 c.in-For.field-1 c.in-For.variable c.in-For.low c.in-For.high c.in-For.body) (begun (n.exp_seen (known_of c.args.self.now) c.in-For.low false) ((n.exp_seen (known_of c.args.self.now) c.in-For.high false) & (turns c.in-For.variable (n.block_seen (known_of c.args.self.now) c.in-For.body))) c.args.state.now c.exp.new.state c.in_ok-exp-in-For.ensures) c.in_err-exp-in-For-2.ensures

pub stmt-returns-in_ok-exp-in-For-2 : goal.stmt-returns-in_ok-exp-in-For-2
stmt-returns-in_ok-exp-in-For-2 t c =
    ended (Unit {0}) _ _ (turns c.in-For.variable (n.block_seen (known_of c.args.self.now) c.in-For.body)) c.args.state.now c.exp-in-For.new.state c.turn.new.state c.turn.result (ap (n.stmt_seen (known_of c.args.self.now)) c.in-For.is ∙ stmt_for (known_of c.args.self.now) c.in-For.field-0 c.in-For.field-1 c.in-For.variable c.in-For.low c.in-For.high c.in-For.body)
    (goes _ (n.exp_seen (known_of c.args.self.now) c.in-For.high false) (turns c.in-For.variable (n.block_seen (known_of c.args.self.now) c.in-For.body)) c.args.state.now c.exp.new.state c.exp-in-For.new.state (begun (n.exp_seen (known_of c.args.self.now) c.in-For.low false) ((n.exp_seen (known_of c.args.self.now) c.in-For.high false) & (turns c.in-For.variable (n.block_seen (known_of c.args.self.now) c.in-For.body))) c.args.state.now c.exp.new.state c.in_ok-exp-in-For.ensures) c.in_ok-exp-in-For-2.ensures)
    (as_seen (Unit {0}) _ _ c.exp-in-For.new.state c.turn.new.state c.turn.result (ap (λ (b : B). turns c.in-For.variable (n.block_seen (known_of c.args.self.now) b)) (sym c.get.ensures)) c.turn.ensures)

pub stmt-returns-in_err-rhs-in-Place : goal.stmt-returns-in_err-rhs-in-Place
stmt-returns-in_err-rhs-in-Place t c =
    stopped (Unit {0}) (Unit {0}) _ _ (n.rhs_seen (known_of c.args.self.now) c.in-Place.rhs) ((each (map (n.step_seen (known_of c.args.self.now)) c.in-Place.steps)) & (asked c.in-Place.span (λ d. of_place (is_none c.in-Place.op && n.is_here (map (n.step_seen (known_of c.args.self.now)) c.in-Place.steps)) (d c.in-Place.local)) & gives (c.in-Place.local ∷ []))) c.args.state.now c.args.state.now c.rhs-in-Place.new.state c.in_err-rhs-in-Place.field-0.0 c.from_residual-in_err-rhs-in-Place.result (search rules) (ap (n.stmt_seen (known_of c.args.self.now)) c.in-Place.is ∙ stmt_place (known_of c.args.self.now) c.in-Place.field-0 c.in-Place.span c.in-Place.op c.in-Place.local c.in-Place.steps c.in-Place.rhs) (whole _ c.args.state.now) c.in_err-rhs-in-Place.ensures

pub stmt-returns-in_err-steps-in-Place : goal.stmt-returns-in_err-steps-in-Place
stmt-returns-in_err-steps-in-Place t c =
    stopped (Unit {0}) (Unit {0}) _ _ (each (map (n.step_seen (known_of c.args.self.now)) c.in-Place.steps)) (asked c.in-Place.span (λ d. of_place (is_none c.in-Place.op && n.is_here (map (n.step_seen (known_of c.args.self.now)) c.in-Place.steps)) (d c.in-Place.local)) & gives (c.in-Place.local ∷ [])) c.args.state.now c.rhs-in-Place.new.state c.steps.new.state c.in_err-steps-in-Place.field-0.0 c.from_residual-in_err-steps-in-Place.result (search rules) (ap (n.stmt_seen (known_of c.args.self.now)) c.in-Place.is ∙ stmt_place (known_of c.args.self.now) c.in-Place.field-0 c.in-Place.span c.in-Place.op c.in-Place.local c.in-Place.steps c.in-Place.rhs) (begun (n.rhs_seen (known_of c.args.self.now) c.in-Place.rhs) ((each (map (n.step_seen (known_of c.args.self.now)) c.in-Place.steps)) & (asked c.in-Place.span (λ d. of_place (is_none c.in-Place.op && n.is_here (map (n.step_seen (known_of c.args.self.now)) c.in-Place.steps)) (d c.in-Place.local)) & gives (c.in-Place.local ∷ []))) c.args.state.now c.rhs-in-Place.new.state c.in_ok-rhs-in-Place.ensures) c.in_err-steps-in-Place.ensures

pub stmt-returns-in_ok-assign-in-Place : goal.stmt-returns-in_ok-assign-in-Place
stmt-returns-in_ok-assign-in-Place t c =
    let whole_is : (is_none c.in-Place.op && n.is_here (map (n.step_seen (known_of c.args.self.now)) c.in-Place.steps)) ≡ c.if-is_none.is_whole =
    sym (elim c.if-is_none.branch [
      | stmt-then-is_none w ↦ w.is_whole-is ∙ empty_here (n.step_seen (known_of c.args.self.now)) c.in-Place.steps w.is_empty-is_whole.result w.is_empty-is_whole.ensures ∙ ap (λ b. b && n.is_here (map (n.step_seen (known_of c.args.self.now)) c.in-Place.steps)) (sym w.if-is_none.true ∙ none_is c.in-Place.op c.is_none.result c.is_none.ensures)
      | stmt-else-is_none w ↦ w.is_whole-is ∙ w.if-is_none.false ∙ ap (λ b. b && n.is_here (map (n.step_seen (known_of c.args.self.now)) c.in-Place.steps)) (sym w.if-is_none.false ∙ none_is c.in-Place.op c.is_none.result c.is_none.ensures)
    ]) in
    ended (Unit {0}) _ _ (asked c.in-Place.span (λ d. of_place (is_none c.in-Place.op && n.is_here (map (n.step_seen (known_of c.args.self.now)) c.in-Place.steps)) (d c.in-Place.local)) & gives (c.in-Place.local ∷ [])) c.args.state.now c.steps.new.state c.assign.new.self (Ok tt) (ap (n.stmt_seen (known_of c.args.self.now)) c.in-Place.is ∙ stmt_place (known_of c.args.self.now) c.in-Place.field-0 c.in-Place.span c.in-Place.op c.in-Place.local c.in-Place.steps c.in-Place.rhs)
    (goes _ (each (map (n.step_seen (known_of c.args.self.now)) c.in-Place.steps)) (asked c.in-Place.span (λ d. of_place (is_none c.in-Place.op && n.is_here (map (n.step_seen (known_of c.args.self.now)) c.in-Place.steps)) (d c.in-Place.local)) & gives (c.in-Place.local ∷ [])) c.args.state.now c.rhs-in-Place.new.state c.steps.new.state (begun (n.rhs_seen (known_of c.args.self.now) c.in-Place.rhs) ((each (map (n.step_seen (known_of c.args.self.now)) c.in-Place.steps)) & (asked c.in-Place.span (λ d. of_place (is_none c.in-Place.op && n.is_here (map (n.step_seen (known_of c.args.self.now)) c.in-Place.steps)) (d c.in-Place.local)) & gives (c.in-Place.local ∷ []))) c.args.state.now c.rhs-in-Place.new.state c.in_ok-rhs-in-Place.ensures) c.in_ok-steps-in-Place.ensures)
    (as_seen (Unit {0}) _ _ c.steps.new.state c.assign.new.self (Ok tt) (ap (λ x. asked c.in-Place.span (λ d. of_place x (d c.in-Place.local)) & gives (c.in-Place.local ∷ [])) whole_is) c.in_ok-assign-in-Place.ensures)

pub tail-returns-in-Rhs : goal.tail-returns-in-Rhs
tail-returns-in-Rhs t c =
    as_seen (Unit {0}) _ _ c.args.state.now c.rhs.new.state c.rhs.result (ap (n.tail_seen (known_of c.args.self.now)) c.in-Rhs.is ∙ tail_rhs (known_of c.args.self.now) c.in-Rhs.rhs) c.rhs.ensures

pub tail-returns-in_err-exp-in-Return : goal.tail-returns-in_err-exp-in-Return
tail-returns-in_err-exp-in-Return t c =
    stopped (Unit {0}) (Unit {0}) _ _ (n.exp_seen (known_of c.args.self.now) c.in-Return.exp false) nowhere c.args.state.now c.args.state.now c.exp.new.state c.in_err-exp-in-Return.field-0.0 c.from_residual.result (search rules) (ap (n.tail_seen (known_of c.args.self.now)) c.in-Return.is ∙ tail_return (known_of c.args.self.now) c.in-Return.field-0 c.in-Return.exp) (whole _ c.args.state.now) c.in_err-exp-in-Return.ensures

pub tail-returns-in_ok-exp-in-Return : goal.tail-returns-in_ok-exp-in-Return
tail-returns-in_ok-exp-in-Return t c =
    as_seen (Unit {0}) _ _ c.args.state.now c.exp.new.state (Err left.Exits) (ap (n.tail_seen (known_of c.args.self.now)) c.in-Return.is ∙ tail_return (known_of c.args.self.now) c.in-Return.field-0 c.in-Return.exp) (gone ((n.exp_seen (known_of c.args.self.now) c.in-Return.exp false) & nowhere) c.args.state.now c.exp.new.state (begun (n.exp_seen (known_of c.args.self.now) c.in-Return.exp false) nowhere c.args.state.now c.exp.new.state c.in_ok-exp-in-Return.ensures))

pub turn-end_turn-requires : goal.turn-end_turn-requires
turn-end_turn-requires t c =
    reads_room c.len-taken.result (gives (c.args.variable ∷ [])) (n.block_seen (known_of c.args.self.now) c.args.body.now) c.args.state.now c.give.new.self c.block.new.state (search rules) c.in_ok-give.ensures c.in-Ok.ensures

pub turn-returns-in_ok-end_turn-in-Ok : goal.turn-returns-in_ok-end_turn-in-Ok
turn-returns-in_ok-end_turn-in-Ok t c =
    turned_once c.args.variable (n.block_seen (known_of c.args.self.now) c.args.body.now) c.len-taken.result c.args.state.now c.give.new.self c.block.new.state c.end_turn.new.self c.in_ok-give.ensures c.in-Ok.ensures (search rules)
    (λ l. c.in_ok-end_turn-in-Ok.ensures.back (set_of c.args.state.now.held) (changes_of c.args.state.now.held) l c.moment-moment.ensures) c.in_ok-end_turn-in-Ok.ensures.taken c.in_ok-end_turn-in-Ok.ensures.told

pub turn-returns-in_ok-go_back-in-Err-Exits : goal.turn-returns-in_ok-go_back-in-Err-Exits
turn-returns-in_ok-go_back-in-Err-Exits t c =
    turned_never c.args.variable (n.block_seen (known_of c.args.self.now) c.args.body.now) c.args.state.now c.give.new.self c.block.new.state (record { held = c.go_back.new.self; taken = c.block.new.state.taken; told = c.block.new.state.told }) c.in_ok-give.ensures (subst (λ (x : Left). Walks {A = Unit {0}} (n.block_seen (known_of c.args.self.now) c.args.body.now) c.give.new.self c.block.new.state (Err x)) c.in-Err-Exits.field-0-is c.in-Err-Exits.ensures)
    (λ l. c.in_ok-go_back-in-Err-Exits.ensures (set_of c.args.state.now.held) (changes_of c.args.state.now.held) l c.moment-moment.ensures) refl refl
