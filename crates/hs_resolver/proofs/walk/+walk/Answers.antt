use Rattle.std.proofs.Common.{ℕ, ◌≡◌, ◌∙◌, ap, ap₂, subst, Bool, Ok, Err, None, List, map, drop, length, rules, arith}
use Rattle.hs_marks.specs.First.{first}
use Rattle.hs_marks.specs.declared.halt.Halt.{Halt}
use Rattle.hs_syntax.specs.declared.exp.Exp.{Exp}
use Rattle.hs_syntax.specs.declared.file.File.{File}
use Rattle.hs_scope.specs.Scope.{Binding, oldest}
use Rattle.hs_resolver.specs.declared.known.Known.{Known}
use Rattle.hs_resolver.specs.Walks.{Alike, Walks}
use Rattle.hs_resolver.specs.Parts.{all, every, nothing, bound}
use Rattle.hs_resolver.specs.Names.{alone, called_path, steps, binds_of_arm, names_of_arm_pat, names_of_exp, names_of_arg, names_of_arm, names_of_operand, names_of_postfix}
use Rattle.hs_resolver.proofs.Layers.{exp_group, exp_tuple, exp_path, exp_call, exp_block, exp_if, exp_match, exp_post, exp_prefix, exp_cast, exp_binary, arg_value, arg_shared, arg_lent, arg_list, else_chain, else_last, postfix_try, postfix_method, postfix_step, step_index, stmt_let, stmt_return, stmt_bare, stmt_exp, arm_of}
use Rattle.hs_resolver.proofs.Walking.{goes, stops, goes_behind, stops_before, stops_at}
use Rattle.hs_resolver.proofs.Steps.{goes_on}
use Rattle.hs_resolver.proofs.Binds.{lines_oldest}
use Rattle.hs_resolver.proofs.walk.+walk.Goals as goal

-- a walk that ends in an expression ends in what is the same
ends_in : (file : File) (in_function : Bool) (x y : Exp) (scope : List Binding) (old new : Known) (h : Halt) → x ≡ y
    → Walks {A = Unit {0}} (names_of_exp file in_function x scope) old new (Err h) → Walks {A = Unit {0}} (names_of_exp file in_function y scope) old new (Err h)
ends_in file in_function x y scope old new h e w = subst (λ (z : Exp). Walks {A = Unit {0}} (names_of_exp file in_function z scope) old new (Err h)) e w

pub exp-returns-in-Group-clause-walks : goal.exp-returns-in-Group-clause-walks
exp-returns-in-Group-clause-walks t c =
    rw (c.in-Group.is, exp_group) (rw c.get.ensures at c.exp.ensures.walks)

pub exp-returns-in-Tuple-clause-walks : goal.exp-returns-in-Tuple-clause-walks
exp-returns-in-Tuple-clause-walks t c =
    rw (c.in-Tuple.is, exp_tuple) c.exps.ensures.walks

pub exp-returns-in-Path-clause-walks : goal.exp-returns-in-Path-clause-walks
exp-returns-in-Path-clause-walks t c =
    rw (c.in-Path.is, exp_path) c.value_path.ensures

pub exp-returns-in-Block-clause-walks : goal.exp-returns-in-Block-clause-walks
exp-returns-in-Block-clause-walks t c =
    rw (c.in-Block.is, exp_block) (rw c.get-in-Block.ensures at c.block.ensures.walks)

pub exp-returns-in-If-clause-walks : goal.exp-returns-in-If-clause-walks
exp-returns-in-If-clause-walks t c =
    rw (c.in-If.is, exp_if) (rw c.get-in-If.ensures at c.if_.ensures.walks)

pub exp-returns-in-Prefix-clause-walks : goal.exp-returns-in-Prefix-clause-walks
exp-returns-in-Prefix-clause-walks t c =
    rw (c.in-Prefix.is, exp_prefix) (rw c.get-in-Prefix.ensures at c.exp-in-Prefix.ensures.walks)

pub exp-returns-in_err-called_path-in-Call-clause-walks : goal.exp-returns-in_err-called_path-in-Call-clause-walks
exp-returns-in_err-called_path-in-Call-clause-walks t c =
    let e : c.from_residual.result ≡ Err c.in_err-called_path-in-Call.field-0.0 = search rules in
    rw (c.in-Call.is, exp_call, e) (stops (Unit {0}) (Unit {0}) (called_path c.args.world.now.paths.now c.in-Call.path) (every (map (names_of_arg c.args.world.now.paths.now c.args.world.now.in_function) c.in-Call.given) c.args.scope.now) c.args.known.now c.called_path.new.known c.called_path.new.known c.in_err-called_path-in-Call.field-0.0 c.in_err-called_path-in-Call.ensures)

pub exp-returns-in_ok-called_path-in-Call-clause-walks : goal.exp-returns-in_ok-called_path-in-Call-clause-walks
exp-returns-in_ok-called_path-in-Call-clause-walks t c =
    rw (c.in-Call.is, exp_call) (goes (called_path c.args.world.now.paths.now c.in-Call.path) (every (map (names_of_arg c.args.world.now.paths.now c.args.world.now.in_function) c.in-Call.given) c.args.scope.now) c.args.known.now c.called_path.new.known c.arguments.new.known c.in_ok-called_path-in-Call.field-0 c.arguments.result c.in_ok-called_path-in-Call.ensures c.arguments.ensures.walks)

pub exp-returns-in_err-exp-in-Match-clause-walks : goal.exp-returns-in_err-exp-in-Match-clause-walks
exp-returns-in_err-exp-in-Match-clause-walks t c =
    let e : c.from_residual-in_err-exp-in-Match.result ≡ Err c.in_err-exp-in-Match.field-0.0 = search rules in
    let ends = ends_in c.args.world.now.paths.now c.args.world.now.in_function c.get-in-Match.result.now c.in-Match.scrutinee c.args.scope.now c.args.known.now c.exp-in-Match.new.known c.in_err-exp-in-Match.field-0.0 c.get-in-Match.ensures c.in_err-exp-in-Match.ensures.walks in
    rw (c.in-Match.is, exp_match, e) (stops (Unit {0}) (Unit {0}) (names_of_exp c.args.world.now.paths.now c.args.world.now.in_function c.in-Match.scrutinee c.args.scope.now) (every (map (names_of_arm c.args.world.now.paths.now c.args.world.now.in_function) c.in-Match.list) c.args.scope.now) c.args.known.now c.exp-in-Match.new.known c.exp-in-Match.new.known c.in_err-exp-in-Match.field-0.0 ends)

pub exp-returns-in_ok-exp-in-Match-clause-walks : goal.exp-returns-in_ok-exp-in-Match-clause-walks
exp-returns-in_ok-exp-in-Match-clause-walks t c =
    rw (c.in-Match.is, exp_match) (goes (names_of_exp c.args.world.now.paths.now c.args.world.now.in_function c.in-Match.scrutinee c.args.scope.now) (every (map (names_of_arm c.args.world.now.paths.now c.args.world.now.in_function) c.in-Match.list) c.args.scope.now) c.args.known.now c.exp-in-Match.new.known c.arms.new.known c.in_ok-exp-in-Match.field-0 c.arms.result (rw c.get-in-Match.ensures at c.in_ok-exp-in-Match.ensures.walks) (rw c.in_ok-exp-in-Match.ensures.scope at c.arms.ensures.walks))

pub exp-returns-in_err-exp-in-Cast-clause-walks : goal.exp-returns-in_err-exp-in-Cast-clause-walks
exp-returns-in_err-exp-in-Cast-clause-walks t c =
    let e : c.from_residual-in_err-exp-in-Cast.result ≡ Err c.in_err-exp-in-Cast.field-0.0 = search rules in
    let ends = ends_in c.args.world.now.paths.now c.args.world.now.in_function c.get-in-Cast.result.now c.in-Cast.inner c.args.scope.now c.args.known.now c.exp-in-Cast.new.known c.in_err-exp-in-Cast.field-0.0 c.get-in-Cast.ensures c.in_err-exp-in-Cast.ensures.walks in
    rw (c.in-Cast.is, exp_cast, e) (stops (Unit {0}) (Unit {0}) (names_of_exp c.args.world.now.paths.now c.args.world.now.in_function c.in-Cast.inner c.args.scope.now) (all (map (alone c.args.world.now.paths.now) c.in-Cast.names)) c.args.known.now c.exp-in-Cast.new.known c.exp-in-Cast.new.known c.in_err-exp-in-Cast.field-0.0 ends)

pub exp-returns-in_ok-exp-in-Cast-clause-walks : goal.exp-returns-in_ok-exp-in-Cast-clause-walks
exp-returns-in_ok-exp-in-Cast-clause-walks t c =
    rw (c.in-Cast.is, exp_cast) (goes (names_of_exp c.args.world.now.paths.now c.args.world.now.in_function c.in-Cast.inner c.args.scope.now) (all (map (alone c.args.world.now.paths.now) c.in-Cast.names)) c.args.known.now c.exp-in-Cast.new.known c.casts.new.known c.in_ok-exp-in-Cast.field-0 c.casts.result (rw c.get-in-Cast.ensures at c.in_ok-exp-in-Cast.ensures.walks) c.casts.ensures)

pub exp-returns-in_err-exp-in-Binary-clause-walks : goal.exp-returns-in_err-exp-in-Binary-clause-walks
exp-returns-in_err-exp-in-Binary-clause-walks t c =
    let e : c.from_residual-in_err-exp-in-Binary.result ≡ Err c.in_err-exp-in-Binary.field-0.0 = search rules in
    let ends = ends_in c.args.world.now.paths.now c.args.world.now.in_function c.get-in-Binary.result.now c.in-Binary.first c.args.scope.now c.args.known.now c.exp-in-Binary.new.known c.in_err-exp-in-Binary.field-0.0 c.get-in-Binary.ensures c.in_err-exp-in-Binary.ensures.walks in
    rw (c.in-Binary.is, exp_binary, e) (stops (Unit {0}) (Unit {0}) (names_of_exp c.args.world.now.paths.now c.args.world.now.in_function c.in-Binary.first c.args.scope.now) (every (map (names_of_operand c.args.world.now.paths.now c.args.world.now.in_function) c.in-Binary.list) c.args.scope.now) c.args.known.now c.exp-in-Binary.new.known c.exp-in-Binary.new.known c.in_err-exp-in-Binary.field-0.0 ends)

pub exp-returns-in_ok-exp-in-Binary-clause-walks : goal.exp-returns-in_ok-exp-in-Binary-clause-walks
exp-returns-in_ok-exp-in-Binary-clause-walks t c =
    rw (c.in-Binary.is, exp_binary) (goes (names_of_exp c.args.world.now.paths.now c.args.world.now.in_function c.in-Binary.first c.args.scope.now) (every (map (names_of_operand c.args.world.now.paths.now c.args.world.now.in_function) c.in-Binary.list) c.args.scope.now) c.args.known.now c.exp-in-Binary.new.known c.operands.new.known c.in_ok-exp-in-Binary.field-0 c.operands.result (rw c.get-in-Binary.ensures at c.in_ok-exp-in-Binary.ensures.walks) (rw c.in_ok-exp-in-Binary.ensures.scope at c.operands.ensures.walks))

pub exp-returns-in_err-exp-in-Post-clause-walks : goal.exp-returns-in_err-exp-in-Post-clause-walks
exp-returns-in_err-exp-in-Post-clause-walks t c =
    let e : c.from_residual-in_err-exp-in-Post.result ≡ Err c.in_err-exp-in-Post.field-0.0 = search rules in
    let ends = ends_in c.args.world.now.paths.now c.args.world.now.in_function c.get-in-Post.result.now c.in-Post.first c.args.scope.now c.args.known.now c.exp-in-Post.new.known c.in_err-exp-in-Post.field-0.0 c.get-in-Post.ensures c.in_err-exp-in-Post.ensures.walks in
    rw (c.in-Post.is, exp_post, e) (stops_before (Unit {0}) (Unit {0}) c.args.world.now.paths.now c.args.world.now.in_function c.in-Post.span.start (map (names_of_postfix c.args.world.now.paths.now c.args.world.now.in_function) c.in-Post.list) c.args.scope.now (names_of_exp c.args.world.now.paths.now c.args.world.now.in_function c.in-Post.first c.args.scope.now c.args.known.now) c.exp-in-Post.new.known c.exp-in-Post.new.known c.in_err-exp-in-Post.field-0.0 ends)

pub exp-returns-in_ok-exp-in-Post-clause-walks : goal.exp-returns-in_ok-exp-in-Post-clause-walks
exp-returns-in_ok-exp-in-Post-clause-walks t c =
    let before : (first (names_of_exp c.args.world.now.paths.now c.args.world.now.in_function c.in-Post.first c.args.scope.now c.args.known.now).nodes ≡ None) × (c.exp-in-Post.new.known ≡ (names_of_exp c.args.world.now.paths.now c.args.world.now.in_function c.in-Post.first c.args.scope.now c.args.known.now).behind) = rw c.get-in-Post.ensures at c.in_ok-exp-in-Post.ensures.walks in
    rw (c.in-Post.is, exp_post) (goes_behind c.args.world.now.paths.now c.args.world.now.in_function c.in-Post.span.start (map (names_of_postfix c.args.world.now.paths.now c.args.world.now.in_function) c.in-Post.list) c.args.scope.now (names_of_exp c.args.world.now.paths.now c.args.world.now.in_function c.in-Post.first c.args.scope.now c.args.known.now) c.exp-in-Post.new.known c.steps.new.known c.steps.result before.0 before.1 (rw c.in_ok-exp-in-Post.ensures.scope at c.steps.ensures.walks))

pub argument-returns-in-Value-clause-walks : goal.argument-returns-in-Value-clause-walks
argument-returns-in-Value-clause-walks t c =
    rw (c.in-Value.is, arg_value) c.exp.ensures.walks

pub argument-returns-in-Shared-clause-walks : goal.argument-returns-in-Shared-clause-walks
argument-returns-in-Shared-clause-walks t c =
    rw (c.in-Shared.is, arg_shared) c.exp-in-Shared.ensures.walks

pub argument-returns-in-Lent-clause-walks : goal.argument-returns-in-Lent-clause-walks
argument-returns-in-Lent-clause-walks t c =
    rw (c.in-Lent.is, arg_lent) c.assigned.ensures

pub argument-returns-in-List-clause-walks : goal.argument-returns-in-List-clause-walks
argument-returns-in-List-clause-walks t c =
    rw (c.in-List.is, arg_list) c.exps.ensures.walks

pub else_-returns-in-Chain-clause-walks : goal.else_-returns-in-Chain-clause-walks
else_-returns-in-Chain-clause-walks t c =
    rw (c.in-Chain.is, else_chain) (rw c.get.ensures at c.if_.ensures.walks)

pub else_-returns-in-Last-clause-walks : goal.else_-returns-in-Last-clause-walks
else_-returns-in-Last-clause-walks t c =
    rw (c.in-Last.is, else_last) (rw c.get-in-Last.ensures at c.block.ensures.walks)

pub behind-returns-in-Try-clause-walks : goal.behind-returns-in-Try-clause-walks
behind-returns-in-Try-clause-walks t c =
    rw (c.in-Try.is, postfix_try) c.exit.ensures

pub behind-returns-in-Method-clause-walks : goal.behind-returns-in-Method-clause-walks
behind-returns-in-Method-clause-walks t c =
    rw (c.in-Method.is, postfix_method) c.arguments.ensures.walks

pub behind-returns-in-Step-clause-walks : goal.behind-returns-in-Step-clause-walks
behind-returns-in-Step-clause-walks t c =
    rw (c.in-Step.is, postfix_step) c.step.ensures.walks

pub step-returns-in-Index-clause-walks : goal.step-returns-in-Index-clause-walks
step-returns-in-Index-clause-walks t c =
    rw (c.in-Index.is, step_index) c.exp.ensures.walks

pub stmt-returns-in-Let-clause-walks : goal.stmt-returns-in-Let-clause-walks
stmt-returns-in-Let-clause-walks t c =
    rw (c.in-Let.is, stmt_let) c.let_.ensures.walks

pub stmt-returns-in-Let-clause-scope : goal.stmt-returns-in-Let-clause-scope
stmt-returns-in-Let-clause-scope t c =
    rw (c.in-Let.is, stmt_let) c.let_.ensures.scope

pub stmt-returns-in-Return-clause-walks : goal.stmt-returns-in-Return-clause-walks
stmt-returns-in-Return-clause-walks t c =
    rw (c.in-Return.is, stmt_return) c.return_.ensures.walks

pub stmt-returns-in-Return-clause-scope : goal.stmt-returns-in-Return-clause-scope
stmt-returns-in-Return-clause-scope t c =
    rw (c.in-Return.is, stmt_return) c.return_.ensures.scope

pub stmt-returns-in-Bare-clause-walks : goal.stmt-returns-in-Bare-clause-walks
stmt-returns-in-Bare-clause-walks t c =
    rw (c.in-Bare.is, stmt_bare) c.exp-in-Bare.ensures.walks

pub stmt-returns-in-Bare-clause-scope : goal.stmt-returns-in-Bare-clause-scope
stmt-returns-in-Bare-clause-scope t c =
    rw (c.in-Bare.is, stmt_bare) c.exp-in-Bare.ensures.scope

pub stmt-returns-in-Exp-clause-walks : goal.stmt-returns-in-Exp-clause-walks
stmt-returns-in-Exp-clause-walks t c =
    rw (c.in-Exp.is, stmt_exp) c.exp-in-Exp.ensures.walks

pub stmt-returns-in-Exp-clause-scope : goal.stmt-returns-in-Exp-clause-scope
stmt-returns-in-Exp-clause-scope t c =
    rw (c.in-Exp.is, stmt_exp) c.exp-in-Exp.ensures.scope

pub arm-returns-in_err-behind-clause-walks : goal.arm-returns-in_err-behind-clause-walks
arm-returns-in_err-behind-clause-walks t c =
    let e : c.from_residual.result ≡ Err c.in_err-behind.field-0.0 = search rules in
    rw (arm_of, e) (stops ℕ (Unit {0}) (names_of_arm_pat c.args.world.now.paths.now c.args.world.now.in_function c.args.arm.now.pattern (length c.args.known.now.places)) (names_of_exp c.args.world.now.paths.now c.args.world.now.in_function c.args.arm.now.value (bound c.args.world.now.paths.now.text (binds_of_arm c.args.arm.now.pattern) (length c.args.known.now.places) c.args.scope.now)) c.args.known.now c.arm_pat.new.known c.arm_pat.new.known c.in_err-behind.field-0.0 c.in_err-behind.ensures.walks)

pub arm-returns-in_err-exp-clause-walks : goal.arm-returns-in_err-exp-clause-walks
arm-returns-in_err-exp-clause-walks t c =
    let e : c.from_residual-in_err-exp.result ≡ Err c.in_err-exp.field-0.0 = search rules in
    let scope_is : c.bind_arm.new.scope ≡ bound c.args.world.now.paths.now.text (binds_of_arm c.args.arm.now.pattern) (length c.args.known.now.places) c.args.scope.now =
    c.in_ok-next.ensures.bound ∙ ap (λ (i : ℕ). bound c.args.world.now.paths.now.text (binds_of_arm c.args.arm.now.pattern) i c.args.scope.now) c.len-number.ensures in
    rw (arm_of, e) (goes {B = Unit {0}} (names_of_arm_pat c.args.world.now.paths.now c.args.world.now.in_function c.args.arm.now.pattern (length c.args.known.now.places)) (names_of_exp c.args.world.now.paths.now c.args.world.now.in_function c.args.arm.now.value (bound c.args.world.now.paths.now.text (binds_of_arm c.args.arm.now.pattern) (length c.args.known.now.places) c.args.scope.now)) c.args.known.now c.arm_pat.new.known c.exp.new.known c.in_ok-behind.behind (Err c.in_err-exp.field-0.0) c.in_ok-behind.ensures.walks
    (subst (λ (s : List Binding). Walks {A = Unit {0}} (names_of_exp c.args.world.now.paths.now c.args.world.now.in_function c.args.arm.now.value s) c.arm_pat.new.known c.exp.new.known (Err c.in_err-exp.field-0.0)) scope_is c.in_err-exp.ensures.walks))

pub arm-returns-clause-walks : goal.arm-returns-clause-walks
arm-returns-clause-walks t c =
    let scope_is : c.bind_arm.new.scope ≡ bound c.args.world.now.paths.now.text (binds_of_arm c.args.arm.now.pattern) (length c.args.known.now.places) c.args.scope.now =
    c.in_ok-next.ensures.bound ∙ ap (λ (i : ℕ). bound c.args.world.now.paths.now.text (binds_of_arm c.args.arm.now.pattern) i c.args.scope.now) c.len-number.ensures in
    rw arm_of (goes (names_of_arm_pat c.args.world.now.paths.now c.args.world.now.in_function c.args.arm.now.pattern (length c.args.known.now.places)) (names_of_exp c.args.world.now.paths.now c.args.world.now.in_function c.args.arm.now.value (bound c.args.world.now.paths.now.text (binds_of_arm c.args.arm.now.pattern) (length c.args.known.now.places) c.args.scope.now)) c.args.known.now c.arm_pat.new.known c.exp.new.known c.in_ok-behind.behind (Ok c.in_ok-exp.field-0) c.in_ok-behind.ensures.walks
    (subst (λ (s : List Binding). Walks {A = Unit {0}} (names_of_exp c.args.world.now.paths.now c.args.world.now.in_function c.args.arm.now.value s) c.arm_pat.new.known c.exp.new.known (Ok c.in_ok-exp.field-0)) scope_is c.in_ok-exp.ensures.walks))

pub block-returns-clause-scope : goal.block-returns-clause-scope
block-returns-clause-scope t c =
    c.leave.ensures.kept ∙ ap₂ oldest c.len-kept.ensures (c.in_ok-optional.ensures.scope ∙ c.in_ok-stmts.ensures.scope)
    ∙ lines_oldest c.args.world.now.paths.now c.args.world.now.in_function c.args.block.now.statements c.args.scope.now c.args.known.now

pub steps-returns-in_err-behind-clause-walks : goal.steps-returns-in_err-behind-clause-walks
steps-returns-in_err-behind-clause-walks t c =
    let e : c.from_residual.result ≡ Err c.in_err-behind.field-0.0 = search rules in
    let before : Alike (steps c.args.world.now.paths.now c.args.world.now.in_function c.args.start (map (names_of_postfix c.args.world.now.paths.now c.args.world.now.in_function) c.args.steps.now) c.args.scope.now (nothing c.args.known.now)) (steps c.args.world.now.paths.now c.args.world.now.in_function c.args.start (map (names_of_postfix c.args.world.now.paths.now c.args.world.now.in_function) (drop c.loop-one.one-index c.as_slice-one-items.result.now)) c.loop-one.scope (nothing c.loop-one.known)) = search rules in
    rw e (stops_at (Unit {0}) (Unit {0}) c.args.world.now.paths.now c.args.world.now.in_function c.args.start c.loop-one.scope (names_of_postfix c.args.world.now.paths.now c.args.world.now.in_function) c.loop-one.one-index c.as_slice-one-items.result.now c.one-item.result
    (steps c.args.world.now.paths.now c.args.world.now.in_function c.args.start (map (names_of_postfix c.args.world.now.paths.now c.args.world.now.in_function) c.args.steps.now) c.args.scope.now (nothing c.args.known.now)) c.loop-one.known c.behind.new.known c.behind.new.known c.in_err-behind.field-0.0
    (omega arith) c.one-item.is before c.in_err-behind.ensures.walks)

pub steps-loop-one-preserved : goal.steps-loop-one-preserved
steps-loop-one-preserved t c = (
  goes_on c.args.world.now.paths.now c.args.world.now.in_function c.args.start c.loop-one.scope (names_of_postfix c.args.world.now.paths.now c.args.world.now.in_function) c.loop-one.one-index c.as_slice-one-items.result.now c.one-item.result
      (steps c.args.world.now.paths.now c.args.world.now.in_function c.args.start (map (names_of_postfix c.args.world.now.paths.now c.args.world.now.in_function) c.as_slice-one-items.result.now) c.args.scope.now (nothing c.args.known.now)) c.loop-one.known c.behind.new.known c.behind.new.scope
      (omega arith) c.one-item.is c.loop-one.invariant.0 c.in_ok-behind.ensures.walks.0 c.in_ok-behind.ensures.walks.1 c.in_ok-behind.ensures.scope,
  c.in_ok-behind.ensures.scope ∙ c.loop-one.invariant.1,
)
