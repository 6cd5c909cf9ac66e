use Rattle.std.proofs.Common.{◌≡◌, ◌+◌, suc, None, Some, map, drop, ap, ◌∙◌, sym, arith, rules}
use Rattle.hs_syntax.specs.declared.span.Span.{Span}
use Rattle.hs_syntax.specs.declared.exp.Arg.{the_lemmas}
use Rattle.hs_limits.specs.Outline.{Node, part, statement, upto, one}
use Rattle.hs_limits.specs.Nodes.{node_of_exp, node_of_stmt, node_of_postfix, node_of_operand}
use Rattle.hs_limits.specs.Walk.{first_in, high, listed, first_high, first_chain, high_chain}
use Rattle.hs_limits.proofs.At.{exp_at, stmt_at, postfix_at, operand_at, operand_is}
use Rattle.hs_limits.proofs.First.{first_of_chain, high_of_chain}
use Rattle.hs_limits.proofs.Steps.{all_of, height_of, past_limit, chain_stops, chain_goes, chain_rises}
use Rattle.hs_limits.proofs.walk.+walk.Goals as goal

pub exps-loop-index-init : goal.exps-loop-index-init
exps-loop-index-init t c = record {
  told = all_of node_of_exp c.args.limit part c.as_slice-part-items.result.now;
  height = height_of node_of_exp c.args.limit part c.as_slice-part-items.result.now c.args.before;
}

pub stmt-returns-in_ok-exp-in-Bare : goal.stmt-returns-in_ok-exp-in-Bare
stmt-returns-in_ok-exp-in-Bare t c = grind (arith, the_lemmas, exp_at)

pub exp-returns-in_err-first-in-Post : goal.exp-returns-in_err-first-in-Post
exp-returns-in_err-first-in-Post t c = grind (arith, the_lemmas, first_of_chain)

pub exp-returns-in_err-steps_behind-in-Post : goal.exp-returns-in_err-steps_behind-in-Post
exp-returns-in_err-steps_behind-in-Post t c = grind (arith, the_lemmas, first_of_chain)

pub exp-returns-in_ok-steps_behind-in-Post : goal.exp-returns-in_ok-steps_behind-in-Post
exp-returns-in_ok-steps_behind-in-Post t c = grind (arith, the_lemmas, first_of_chain, high_of_chain)

pub exp-returns-in_err-inner-in-Cast : goal.exp-returns-in_err-inner-in-Cast
exp-returns-in_err-inner-in-Cast t c = grind (arith, the_lemmas, first_of_chain)

pub exp-returns-in_err-names_behind-in-Cast : goal.exp-returns-in_err-names_behind-in-Cast
exp-returns-in_err-names_behind-in-Cast t c = grind (arith, the_lemmas, first_of_chain)

pub exp-returns-in_err-first-in-Binary : goal.exp-returns-in_err-first-in-Binary
exp-returns-in_err-first-in-Binary t c = grind (arith, the_lemmas, first_of_chain)

pub exp-returns-in_err-operands_behind-in-Binary : goal.exp-returns-in_err-operands_behind-in-Binary
exp-returns-in_err-operands_behind-in-Binary t c = grind (arith, the_lemmas, first_of_chain)

pub exp-returns-in_ok-names_behind-in-Cast : goal.exp-returns-in_ok-names_behind-in-Cast
exp-returns-in_ok-names_behind-in-Cast t c = grind (arith, the_lemmas, first_of_chain, high_of_chain)

pub exp-returns-in_ok-operands_behind-in-Binary : goal.exp-returns-in_ok-operands_behind-in-Binary
exp-returns-in_ok-operands_behind-in-Binary t c = grind (arith, the_lemmas, first_of_chain, high_of_chain)

pub steps_behind-returns-in_err-height : goal.steps_behind-returns-in_err-height
steps_behind-returns-in_err-height t c =
    let told : first_chain c.args.start (map node_of_postfix c.args.steps.now) c.args.first ≡ Some c.in_err-height.field-0.0 =
    chain_stops node_of_postfix c.args.start c.loop-next.next-index c.loop-next.height c.in_ok-parts.parts c.as_slice-next-items.result.now c.next-item.result (record { start = c.args.start; end = c.span.result.end })
    (first_chain c.args.start (map node_of_postfix c.args.steps.now) c.args.first) c.in_err-height.field-0.0
    (omega arith) c.next-item.is (search rules) (search rules) (search rules)
    (ap (λ (s : Span). record { start = c.args.start; end = s.end }) (c.span.ensures ∙ sym (postfix_at c.next-item.result))) (search rules) in
    grind (arith, told)

pub operands_behind-returns-in_err-height : goal.operands_behind-returns-in_err-height
operands_behind-returns-in_err-height t c =
    let none : first_in (one (node_of_exp c.operand-item.result.right)) ≡ None = search rules in
    let high_is : c.in_ok-parts.parts ≡ high (one (node_of_exp c.operand-item.result.right)) c.loop-operand.height = search rules in
    let told : first_chain c.args.start (map node_of_operand c.args.operands.now) c.args.first ≡ Some c.in_err-height.field-0.0 =
    chain_stops node_of_operand c.args.start c.loop-operand.operand-index c.loop-operand.height c.in_ok-parts.parts c.as_slice-operand-items.result.now c.operand-item.result (record { start = c.args.start; end = c.span.result.end })
    (first_chain c.args.start (map node_of_operand c.args.operands.now) c.args.first) c.in_err-height.field-0.0
    (omega arith) c.operand-item.is (search rules) (ap (λ (n : Node). first_in (one n)) (operand_is c.operand-item.result) ∙ none)
    (high_is ∙ ap (λ (n : Node). high (one n) c.loop-operand.height) (sym (operand_is c.operand-item.result)))
    (ap (λ (s : Span). record { start = c.args.start; end = s.end }) (c.span.ensures ∙ sym (operand_at c.operand-item.result))) (search rules) in
    grind (arith, told)

pub operands_behind-loop-operand-preserved : goal.operands_behind-loop-operand-preserved
operands_behind-loop-operand-preserved t c =
    let none : first_in (one (node_of_exp c.operand-item.result.right)) ≡ None = search rules in
    let high_is : c.in_ok-parts.parts ≡ high (one (node_of_exp c.operand-item.result.right)) c.loop-operand.height = search rules in
    let now : c.in_ok-height.height ≡ suc c.in_ok-parts.parts = search rules in
    let fine : first_high (record { start = c.args.start; end = c.span.result.end }) c.in_ok-parts.parts ≡ None = search rules in
    let same : c.in_ok-parts.parts ≡ high (one (node_of_operand c.operand-item.result)) c.loop-operand.height = high_is ∙ ap (λ (n : Node). high (one n) c.loop-operand.height) (sym (operand_is c.operand-item.result)) in
    record {
      told =
          chain_goes node_of_operand c.args.start c.loop-operand.operand-index c.loop-operand.height c.in_ok-parts.parts c.as_slice-operand-items.result.now c.operand-item.result (record { start = c.args.start; end = c.span.result.end })
          (first_chain c.args.start (map node_of_operand c.as_slice-operand-items.result.now) c.args.first)
          (omega arith) c.operand-item.is c.loop-operand.invariant.told (ap (λ (n : Node). first_in (one n)) (operand_is c.operand-item.result) ∙ none) same
          (ap (λ (s : Span). record { start = c.args.start; end = s.end }) (c.span.ensures ∙ sym (operand_at c.operand-item.result))) fine
          ∙ ap (first_chain c.args.start (map node_of_operand (drop (c.loop-operand.operand-index + 1) c.as_slice-operand-items.result.now))) (sym now);
      height =
          chain_rises node_of_operand c.loop-operand.operand-index c.loop-operand.height c.in_ok-parts.parts c.as_slice-operand-items.result.now c.operand-item.result
          (high_chain (map node_of_operand c.as_slice-operand-items.result.now) c.args.first) (omega arith) c.operand-item.is c.loop-operand.invariant.height same
          ∙ ap (high_chain (map node_of_operand (drop (c.loop-operand.operand-index + 1) c.as_slice-operand-items.result.now))) (sym now);
    }

pub exps-returns-in_err-refuse_if : goal.exps-returns-in_err-refuse_if
exps-returns-in_err-refuse_if t c =
    let told : first_in (listed c.args.limit part (map node_of_exp c.args.exps.now)) ≡ Some c.in_err-refuse_if.field-0.0 =
    past_limit node_of_exp c.args.limit part c.loop-index.index c.as_slice-part-items.result.now c.part-item.result (first_in (listed c.args.limit part (map node_of_exp c.args.exps.now))) c.span.result c.is_past.result c.in_err-refuse_if.field-0.0
    (omega arith) c.part-item.is (search rules) (search rules) c.is_past.ensures (exp_at c.part-item.result ∙ sym c.span.ensures) (search rules) in
    grind (arith, told)

pub stmts-returns-in_err-refuse_if : goal.stmts-returns-in_err-refuse_if
stmts-returns-in_err-refuse_if t c =
    let told : first_in (upto 1024 statement (map node_of_stmt c.args.stmts.now)) ≡ Some c.in_err-refuse_if.field-0.0 =
    past_limit node_of_stmt (Some 1024) statement c.loop-index.index c.as_slice-next-items.result.now c.next-item.result (first_in (upto 1024 statement (map node_of_stmt c.args.stmts.now))) c.span.result c.is_past.result c.in_err-refuse_if.field-0.0
    (omega arith) c.next-item.is (search rules) (search rules) c.is_past.ensures (stmt_at c.next-item.result ∙ sym c.span.ensures) (search rules) in
    grind (arith, told)
