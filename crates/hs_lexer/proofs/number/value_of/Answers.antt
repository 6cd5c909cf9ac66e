use Rattle.std.proofs.Common.{ℕ, ◌<◌, ◌^◌, get_or, sym, ap, subst, ◌∙◌, arith}
use Rattle.hs_lexer.specs.Numbers.{value_with}
use Rattle.hs_lexer.proofs.Values.{value_more, past_limit, value_whole}
use Rattle.hs_lexer.proofs.number.value_of.Goals as goal

pub returns-in_err-value : goal.returns-in_err-value
returns-in_err-value c =
    rw c.from_residual.ensures
    (past_limit c.args.base c.args.run.now c.loop-byte.byte-index c.loop-byte.value (omega arith) (omega arith)
    c.loop-byte.invariant.0 c.in_err-value.ensures)

pub loop-byte-preserved : goal.loop-byte-preserved
loop-byte-preserved c =
    let b : ℕ = get_or c.args.run.now c.loop-byte.byte-index 0 in
    let small = c.in_ok-value.ensures.0 in
    let made = c.in_ok-value.ensures.1 in (
      made ∙ ap (λ v. value_with c.args.base v b) c.loop-byte.invariant.0
          ∙ sym (value_more c.args.base c.args.run.now c.loop-byte.byte-index (omega arith)),
      subst (λ (n : ℕ). n < 2 ^ 128) (sym made) small,
    )

pub returns : goal.returns
returns c =
    let whole = value_whole c.args.base c.args.run.now c.loop-byte.byte-index c.loop-byte.value (omega arith) c.loop-byte.invariant.0 in
    (subst (λ (n : ℕ). n < 2 ^ 128) whole c.loop-byte.invariant.1, whole)
