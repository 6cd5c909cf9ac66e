use Rattle.std.proofs.Common.{arith, ap, ◌∙◌}
use Rattle.std.proofs.lemmas.Result.{err_from_is_err_and}
use Rattle.hs_grammar.specs.Parser.{Done}
use Rattle.hs_front.proofs.Bodies.{going_on, going_value, going_wrong, going_full, going_last_wrong}
use Rattle.hs_front.proofs.parse.body.Goals as goal

pub returns-in_err-statement : goal.returns-in_err-statement
returns-in_err-statement c =
    let told = err_from_is_err_and c.from_residual.result c.from_residual.ensures.1 in
    rw (told.1, told.2)
    (going_wrong c.loop-tokens.statements c.loop-tokens.tokens c.step.new.tokens c.in_err-statement.field-0.0 _ (omega arith) c.in_err-statement.ensures c.loop-tokens.invariant)

pub loop-tokens-preserved : goal.loop-tokens-preserved
loop-tokens-preserved c =
    going_on c.loop-tokens.statements c.push.new.self c.loop-tokens.tokens c.step.new.tokens c.in-Statement.statement _ (omega arith)
    (c.in_ok-statement.ensures ∙ ap (λ p. Done p c.step.new.tokens) c.in-Statement.is) c.in_ok-push-in-Statement.ensures.ok c.loop-tokens.invariant

pub returns-in-Value : goal.returns-in-Value
returns-in-Value c =
    going_value c.loop-tokens.statements c.loop-tokens.tokens c.step.new.tokens c.in-Value.value _ (omega arith)
    (c.in_ok-statement.ensures ∙ ap (λ p. Done p c.step.new.tokens) c.in-Value.is) c.loop-tokens.invariant

pub returns-in_err-value : goal.returns-in_err-value
returns-in_err-value c =
    let told = err_from_is_err_and c.from_residual-in_err-value.result c.from_residual-in_err-value.ensures.1 in
    rw (told.1, told.2)
    (going_last_wrong c.loop-tokens.statements c.loop-tokens.tokens c.sum.new.tokens c.in_err-value.field-0.0 _ (omega arith) c.in_err-value.ensures c.loop-tokens.invariant)

pub returns : goal.returns
returns c = going_full c.loop-tokens.statements c.loop-tokens.tokens c.sum.new.tokens c.in_ok-value.value _ (omega arith) c.in_ok-value.ensures c.loop-tokens.invariant
