use Rattle.std.proofs.Common.{arith, ap, sym, ◌∙◌, ◌++◌, ◌∷◌, []}
use Rattle.std.proofs.lemmas.Result.{err_from_is_err_and}
use Rattle.hs_front.specs.Written.{next_param}
use Rattle.hs_front.specs.Lookahead.{next_param_full}
use Rattle.hs_front.proofs.Repeats.{from_start, from_on, from_wrong, from_ended, from_full}
use Rattle.hs_front.proofs.parse.next_params.Goals.{then-loop-tokens-test+else-is_at, else-loop-tokens-test}
use Rattle.hs_front.proofs.parse.next_params.Goals as goal

pub loop-tokens-init : goal.loop-tokens-init
loop-tokens-init c = from_start next_param next_param_full 31 c.args.first c.push.new.self c.args.tokens.now (c.in_ok-push.ensures.ok ∙ ap (λ l. l ++ c.args.first ∷ []) c.new-params.ensures)

pub returns-in_err-next_param : goal.returns-in_err-next_param
unfolding next_param
returns-in_err-next_param c =
    let told = err_from_is_err_and c.from_residual-in_err-next_param.result c.from_residual-in_err-next_param.ensures.1 in
    rw (told.1, told.2)
    (from_wrong next_param next_param_full 31 c.args.first c.loop-tokens.params c.loop-tokens.tokens c.next_param.new.tokens c.in_err-next_param.field-0.0 _ (omega arith) (sym c.is_at.ensures ∙ c.if-is_at.true)
    c.in_err-next_param.ensures c.loop-tokens.invariant)

pub loop-tokens-preserved : goal.loop-tokens-preserved
unfolding next_param
loop-tokens-preserved c =
    from_on next_param next_param_full 31 c.args.first c.loop-tokens.params c.push-in-loop-tokens.new.self c.loop-tokens.tokens c.next_param.new.tokens c.in_ok-next_param.field-0 _ (omega arith) (sym c.is_at.ensures ∙ c.if-is_at.true)
    c.in_ok-next_param.ensures c.in_ok-push-2.ensures.ok c.loop-tokens.invariant

pub returns : goal.returns
unfolding next_param
returns c = elim c.loop-tokens-test.branch [
  | then-loop-tokens-test+else-is_at w ↦ from_ended next_param next_param_full 31 c.args.first c.loop-tokens.params c.loop-tokens.tokens _ (sym w.is_at.ensures ∙ w.if-is_at.false) c.loop-tokens.invariant
  | else-loop-tokens-test w ↦ from_full next_param next_param_full 31 c.args.first c.loop-tokens.params c.loop-tokens.tokens _ (omega arith) c.loop-tokens.invariant
]
