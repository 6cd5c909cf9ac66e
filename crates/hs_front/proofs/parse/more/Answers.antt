use Rattle.std.proofs.Common.{refl, arith, sym, ◌∙◌, subst}
use Rattle.std.proofs.lemmas.Result.{err_from_is_err_and}
use Rattle.hs_grammar.proofs.Reading.{giving-self}
use Rattle.hs_front.specs.Written.{addend, up_to}
use Rattle.hs_front.specs.Reading.{more, reads}
use Rattle.hs_front.specs.Lookahead.{addend_full}
use Rattle.hs_front.proofs.Repeats.{Going, going_start, going_on, going_wrong, going_ended, going_full}
use Rattle.hs_front.proofs.parse.more.Goals.{then-loop-tokens-test+else-is_at, else-loop-tokens-test}
use Rattle.hs_front.proofs.parse.more.Goals as goal

pub loop-tokens-init : goal.loop-tokens-init
unfolding more
loop-tokens-init c =
    subst (Going addend addend_full 61 (λ ps. ps) c.new-parts.result c.args.tokens.now) (giving-self (λ ps. ps) (λ ps. refl) (reads (up_to 61 addend) c.args.tokens.now))
    (going_start addend addend_full 61 (λ ps. ps) c.new-parts.result c.args.tokens.now c.new-parts.ensures)

pub returns-in_err-addend : goal.returns-in_err-addend
unfolding addend
returns-in_err-addend c =
    let told = err_from_is_err_and c.from_residual.result c.from_residual.ensures.1 in
    rw (told.1, told.2)
    (going_wrong addend addend_full 61 (λ ps. ps) c.loop-tokens.parts c.loop-tokens.tokens c.addend.new.tokens c.in_err-addend.field-0.0 _ (omega arith) (sym c.is_at.ensures ∙ c.if-is_at.true)
    c.in_err-addend.ensures c.loop-tokens.invariant)

pub loop-tokens-preserved : goal.loop-tokens-preserved
unfolding addend
loop-tokens-preserved c =
    rw c.in_ok-push.ensures.ok
    (going_on addend addend_full 61 (λ ps. ps) c.loop-tokens.parts c.loop-tokens.tokens c.addend.new.tokens c.in_ok-addend.field-0 _ (omega arith) (sym c.is_at.ensures ∙ c.if-is_at.true)
    c.in_ok-addend.ensures c.loop-tokens.invariant)

pub returns : goal.returns
unfolding addend
returns c = elim c.loop-tokens-test.branch [
  | then-loop-tokens-test+else-is_at w ↦ going_ended addend addend_full 61 (λ ps. ps) c.loop-tokens.parts c.loop-tokens.tokens _ (sym w.is_at.ensures ∙ w.if-is_at.false) c.loop-tokens.invariant
  | else-loop-tokens-test w ↦ going_full addend addend_full 61 (λ ps. ps) c.loop-tokens.parts c.loop-tokens.tokens _ (omega arith) c.loop-tokens.invariant
]
