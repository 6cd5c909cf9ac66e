use Rattle.std.proofs.Common.{rules, arith, Ok, Err, sym, subst, ◌∙◌}
use Rattle.std.proofs.lemmas.Grind.{common_steps}
use Rattle.hs_grammar.specs.Form.{lexis_of}
use Rattle.hs_grammar.specs.Kinds.{starts}
use Rattle.hs_grammar.specs.Reads.{Reads}
use Rattle.hs_grammar.specs.Repeat.{repeated}
use Rattle.hs_grammar.proofs.Repeats.{repeated-over, repeated_ok, repeated_err}
use Rattle.hs_grammar.proofs.loops.repeat.Goals as goal

pub returns-in_err-value-clause-reads : goal.returns-in_err-value-clause-reads
returns-in_err-value-clause-reads g c = λ p adv s.
    let L = lexis_of g.T.Lexeme.kind_of g.T.Lexeme.same in
    let e = c.in_err-value.field-0.0 in
    let failed : Reads (repeated (starts L c.args.begins.now) p c.loop-step.value c.loop-step.tokens) (Err e) c.step.new.arg3 =
    repeated_err (starts L c.args.begins.now) p adv c.loop-step.value c.loop-step.tokens c.step.new.arg3 e (sym c.is_at_any.ensures ∙ c.loop-step-test.true)
    (s c.loop-step.value _ _ (Err e) c.in_err-value.ensures) in
    let whole : Reads (repeated (starts L c.args.begins.now) p c.args.start c.args.tokens.now) (Err e) c.step.new.arg3 =
    subst (λ r. Reads r (Err e) c.step.new.arg3) (sym (c.loop-step.invariant p adv s)) failed in
    first_of (search rules, grind (arith, common_steps))

pub loop-step-preserved : goal.loop-step-preserved
loop-step-preserved g c = λ p adv s.
    let L = lexis_of g.T.Lexeme.kind_of g.T.Lexeme.same in
    c.loop-step.invariant p adv s ∙ repeated_ok (starts L c.args.begins.now) p adv c.loop-step.value c.in_ok-value.value c.loop-step.tokens c.step.new.arg3 (sym c.is_at_any.ensures ∙ c.loop-step-test.true) (s c.loop-step.value _ _ (Ok c.in_ok-value.value) c.in_ok-value.ensures)

pub returns-clause-reads : goal.returns-clause-reads
returns-clause-reads g c = λ p adv s.
    let L = lexis_of g.T.Lexeme.kind_of g.T.Lexeme.same in
    c.loop-step.invariant p adv s ∙ repeated-over (starts L c.args.begins.now) p adv c.loop-step.value c.loop-step.tokens (sym c.is_at_any.ensures ∙ c.loop-step-test.false)
