use Rattle.std.proofs.Common.{rules, arith, ◌≡◌, Result, Ok, Err, sym, subst, ◌∙◌}
use Rattle.std.proofs.lemmas.Grind.{common_steps}
use Rattle.std.specs.Result.{IsErrAnd}
use Rattle.hs_grammar.specs.declared.error.ParseError.TheVariants as errors
use Rattle.hs_grammar.specs.Form.{lexis_of}
use Rattle.hs_grammar.specs.Kinds.{starts}
use Rattle.hs_grammar.specs.Reads.{Reads}
use Rattle.hs_grammar.specs.Until.{repeated_until}
use Rattle.hs_grammar.proofs.Untils.{until-over, until_more, until_last, until_err}
use Rattle.hs_grammar.proofs.loops.repeat_until.Goals as goal

pub returns-in_err-next-clause-reads : goal.returns-in_err-next-clause-reads
returns-in_err-next-clause-reads g c = λ p adv s.
    let L = lexis_of g.T.Lexeme.kind_of g.T.Lexeme.same in
    let e = c.in_err-next.field-0.0 in
    let failed : Reads (repeated_until (starts L c.args.begins.now) p c.loop-turn.value c.loop-turn.tokens) (Err e) c.turn.new.arg3 =
    until_err (starts L c.args.begins.now) p adv c.loop-turn.value c.loop-turn.tokens c.turn.new.arg3 e (sym c.is_at_any.ensures ∙ c.loop-turn-test.true)
    (s c.loop-turn.value _ _ (Err e) c.in_err-next.ensures) in
    let whole : Reads (repeated_until (starts L c.args.begins.now) p c.args.start c.args.tokens.now) (Err e) c.turn.new.arg3 =
    subst (λ r. Reads r (Err e) c.turn.new.arg3) (sym (c.loop-turn.invariant p adv s)) failed in
    first_of (search rules, grind (arith, common_steps))

pub loop-turn-preserved : goal.loop-turn-preserved
loop-turn-preserved g c = λ p adv s.
    let L = lexis_of g.T.Lexeme.kind_of g.T.Lexeme.same in
    c.loop-turn.invariant p adv s
    ∙ until_more (starts L c.args.begins.now) p adv c.loop-turn.value c.in-More.next c.in_ok-next.field-0 c.loop-turn.tokens c.turn.new.arg3 (sym c.is_at_any.ensures ∙ c.loop-turn-test.true)
    (s c.loop-turn.value _ _ (Ok c.in_ok-next.field-0) c.in_ok-next.ensures) c.in-More.is

pub returns-in-Last-clause-reads : goal.returns-in-Last-clause-reads
returns-in-Last-clause-reads g c = λ p adv s.
    let L = lexis_of g.T.Lexeme.kind_of g.T.Lexeme.same in
    c.loop-turn.invariant p adv s
    ∙ until_last (starts L c.args.begins.now) p adv c.loop-turn.value c.in-Last.last c.in_ok-next.field-0 c.loop-turn.tokens c.turn.new.arg3 (sym c.is_at_any.ensures ∙ c.loop-turn-test.true)
    (s c.loop-turn.value _ _ (Ok c.in_ok-next.field-0) c.in_ok-next.ensures) c.in-Last.is

pub returns-clause-reads : goal.returns-clause-reads
returns-clause-reads g c = λ p adv s.
    let L = lexis_of g.T.Lexeme.kind_of g.T.Lexeme.same in
    c.loop-turn.invariant p adv s ∙ until-over (starts L c.args.begins.now) p adv c.loop-turn.value c.loop-turn.tokens (sym c.is_at_any.ensures ∙ c.loop-turn-test.false)

-- the error that a result holds
err_one : {A E : Type 0} (r : Result A E) (e f : E) → IsErrAnd r (λ x. x ≡ e) → r ≡ Err f → e ≡ f
err_one (Ok a) e f i j = absurd (cc)
err_one (Err x) e f i j = let same : x ≡ f = cc in sym i ∙ same

-- a turn that answered this error
answered : {S A X E : Type 0} (post : S → X → Result A E → X → Type 0) (s : S) (old new : X) (e f : E) → e ≡ f → post s old (Err e) new → (s : S) × (old new : X) × post s old (Err f) new
answered post s old new e f i h = (s, old, new, subst (λ x. post s old (Err x) new) i h)

pub returns-in_err-next-clause-memory : goal.returns-in_err-next-clause-memory
returns-in_err-next-clause-memory g c = λ none.
    let e : c.in_err-next.field-0.0 ≡ errors.NoMemory = err_one c.from_residual.result c.in_err-next.field-0.0 errors.NoMemory c.from_residual.ensures.1 none in
    answered (goal.F-post g c.args.turn) c.loop-turn.value _ _ c.in_err-next.field-0.0 errors.NoMemory e c.in_err-next.ensures
