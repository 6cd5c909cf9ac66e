use Rattle.std.proofs.Common.{◌≡◌, ◌≢◌, suc, Err, ◌+◌, ◌-◌, ◌<◌, arith, length, drop, rules, refl, sym, ◌∙◌, ◌∷◌, [], subst}
use Rattle.std.proofs.lemmas.Result.{err_from_is_err_and}
use Rattle.hs_grammar.specs.Parser.{Done}
use Rattle.hs_grammar.specs.Reads.{Reads}
use Rattle.hs_grammar.specs.Until.{pushed}
use Rattle.hs_grammar.proofs.Reading.{reads_shorter, advances}
use Rattle.hs_syntax.specs.declared.exp.Exp.{Exp}
use Rattle.hs_syntax.specs.declared.exp.Level.TheVariants as level
use Rattle.hs_forms.specs.Lexis.{decides}
use Rattle.hs_forms.specs.Reading.{grammar, tables, operand, binary}
use Rattle.hs_forms.specs.Lookahead.{fits}
use Rattle.hs_forms.specs.Parsers.{reads}
use Rattle.hs_parse_blocks.proofs.Operators.{operand_full, operands_read, pushed_alone, compared_one, compared_err, compared_none, binary_start, binary_on, binary_stops, binary_fails}
use Rattle.hs_parse_blocks.proofs.forms.+levels.Goals.{Forms::comparison-then-is_at_any+in_ok-operand+in_ok-push, Forms::comparison-else-is_at_any}
use Rattle.hs_parse_blocks.proofs.forms.+levels.Goals as goal

pub Forms::comparison-returns-in_err-operand : goal.Forms::comparison-returns-in_err-operand
Forms::comparison-returns-in_err-operand g t c =
    let told = err_from_is_err_and c.from_residual.result c.from_residual.ensures.1 in
    rw (told.1, told.2)
    (compared_err c.args.self.now.rules.depth (binary c.args.stronger.now) c.operators.result.now c.is_at_any.result c.args.tokens.now c.operand.new.tokens c.operators.ensures c.is_at_any.ensures _ c.if-is_at_any.true
    c.in_err-operand.ensures)

pub Forms::comparison-returns : goal.Forms::comparison-returns
Forms::comparison-returns g t c = elim c.if-is_at_any.branch [
  | Forms::comparison-then-is_at_any+in_ok-operand+in_ok-push w ↦
      let one =
      compared_one c.args.self.now.rules.depth (binary c.args.stronger.now) c.operators.result.now c.is_at_any.result c.args.tokens.now w.operand.new.tokens c.operators.ensures c.is_at_any.ensures w.in_ok-operand.operand
      w.if-is_at_any.true w.in_ok-operand.ensures in
      let alone : w.push.new.self ≡ w.in_ok-operand.operand ∷ [] =
      pushed_alone c.new-operands.result w.push.new.self w.in_ok-operand.operand w.in_ok-push.ensures.ok c.new-operands.ensures in
      rw (w.tokens-is, w.operands-is, alone) one
  | Forms::comparison-else-is_at_any w ↦
      let none = compared_none c.args.self.now.rules.depth (binary c.args.stronger.now) c.operators.result.now c.is_at_any.result c.args.tokens.now c.args.tokens.now c.operators.ensures c.is_at_any.ensures w.if-is_at_any.false in
      rw (w.tokens-is, w.operands-is, c.new-operands.ensures) none
]

pub Forms::operands-repeat-requires-clause-consumes : goal.Forms::operands-repeat-requires-clause-consumes
Forms::operands-repeat-requires-clause-consumes g t c = λ a b old new h.
    reads_shorter decides tables grammar fits c.args.self.now.rules.depth (pushed a) (operand c.args.level (binary c.args.stronger.now)) (operand_full c.args.level (binary c.args.stronger.now)) old.now new.now b h

pub Forms::operands-returns : goal.Forms::operands-returns
Forms::operands-returns g t c =
    let other : c.args.level ≢ level.Compare = search rules in
    operands_read c.args.self.now.rules.depth c.args.level (binary c.args.stronger.now) c.operators.result.now c.new-start.result c.args.tokens.now c.repeat.new.tokens c.repeat.result other c.operators.ensures c.new-start.ensures
    (c.repeat.ensures.reads _ (advances decides tables grammar fits c.args.self.now.rules.depth pushed (operand c.args.level (binary c.args.stronger.now)) (operand_full c.args.level (binary c.args.stronger.now)))
    (λ a old new r h. h))

pub Forms::binary-loop-at-init : goal.Forms::binary-loop-at-init
Forms::binary-loop-at-init g t c = binary_start c.args.self.now.rules.depth c.args.levels.now c.args.tokens.now ∙ c.in_ok-value.ensures

pub Forms::binary-returns-in_err-value : goal.Forms::binary-returns-in_err-value
Forms::binary-returns-in_err-value g t c =
    let told = err_from_is_err_and c.from_residual.result c.from_residual.ensures.1 in
    rw (told.1, told.2)
    (binary_fails c.args.self.now.rules.depth c.args.levels.now (length c.args.levels.now) c.args.tokens.now c.cast.new.tokens _
    (subst (λ r. Reads {A = Exp} r (Err c.in_err-value.field-0.0) c.cast.new.tokens) (sym (binary_start c.args.self.now.rules.depth c.args.levels.now c.args.tokens.now)) c.in_err-value.ensures))

pub Forms::binary-loop-at-preserved : goal.Forms::binary-loop-at-preserved
Forms::binary-loop-at-preserved g t c =
    let here : c.loop-at.at - 1 < length c.args.levels.now = omega arith in
    let next : c.loop-at.at - 1 + 1 ≡ suc (c.loop-at.at - 1) = omega arith in
    let same : c.loop-at.at ≡ c.loop-at.at - 1 + 1 = omega arith in
    rw c.in_ok-value-2.ensures
    (binary_on c.args.self.now.rules.depth c.args.levels.now _ (c.loop-at.at - 1) (c.loop-at.at - 1 + 1) _ c.args.tokens.now c.loop-at.tokens c.operands.new.tokens c.loop-at.value here next refl _
    (subst (λ n. reads c.args.self.now.rules.depth (binary (drop n c.args.levels.now)) c.args.tokens.now ≡ Done c.loop-at.value c.loop-at.tokens) same c.loop-at.invariant)
    c.in_ok-operands.ensures)

pub Forms::binary-returns-in_err-operands : goal.Forms::binary-returns-in_err-operands
Forms::binary-returns-in_err-operands g t c =
    let here : c.loop-at.at - 1 < length c.args.levels.now = omega arith in
    let next : c.loop-at.at - 1 + 1 ≡ suc (c.loop-at.at - 1) = omega arith in
    let same : c.loop-at.at ≡ c.loop-at.at - 1 + 1 = omega arith in
    let told = err_from_is_err_and c.from_residual-in_err-operands.result c.from_residual-in_err-operands.ensures.1 in
    rw (told.1, told.2)
    (binary_fails c.args.self.now.rules.depth c.args.levels.now (c.loop-at.at - 1) c.args.tokens.now c.operands.new.tokens _
    (binary_stops c.args.self.now.rules.depth c.args.levels.now _ (c.loop-at.at - 1) (c.loop-at.at - 1 + 1) _ c.args.tokens.now c.loop-at.tokens c.operands.new.tokens c.loop-at.value here next refl _
    (subst (λ n. reads c.args.self.now.rules.depth (binary (drop n c.args.levels.now)) c.args.tokens.now ≡ Done c.loop-at.value c.loop-at.tokens) same c.loop-at.invariant)
    c.in_err-operands.ensures))
