use Rattle.std.proofs.Common.{◌≡◌, suc, ◌-◌, arith, subst}
use Rattle.hs_grammar.specs.Parser.{parse_by}
use Rattle.hs_grammar.specs.Reads.{Reads}
use Rattle.hs_forms.specs.Reading.{RExp, RUnary, RBlock, RIf, grammar, tables}
use Rattle.hs_parse_blocks.proofs.nested.+nested.Goals as goal

pub block_rule-returns : goal.block_rule-returns
block_rule-returns t c =
    let e : suc (c.args.depth - 1) ≡ c.args.depth = omega arith in
    subst (λ n. Reads (parse_by tables grammar n RBlock c.args.tokens.now) c.block_form.result c.block_form.new.tokens) e c.block_form.ensures

pub exp_rule-returns : goal.exp_rule-returns
exp_rule-returns t c =
    let e : suc (c.args.depth - 1) ≡ c.args.depth = omega arith in
    subst (λ n. Reads (parse_by tables grammar n RExp c.args.tokens.now) c.binary.result c.binary.new.tokens) e c.binary.ensures

pub if_rule-returns : goal.if_rule-returns
if_rule-returns t c =
    let e : suc (c.args.depth - 1) ≡ c.args.depth = omega arith in
    subst (λ n. Reads (parse_by tables grammar n RIf c.args.tokens.now) c.if_form.result c.if_form.new.tokens) e c.if_form.ensures

pub unary_rule-returns : goal.unary_rule-returns
unary_rule-returns t c =
    let e : suc (c.args.depth - 1) ≡ c.args.depth = omega arith in
    subst (λ n. Reads (parse_by tables grammar n RUnary c.args.tokens.now) c.unary.result c.unary.new.tokens) e c.unary.ensures
