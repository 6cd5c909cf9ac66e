use Rattle.std.proofs.lemmas.Result.{err_from_is_err_and}
use Rattle.hs_parse_blocks.proofs.Operators.{mark_ok, mark_err}
use Rattle.hs_parse_blocks.proofs.forms.Forms.mark.Goals as goal

pub returns-in_err-token : goal.returns-in_err-token
returns-in_err-token g c =
    let told = err_from_is_err_and c.from_residual.result c.from_residual.ensures.1 in
    rw (told.1, told.2)
    (mark_err c.args.self.now.rules.depth c.args.level c.operators.result.now c.args.tokens.now c.expect_any.new.self c.requires c.operators.ensures _ c.in_err-token.ensures.reads)

pub returns : goal.returns
returns g c =
    rw c.op_named.ensures
    (mark_ok c.args.self.now.rules.depth c.args.level c.operators.result.now c.args.tokens.now c.expect_any.new.self c.requires c.operators.ensures c.in_ok-token.token c.in_ok-token.ensures.reads)
