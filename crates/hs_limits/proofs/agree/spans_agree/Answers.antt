use Rattle.hs_limits.proofs.At.{ty_at, pat_at, exp_at, operand_at, step_at, postfix_at, if_at, else_at, block_at, stmt_at}
use Rattle.hs_limits.proofs.agree.spans_agree.Goals as goal

pub returns : goal.returns
returns c = record {
  of_ty = ty_at;
  of_pat = pat_at;
  of_exp = exp_at;
  of_operand = operand_at;
  of_step = step_at;
  of_postfix = postfix_at;
  of_if = if_at;
  of_else = else_at;
  of_block = block_at;
  of_stmt = stmt_at;
}
