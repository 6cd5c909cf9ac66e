-- A node has the bytes of what it stands for.
use Rattle.std.specs.Prelude.{◌≡◌}
use Rattle.hs_syntax.specs.declared.ty.Ty.{Ty}
use Rattle.hs_syntax.specs.declared.pat.Pat.{Pat}
use Rattle.hs_syntax.specs.declared.exp.Exp.{Exp}
use Rattle.hs_syntax.specs.declared.exp.Operand.{Operand, out-Operand}
use Rattle.hs_syntax.specs.declared.exp.Else.{Else}
use Rattle.hs_syntax.specs.declared.exp.If.{If}
use Rattle.hs_syntax.specs.declared.exp.Postfix.{Postfix}
use Rattle.hs_syntax.specs.declared.exp.Step.{Step}
use Rattle.hs_syntax.specs.declared.exp.Block.{Block}
use Rattle.hs_syntax.specs.declared.exp.Stmt.{Stmt}
use Rattle.hs_syntax.specs.Spans.{span_of_ty, span_of_pat, span_of_exp, span_of_step, span_of_postfix, span_of_if, span_of_else, span_of_block, span_of_stmt}
use Rattle.hs_limits.specs.Nodes.{node_of_ty, node_of_pat, node_of_exp, node_of_operand, node_of_step, node_of_postfix, node_of_if, node_of_else, node_of_block, node_of_stmt}

-- an operator has the bytes of its right operand
pub record SpansAgree : Type 0 where
  pub of_ty : (t : Ty) → (node_of_ty t).at ≡ span_of_ty t
  pub of_pat : (p : Pat) → (node_of_pat p).at ≡ span_of_pat p
  pub of_exp : (e : Exp) → (node_of_exp e).at ≡ span_of_exp e
  pub of_operand : (o : Operand) → (node_of_operand o).at ≡ span_of_exp (out-Operand o).right
  pub of_step : (t : Step) → (node_of_step t).at ≡ span_of_step t
  pub of_postfix : (p : Postfix) → (node_of_postfix p).at ≡ span_of_postfix p
  pub of_if : (i : If) → (node_of_if i).at ≡ span_of_if i
  pub of_else : (e : Else) → (node_of_else e).at ≡ span_of_else e
  pub of_block : (b : Block) → (node_of_block b).at ≡ span_of_block b
  pub of_stmt : (s : Stmt) → (node_of_stmt s).at ≡ span_of_stmt s
