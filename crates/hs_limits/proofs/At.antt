-- A node's bytes are those of what it stands for.
use Rattle.std.proofs.Common.{◌≡◌, refl, ◌∙◌, ap}
use Rattle.hs_syntax.specs.declared.ty.Ty.{Ty, out-Ty}
use Rattle.hs_syntax.specs.declared.ty.Ty.TheOpen.{Ty-F}
use Rattle.hs_syntax.specs.declared.ty.Ty.TheOpen as ty
use Rattle.hs_syntax.specs.declared.ty.Ty.TheFolds.{map-Ty, fold_out-Ty}
use Rattle.hs_syntax.specs.declared.pat.Pat.{Pat, out-Pat}
use Rattle.hs_syntax.specs.declared.pat.Pat.TheOpen.{Pat-F}
use Rattle.hs_syntax.specs.declared.pat.Pat.TheOpen as pat
use Rattle.hs_syntax.specs.declared.pat.Pat.TheFolds.{map-Pat, fold_out-Pat}
use Rattle.hs_syntax.specs.declared.exp.Exp.{Exp, out-Exp}
use Rattle.hs_syntax.specs.declared.exp.Arg.{Arg}
use Rattle.hs_syntax.specs.declared.exp.Else.{Else, out-Else}
use Rattle.hs_syntax.specs.declared.exp.If.{If}
use Rattle.hs_syntax.specs.declared.exp.Postfix.{Postfix, out-Postfix}
use Rattle.hs_syntax.specs.declared.exp.Step.{Step, out-Step}
use Rattle.hs_syntax.specs.declared.exp.Stmt.{Stmt, out-Stmt}
use Rattle.hs_syntax.specs.declared.exp.Arm.{Arm}
use Rattle.hs_syntax.specs.declared.exp.Block.{Block}
use Rattle.hs_syntax.specs.declared.exp.Operand.{Operand, out-Operand}
use Rattle.hs_syntax.specs.declared.exp.Arg.TheOpen.{Else-F, Exp-F, Stmt-F, Step-F, Postfix-F}
use Rattle.hs_syntax.specs.declared.exp.Arg.TheOpen as exp
use Rattle.hs_syntax.specs.declared.exp.Arg.TheFolds.{map-Else, map-Exp, map-Stmt, map-Step, map-Postfix, fold_out-Else, fold_out-If, fold_out-Exp, fold_out-Stmt, fold_out-Step, fold_out-Postfix, fold_out-Operand, fold_out-Block}
use Rattle.hs_syntax.specs.Spans.{span_of_ty, ty_span, span_of_pat, pat_span, span_of_exp, exp_span, span_of_block, span_of_if, span_of_else, else_span, span_of_stmt, stmt_span, span_of_step, step_span, span_of_postfix, postfix_span}
use Rattle.hs_limits.specs.Outline.{Node}
use Rattle.hs_limits.specs.Nodes.{node_of_ty, ty_layer, node_of_pat, pat_layer, node_of_arg, node_of_else, node_of_exp, node_of_postfix, node_of_step, node_of_stmt, node_of_arm, node_of_block, node_of_if, node_of_operand, arg_layer, else_layer, exp_layer, postfix_layer, step_layer, stmt_layer, arm_layer, block_layer, if_layer, operand_layer}

ty_at_layer : (y : Ty-F Ty) → (ty_layer (map-Ty Ty Node node_of_ty y)).at ≡ ty_span y
ty_at_layer (ty.Name s) = refl
ty_at_layer (ty.Unit s) = refl
ty_at_layer (ty.Tuple s ts) = refl
ty_at_layer (ty.Applied s n ts) = refl

pub ty_at : (t : Ty) → (node_of_ty t).at ≡ span_of_ty t
unfolding span_of_ty
ty_at t = ap (λ (n : Node). n.at) (fold_out-Ty Node ty_layer t) ∙ ty_at_layer (out-Ty t)

pat_at_layer : (y : Pat-F Pat) → (pat_layer (map-Pat Pat Node node_of_pat y)).at ≡ pat_span y
pat_at_layer (pat.Name s m n) = refl
pat_at_layer (pat.Any s) = refl
pat_at_layer (pat.Tuple s ps) = refl
pat_at_layer (pat.Struct s n ps) = refl

pub pat_at : (p : Pat) → (node_of_pat p).at ≡ span_of_pat p
unfolding span_of_pat
pat_at p = ap (λ (n : Node). n.at) (fold_out-Pat Node pat_layer p) ∙ pat_at_layer (out-Pat p)

pub block_at : (b : Block) → (node_of_block b).at ≡ span_of_block b
unfolding span_of_block
block_at b = ap (λ (n : Node). n.at) (fold_out-Block Node Node Node Node Node Node Node Node Node Node arg_layer else_layer exp_layer postfix_layer step_layer stmt_layer arm_layer block_layer if_layer operand_layer b)

pub if_at : (i : If) → (node_of_if i).at ≡ span_of_if i
unfolding span_of_if
if_at i = ap (λ (n : Node). n.at) (fold_out-If Node Node Node Node Node Node Node Node Node Node arg_layer else_layer exp_layer postfix_layer step_layer stmt_layer arm_layer block_layer if_layer operand_layer i)

abbrev map_else : Else-F Arg Else Exp Postfix Step Stmt Arm Block If Operand → Else-F Node Node Node Node Node Node Node Node Node Node
map_else y = map-Else Arg Else Exp Postfix Step Stmt Arm Block If Operand Node Node Node Node Node Node Node Node Node Node node_of_arg node_of_else node_of_exp node_of_postfix node_of_step node_of_stmt node_of_arm node_of_block node_of_if node_of_operand y

else_at_layer : (y : Else-F Arg Else Exp Postfix Step Stmt Arm Block If Operand) → (else_layer (map_else y)).at ≡ else_span y
else_at_layer (exp.Chain i) = if_at i
else_at_layer (exp.Last b) = block_at b

pub else_at : (e : Else) → (node_of_else e).at ≡ span_of_else e
unfolding span_of_else
else_at e = ap (λ (n : Node). n.at) (fold_out-Else Node Node Node Node Node Node Node Node Node Node arg_layer else_layer exp_layer postfix_layer step_layer stmt_layer arm_layer block_layer if_layer operand_layer e) ∙ else_at_layer (out-Else e)

abbrev map_step : Step-F Arg Else Exp Postfix Step Stmt Arm Block If Operand → Step-F Node Node Node Node Node Node Node Node Node Node
map_step y = map-Step Arg Else Exp Postfix Step Stmt Arm Block If Operand Node Node Node Node Node Node Node Node Node Node node_of_arg node_of_else node_of_exp node_of_postfix node_of_step node_of_stmt node_of_arm node_of_block node_of_if node_of_operand y

step_at_layer : (y : Step-F Arg Else Exp Postfix Step Stmt Arm Block If Operand) → (step_layer (map_step y)).at ≡ step_span y
step_at_layer (exp.Index s e) = refl
step_at_layer (exp.Part s i) = refl

pub step_at : (t : Step) → (node_of_step t).at ≡ span_of_step t
unfolding span_of_step
step_at t = ap (λ (n : Node). n.at) (fold_out-Step Node Node Node Node Node Node Node Node Node Node arg_layer else_layer exp_layer postfix_layer step_layer stmt_layer arm_layer block_layer if_layer operand_layer t) ∙ step_at_layer (out-Step t)

abbrev map_exp : Exp-F Arg Else Exp Postfix Step Stmt Arm Block If Operand → Exp-F Node Node Node Node Node Node Node Node Node Node
map_exp y = map-Exp Arg Else Exp Postfix Step Stmt Arm Block If Operand Node Node Node Node Node Node Node Node Node Node node_of_arg node_of_else node_of_exp node_of_postfix node_of_step node_of_stmt node_of_arm node_of_block node_of_if node_of_operand y

exp_at_layer : (y : Exp-F Arg Else Exp Postfix Step Stmt Arm Block If Operand) → (exp_layer (map_exp y)).at ≡ exp_span y
exp_at_layer (exp.Int i) = refl
exp_at_layer (exp.Bool s b) = refl
exp_at_layer (exp.Unit s) = refl
exp_at_layer (exp.Group s e) = refl
exp_at_layer (exp.Tuple s es) = refl
exp_at_layer (exp.Path p) = refl
exp_at_layer (exp.Call s p as') = refl
exp_at_layer (exp.Block b) = block_at b
exp_at_layer (exp.If i) = if_at i
exp_at_layer (exp.Match s e as') = refl
exp_at_layer (exp.Post s e ps) = refl
exp_at_layer (exp.Prefix s o e) = refl
exp_at_layer (exp.Cast s e ns) = refl
exp_at_layer (exp.Binary s e os) = refl

pub exp_at : (e : Exp) → (node_of_exp e).at ≡ span_of_exp e
unfolding span_of_exp
exp_at e = ap (λ (n : Node). n.at) (fold_out-Exp Node Node Node Node Node Node Node Node Node Node arg_layer else_layer exp_layer postfix_layer step_layer stmt_layer arm_layer block_layer if_layer operand_layer e) ∙ exp_at_layer (out-Exp e)

abbrev map_stmt : Stmt-F Arg Else Exp Postfix Step Stmt Arm Block If Operand → Stmt-F Node Node Node Node Node Node Node Node Node Node
map_stmt y = map-Stmt Arg Else Exp Postfix Step Stmt Arm Block If Operand Node Node Node Node Node Node Node Node Node Node node_of_arg node_of_else node_of_exp node_of_postfix node_of_step node_of_stmt node_of_arm node_of_block node_of_if node_of_operand y

stmt_at_layer : (y : Stmt-F Arg Else Exp Postfix Step Stmt Arm Block If Operand) → (stmt_layer (map_stmt y)).at ≡ stmt_span y
stmt_at_layer (exp.Let s p t e) = refl
stmt_at_layer (exp.Assign s t ps o e) = refl
stmt_at_layer (exp.For s x e f b) = refl
stmt_at_layer (exp.Return s e) = refl
stmt_at_layer (exp.Bare e) = exp_at e
stmt_at_layer (exp.Exp s e) = refl

pub stmt_at : (s : Stmt) → (node_of_stmt s).at ≡ span_of_stmt s
unfolding span_of_stmt
stmt_at s = ap (λ (n : Node). n.at) (fold_out-Stmt Node Node Node Node Node Node Node Node Node Node arg_layer else_layer exp_layer postfix_layer step_layer stmt_layer arm_layer block_layer if_layer operand_layer s) ∙ stmt_at_layer (out-Stmt s)

abbrev map_postfix : Postfix-F Arg Else Exp Postfix Step Stmt Arm Block If Operand → Postfix-F Node Node Node Node Node Node Node Node Node Node
map_postfix y = map-Postfix Arg Else Exp Postfix Step Stmt Arm Block If Operand Node Node Node Node Node Node Node Node Node Node node_of_arg node_of_else node_of_exp node_of_postfix node_of_step node_of_stmt node_of_arm node_of_block node_of_if node_of_operand y

postfix_at_layer : (y : Postfix-F Arg Else Exp Postfix Step Stmt Arm Block If Operand) → (postfix_layer (map_postfix y)).at ≡ postfix_span y
postfix_at_layer (exp.Try s) = refl
postfix_at_layer (exp.Method s n as') = refl
postfix_at_layer (exp.Step t) = step_at t

pub postfix_at : (p : Postfix) → (node_of_postfix p).at ≡ span_of_postfix p
unfolding span_of_postfix
postfix_at p = ap (λ (n : Node). n.at) (fold_out-Postfix Node Node Node Node Node Node Node Node Node Node arg_layer else_layer exp_layer postfix_layer step_layer stmt_layer arm_layer block_layer if_layer operand_layer p) ∙ postfix_at_layer (out-Postfix p)

-- an operator is the node of its right operand
pub operand_is : (o : Operand) → node_of_operand o ≡ node_of_exp (out-Operand o).right
operand_is o = fold_out-Operand Node Node Node Node Node Node Node Node Node Node arg_layer else_layer exp_layer postfix_layer step_layer stmt_layer arm_layer block_layer if_layer operand_layer o

pub operand_at : (o : Operand) → (node_of_operand o).at ≡ span_of_exp (out-Operand o).right
operand_at o = ap (λ (n : Node). n.at) (operand_is o) ∙ exp_at (out-Operand o).right
