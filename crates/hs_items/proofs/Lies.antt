-- The written types of expressions, statements and blocks lie in them as the nodes of an outline do.
use Rattle.std.proofs.Common.{sym, subst, Option, Some, None, List, map}
use Rattle.hs_syntax.specs.declared.span.Span.{Span}
use Rattle.hs_syntax.specs.declared.ty.Ty.{Ty}
use Rattle.hs_syntax.specs.declared.exp.Arg.{Arg}
use Rattle.hs_syntax.specs.declared.exp.Else.{Else}
use Rattle.hs_syntax.specs.declared.exp.Exp.{Exp}
use Rattle.hs_syntax.specs.declared.exp.Postfix.{Postfix}
use Rattle.hs_syntax.specs.declared.exp.Step.{Step}
use Rattle.hs_syntax.specs.declared.exp.Stmt.{Stmt}
use Rattle.hs_syntax.specs.declared.exp.Arm.{Arm}
use Rattle.hs_syntax.specs.declared.exp.Block.{Block}
use Rattle.hs_syntax.specs.declared.exp.If.{If}
use Rattle.hs_syntax.specs.declared.exp.Operand.{Operand}
use Rattle.hs_syntax.specs.declared.exp.Path.{Path}
use Rattle.hs_syntax.specs.declared.exp.Path.TheVariants as path
use Rattle.hs_syntax.specs.declared.exp.Arg.TheOpen.{Arg-F, Else-F, Exp-F, Postfix-F, Step-F, Stmt-F, Arm-F, Block-F, If-F, Operand-F}
use Rattle.hs_syntax.specs.declared.exp.Arg.TheOpen as exp
use Rattle.hs_syntax.specs.declared.exp.Arg.TheViews.{roll-Arg, roll-Else, roll-Exp, roll-Postfix, roll-Step, roll-Stmt, roll-Arm, roll-Block, roll-If, roll-Operand}
use Rattle.hs_syntax.specs.declared.exp.Arg.TheFolds.{map-Arg, map-Else, map-Exp, map-Postfix, map-Step, map-Stmt, map-Arm, map-Block, map-If, map-Operand, fold-roll-Arg, fold-roll-Else, fold-roll-Exp, fold-roll-Postfix, fold-roll-Step, fold-roll-Stmt, fold-roll-Arm, fold-roll-Block, fold-roll-If, fold-roll-Operand, ind-Exp, ind-Block}
use Rattle.hs_marks.specs.Marked.{Marked}
use Rattle.hs_limits.specs.Outline.{Node, part, statement, one}
use Rattle.hs_limits.specs.Nodes.{word, node_of_ty, optional_ty, node_of_path, node_of_arg, node_of_else, node_of_exp, node_of_postfix, node_of_step, node_of_stmt, node_of_arm, node_of_block, node_of_if, node_of_operand}
use Rattle.hs_limits.specs.Nodes as nodes
use Rattle.hs_items.specs.Nodes.{in_optional, in_path, in_arg, in_else, in_exp, in_postfix, in_step, in_stmt, in_arm, in_block, in_if, in_operand, arg_layer, else_layer, exp_layer, postfix_layer, step_layer, stmt_layer, arm_layer, block_layer, if_layer, operand_layer}
use Rattle.hs_items.proofs.Good.{Good, Fits, good_none, good_join, good_left, good_right, good_inside, good_chain, all_fit, numbered_fit}

-- where each written type has such nodes
module _ (in_type : Ty → Marked) (ty_fits : (t : Ty) → Fits (node_of_ty t) (in_type t)) where
  pub optional_fits : (t : Option Ty) → Good (optional_ty t) (in_optional in_type t)
  optional_fits None = good_none
  optional_fits (Some t) = ty_fits t

  path_fits : (p : Path) → Fits (node_of_path p) (in_path in_type p)
  path_fits (path.Name s) = good_none
  path_fits (path.Member s t x) = good_none
  path_fits (path.Of s n t x) = good_inside (good_right (good_left (ty_fits t)))

  abbrev ArgFits : Arg → Type 0
  ArgFits x = Fits (node_of_arg x) (in_arg in_type x)

  abbrev ElseFits : Else → Type 0
  ElseFits x = Fits (node_of_else x) (in_else in_type x)

  abbrev ExpFits : Exp → Type 0
  ExpFits x = Fits (node_of_exp x) (in_exp in_type x)

  abbrev PostfixFits : Postfix → Type 0
  PostfixFits x = Fits (node_of_postfix x) (in_postfix in_type x)

  abbrev StepFits : Step → Type 0
  StepFits x = Fits (node_of_step x) (in_step in_type x)

  abbrev StmtFits : Stmt → Type 0
  StmtFits x = Fits (node_of_stmt x) (in_stmt in_type x)

  abbrev ArmFits : Arm → Type 0
  ArmFits x = Fits (node_of_arm x) (in_arm in_type x)

  abbrev BlockFits : Block → Type 0
  BlockFits x = Fits (node_of_block x) (in_block in_type x)

  abbrev IfFits : If → Type 0
  IfFits x = Fits (node_of_if x) (in_if in_type x)

  abbrev OperandFits : Operand → Type 0
  OperandFits x = Fits (node_of_operand x) (in_operand in_type x)

  abbrev A : Type 0
  A = (x : Arg) × ArgFits x

  abbrev L : Type 0
  L = (x : Else) × ElseFits x

  abbrev E : Type 0
  E = (x : Exp) × ExpFits x

  abbrev P : Type 0
  P = (x : Postfix) × PostfixFits x

  abbrev T : Type 0
  T = (x : Step) × StepFits x

  abbrev S : Type 0
  S = (x : Stmt) × StmtFits x

  abbrev R : Type 0
  R = (x : Arm) × ArmFits x

  abbrev B : Type 0
  B = (x : Block) × BlockFits x

  abbrev I : Type 0
  I = (x : If) × IfFits x

  abbrev O : Type 0
  O = (x : Operand) × OperandFits x

  abbrev arg_inside : Arg-F A L E P T S R B I O → Arg-F Arg Else Exp Postfix Step Stmt Arm Block If Operand
  arg_inside y = map-Arg A L E P T S R B I O Arg Else Exp Postfix Step Stmt Arm Block If Operand (λ x. x.0) (λ x. x.0) (λ x. x.0) (λ x. x.0) (λ x. x.0) (λ x. x.0) (λ x. x.0) (λ x. x.0) (λ x. x.0) (λ x. x.0) y

  abbrev arg_outlines : Arg-F Arg Else Exp Postfix Step Stmt Arm Block If Operand → Node
  arg_outlines y = nodes.arg_layer (map-Arg Arg Else Exp Postfix Step Stmt Arm Block If Operand Node Node Node Node Node Node Node Node Node Node node_of_arg node_of_else node_of_exp node_of_postfix node_of_step node_of_stmt node_of_arm node_of_block node_of_if node_of_operand y)

  abbrev arg_nodes : Arg-F Arg Else Exp Postfix Step Stmt Arm Block If Operand → Marked
  arg_nodes y = arg_layer in_type (map-Arg Arg Else Exp Postfix Step Stmt Arm Block If Operand Marked Marked Marked Marked Marked Marked Marked Marked Marked Marked (in_arg in_type) (in_else in_type) (in_exp in_type) (in_postfix in_type) (in_step in_type) (in_stmt in_type) (in_arm in_type) (in_block in_type) (in_if in_type) (in_operand in_type) y)

  arg_layer_fits : (y : Arg-F A L E P T S R B I O) → Fits (arg_outlines (arg_inside y)) (arg_nodes (arg_inside y))
  arg_layer_fits (exp.Value e) = e.1
  arg_layer_fits (exp.Shared s e) = good_inside e.1
  arg_layer_fits (exp.Lent s n) = good_none
  arg_layer_fits (exp.List s es) = good_inside (all_fit Exp node_of_exp (in_exp in_type) es)

  arg_level : (y : Arg-F A L E P T S R B I O) → ArgFits (roll-Arg (arg_inside y))
  arg_level y =
      subst (λ (n : Node). Fits n (in_arg in_type (roll-Arg (arg_inside y)))) (sym (fold-roll-Arg Node Node Node Node Node Node Node Node Node Node nodes.arg_layer nodes.else_layer nodes.exp_layer nodes.postfix_layer nodes.step_layer nodes.stmt_layer nodes.arm_layer nodes.block_layer nodes.if_layer nodes.operand_layer (arg_inside y)))
      (subst (λ (x : Marked). Fits (arg_outlines (arg_inside y)) x) (sym (fold-roll-Arg Marked Marked Marked Marked Marked Marked Marked Marked Marked Marked (arg_layer in_type) (else_layer in_type) (exp_layer in_type) (postfix_layer in_type) (step_layer in_type) (stmt_layer in_type) (arm_layer in_type) (block_layer in_type) (if_layer in_type) (operand_layer in_type) (arg_inside y))) (arg_layer_fits y))

  abbrev else_inside : Else-F A L E P T S R B I O → Else-F Arg Else Exp Postfix Step Stmt Arm Block If Operand
  else_inside y = map-Else A L E P T S R B I O Arg Else Exp Postfix Step Stmt Arm Block If Operand (λ x. x.0) (λ x. x.0) (λ x. x.0) (λ x. x.0) (λ x. x.0) (λ x. x.0) (λ x. x.0) (λ x. x.0) (λ x. x.0) (λ x. x.0) y

  abbrev else_outlines : Else-F Arg Else Exp Postfix Step Stmt Arm Block If Operand → Node
  else_outlines y = nodes.else_layer (map-Else Arg Else Exp Postfix Step Stmt Arm Block If Operand Node Node Node Node Node Node Node Node Node Node node_of_arg node_of_else node_of_exp node_of_postfix node_of_step node_of_stmt node_of_arm node_of_block node_of_if node_of_operand y)

  abbrev else_nodes : Else-F Arg Else Exp Postfix Step Stmt Arm Block If Operand → Marked
  else_nodes y = else_layer in_type (map-Else Arg Else Exp Postfix Step Stmt Arm Block If Operand Marked Marked Marked Marked Marked Marked Marked Marked Marked Marked (in_arg in_type) (in_else in_type) (in_exp in_type) (in_postfix in_type) (in_step in_type) (in_stmt in_type) (in_arm in_type) (in_block in_type) (in_if in_type) (in_operand in_type) y)

  else_layer_fits : (y : Else-F A L E P T S R B I O) → Fits (else_outlines (else_inside y)) (else_nodes (else_inside y))
  else_layer_fits (exp.Chain i) = i.1
  else_layer_fits (exp.Last b) = b.1

  else_level : (y : Else-F A L E P T S R B I O) → ElseFits (roll-Else (else_inside y))
  else_level y =
      subst (λ (n : Node). Fits n (in_else in_type (roll-Else (else_inside y)))) (sym (fold-roll-Else Node Node Node Node Node Node Node Node Node Node nodes.arg_layer nodes.else_layer nodes.exp_layer nodes.postfix_layer nodes.step_layer nodes.stmt_layer nodes.arm_layer nodes.block_layer nodes.if_layer nodes.operand_layer (else_inside y)))
      (subst (λ (x : Marked). Fits (else_outlines (else_inside y)) x) (sym (fold-roll-Else Marked Marked Marked Marked Marked Marked Marked Marked Marked Marked (arg_layer in_type) (else_layer in_type) (exp_layer in_type) (postfix_layer in_type) (step_layer in_type) (stmt_layer in_type) (arm_layer in_type) (block_layer in_type) (if_layer in_type) (operand_layer in_type) (else_inside y))) (else_layer_fits y))

  abbrev exp_inside : Exp-F A L E P T S R B I O → Exp-F Arg Else Exp Postfix Step Stmt Arm Block If Operand
  exp_inside y = map-Exp A L E P T S R B I O Arg Else Exp Postfix Step Stmt Arm Block If Operand (λ x. x.0) (λ x. x.0) (λ x. x.0) (λ x. x.0) (λ x. x.0) (λ x. x.0) (λ x. x.0) (λ x. x.0) (λ x. x.0) (λ x. x.0) y

  abbrev exp_outlines : Exp-F Arg Else Exp Postfix Step Stmt Arm Block If Operand → Node
  exp_outlines y = nodes.exp_layer (map-Exp Arg Else Exp Postfix Step Stmt Arm Block If Operand Node Node Node Node Node Node Node Node Node Node node_of_arg node_of_else node_of_exp node_of_postfix node_of_step node_of_stmt node_of_arm node_of_block node_of_if node_of_operand y)

  abbrev exp_nodes : Exp-F Arg Else Exp Postfix Step Stmt Arm Block If Operand → Marked
  exp_nodes y = exp_layer in_type (map-Exp Arg Else Exp Postfix Step Stmt Arm Block If Operand Marked Marked Marked Marked Marked Marked Marked Marked Marked Marked (in_arg in_type) (in_else in_type) (in_exp in_type) (in_postfix in_type) (in_step in_type) (in_stmt in_type) (in_arm in_type) (in_block in_type) (in_if in_type) (in_operand in_type) y)

  exp_layer_fits : (y : Exp-F A L E P T S R B I O) → Fits (exp_outlines (exp_inside y)) (exp_nodes (exp_inside y))
  exp_layer_fits (exp.Int i) = good_none
  exp_layer_fits (exp.Bool s b) = good_none
  exp_layer_fits (exp.Unit s) = good_none
  exp_layer_fits (exp.Group s e) = good_inside e.1
  exp_layer_fits (exp.Tuple s es) = good_inside (numbered_fit Exp node_of_exp (in_exp in_type) 12 part 0 es)
  exp_layer_fits (exp.Path p) = good_inside (path_fits p)
  exp_layer_fits (exp.Call s p as') = good_inside (good_join (path_fits p) (all_fit Arg node_of_arg (in_arg in_type) as'))
  exp_layer_fits (exp.Block b) = b.1
  exp_layer_fits (exp.If i) = i.1
  exp_layer_fits (exp.Match s e as') = good_inside (good_join e.1 (all_fit Arm node_of_arm (in_arm in_type) as'))
  exp_layer_fits (exp.Post s e ps) = good_inside (good_chain s.start (one (node_of_exp e.0)) (map node_of_postfix (map (λ x. x.0) ps)) (good_join e.1 (all_fit Postfix node_of_postfix (in_postfix in_type) ps)))
  exp_layer_fits (exp.Prefix s o e) = good_inside e.1
  exp_layer_fits (exp.Cast s e ns) = good_inside (good_chain s.start (one (node_of_exp e.0)) (map word ns) (good_left e.1))
  exp_layer_fits (exp.Binary s e os) = good_inside (good_chain s.start (one (node_of_exp e.0)) (map node_of_operand (map (λ x. x.0) os)) (good_join e.1 (all_fit Operand node_of_operand (in_operand in_type) os)))

  exp_level : (y : Exp-F A L E P T S R B I O) → ExpFits (roll-Exp (exp_inside y))
  exp_level y =
      subst (λ (n : Node). Fits n (in_exp in_type (roll-Exp (exp_inside y)))) (sym (fold-roll-Exp Node Node Node Node Node Node Node Node Node Node nodes.arg_layer nodes.else_layer nodes.exp_layer nodes.postfix_layer nodes.step_layer nodes.stmt_layer nodes.arm_layer nodes.block_layer nodes.if_layer nodes.operand_layer (exp_inside y)))
      (subst (λ (x : Marked). Fits (exp_outlines (exp_inside y)) x) (sym (fold-roll-Exp Marked Marked Marked Marked Marked Marked Marked Marked Marked Marked (arg_layer in_type) (else_layer in_type) (exp_layer in_type) (postfix_layer in_type) (step_layer in_type) (stmt_layer in_type) (arm_layer in_type) (block_layer in_type) (if_layer in_type) (operand_layer in_type) (exp_inside y))) (exp_layer_fits y))

  abbrev postfix_inside : Postfix-F A L E P T S R B I O → Postfix-F Arg Else Exp Postfix Step Stmt Arm Block If Operand
  postfix_inside y = map-Postfix A L E P T S R B I O Arg Else Exp Postfix Step Stmt Arm Block If Operand (λ x. x.0) (λ x. x.0) (λ x. x.0) (λ x. x.0) (λ x. x.0) (λ x. x.0) (λ x. x.0) (λ x. x.0) (λ x. x.0) (λ x. x.0) y

  abbrev postfix_outlines : Postfix-F Arg Else Exp Postfix Step Stmt Arm Block If Operand → Node
  postfix_outlines y = nodes.postfix_layer (map-Postfix Arg Else Exp Postfix Step Stmt Arm Block If Operand Node Node Node Node Node Node Node Node Node Node node_of_arg node_of_else node_of_exp node_of_postfix node_of_step node_of_stmt node_of_arm node_of_block node_of_if node_of_operand y)

  abbrev postfix_nodes : Postfix-F Arg Else Exp Postfix Step Stmt Arm Block If Operand → Marked
  postfix_nodes y = postfix_layer in_type (map-Postfix Arg Else Exp Postfix Step Stmt Arm Block If Operand Marked Marked Marked Marked Marked Marked Marked Marked Marked Marked (in_arg in_type) (in_else in_type) (in_exp in_type) (in_postfix in_type) (in_step in_type) (in_stmt in_type) (in_arm in_type) (in_block in_type) (in_if in_type) (in_operand in_type) y)

  postfix_layer_fits : (y : Postfix-F A L E P T S R B I O) → Fits (postfix_outlines (postfix_inside y)) (postfix_nodes (postfix_inside y))
  postfix_layer_fits (exp.Try s) = good_none
  postfix_layer_fits (exp.Method s n as') = good_inside (good_right (all_fit Arg node_of_arg (in_arg in_type) as'))
  postfix_layer_fits (exp.Step t) = t.1

  postfix_level : (y : Postfix-F A L E P T S R B I O) → PostfixFits (roll-Postfix (postfix_inside y))
  postfix_level y =
      subst (λ (n : Node). Fits n (in_postfix in_type (roll-Postfix (postfix_inside y)))) (sym (fold-roll-Postfix Node Node Node Node Node Node Node Node Node Node nodes.arg_layer nodes.else_layer nodes.exp_layer nodes.postfix_layer nodes.step_layer nodes.stmt_layer nodes.arm_layer nodes.block_layer nodes.if_layer nodes.operand_layer (postfix_inside y)))
      (subst (λ (x : Marked). Fits (postfix_outlines (postfix_inside y)) x) (sym (fold-roll-Postfix Marked Marked Marked Marked Marked Marked Marked Marked Marked Marked (arg_layer in_type) (else_layer in_type) (exp_layer in_type) (postfix_layer in_type) (step_layer in_type) (stmt_layer in_type) (arm_layer in_type) (block_layer in_type) (if_layer in_type) (operand_layer in_type) (postfix_inside y))) (postfix_layer_fits y))

  abbrev step_inside : Step-F A L E P T S R B I O → Step-F Arg Else Exp Postfix Step Stmt Arm Block If Operand
  step_inside y = map-Step A L E P T S R B I O Arg Else Exp Postfix Step Stmt Arm Block If Operand (λ x. x.0) (λ x. x.0) (λ x. x.0) (λ x. x.0) (λ x. x.0) (λ x. x.0) (λ x. x.0) (λ x. x.0) (λ x. x.0) (λ x. x.0) y

  abbrev step_outlines : Step-F Arg Else Exp Postfix Step Stmt Arm Block If Operand → Node
  step_outlines y = nodes.step_layer (map-Step Arg Else Exp Postfix Step Stmt Arm Block If Operand Node Node Node Node Node Node Node Node Node Node node_of_arg node_of_else node_of_exp node_of_postfix node_of_step node_of_stmt node_of_arm node_of_block node_of_if node_of_operand y)

  abbrev step_nodes : Step-F Arg Else Exp Postfix Step Stmt Arm Block If Operand → Marked
  step_nodes y = step_layer in_type (map-Step Arg Else Exp Postfix Step Stmt Arm Block If Operand Marked Marked Marked Marked Marked Marked Marked Marked Marked Marked (in_arg in_type) (in_else in_type) (in_exp in_type) (in_postfix in_type) (in_step in_type) (in_stmt in_type) (in_arm in_type) (in_block in_type) (in_if in_type) (in_operand in_type) y)

  step_layer_fits : (y : Step-F A L E P T S R B I O) → Fits (step_outlines (step_inside y)) (step_nodes (step_inside y))
  step_layer_fits (exp.Index s e) = good_inside e.1
  step_layer_fits (exp.Part s i) = good_none

  step_level : (y : Step-F A L E P T S R B I O) → StepFits (roll-Step (step_inside y))
  step_level y =
      subst (λ (n : Node). Fits n (in_step in_type (roll-Step (step_inside y)))) (sym (fold-roll-Step Node Node Node Node Node Node Node Node Node Node nodes.arg_layer nodes.else_layer nodes.exp_layer nodes.postfix_layer nodes.step_layer nodes.stmt_layer nodes.arm_layer nodes.block_layer nodes.if_layer nodes.operand_layer (step_inside y)))
      (subst (λ (x : Marked). Fits (step_outlines (step_inside y)) x) (sym (fold-roll-Step Marked Marked Marked Marked Marked Marked Marked Marked Marked Marked (arg_layer in_type) (else_layer in_type) (exp_layer in_type) (postfix_layer in_type) (step_layer in_type) (stmt_layer in_type) (arm_layer in_type) (block_layer in_type) (if_layer in_type) (operand_layer in_type) (step_inside y))) (step_layer_fits y))

  abbrev stmt_inside : Stmt-F A L E P T S R B I O → Stmt-F Arg Else Exp Postfix Step Stmt Arm Block If Operand
  stmt_inside y = map-Stmt A L E P T S R B I O Arg Else Exp Postfix Step Stmt Arm Block If Operand (λ x. x.0) (λ x. x.0) (λ x. x.0) (λ x. x.0) (λ x. x.0) (λ x. x.0) (λ x. x.0) (λ x. x.0) (λ x. x.0) (λ x. x.0) y

  abbrev stmt_outlines : Stmt-F Arg Else Exp Postfix Step Stmt Arm Block If Operand → Node
  stmt_outlines y = nodes.stmt_layer (map-Stmt Arg Else Exp Postfix Step Stmt Arm Block If Operand Node Node Node Node Node Node Node Node Node Node node_of_arg node_of_else node_of_exp node_of_postfix node_of_step node_of_stmt node_of_arm node_of_block node_of_if node_of_operand y)

  abbrev stmt_nodes : Stmt-F Arg Else Exp Postfix Step Stmt Arm Block If Operand → Marked
  stmt_nodes y = stmt_layer in_type (map-Stmt Arg Else Exp Postfix Step Stmt Arm Block If Operand Marked Marked Marked Marked Marked Marked Marked Marked Marked Marked (in_arg in_type) (in_else in_type) (in_exp in_type) (in_postfix in_type) (in_step in_type) (in_stmt in_type) (in_arm in_type) (in_block in_type) (in_if in_type) (in_operand in_type) y)

  stmt_layer_fits : (y : Stmt-F A L E P T S R B I O) → Fits (stmt_outlines (stmt_inside y)) (stmt_nodes (stmt_inside y))
  stmt_layer_fits (exp.Let s p t e) = good_inside (good_right (good_join (optional_fits t) e.1))
  stmt_layer_fits (exp.Assign s t ps o e) = good_inside (good_join (good_inside (good_right (all_fit Step node_of_step (in_step in_type) ps))) e.1)
  stmt_layer_fits (exp.For s x e f b) = good_inside (good_right (good_join e.1 (good_join f.1 b.1)))
  stmt_layer_fits (exp.Return s None) = good_none
  stmt_layer_fits (exp.Return s (Some e)) = good_inside e.1
  stmt_layer_fits (exp.Bare e) = good_inside e.1
  stmt_layer_fits (exp.Exp s e) = good_inside e.1

  stmt_level : (y : Stmt-F A L E P T S R B I O) → StmtFits (roll-Stmt (stmt_inside y))
  stmt_level y =
      subst (λ (n : Node). Fits n (in_stmt in_type (roll-Stmt (stmt_inside y)))) (sym (fold-roll-Stmt Node Node Node Node Node Node Node Node Node Node nodes.arg_layer nodes.else_layer nodes.exp_layer nodes.postfix_layer nodes.step_layer nodes.stmt_layer nodes.arm_layer nodes.block_layer nodes.if_layer nodes.operand_layer (stmt_inside y)))
      (subst (λ (x : Marked). Fits (stmt_outlines (stmt_inside y)) x) (sym (fold-roll-Stmt Marked Marked Marked Marked Marked Marked Marked Marked Marked Marked (arg_layer in_type) (else_layer in_type) (exp_layer in_type) (postfix_layer in_type) (step_layer in_type) (stmt_layer in_type) (arm_layer in_type) (block_layer in_type) (if_layer in_type) (operand_layer in_type) (stmt_inside y))) (stmt_layer_fits y))

  abbrev arm_inside : Arm-F A L E P T S R B I O → Arm-F Arg Else Exp Postfix Step Stmt Arm Block If Operand
  arm_inside y = map-Arm A L E P T S R B I O Arg Else Exp Postfix Step Stmt Arm Block If Operand (λ x. x.0) (λ x. x.0) (λ x. x.0) (λ x. x.0) (λ x. x.0) (λ x. x.0) (λ x. x.0) (λ x. x.0) (λ x. x.0) (λ x. x.0) y

  abbrev arm_outlines : Arm-F Arg Else Exp Postfix Step Stmt Arm Block If Operand → Node
  arm_outlines y = nodes.arm_layer (map-Arm Arg Else Exp Postfix Step Stmt Arm Block If Operand Node Node Node Node Node Node Node Node Node Node node_of_arg node_of_else node_of_exp node_of_postfix node_of_step node_of_stmt node_of_arm node_of_block node_of_if node_of_operand y)

  abbrev arm_nodes : Arm-F Arg Else Exp Postfix Step Stmt Arm Block If Operand → Marked
  arm_nodes y = arm_layer in_type (map-Arm Arg Else Exp Postfix Step Stmt Arm Block If Operand Marked Marked Marked Marked Marked Marked Marked Marked Marked Marked (in_arg in_type) (in_else in_type) (in_exp in_type) (in_postfix in_type) (in_step in_type) (in_stmt in_type) (in_arm in_type) (in_block in_type) (in_if in_type) (in_operand in_type) y)

  arm_layer_fits : (y : Arm-F A L E P T S R B I O) → Fits (arm_outlines (arm_inside y)) (arm_nodes (arm_inside y))
  arm_layer_fits a = good_inside (good_right a.value.1)

  arm_level : (y : Arm-F A L E P T S R B I O) → ArmFits (roll-Arm (arm_inside y))
  arm_level y =
      subst (λ (n : Node). Fits n (in_arm in_type (roll-Arm (arm_inside y)))) (sym (fold-roll-Arm Node Node Node Node Node Node Node Node Node Node nodes.arg_layer nodes.else_layer nodes.exp_layer nodes.postfix_layer nodes.step_layer nodes.stmt_layer nodes.arm_layer nodes.block_layer nodes.if_layer nodes.operand_layer (arm_inside y)))
      (subst (λ (x : Marked). Fits (arm_outlines (arm_inside y)) x) (sym (fold-roll-Arm Marked Marked Marked Marked Marked Marked Marked Marked Marked Marked (arg_layer in_type) (else_layer in_type) (exp_layer in_type) (postfix_layer in_type) (step_layer in_type) (stmt_layer in_type) (arm_layer in_type) (block_layer in_type) (if_layer in_type) (operand_layer in_type) (arm_inside y))) (arm_layer_fits y))

  abbrev block_inside : Block-F A L E P T S R B I O → Block-F Arg Else Exp Postfix Step Stmt Arm Block If Operand
  block_inside y = map-Block A L E P T S R B I O Arg Else Exp Postfix Step Stmt Arm Block If Operand (λ x. x.0) (λ x. x.0) (λ x. x.0) (λ x. x.0) (λ x. x.0) (λ x. x.0) (λ x. x.0) (λ x. x.0) (λ x. x.0) (λ x. x.0) y

  abbrev block_outlines : Block-F Arg Else Exp Postfix Step Stmt Arm Block If Operand → Node
  block_outlines y = nodes.block_layer (map-Block Arg Else Exp Postfix Step Stmt Arm Block If Operand Node Node Node Node Node Node Node Node Node Node node_of_arg node_of_else node_of_exp node_of_postfix node_of_step node_of_stmt node_of_arm node_of_block node_of_if node_of_operand y)

  abbrev block_nodes : Block-F Arg Else Exp Postfix Step Stmt Arm Block If Operand → Marked
  block_nodes y = block_layer in_type (map-Block Arg Else Exp Postfix Step Stmt Arm Block If Operand Marked Marked Marked Marked Marked Marked Marked Marked Marked Marked (in_arg in_type) (in_else in_type) (in_exp in_type) (in_postfix in_type) (in_step in_type) (in_stmt in_type) (in_arm in_type) (in_block in_type) (in_if in_type) (in_operand in_type) y)

  block_case : (s : Span) (ss : List S) (t : Option E) → Fits (block_outlines (block_inside (record { span = s; statements = ss; tail = t }))) (block_nodes (block_inside (record { span = s; statements = ss; tail = t })))
  block_case s ss None = good_inside (good_join (numbered_fit Stmt node_of_stmt (in_stmt in_type) 1024 statement 0 ss) good_none)
  block_case s ss (Some t) = good_inside (good_join (numbered_fit Stmt node_of_stmt (in_stmt in_type) 1024 statement 0 ss) t.1)

  block_layer_fits : (y : Block-F A L E P T S R B I O) → Fits (block_outlines (block_inside y)) (block_nodes (block_inside y))
  block_layer_fits y = block_case y.span y.statements y.tail

  block_level : (y : Block-F A L E P T S R B I O) → BlockFits (roll-Block (block_inside y))
  block_level y =
      subst (λ (n : Node). Fits n (in_block in_type (roll-Block (block_inside y)))) (sym (fold-roll-Block Node Node Node Node Node Node Node Node Node Node nodes.arg_layer nodes.else_layer nodes.exp_layer nodes.postfix_layer nodes.step_layer nodes.stmt_layer nodes.arm_layer nodes.block_layer nodes.if_layer nodes.operand_layer (block_inside y)))
      (subst (λ (x : Marked). Fits (block_outlines (block_inside y)) x) (sym (fold-roll-Block Marked Marked Marked Marked Marked Marked Marked Marked Marked Marked (arg_layer in_type) (else_layer in_type) (exp_layer in_type) (postfix_layer in_type) (step_layer in_type) (stmt_layer in_type) (arm_layer in_type) (block_layer in_type) (if_layer in_type) (operand_layer in_type) (block_inside y))) (block_layer_fits y))

  abbrev if_inside : If-F A L E P T S R B I O → If-F Arg Else Exp Postfix Step Stmt Arm Block If Operand
  if_inside y = map-If A L E P T S R B I O Arg Else Exp Postfix Step Stmt Arm Block If Operand (λ x. x.0) (λ x. x.0) (λ x. x.0) (λ x. x.0) (λ x. x.0) (λ x. x.0) (λ x. x.0) (λ x. x.0) (λ x. x.0) (λ x. x.0) y

  abbrev if_outlines : If-F Arg Else Exp Postfix Step Stmt Arm Block If Operand → Node
  if_outlines y = nodes.if_layer (map-If Arg Else Exp Postfix Step Stmt Arm Block If Operand Node Node Node Node Node Node Node Node Node Node node_of_arg node_of_else node_of_exp node_of_postfix node_of_step node_of_stmt node_of_arm node_of_block node_of_if node_of_operand y)

  abbrev if_nodes : If-F Arg Else Exp Postfix Step Stmt Arm Block If Operand → Marked
  if_nodes y = if_layer in_type (map-If Arg Else Exp Postfix Step Stmt Arm Block If Operand Marked Marked Marked Marked Marked Marked Marked Marked Marked Marked (in_arg in_type) (in_else in_type) (in_exp in_type) (in_postfix in_type) (in_step in_type) (in_stmt in_type) (in_arm in_type) (in_block in_type) (in_if in_type) (in_operand in_type) y)

  if_case : (s : Span) (c : E) (b : B) (o : Option L) → Fits (if_outlines (if_inside (record { span = s; condition = c; then = b; otherwise = o }))) (if_nodes (if_inside (record { span = s; condition = c; then = b; otherwise = o })))
  if_case s c b None = good_inside (good_join c.1 (good_join b.1 good_none))
  if_case s c b (Some o) = good_inside (good_join c.1 (good_join b.1 o.1))

  if_layer_fits : (y : If-F A L E P T S R B I O) → Fits (if_outlines (if_inside y)) (if_nodes (if_inside y))
  if_layer_fits y = if_case y.span y.condition y.then y.otherwise

  if_level : (y : If-F A L E P T S R B I O) → IfFits (roll-If (if_inside y))
  if_level y =
      subst (λ (n : Node). Fits n (in_if in_type (roll-If (if_inside y)))) (sym (fold-roll-If Node Node Node Node Node Node Node Node Node Node nodes.arg_layer nodes.else_layer nodes.exp_layer nodes.postfix_layer nodes.step_layer nodes.stmt_layer nodes.arm_layer nodes.block_layer nodes.if_layer nodes.operand_layer (if_inside y)))
      (subst (λ (x : Marked). Fits (if_outlines (if_inside y)) x) (sym (fold-roll-If Marked Marked Marked Marked Marked Marked Marked Marked Marked Marked (arg_layer in_type) (else_layer in_type) (exp_layer in_type) (postfix_layer in_type) (step_layer in_type) (stmt_layer in_type) (arm_layer in_type) (block_layer in_type) (if_layer in_type) (operand_layer in_type) (if_inside y))) (if_layer_fits y))

  abbrev operand_inside : Operand-F A L E P T S R B I O → Operand-F Arg Else Exp Postfix Step Stmt Arm Block If Operand
  operand_inside y = map-Operand A L E P T S R B I O Arg Else Exp Postfix Step Stmt Arm Block If Operand (λ x. x.0) (λ x. x.0) (λ x. x.0) (λ x. x.0) (λ x. x.0) (λ x. x.0) (λ x. x.0) (λ x. x.0) (λ x. x.0) (λ x. x.0) y

  abbrev operand_outlines : Operand-F Arg Else Exp Postfix Step Stmt Arm Block If Operand → Node
  operand_outlines y = nodes.operand_layer (map-Operand Arg Else Exp Postfix Step Stmt Arm Block If Operand Node Node Node Node Node Node Node Node Node Node node_of_arg node_of_else node_of_exp node_of_postfix node_of_step node_of_stmt node_of_arm node_of_block node_of_if node_of_operand y)

  abbrev operand_nodes : Operand-F Arg Else Exp Postfix Step Stmt Arm Block If Operand → Marked
  operand_nodes y = operand_layer in_type (map-Operand Arg Else Exp Postfix Step Stmt Arm Block If Operand Marked Marked Marked Marked Marked Marked Marked Marked Marked Marked (in_arg in_type) (in_else in_type) (in_exp in_type) (in_postfix in_type) (in_step in_type) (in_stmt in_type) (in_arm in_type) (in_block in_type) (in_if in_type) (in_operand in_type) y)

  operand_layer_fits : (y : Operand-F A L E P T S R B I O) → Fits (operand_outlines (operand_inside y)) (operand_nodes (operand_inside y))
  operand_layer_fits o = o.right.1

  operand_level : (y : Operand-F A L E P T S R B I O) → OperandFits (roll-Operand (operand_inside y))
  operand_level y =
      subst (λ (n : Node). Fits n (in_operand in_type (roll-Operand (operand_inside y)))) (sym (fold-roll-Operand Node Node Node Node Node Node Node Node Node Node nodes.arg_layer nodes.else_layer nodes.exp_layer nodes.postfix_layer nodes.step_layer nodes.stmt_layer nodes.arm_layer nodes.block_layer nodes.if_layer nodes.operand_layer (operand_inside y)))
      (subst (λ (x : Marked). Fits (operand_outlines (operand_inside y)) x) (sym (fold-roll-Operand Marked Marked Marked Marked Marked Marked Marked Marked Marked Marked (arg_layer in_type) (else_layer in_type) (exp_layer in_type) (postfix_layer in_type) (step_layer in_type) (stmt_layer in_type) (arm_layer in_type) (block_layer in_type) (if_layer in_type) (operand_layer in_type) (operand_inside y))) (operand_layer_fits y))

  pub exp_fits : (x : Exp) → ExpFits x
  exp_fits = ind-Exp ArgFits ElseFits ExpFits PostfixFits StepFits StmtFits ArmFits BlockFits IfFits OperandFits
      (λ x y is. subst (λ z. ArgFits (roll-Arg z)) is (arg_level y))
      (λ x y is. subst (λ z. ElseFits (roll-Else z)) is (else_level y))
      (λ x y is. subst (λ z. ExpFits (roll-Exp z)) is (exp_level y))
      (λ x y is. subst (λ z. PostfixFits (roll-Postfix z)) is (postfix_level y))
      (λ x y is. subst (λ z. StepFits (roll-Step z)) is (step_level y))
      (λ x y is. subst (λ z. StmtFits (roll-Stmt z)) is (stmt_level y))
      (λ x y is. subst (λ z. ArmFits (roll-Arm z)) is (arm_level y))
      (λ x y is. subst (λ z. BlockFits (roll-Block z)) is (block_level y))
      (λ x y is. subst (λ z. IfFits (roll-If z)) is (if_level y))
      (λ x y is. subst (λ z. OperandFits (roll-Operand z)) is (operand_level y))

  pub block_fits : (x : Block) → BlockFits x
  block_fits = ind-Block ArgFits ElseFits ExpFits PostfixFits StepFits StmtFits ArmFits BlockFits IfFits OperandFits
      (λ x y is. subst (λ z. ArgFits (roll-Arg z)) is (arg_level y))
      (λ x y is. subst (λ z. ElseFits (roll-Else z)) is (else_level y))
      (λ x y is. subst (λ z. ExpFits (roll-Exp z)) is (exp_level y))
      (λ x y is. subst (λ z. PostfixFits (roll-Postfix z)) is (postfix_level y))
      (λ x y is. subst (λ z. StepFits (roll-Step z)) is (step_level y))
      (λ x y is. subst (λ z. StmtFits (roll-Stmt z)) is (stmt_level y))
      (λ x y is. subst (λ z. ArmFits (roll-Arm z)) is (arm_level y))
      (λ x y is. subst (λ z. BlockFits (roll-Block z)) is (block_level y))
      (λ x y is. subst (λ z. IfFits (roll-If z)) is (if_level y))
      (λ x y is. subst (λ z. OperandFits (roll-Operand z)) is (operand_level y))
