-- Whether each form of a tree is well formed, by its parts.
use Rattle.std.proofs.Common.{◌≡◌, ℕ, Bool, true, ◌&&◌, Option, Some, None, List, map, option_map}
use Rattle.hs_syntax.specs.declared.span.Span.{Span}
use Rattle.hs_syntax.specs.declared.span.Int.{Int}
use Rattle.hs_syntax.specs.declared.ty.Ty.{Ty, roll-Ty}
use Rattle.hs_syntax.specs.declared.ty.Ty.TheVariants as ty
use Rattle.hs_syntax.specs.declared.ty.Ty.TheOpen as ty_layers
use Rattle.hs_syntax.specs.declared.ty.Ty.TheFolds.{fold-roll-Ty}
use Rattle.hs_syntax.specs.declared.pat.Pat.{Pat, roll-Pat}
use Rattle.hs_syntax.specs.declared.pat.Pat.TheVariants as pat
use Rattle.hs_syntax.specs.declared.pat.Pat.TheOpen as pat_layers
use Rattle.hs_syntax.specs.declared.pat.Pat.TheFolds.{fold-roll-Pat}
use Rattle.hs_syntax.specs.declared.exp.Path.{Path}
use Rattle.hs_syntax.specs.declared.exp.BinaryOp.{BinaryOp}
use Rattle.hs_syntax.specs.declared.exp.PrefixOp.{PrefixOp}
use Rattle.hs_syntax.specs.declared.exp.Target.{Target}
use Rattle.hs_syntax.specs.declared.exp.Variable.{Variable}
use Rattle.hs_syntax.specs.declared.exp.Exp.{Exp, roll-Exp}
use Rattle.hs_syntax.specs.declared.exp.Exp.TheVariants as exp
use Rattle.hs_syntax.specs.declared.exp.If.{If, roll-If}
use Rattle.hs_syntax.specs.declared.exp.Else.{Else, roll-Else}
use Rattle.hs_syntax.specs.declared.exp.Else.TheVariants as branch
use Rattle.hs_syntax.specs.declared.exp.Operand.{Operand, roll-Operand}
use Rattle.hs_syntax.specs.declared.exp.Step.{Step, roll-Step}
use Rattle.hs_syntax.specs.declared.exp.Step.TheVariants as step
use Rattle.hs_syntax.specs.declared.exp.Postfix.{Postfix, roll-Postfix}
use Rattle.hs_syntax.specs.declared.exp.Postfix.TheVariants as postfix
use Rattle.hs_syntax.specs.declared.exp.Arg.{Arg, roll-Arg}
use Rattle.hs_syntax.specs.declared.exp.Arg.TheVariants as arg
use Rattle.hs_syntax.specs.declared.exp.Arg.TheOpen as layers
use Rattle.hs_syntax.specs.declared.exp.Arg.TheOpen.{Arm-F, Operand-F}
use Rattle.hs_syntax.specs.declared.exp.Arg.TheFolds.{fold-roll-Exp, fold-roll-If, fold-roll-Else, fold-roll-Arg, fold-roll-Step, fold-roll-Postfix, fold-roll-Stmt, fold-roll-Arm, fold-roll-Block, fold-roll-Operand}
use Rattle.hs_syntax.specs.declared.exp.Arm.{Arm, roll-Arm}
use Rattle.hs_syntax.specs.declared.exp.Stmt.{Stmt, roll-Stmt}
use Rattle.hs_syntax.specs.declared.exp.Stmt.TheVariants as stmt
use Rattle.hs_syntax.specs.declared.exp.Block.{Block, roll-Block}
use Rattle.hs_syntax.specs.WellFormed.{named, all_named, decimal, at_least_one, at_least_two, each, if_any, one_level, assigns, ty_layer, pat_layer, arg_layer, else_layer, exp_layer, postfix_layer, step_layer, stmt_layer, arm_layer, block_layer, if_layer, operand_layer, well_ty, well_optional_ty, well_pat, well_arm_pat, well_path, well_variable, well_exp, well_if, well_else, well_arg, well_step, well_postfix, well_stmt, well_arm, well_block, well_operand}

module _ (text : List ℕ) where
  pub ty_name : (s : Span) → well_ty text (ty.Name s) ≡ named text s
  unfolding roll-Ty denote.Hole.Carrier.roll
  ty_name s = fold-roll-Ty Bool (ty_layer text) (ty_layers.Name s)

  pub ty_unit : (s : Span) → well_ty text (ty.Unit s) ≡ true
  unfolding roll-Ty denote.Hole.Carrier.roll
  ty_unit s = fold-roll-Ty Bool (ty_layer text) (ty_layers.Unit s)

  pub ty_tuple : (s : Span) (ts : List Ty) → well_ty text (ty.Tuple s ts) ≡ (at_least_two (map (well_ty text) ts) && each (map (well_ty text) ts))
  unfolding roll-Ty denote.Hole.Carrier.roll
  ty_tuple s ts = fold-roll-Ty Bool (ty_layer text) (ty_layers.Tuple s ts)

  pub ty_applied : (s n : Span) (ts : List Ty) → well_ty text (ty.Applied s n ts) ≡ (named text n && (at_least_one (map (well_ty text) ts) && each (map (well_ty text) ts)))
  unfolding roll-Ty denote.Hole.Carrier.roll
  ty_applied s n ts = fold-roll-Ty Bool (ty_layer text) (ty_layers.Applied s n ts)

  pub pat_name : (s : Span) (b : Bool) (n : Span) → well_pat text (pat.Name s b n) ≡ named text n
  unfolding roll-Pat denote.Hole.Carrier.roll
  pat_name s b n = fold-roll-Pat Bool (pat_layer text) (pat_layers.Name s b n)

  pub pat_any : (s : Span) → well_pat text (pat.Any s) ≡ true
  unfolding roll-Pat denote.Hole.Carrier.roll
  pat_any s = fold-roll-Pat Bool (pat_layer text) (pat_layers.Any s)

  pub pat_tuple : (s : Span) (ps : List Pat) → well_pat text (pat.Tuple s ps) ≡ (at_least_two (map (well_pat text) ps) && each (map (well_pat text) ps))
  unfolding roll-Pat denote.Hole.Carrier.roll
  pat_tuple s ps = fold-roll-Pat Bool (pat_layer text) (pat_layers.Tuple s ps)

  pub pat_struct : (s n : Span) (ps : List Pat) → well_pat text (pat.Struct s n ps) ≡ (named text n && (at_least_one (map (well_pat text) ps) && each (map (well_pat text) ps)))
  unfolding roll-Pat denote.Hole.Carrier.roll
  pat_struct s n ps = fold-roll-Pat Bool (pat_layer text) (pat_layers.Struct s n ps)

  pub exp_int : (i : Int) → well_exp text (exp.Int i) ≡ true
  unfolding roll-Exp denote.Hole.Carrier.roll
  exp_int i = fold-roll-Exp Bool Bool Bool Bool Bool Bool Bool Bool Bool (BinaryOp × Bool) (arg_layer text) else_layer (exp_layer text) (postfix_layer text) (step_layer text) (stmt_layer text) (arm_layer text) block_layer if_layer operand_layer (layers.Int i)

  pub exp_bool : (s : Span) (b : Bool) → well_exp text (exp.Bool s b) ≡ true
  unfolding roll-Exp denote.Hole.Carrier.roll
  exp_bool s b = fold-roll-Exp Bool Bool Bool Bool Bool Bool Bool Bool Bool (BinaryOp × Bool) (arg_layer text) else_layer (exp_layer text) (postfix_layer text) (step_layer text) (stmt_layer text) (arm_layer text) block_layer if_layer operand_layer (layers.Bool s b)

  pub exp_unit : (s : Span) → well_exp text (exp.Unit s) ≡ true
  unfolding roll-Exp denote.Hole.Carrier.roll
  exp_unit s = fold-roll-Exp Bool Bool Bool Bool Bool Bool Bool Bool Bool (BinaryOp × Bool) (arg_layer text) else_layer (exp_layer text) (postfix_layer text) (step_layer text) (stmt_layer text) (arm_layer text) block_layer if_layer operand_layer (layers.Unit s)

  pub exp_group : (s : Span) (e : Exp) → well_exp text (exp.Group s e) ≡ well_exp text e
  unfolding roll-Exp denote.Hole.Carrier.roll
  exp_group s e = fold-roll-Exp Bool Bool Bool Bool Bool Bool Bool Bool Bool (BinaryOp × Bool) (arg_layer text) else_layer (exp_layer text) (postfix_layer text) (step_layer text) (stmt_layer text) (arm_layer text) block_layer if_layer operand_layer (layers.Group s e)

  pub exp_tuple : (s : Span) (es : List Exp) → well_exp text (exp.Tuple s es) ≡ (at_least_two (map (well_exp text) es) && each (map (well_exp text) es))
  unfolding roll-Exp denote.Hole.Carrier.roll
  exp_tuple s es = fold-roll-Exp Bool Bool Bool Bool Bool Bool Bool Bool Bool (BinaryOp × Bool) (arg_layer text) else_layer (exp_layer text) (postfix_layer text) (step_layer text) (stmt_layer text) (arm_layer text) block_layer if_layer operand_layer (layers.Tuple s es)

  pub exp_path : (p : Path) → well_exp text (exp.Path p) ≡ well_path text p
  unfolding roll-Exp denote.Hole.Carrier.roll
  exp_path p = fold-roll-Exp Bool Bool Bool Bool Bool Bool Bool Bool Bool (BinaryOp × Bool) (arg_layer text) else_layer (exp_layer text) (postfix_layer text) (step_layer text) (stmt_layer text) (arm_layer text) block_layer if_layer operand_layer (layers.Path p)

  pub exp_call : (s : Span) (p : Path) (as' : List Arg) → well_exp text (exp.Call s p as') ≡ (well_path text p && each (map (well_arg text) as'))
  unfolding roll-Exp denote.Hole.Carrier.roll
  exp_call s p as' = fold-roll-Exp Bool Bool Bool Bool Bool Bool Bool Bool Bool (BinaryOp × Bool) (arg_layer text) else_layer (exp_layer text) (postfix_layer text) (step_layer text) (stmt_layer text) (arm_layer text) block_layer if_layer operand_layer (layers.Call s p as')

  pub exp_block : (b : Block) → well_exp text (exp.Block b) ≡ well_block text b
  unfolding roll-Exp denote.Hole.Carrier.roll
  exp_block b = fold-roll-Exp Bool Bool Bool Bool Bool Bool Bool Bool Bool (BinaryOp × Bool) (arg_layer text) else_layer (exp_layer text) (postfix_layer text) (step_layer text) (stmt_layer text) (arm_layer text) block_layer if_layer operand_layer (layers.Block b)

  pub exp_if : (i : If) → well_exp text (exp.If i) ≡ well_if text i
  unfolding roll-Exp denote.Hole.Carrier.roll
  exp_if i = fold-roll-Exp Bool Bool Bool Bool Bool Bool Bool Bool Bool (BinaryOp × Bool) (arg_layer text) else_layer (exp_layer text) (postfix_layer text) (step_layer text) (stmt_layer text) (arm_layer text) block_layer if_layer operand_layer (layers.If i)

  pub exp_match : (s : Span) (e : Exp) (as' : List Arm) → well_exp text (exp.Match s e as') ≡ (well_exp text e && (at_least_one (map (well_arm text) as') && each (map (well_arm text) as')))
  unfolding roll-Exp denote.Hole.Carrier.roll
  exp_match s e as' = fold-roll-Exp Bool Bool Bool Bool Bool Bool Bool Bool Bool (BinaryOp × Bool) (arg_layer text) else_layer (exp_layer text) (postfix_layer text) (step_layer text) (stmt_layer text) (arm_layer text) block_layer if_layer operand_layer (layers.Match s e as')

  pub exp_post : (s : Span) (e : Exp) (ps : List Postfix) → well_exp text (exp.Post s e ps) ≡ (well_exp text e && (at_least_one (map (well_postfix text) ps) && each (map (well_postfix text) ps)))
  unfolding roll-Exp denote.Hole.Carrier.roll
  exp_post s e ps = fold-roll-Exp Bool Bool Bool Bool Bool Bool Bool Bool Bool (BinaryOp × Bool) (arg_layer text) else_layer (exp_layer text) (postfix_layer text) (step_layer text) (stmt_layer text) (arm_layer text) block_layer if_layer operand_layer (layers.Post s e ps)

  pub exp_prefix : (s : Span) (o : PrefixOp) (e : Exp) → well_exp text (exp.Prefix s o e) ≡ well_exp text e
  unfolding roll-Exp denote.Hole.Carrier.roll
  exp_prefix s o e = fold-roll-Exp Bool Bool Bool Bool Bool Bool Bool Bool Bool (BinaryOp × Bool) (arg_layer text) else_layer (exp_layer text) (postfix_layer text) (step_layer text) (stmt_layer text) (arm_layer text) block_layer if_layer operand_layer (layers.Prefix s o e)

  pub exp_cast : (s : Span) (e : Exp) (ns : List Span) → well_exp text (exp.Cast s e ns) ≡ (well_exp text e && (at_least_one ns && all_named text ns))
  unfolding roll-Exp denote.Hole.Carrier.roll
  exp_cast s e ns = fold-roll-Exp Bool Bool Bool Bool Bool Bool Bool Bool Bool (BinaryOp × Bool) (arg_layer text) else_layer (exp_layer text) (postfix_layer text) (step_layer text) (stmt_layer text) (arm_layer text) block_layer if_layer operand_layer (layers.Cast s e ns)

  pub exp_binary : (s : Span) (e : Exp) (os : List Operand) → well_exp text (exp.Binary s e os) ≡ (well_exp text e && (one_level (map (λ (o : BinaryOp × Bool). o.0) (map (well_operand text) os)) && each (map (λ (o : BinaryOp × Bool). o.1) (map (well_operand text) os))))
  unfolding roll-Exp denote.Hole.Carrier.roll
  exp_binary s e os = fold-roll-Exp Bool Bool Bool Bool Bool Bool Bool Bool Bool (BinaryOp × Bool) (arg_layer text) else_layer (exp_layer text) (postfix_layer text) (step_layer text) (stmt_layer text) (arm_layer text) block_layer if_layer operand_layer (layers.Binary s e os)

  pub arg_value : (e : Exp) → well_arg text (arg.Value e) ≡ well_exp text e
  unfolding roll-Arg denote.Hole.Carrier.roll
  arg_value e = fold-roll-Arg Bool Bool Bool Bool Bool Bool Bool Bool Bool (BinaryOp × Bool) (arg_layer text) else_layer (exp_layer text) (postfix_layer text) (step_layer text) (stmt_layer text) (arm_layer text) block_layer if_layer operand_layer (layers.Value e)

  pub arg_shared : (s : Span) (e : Exp) → well_arg text (arg.Shared s e) ≡ well_exp text e
  unfolding roll-Arg denote.Hole.Carrier.roll
  arg_shared s e = fold-roll-Arg Bool Bool Bool Bool Bool Bool Bool Bool Bool (BinaryOp × Bool) (arg_layer text) else_layer (exp_layer text) (postfix_layer text) (step_layer text) (stmt_layer text) (arm_layer text) block_layer if_layer operand_layer (layers.Shared s e)

  pub arg_lent : (s n : Span) → well_arg text (arg.Lent s n) ≡ named text n
  unfolding roll-Arg denote.Hole.Carrier.roll
  arg_lent s n = fold-roll-Arg Bool Bool Bool Bool Bool Bool Bool Bool Bool (BinaryOp × Bool) (arg_layer text) else_layer (exp_layer text) (postfix_layer text) (step_layer text) (stmt_layer text) (arm_layer text) block_layer if_layer operand_layer (layers.Lent s n)

  pub arg_list : (s : Span) (es : List Exp) → well_arg text (arg.List s es) ≡ (at_least_one (map (well_exp text) es) && each (map (well_exp text) es))
  unfolding roll-Arg denote.Hole.Carrier.roll
  arg_list s es = fold-roll-Arg Bool Bool Bool Bool Bool Bool Bool Bool Bool (BinaryOp × Bool) (arg_layer text) else_layer (exp_layer text) (postfix_layer text) (step_layer text) (stmt_layer text) (arm_layer text) block_layer if_layer operand_layer (layers.List s es)

  pub else_chain : (i : If) → well_else text (branch.Chain i) ≡ well_if text i
  unfolding roll-Else denote.Hole.Carrier.roll
  else_chain i = fold-roll-Else Bool Bool Bool Bool Bool Bool Bool Bool Bool (BinaryOp × Bool) (arg_layer text) else_layer (exp_layer text) (postfix_layer text) (step_layer text) (stmt_layer text) (arm_layer text) block_layer if_layer operand_layer (layers.Chain i)

  pub else_last : (b : Block) → well_else text (branch.Last b) ≡ well_block text b
  unfolding roll-Else denote.Hole.Carrier.roll
  else_last b = fold-roll-Else Bool Bool Bool Bool Bool Bool Bool Bool Bool (BinaryOp × Bool) (arg_layer text) else_layer (exp_layer text) (postfix_layer text) (step_layer text) (stmt_layer text) (arm_layer text) block_layer if_layer operand_layer (layers.Last b)

  pub step_index : (s : Span) (e : Exp) → well_step text (step.Index s e) ≡ well_exp text e
  unfolding roll-Step denote.Hole.Carrier.roll
  step_index s e = fold-roll-Step Bool Bool Bool Bool Bool Bool Bool Bool Bool (BinaryOp × Bool) (arg_layer text) else_layer (exp_layer text) (postfix_layer text) (step_layer text) (stmt_layer text) (arm_layer text) block_layer if_layer operand_layer (layers.Index s e)

  pub step_part : (s : Span) (i : Int) → well_step text (step.Part s i) ≡ decimal text i.span
  unfolding roll-Step denote.Hole.Carrier.roll
  step_part s i = fold-roll-Step Bool Bool Bool Bool Bool Bool Bool Bool Bool (BinaryOp × Bool) (arg_layer text) else_layer (exp_layer text) (postfix_layer text) (step_layer text) (stmt_layer text) (arm_layer text) block_layer if_layer operand_layer (layers.Part s i)

  pub postfix_try : (s : Span) → well_postfix text (postfix.Try s) ≡ true
  unfolding roll-Postfix denote.Hole.Carrier.roll
  postfix_try s = fold-roll-Postfix Bool Bool Bool Bool Bool Bool Bool Bool Bool (BinaryOp × Bool) (arg_layer text) else_layer (exp_layer text) (postfix_layer text) (step_layer text) (stmt_layer text) (arm_layer text) block_layer if_layer operand_layer (layers.Try s)

  pub postfix_method : (s n : Span) (as' : List Arg) → well_postfix text (postfix.Method s n as') ≡ (named text n && each (map (well_arg text) as'))
  unfolding roll-Postfix denote.Hole.Carrier.roll
  postfix_method s n as' = fold-roll-Postfix Bool Bool Bool Bool Bool Bool Bool Bool Bool (BinaryOp × Bool) (arg_layer text) else_layer (exp_layer text) (postfix_layer text) (step_layer text) (stmt_layer text) (arm_layer text) block_layer if_layer operand_layer (layers.Method s n as')

  pub postfix_step : (t : Step) → well_postfix text (postfix.Step t) ≡ well_step text t
  unfolding roll-Postfix denote.Hole.Carrier.roll
  postfix_step t = fold-roll-Postfix Bool Bool Bool Bool Bool Bool Bool Bool Bool (BinaryOp × Bool) (arg_layer text) else_layer (exp_layer text) (postfix_layer text) (step_layer text) (stmt_layer text) (arm_layer text) block_layer if_layer operand_layer (layers.Step t)

  pub stmt_let : (s : Span) (p : Pat) (t : Option Ty) (e : Exp) → well_stmt text (stmt.Let s p t e) ≡ (well_pat text p && (well_optional_ty text t && well_exp text e))
  unfolding roll-Stmt denote.Hole.Carrier.roll
  stmt_let s p t e = fold-roll-Stmt Bool Bool Bool Bool Bool Bool Bool Bool Bool (BinaryOp × Bool) (arg_layer text) else_layer (exp_layer text) (postfix_layer text) (step_layer text) (stmt_layer text) (arm_layer text) block_layer if_layer operand_layer (layers.Let s p t e)

  pub stmt_assign : (s : Span) (t : Target) (ts : List Step) (o : Option BinaryOp) (e : Exp) → well_stmt text (stmt.Assign s t ts o e) ≡ (named text t.name && (each (map (well_step text) ts) && (assigns o && well_exp text e)))
  unfolding roll-Stmt denote.Hole.Carrier.roll
  stmt_assign s t ts o e = fold-roll-Stmt Bool Bool Bool Bool Bool Bool Bool Bool Bool (BinaryOp × Bool) (arg_layer text) else_layer (exp_layer text) (postfix_layer text) (step_layer text) (stmt_layer text) (arm_layer text) block_layer if_layer operand_layer (layers.Assign s t ts o e)

  pub stmt_for : (s : Span) (x : Variable) (e f : Exp) (b : Block) → well_stmt text (stmt.For s x e f b) ≡ (well_variable text x && (well_exp text e && (well_exp text f && well_block text b)))
  unfolding roll-Stmt denote.Hole.Carrier.roll
  stmt_for s x e f b = fold-roll-Stmt Bool Bool Bool Bool Bool Bool Bool Bool Bool (BinaryOp × Bool) (arg_layer text) else_layer (exp_layer text) (postfix_layer text) (step_layer text) (stmt_layer text) (arm_layer text) block_layer if_layer operand_layer (layers.For s x e f b)

  pub stmt_return : (s : Span) (e : Option Exp) → well_stmt text (stmt.Return s e) ≡ if_any (option_map (well_exp text) e)
  unfolding roll-Stmt denote.Hole.Carrier.roll
  stmt_return s None = fold-roll-Stmt Bool Bool Bool Bool Bool Bool Bool Bool Bool (BinaryOp × Bool) (arg_layer text) else_layer (exp_layer text) (postfix_layer text) (step_layer text) (stmt_layer text) (arm_layer text) block_layer if_layer operand_layer (layers.Return s None)
  stmt_return s (Some e) = fold-roll-Stmt Bool Bool Bool Bool Bool Bool Bool Bool Bool (BinaryOp × Bool) (arg_layer text) else_layer (exp_layer text) (postfix_layer text) (step_layer text) (stmt_layer text) (arm_layer text) block_layer if_layer operand_layer (layers.Return s (Some e))

  pub stmt_bare : (e : Exp) → well_stmt text (stmt.Bare e) ≡ well_exp text e
  unfolding roll-Stmt denote.Hole.Carrier.roll
  stmt_bare e = fold-roll-Stmt Bool Bool Bool Bool Bool Bool Bool Bool Bool (BinaryOp × Bool) (arg_layer text) else_layer (exp_layer text) (postfix_layer text) (step_layer text) (stmt_layer text) (arm_layer text) block_layer if_layer operand_layer (layers.Bare e)

  pub stmt_exp : (s : Span) (e : Exp) → well_stmt text (stmt.Exp s e) ≡ well_exp text e
  unfolding roll-Stmt denote.Hole.Carrier.roll
  stmt_exp s e = fold-roll-Stmt Bool Bool Bool Bool Bool Bool Bool Bool Bool (BinaryOp × Bool) (arg_layer text) else_layer (exp_layer text) (postfix_layer text) (step_layer text) (stmt_layer text) (arm_layer text) block_layer if_layer operand_layer (layers.Exp s e)

  pub arm_is : (y : Arm-F Arg Else Exp Postfix Step Stmt Arm Block If Operand) → well_arm text (roll-Arm y) ≡ (well_arm_pat text y.pattern && well_exp text y.value)
  arm_is y = fold-roll-Arm Bool Bool Bool Bool Bool Bool Bool Bool Bool (BinaryOp × Bool) (arg_layer text) else_layer (exp_layer text) (postfix_layer text) (step_layer text) (stmt_layer text) (arm_layer text) block_layer if_layer operand_layer y

  pub block_is : (s : Span) (ss : List Stmt) (t : Option Exp) → well_block text (roll-Block (record { span = s; statements = ss; tail = t })) ≡ (each (map (well_stmt text) ss) && if_any (option_map (well_exp text) t))
  block_is s ss None = fold-roll-Block Bool Bool Bool Bool Bool Bool Bool Bool Bool (BinaryOp × Bool) (arg_layer text) else_layer (exp_layer text) (postfix_layer text) (step_layer text) (stmt_layer text) (arm_layer text) block_layer if_layer operand_layer (record { span = s; statements = ss; tail = None })
  block_is s ss (Some e) = fold-roll-Block Bool Bool Bool Bool Bool Bool Bool Bool Bool (BinaryOp × Bool) (arg_layer text) else_layer (exp_layer text) (postfix_layer text) (step_layer text) (stmt_layer text) (arm_layer text) block_layer if_layer operand_layer (record { span = s; statements = ss; tail = Some e })

  pub if_is : (s : Span) (c : Exp) (b : Block) (o : Option Else) → well_if text (roll-If (record { span = s; condition = c; then = b; otherwise = o })) ≡ (well_exp text c && (well_block text b && if_any (option_map (well_else text) o)))
  if_is s c b None = fold-roll-If Bool Bool Bool Bool Bool Bool Bool Bool Bool (BinaryOp × Bool) (arg_layer text) else_layer (exp_layer text) (postfix_layer text) (step_layer text) (stmt_layer text) (arm_layer text) block_layer if_layer operand_layer (record { span = s; condition = c; then = b; otherwise = None })
  if_is s c b (Some o) = fold-roll-If Bool Bool Bool Bool Bool Bool Bool Bool Bool (BinaryOp × Bool) (arg_layer text) else_layer (exp_layer text) (postfix_layer text) (step_layer text) (stmt_layer text) (arm_layer text) block_layer if_layer operand_layer (record { span = s; condition = c; then = b; otherwise = Some o })

  pub operand_is : (y : Operand-F Arg Else Exp Postfix Step Stmt Arm Block If Operand) → well_operand text (roll-Operand y) ≡ (y.op, well_exp text y.right)
  operand_is y = fold-roll-Operand Bool Bool Bool Bool Bool Bool Bool Bool Bool (BinaryOp × Bool) (arg_layer text) else_layer (exp_layer text) (postfix_layer text) (step_layer text) (stmt_layer text) (arm_layer text) block_layer if_layer operand_layer y
