-- What the names of each form of a tree stand for, by its parts.
use Rattle.std.proofs.Common.{◌≡◌, ℕ, Bool, List, map, length, Option, Some, None, option_map}
use Rattle.hs_syntax.specs.declared.span.Span.{Span}
use Rattle.hs_syntax.specs.declared.span.Int.{Int}
use Rattle.hs_syntax.specs.declared.pat.Pat.{Pat, roll-Pat}
use Rattle.hs_syntax.specs.declared.pat.Pat.TheVariants as pat
use Rattle.hs_syntax.specs.declared.pat.Pat.TheOpen as pat_layers
use Rattle.hs_syntax.specs.declared.pat.Pat.TheFolds.{fold-roll-Pat}
use Rattle.hs_syntax.specs.declared.exp.Path.{Path}
use Rattle.hs_syntax.specs.declared.exp.BinaryOp.{BinaryOp}
use Rattle.hs_syntax.specs.declared.exp.PrefixOp.{PrefixOp}
use Rattle.hs_syntax.specs.declared.exp.Target.{Target}
use Rattle.hs_syntax.specs.declared.exp.Variable.{Variable}
use Rattle.hs_syntax.specs.declared.exp.Exp.{Exp, roll-Exp}
use Rattle.hs_syntax.specs.declared.exp.Exp.TheVariants as exp
use Rattle.hs_syntax.specs.declared.exp.If.{If, roll-If}
use Rattle.hs_syntax.specs.declared.exp.Else.{Else, roll-Else}
use Rattle.hs_syntax.specs.declared.exp.Else.TheVariants as branch
use Rattle.hs_syntax.specs.declared.exp.Operand.{Operand, roll-Operand}
use Rattle.hs_syntax.specs.declared.exp.Step.{Step, roll-Step}
use Rattle.hs_syntax.specs.declared.exp.Step.TheVariants as step
use Rattle.hs_syntax.specs.declared.exp.Postfix.{Postfix, roll-Postfix}
use Rattle.hs_syntax.specs.declared.exp.Postfix.TheVariants as postfix
use Rattle.hs_syntax.specs.declared.exp.Arg.{Arg, roll-Arg}
use Rattle.hs_syntax.specs.declared.exp.Arg.TheVariants as arg
use Rattle.hs_syntax.specs.declared.exp.Arg.TheOpen as layers
use Rattle.hs_syntax.specs.declared.exp.Arg.TheOpen.{Arm-F, Block-F, Operand-F}
use Rattle.hs_syntax.specs.declared.exp.Arg.TheFolds.{fold-roll-Exp, fold-roll-If, fold-roll-Else, fold-roll-Arg, fold-roll-Step, fold-roll-Postfix, fold-roll-Stmt, fold-roll-Arm, fold-roll-Block, fold-roll-Operand, fold_out-Arm}
use Rattle.hs_syntax.specs.declared.exp.Arm.{Arm, roll-Arm, out-Arm}
use Rattle.hs_syntax.specs.declared.exp.Stmt.{Stmt, roll-Stmt}
use Rattle.hs_syntax.specs.declared.exp.Stmt.TheVariants as stmt
use Rattle.hs_syntax.specs.declared.exp.Block.{Block, roll-Block}
use Rattle.hs_syntax.specs.declared.file.File.{File}
use Rattle.hs_syntax.specs.declared.ty.Ty.{Ty}
use Rattle.hs_resolver.specs.Parts.{Part, Scoped, Line, nothing, ◌&◌, all, every, if_any, line, in_order, scope_behind, bound, binder, exit_around}
use Rattle.hs_resolver.specs.Names.{Behind, question, inner, steps, alone, assigned, value_path, called_path, ctor_name, let_line, for_part, names_of_pat, pat_layer, names_of_arm_pat, binds_of_arm, names_of_arg, names_of_else, names_of_exp, names_of_postfix, names_of_step, names_of_stmt, names_of_arm, names_of_block, names_of_if, names_of_operand, arg_layer, else_layer, exp_layer, postfix_layer, step_layer, stmt_layer, arm_layer, block_layer, if_layer, operand_layer}

module _ (file : File) (in_function : Bool) where
  pub pat_name : (s : Span) (m : Bool) (n : Span) → names_of_pat file in_function (pat.Name s m n) ≡ (λ start. binder file in_function start n)
  unfolding roll-Pat denote.Hole.Carrier.roll
  pat_name s m n = fold-roll-Pat (ℕ → Part) (pat_layer file in_function) (pat_layers.Name s m n)

  pub pat_any : (s : Span) → names_of_pat file in_function (pat.Any s) ≡ (λ start. nothing)
  unfolding roll-Pat denote.Hole.Carrier.roll
  pat_any s = fold-roll-Pat (ℕ → Part) (pat_layer file in_function) (pat_layers.Any s)

  pub pat_tuple : (s : Span) (ps : List Pat) → names_of_pat file in_function (pat.Tuple s ps) ≡ (every (map (names_of_pat file in_function) ps))
  unfolding roll-Pat denote.Hole.Carrier.roll
  pat_tuple s ps = fold-roll-Pat (ℕ → Part) (pat_layer file in_function) (pat_layers.Tuple s ps)

  pub pat_struct : (s : Span) (n : Span) (ps : List Pat) → names_of_pat file in_function (pat.Struct s n ps) ≡ (λ start. ctor_name file n & every (map (names_of_pat file in_function) ps) start)
  unfolding roll-Pat denote.Hole.Carrier.roll
  pat_struct s n ps = fold-roll-Pat (ℕ → Part) (pat_layer file in_function) (pat_layers.Struct s n ps)

  pub exp_int : (i : Int) → names_of_exp file in_function (exp.Int i) ≡ (λ scope. nothing)
  unfolding roll-Exp denote.Hole.Carrier.roll
  exp_int i = fold-roll-Exp Scoped Scoped Scoped Behind Scoped Line Scoped Scoped Scoped Scoped (arg_layer file in_function) (else_layer file in_function) (exp_layer file in_function) (postfix_layer file in_function) (step_layer file in_function) (stmt_layer file in_function) (arm_layer file in_function) (block_layer file in_function) (if_layer file in_function) (operand_layer file in_function) (layers.Int i)

  pub exp_bool : (s : Span) (b : Bool) → names_of_exp file in_function (exp.Bool s b) ≡ (λ scope. nothing)
  unfolding roll-Exp denote.Hole.Carrier.roll
  exp_bool s b = fold-roll-Exp Scoped Scoped Scoped Behind Scoped Line Scoped Scoped Scoped Scoped (arg_layer file in_function) (else_layer file in_function) (exp_layer file in_function) (postfix_layer file in_function) (step_layer file in_function) (stmt_layer file in_function) (arm_layer file in_function) (block_layer file in_function) (if_layer file in_function) (operand_layer file in_function) (layers.Bool s b)

  pub exp_unit : (s : Span) → names_of_exp file in_function (exp.Unit s) ≡ (λ scope. nothing)
  unfolding roll-Exp denote.Hole.Carrier.roll
  exp_unit s = fold-roll-Exp Scoped Scoped Scoped Behind Scoped Line Scoped Scoped Scoped Scoped (arg_layer file in_function) (else_layer file in_function) (exp_layer file in_function) (postfix_layer file in_function) (step_layer file in_function) (stmt_layer file in_function) (arm_layer file in_function) (block_layer file in_function) (if_layer file in_function) (operand_layer file in_function) (layers.Unit s)

  pub exp_group : (s : Span) (e : Exp) → names_of_exp file in_function (exp.Group s e) ≡ (names_of_exp file in_function e)
  unfolding roll-Exp denote.Hole.Carrier.roll
  exp_group s e = fold-roll-Exp Scoped Scoped Scoped Behind Scoped Line Scoped Scoped Scoped Scoped (arg_layer file in_function) (else_layer file in_function) (exp_layer file in_function) (postfix_layer file in_function) (step_layer file in_function) (stmt_layer file in_function) (arm_layer file in_function) (block_layer file in_function) (if_layer file in_function) (operand_layer file in_function) (layers.Group s e)

  pub exp_tuple : (s : Span) (es : List Exp) → names_of_exp file in_function (exp.Tuple s es) ≡ (every (map (names_of_exp file in_function) es))
  unfolding roll-Exp denote.Hole.Carrier.roll
  exp_tuple s es = fold-roll-Exp Scoped Scoped Scoped Behind Scoped Line Scoped Scoped Scoped Scoped (arg_layer file in_function) (else_layer file in_function) (exp_layer file in_function) (postfix_layer file in_function) (step_layer file in_function) (stmt_layer file in_function) (arm_layer file in_function) (block_layer file in_function) (if_layer file in_function) (operand_layer file in_function) (layers.Tuple s es)

  pub exp_path : (p : Path) → names_of_exp file in_function (exp.Path p) ≡ (value_path file p)
  unfolding roll-Exp denote.Hole.Carrier.roll
  exp_path p = fold-roll-Exp Scoped Scoped Scoped Behind Scoped Line Scoped Scoped Scoped Scoped (arg_layer file in_function) (else_layer file in_function) (exp_layer file in_function) (postfix_layer file in_function) (step_layer file in_function) (stmt_layer file in_function) (arm_layer file in_function) (block_layer file in_function) (if_layer file in_function) (operand_layer file in_function) (layers.Path p)

  pub exp_call : (s : Span) (p : Path) (as' : List Arg) → names_of_exp file in_function (exp.Call s p as') ≡ (λ scope. called_path file p & every (map (names_of_arg file in_function) as') scope)
  unfolding roll-Exp denote.Hole.Carrier.roll
  exp_call s p as' = fold-roll-Exp Scoped Scoped Scoped Behind Scoped Line Scoped Scoped Scoped Scoped (arg_layer file in_function) (else_layer file in_function) (exp_layer file in_function) (postfix_layer file in_function) (step_layer file in_function) (stmt_layer file in_function) (arm_layer file in_function) (block_layer file in_function) (if_layer file in_function) (operand_layer file in_function) (layers.Call s p as')

  pub exp_block : (b : Block) → names_of_exp file in_function (exp.Block b) ≡ (names_of_block file in_function b)
  unfolding roll-Exp denote.Hole.Carrier.roll
  exp_block b = fold-roll-Exp Scoped Scoped Scoped Behind Scoped Line Scoped Scoped Scoped Scoped (arg_layer file in_function) (else_layer file in_function) (exp_layer file in_function) (postfix_layer file in_function) (step_layer file in_function) (stmt_layer file in_function) (arm_layer file in_function) (block_layer file in_function) (if_layer file in_function) (operand_layer file in_function) (layers.Block b)

  pub exp_if : (i : If) → names_of_exp file in_function (exp.If i) ≡ (names_of_if file in_function i)
  unfolding roll-Exp denote.Hole.Carrier.roll
  exp_if i = fold-roll-Exp Scoped Scoped Scoped Behind Scoped Line Scoped Scoped Scoped Scoped (arg_layer file in_function) (else_layer file in_function) (exp_layer file in_function) (postfix_layer file in_function) (step_layer file in_function) (stmt_layer file in_function) (arm_layer file in_function) (block_layer file in_function) (if_layer file in_function) (operand_layer file in_function) (layers.If i)

  pub if_is : (s : Span) (c : Exp) (b : Block) (o : Option Else) → names_of_if file in_function (roll-If (record { span = s; condition = c; then = b; otherwise = o })) ≡ (λ scope. names_of_exp file in_function c scope & names_of_block file in_function b scope & if_any (option_map (names_of_else file in_function) o) scope)
  if_is s c b None = fold-roll-If Scoped Scoped Scoped Behind Scoped Line Scoped Scoped Scoped Scoped (arg_layer file in_function) (else_layer file in_function) (exp_layer file in_function) (postfix_layer file in_function) (step_layer file in_function) (stmt_layer file in_function) (arm_layer file in_function) (block_layer file in_function) (if_layer file in_function) (operand_layer file in_function) (record { span = s; condition = c; then = b; otherwise = None })
  if_is s c b (Some o) = fold-roll-If Scoped Scoped Scoped Behind Scoped Line Scoped Scoped Scoped Scoped (arg_layer file in_function) (else_layer file in_function) (exp_layer file in_function) (postfix_layer file in_function) (step_layer file in_function) (stmt_layer file in_function) (arm_layer file in_function) (block_layer file in_function) (if_layer file in_function) (operand_layer file in_function) (record { span = s; condition = c; then = b; otherwise = Some o })

  pub else_chain : (i : If) → names_of_else file in_function (branch.Chain i) ≡ (names_of_if file in_function i)
  unfolding roll-Else denote.Hole.Carrier.roll
  else_chain i = fold-roll-Else Scoped Scoped Scoped Behind Scoped Line Scoped Scoped Scoped Scoped (arg_layer file in_function) (else_layer file in_function) (exp_layer file in_function) (postfix_layer file in_function) (step_layer file in_function) (stmt_layer file in_function) (arm_layer file in_function) (block_layer file in_function) (if_layer file in_function) (operand_layer file in_function) (layers.Chain i)

  pub else_last : (b : Block) → names_of_else file in_function (branch.Last b) ≡ (names_of_block file in_function b)
  unfolding roll-Else denote.Hole.Carrier.roll
  else_last b = fold-roll-Else Scoped Scoped Scoped Behind Scoped Line Scoped Scoped Scoped Scoped (arg_layer file in_function) (else_layer file in_function) (exp_layer file in_function) (postfix_layer file in_function) (step_layer file in_function) (stmt_layer file in_function) (arm_layer file in_function) (block_layer file in_function) (if_layer file in_function) (operand_layer file in_function) (layers.Last b)

  pub exp_match : (s : Span) (e : Exp) (as' : List Arm) → names_of_exp file in_function (exp.Match s e as') ≡ (λ scope. names_of_exp file in_function e scope & every (map (names_of_arm file in_function) as') scope)
  unfolding roll-Exp denote.Hole.Carrier.roll
  exp_match s e as' = fold-roll-Exp Scoped Scoped Scoped Behind Scoped Line Scoped Scoped Scoped Scoped (arg_layer file in_function) (else_layer file in_function) (exp_layer file in_function) (postfix_layer file in_function) (step_layer file in_function) (stmt_layer file in_function) (arm_layer file in_function) (block_layer file in_function) (if_layer file in_function) (operand_layer file in_function) (layers.Match s e as')

  pub exp_post : (s : Span) (e : Exp) (ps : List Postfix) → names_of_exp file in_function (exp.Post s e ps) ≡ (λ scope k. steps file in_function s.start (map (names_of_postfix file in_function) ps) scope (names_of_exp file in_function e scope k))
  unfolding roll-Exp denote.Hole.Carrier.roll
  exp_post s e ps = fold-roll-Exp Scoped Scoped Scoped Behind Scoped Line Scoped Scoped Scoped Scoped (arg_layer file in_function) (else_layer file in_function) (exp_layer file in_function) (postfix_layer file in_function) (step_layer file in_function) (stmt_layer file in_function) (arm_layer file in_function) (block_layer file in_function) (if_layer file in_function) (operand_layer file in_function) (layers.Post s e ps)

  pub exp_prefix : (s : Span) (o : PrefixOp) (e : Exp) → names_of_exp file in_function (exp.Prefix s o e) ≡ (names_of_exp file in_function e)
  unfolding roll-Exp denote.Hole.Carrier.roll
  exp_prefix s o e = fold-roll-Exp Scoped Scoped Scoped Behind Scoped Line Scoped Scoped Scoped Scoped (arg_layer file in_function) (else_layer file in_function) (exp_layer file in_function) (postfix_layer file in_function) (step_layer file in_function) (stmt_layer file in_function) (arm_layer file in_function) (block_layer file in_function) (if_layer file in_function) (operand_layer file in_function) (layers.Prefix s o e)

  pub exp_cast : (s : Span) (e : Exp) (ns : List Span) → names_of_exp file in_function (exp.Cast s e ns) ≡ (λ scope. names_of_exp file in_function e scope & all (map (alone file) ns))
  unfolding roll-Exp denote.Hole.Carrier.roll
  exp_cast s e ns = fold-roll-Exp Scoped Scoped Scoped Behind Scoped Line Scoped Scoped Scoped Scoped (arg_layer file in_function) (else_layer file in_function) (exp_layer file in_function) (postfix_layer file in_function) (step_layer file in_function) (stmt_layer file in_function) (arm_layer file in_function) (block_layer file in_function) (if_layer file in_function) (operand_layer file in_function) (layers.Cast s e ns)

  pub exp_binary : (s : Span) (e : Exp) (os : List Operand) → names_of_exp file in_function (exp.Binary s e os) ≡ (λ scope. names_of_exp file in_function e scope & every (map (names_of_operand file in_function) os) scope)
  unfolding roll-Exp denote.Hole.Carrier.roll
  exp_binary s e os = fold-roll-Exp Scoped Scoped Scoped Behind Scoped Line Scoped Scoped Scoped Scoped (arg_layer file in_function) (else_layer file in_function) (exp_layer file in_function) (postfix_layer file in_function) (step_layer file in_function) (stmt_layer file in_function) (arm_layer file in_function) (block_layer file in_function) (if_layer file in_function) (operand_layer file in_function) (layers.Binary s e os)

  pub arg_value : (e : Exp) → names_of_arg file in_function (arg.Value e) ≡ (names_of_exp file in_function e)
  unfolding roll-Arg denote.Hole.Carrier.roll
  arg_value e = fold-roll-Arg Scoped Scoped Scoped Behind Scoped Line Scoped Scoped Scoped Scoped (arg_layer file in_function) (else_layer file in_function) (exp_layer file in_function) (postfix_layer file in_function) (step_layer file in_function) (stmt_layer file in_function) (arm_layer file in_function) (block_layer file in_function) (if_layer file in_function) (operand_layer file in_function) (layers.Value e)

  pub arg_shared : (s : Span) (e : Exp) → names_of_arg file in_function (arg.Shared s e) ≡ (names_of_exp file in_function e)
  unfolding roll-Arg denote.Hole.Carrier.roll
  arg_shared s e = fold-roll-Arg Scoped Scoped Scoped Behind Scoped Line Scoped Scoped Scoped Scoped (arg_layer file in_function) (else_layer file in_function) (exp_layer file in_function) (postfix_layer file in_function) (step_layer file in_function) (stmt_layer file in_function) (arm_layer file in_function) (block_layer file in_function) (if_layer file in_function) (operand_layer file in_function) (layers.Shared s e)

  pub arg_lent : (s : Span) (n : Span) → names_of_arg file in_function (arg.Lent s n) ≡ (assigned file n)
  unfolding roll-Arg denote.Hole.Carrier.roll
  arg_lent s n = fold-roll-Arg Scoped Scoped Scoped Behind Scoped Line Scoped Scoped Scoped Scoped (arg_layer file in_function) (else_layer file in_function) (exp_layer file in_function) (postfix_layer file in_function) (step_layer file in_function) (stmt_layer file in_function) (arm_layer file in_function) (block_layer file in_function) (if_layer file in_function) (operand_layer file in_function) (layers.Lent s n)

  pub arg_list : (s : Span) (es : List Exp) → names_of_arg file in_function (arg.List s es) ≡ (every (map (names_of_exp file in_function) es))
  unfolding roll-Arg denote.Hole.Carrier.roll
  arg_list s es = fold-roll-Arg Scoped Scoped Scoped Behind Scoped Line Scoped Scoped Scoped Scoped (arg_layer file in_function) (else_layer file in_function) (exp_layer file in_function) (postfix_layer file in_function) (step_layer file in_function) (stmt_layer file in_function) (arm_layer file in_function) (block_layer file in_function) (if_layer file in_function) (operand_layer file in_function) (layers.List s es)

  pub postfix_try : (s : Span) → names_of_postfix file in_function (postfix.Try s) ≡ (question s)
  unfolding roll-Postfix denote.Hole.Carrier.roll
  postfix_try s = fold-roll-Postfix Scoped Scoped Scoped Behind Scoped Line Scoped Scoped Scoped Scoped (arg_layer file in_function) (else_layer file in_function) (exp_layer file in_function) (postfix_layer file in_function) (step_layer file in_function) (stmt_layer file in_function) (arm_layer file in_function) (block_layer file in_function) (if_layer file in_function) (operand_layer file in_function) (layers.Try s)

  pub postfix_method : (s : Span) (n : Span) (as' : List Arg) → names_of_postfix file in_function (postfix.Method s n as') ≡ (inner (every (map (names_of_arg file in_function) as')))
  unfolding roll-Postfix denote.Hole.Carrier.roll
  postfix_method s n as' = fold-roll-Postfix Scoped Scoped Scoped Behind Scoped Line Scoped Scoped Scoped Scoped (arg_layer file in_function) (else_layer file in_function) (exp_layer file in_function) (postfix_layer file in_function) (step_layer file in_function) (stmt_layer file in_function) (arm_layer file in_function) (block_layer file in_function) (if_layer file in_function) (operand_layer file in_function) (layers.Method s n as')

  pub postfix_step : (t : Step) → names_of_postfix file in_function (postfix.Step t) ≡ (inner (names_of_step file in_function t))
  unfolding roll-Postfix denote.Hole.Carrier.roll
  postfix_step t = fold-roll-Postfix Scoped Scoped Scoped Behind Scoped Line Scoped Scoped Scoped Scoped (arg_layer file in_function) (else_layer file in_function) (exp_layer file in_function) (postfix_layer file in_function) (step_layer file in_function) (stmt_layer file in_function) (arm_layer file in_function) (block_layer file in_function) (if_layer file in_function) (operand_layer file in_function) (layers.Step t)

  pub step_index : (s : Span) (e : Exp) → names_of_step file in_function (step.Index s e) ≡ (names_of_exp file in_function e)
  unfolding roll-Step denote.Hole.Carrier.roll
  step_index s e = fold-roll-Step Scoped Scoped Scoped Behind Scoped Line Scoped Scoped Scoped Scoped (arg_layer file in_function) (else_layer file in_function) (exp_layer file in_function) (postfix_layer file in_function) (step_layer file in_function) (stmt_layer file in_function) (arm_layer file in_function) (block_layer file in_function) (if_layer file in_function) (operand_layer file in_function) (layers.Index s e)

  pub step_part : (s : Span) (i : Int) → names_of_step file in_function (step.Part s i) ≡ (λ scope. nothing)
  unfolding roll-Step denote.Hole.Carrier.roll
  step_part s i = fold-roll-Step Scoped Scoped Scoped Behind Scoped Line Scoped Scoped Scoped Scoped (arg_layer file in_function) (else_layer file in_function) (exp_layer file in_function) (postfix_layer file in_function) (step_layer file in_function) (stmt_layer file in_function) (arm_layer file in_function) (block_layer file in_function) (if_layer file in_function) (operand_layer file in_function) (layers.Part s i)

  pub stmt_let : (s : Span) (p : Pat) (t : Option Ty) (e : Exp) → names_of_stmt file in_function (stmt.Let s p t e) ≡ (let_line file in_function p t (names_of_exp file in_function e))
  unfolding roll-Stmt denote.Hole.Carrier.roll
  stmt_let s p t e = fold-roll-Stmt Scoped Scoped Scoped Behind Scoped Line Scoped Scoped Scoped Scoped (arg_layer file in_function) (else_layer file in_function) (exp_layer file in_function) (postfix_layer file in_function) (step_layer file in_function) (stmt_layer file in_function) (arm_layer file in_function) (block_layer file in_function) (if_layer file in_function) (operand_layer file in_function) (layers.Let s p t e)

  pub stmt_assign : (s : Span) (t : Target) (ps : List Step) (o : Option BinaryOp) (e : Exp) → names_of_stmt file in_function (stmt.Assign s t ps o e) ≡ (line (λ scope. assigned file t.name scope & every (map (names_of_step file in_function) ps) scope & names_of_exp file in_function e scope))
  unfolding roll-Stmt denote.Hole.Carrier.roll
  stmt_assign s t ps o e = fold-roll-Stmt Scoped Scoped Scoped Behind Scoped Line Scoped Scoped Scoped Scoped (arg_layer file in_function) (else_layer file in_function) (exp_layer file in_function) (postfix_layer file in_function) (step_layer file in_function) (stmt_layer file in_function) (arm_layer file in_function) (block_layer file in_function) (if_layer file in_function) (operand_layer file in_function) (layers.Assign s t ps o e)

  pub stmt_for : (s : Span) (x : Variable) (e : Exp) (f : Exp) (b : Block) → names_of_stmt file in_function (stmt.For s x e f b) ≡ (line (for_part file in_function x (names_of_exp file in_function e) (names_of_exp file in_function f) (names_of_block file in_function b)))
  unfolding roll-Stmt denote.Hole.Carrier.roll
  stmt_for s x e f b = fold-roll-Stmt Scoped Scoped Scoped Behind Scoped Line Scoped Scoped Scoped Scoped (arg_layer file in_function) (else_layer file in_function) (exp_layer file in_function) (postfix_layer file in_function) (step_layer file in_function) (stmt_layer file in_function) (arm_layer file in_function) (block_layer file in_function) (if_layer file in_function) (operand_layer file in_function) (layers.For s x e f b)

  pub stmt_return : (s : Span) (e : Option Exp) → names_of_stmt file in_function (stmt.Return s e) ≡ (line (λ scope k. exit_around in_function s (if_any (option_map (names_of_exp file in_function) e) scope k)))
  unfolding roll-Stmt denote.Hole.Carrier.roll
  stmt_return s None = fold-roll-Stmt Scoped Scoped Scoped Behind Scoped Line Scoped Scoped Scoped Scoped (arg_layer file in_function) (else_layer file in_function) (exp_layer file in_function) (postfix_layer file in_function) (step_layer file in_function) (stmt_layer file in_function) (arm_layer file in_function) (block_layer file in_function) (if_layer file in_function) (operand_layer file in_function) (layers.Return s None)
  stmt_return s (Some e) = fold-roll-Stmt Scoped Scoped Scoped Behind Scoped Line Scoped Scoped Scoped Scoped (arg_layer file in_function) (else_layer file in_function) (exp_layer file in_function) (postfix_layer file in_function) (step_layer file in_function) (stmt_layer file in_function) (arm_layer file in_function) (block_layer file in_function) (if_layer file in_function) (operand_layer file in_function) (layers.Return s (Some e))

  pub stmt_bare : (e : Exp) → names_of_stmt file in_function (stmt.Bare e) ≡ (line (names_of_exp file in_function e))
  unfolding roll-Stmt denote.Hole.Carrier.roll
  stmt_bare e = fold-roll-Stmt Scoped Scoped Scoped Behind Scoped Line Scoped Scoped Scoped Scoped (arg_layer file in_function) (else_layer file in_function) (exp_layer file in_function) (postfix_layer file in_function) (step_layer file in_function) (stmt_layer file in_function) (arm_layer file in_function) (block_layer file in_function) (if_layer file in_function) (operand_layer file in_function) (layers.Bare e)

  pub stmt_exp : (s : Span) (e : Exp) → names_of_stmt file in_function (stmt.Exp s e) ≡ (line (names_of_exp file in_function e))
  unfolding roll-Stmt denote.Hole.Carrier.roll
  stmt_exp s e = fold-roll-Stmt Scoped Scoped Scoped Behind Scoped Line Scoped Scoped Scoped Scoped (arg_layer file in_function) (else_layer file in_function) (exp_layer file in_function) (postfix_layer file in_function) (step_layer file in_function) (stmt_layer file in_function) (arm_layer file in_function) (block_layer file in_function) (if_layer file in_function) (operand_layer file in_function) (layers.Exp s e)

  pub arm_is : (y : Arm-F Arg Else Exp Postfix Step Stmt Arm Block If Operand) → names_of_arm file in_function (roll-Arm y) ≡ (λ scope k. (names_of_arm_pat file in_function y.pattern (length k.places) & names_of_exp file in_function y.value (bound file.text (binds_of_arm y.pattern) (length k.places) scope)) k)
  arm_is y = fold-roll-Arm Scoped Scoped Scoped Behind Scoped Line Scoped Scoped Scoped Scoped (arg_layer file in_function) (else_layer file in_function) (exp_layer file in_function) (postfix_layer file in_function) (step_layer file in_function) (stmt_layer file in_function) (arm_layer file in_function) (block_layer file in_function) (if_layer file in_function) (operand_layer file in_function) y

  pub block_is : (s : Span) (ss : List Stmt) (t : Option Exp) → names_of_block file in_function (roll-Block (record { span = s; statements = ss; tail = t })) ≡ (λ scope k. (in_order (map (names_of_stmt file in_function) ss) scope & if_any (option_map (names_of_exp file in_function) t) (scope_behind (map (names_of_stmt file in_function) ss) scope k)) k)
  block_is s ss None = fold-roll-Block Scoped Scoped Scoped Behind Scoped Line Scoped Scoped Scoped Scoped (arg_layer file in_function) (else_layer file in_function) (exp_layer file in_function) (postfix_layer file in_function) (step_layer file in_function) (stmt_layer file in_function) (arm_layer file in_function) (block_layer file in_function) (if_layer file in_function) (operand_layer file in_function) (record { span = s; statements = ss; tail = None })
  block_is s ss (Some e) = fold-roll-Block Scoped Scoped Scoped Behind Scoped Line Scoped Scoped Scoped Scoped (arg_layer file in_function) (else_layer file in_function) (exp_layer file in_function) (postfix_layer file in_function) (step_layer file in_function) (stmt_layer file in_function) (arm_layer file in_function) (block_layer file in_function) (if_layer file in_function) (operand_layer file in_function) (record { span = s; statements = ss; tail = Some e })

  pub operand_is : (y : Operand-F Arg Else Exp Postfix Step Stmt Arm Block If Operand) → names_of_operand file in_function (roll-Operand y) ≡ (names_of_exp file in_function y.right)
  operand_is y = fold-roll-Operand Scoped Scoped Scoped Behind Scoped Line Scoped Scoped Scoped Scoped (arg_layer file in_function) (else_layer file in_function) (exp_layer file in_function) (postfix_layer file in_function) (step_layer file in_function) (stmt_layer file in_function) (arm_layer file in_function) (block_layer file in_function) (if_layer file in_function) (operand_layer file in_function) y

  pub arm_of : (a : Arm) → names_of_arm file in_function a ≡ (λ scope k. (names_of_arm_pat file in_function (out-Arm a).pattern (length k.places) & names_of_exp file in_function (out-Arm a).value (bound file.text (binds_of_arm (out-Arm a).pattern) (length k.places) scope)) k)
  arm_of a = fold_out-Arm Scoped Scoped Scoped Behind Scoped Line Scoped Scoped Scoped Scoped (arg_layer file in_function) (else_layer file in_function) (exp_layer file in_function) (postfix_layer file in_function) (step_layer file in_function) (stmt_layer file in_function) (arm_layer file in_function) (block_layer file in_function) (if_layer file in_function) (operand_layer file in_function) a
