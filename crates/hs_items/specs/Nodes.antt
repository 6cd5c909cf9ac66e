-- The written types in each form of a tree, in the order of the text.
use Rattle.std.specs.Prelude.{List, [], ◌∷◌, map, Option, Some, None, option_map}
use Rattle.hs_syntax.specs.declared.ty.Ty.{Ty}
use Rattle.hs_syntax.specs.declared.exp.Path.{Path}
use Rattle.hs_syntax.specs.declared.exp.Path.TheVariants as path
use Rattle.hs_syntax.specs.declared.exp.Exp.{Exp, fold-Exp}
use Rattle.hs_syntax.specs.declared.exp.Arg.{Arg, fold-Arg}
use Rattle.hs_syntax.specs.declared.exp.Arg.TheOpen.{Exp-F, Arg-F, Else-F, Postfix-F, Step-F, Stmt-F, Arm-F, Block-F, If-F, Operand-F}
use Rattle.hs_syntax.specs.declared.exp.Arg.TheOpen as exp
use Rattle.hs_syntax.specs.declared.exp.Else.{Else, fold-Else}
use Rattle.hs_syntax.specs.declared.exp.If.{If, fold-If}
use Rattle.hs_syntax.specs.declared.exp.Postfix.{Postfix, fold-Postfix}
use Rattle.hs_syntax.specs.declared.exp.Step.{Step, fold-Step}
use Rattle.hs_syntax.specs.declared.exp.Stmt.{Stmt, fold-Stmt}
use Rattle.hs_syntax.specs.declared.exp.Arm.{Arm, fold-Arm}
use Rattle.hs_syntax.specs.declared.exp.Operand.{Operand, fold-Operand}
use Rattle.hs_syntax.specs.declared.exp.Block.{Block, fold-Block}
use Rattle.hs_syntax.specs.declared.item.Ctor.{Ctor}
use Rattle.hs_syntax.specs.declared.item.Param.{Param}
use Rattle.hs_syntax.specs.declared.item.ItemKind.{ItemKind}
use Rattle.hs_syntax.specs.declared.item.ItemKind.TheVariants as item
use Rattle.hs_marks.specs.Marked.{Marked, none, join}

-- rows one behind the other
abbrev pub row : List Marked → Marked
row [] = none
row (m ∷ ms) = join m (row ms)

abbrev pub maybe : Option Marked → Marked
maybe None = none
maybe (Some m) = m

-- each written type has these nodes
module _ (in_type : Ty → Marked) where
  abbrev pub in_types : List Ty → Marked
  in_types ts = row (map in_type ts)

  abbrev pub in_optional : Option Ty → Marked
  in_optional t = maybe (option_map in_type t)

  -- the type in `X::<T>::x`
  abbrev pub in_path : Path → Marked
  in_path (path.Name s) = none
  in_path (path.Member s t x) = none
  in_path (path.Of s n t x) = in_type t

  -- the name behind `as` is no written type
  abbrev pub exp_layer : Exp-F Marked Marked Marked Marked Marked Marked Marked Marked Marked Marked → Marked
  exp_layer (exp.Int i) = none
  exp_layer (exp.Bool s b) = none
  exp_layer (exp.Unit s) = none
  exp_layer (exp.Group s e) = e
  exp_layer (exp.Tuple s es) = row es
  exp_layer (exp.Path p) = in_path p
  exp_layer (exp.Call s p as') = join (in_path p) (row as')
  exp_layer (exp.Block b) = b
  exp_layer (exp.If i) = i
  exp_layer (exp.Match s e arms) = join e (row arms)
  exp_layer (exp.Post s e ss) = join e (row ss)
  exp_layer (exp.Prefix s o e) = e
  exp_layer (exp.Cast s e ns) = e
  exp_layer (exp.Binary s e os) = join e (row os)

  abbrev pub arg_layer : Arg-F Marked Marked Marked Marked Marked Marked Marked Marked Marked Marked → Marked
  arg_layer (exp.Value e) = e
  arg_layer (exp.Shared s e) = e
  arg_layer (exp.Lent s n) = none
  arg_layer (exp.List s es) = row es

  abbrev pub if_layer : If-F Marked Marked Marked Marked Marked Marked Marked Marked Marked Marked → Marked
  if_layer i = join i.condition (join i.then (maybe i.otherwise))

  abbrev pub else_layer : Else-F Marked Marked Marked Marked Marked Marked Marked Marked Marked Marked → Marked
  else_layer (exp.Chain i) = i
  else_layer (exp.Last b) = b

  abbrev pub step_layer : Step-F Marked Marked Marked Marked Marked Marked Marked Marked Marked Marked → Marked
  step_layer (exp.Index s e) = e
  step_layer (exp.Part s i) = none

  abbrev pub postfix_layer : Postfix-F Marked Marked Marked Marked Marked Marked Marked Marked Marked Marked → Marked
  postfix_layer (exp.Try s) = none
  postfix_layer (exp.Method s n as') = row as'
  postfix_layer (exp.Step t) = t

  -- the type of a `let`
  abbrev pub stmt_layer : Stmt-F Marked Marked Marked Marked Marked Marked Marked Marked Marked Marked → Marked
  stmt_layer (exp.Let s p t e) = join (in_optional t) e
  stmt_layer (exp.Assign s t ss o e) = join (row ss) e
  stmt_layer (exp.For s x e f b) = join e (join f b)
  stmt_layer (exp.Return s e) = maybe e
  stmt_layer (exp.Bare e) = e
  stmt_layer (exp.Exp s e) = e

  abbrev pub arm_layer : Arm-F Marked Marked Marked Marked Marked Marked Marked Marked Marked Marked → Marked
  arm_layer a = a.value

  abbrev pub block_layer : Block-F Marked Marked Marked Marked Marked Marked Marked Marked Marked Marked → Marked
  block_layer b = join (row b.statements) (maybe b.tail)

  abbrev pub operand_layer : Operand-F Marked Marked Marked Marked Marked Marked Marked Marked Marked Marked → Marked
  operand_layer o = o.right

  abbrev pub in_exp : Exp → Marked
  in_exp = fold-Exp Marked Marked Marked Marked Marked Marked Marked Marked Marked Marked arg_layer else_layer exp_layer postfix_layer step_layer stmt_layer arm_layer block_layer if_layer operand_layer

  abbrev pub in_arg : Arg → Marked
  in_arg = fold-Arg Marked Marked Marked Marked Marked Marked Marked Marked Marked Marked arg_layer else_layer exp_layer postfix_layer step_layer stmt_layer arm_layer block_layer if_layer operand_layer

  abbrev pub in_if : If → Marked
  in_if = fold-If Marked Marked Marked Marked Marked Marked Marked Marked Marked Marked arg_layer else_layer exp_layer postfix_layer step_layer stmt_layer arm_layer block_layer if_layer operand_layer

  abbrev pub in_else : Else → Marked
  in_else = fold-Else Marked Marked Marked Marked Marked Marked Marked Marked Marked Marked arg_layer else_layer exp_layer postfix_layer step_layer stmt_layer arm_layer block_layer if_layer operand_layer

  abbrev pub in_step : Step → Marked
  in_step = fold-Step Marked Marked Marked Marked Marked Marked Marked Marked Marked Marked arg_layer else_layer exp_layer postfix_layer step_layer stmt_layer arm_layer block_layer if_layer operand_layer

  abbrev pub in_postfix : Postfix → Marked
  in_postfix = fold-Postfix Marked Marked Marked Marked Marked Marked Marked Marked Marked Marked arg_layer else_layer exp_layer postfix_layer step_layer stmt_layer arm_layer block_layer if_layer operand_layer

  abbrev pub in_stmt : Stmt → Marked
  in_stmt = fold-Stmt Marked Marked Marked Marked Marked Marked Marked Marked Marked Marked arg_layer else_layer exp_layer postfix_layer step_layer stmt_layer arm_layer block_layer if_layer operand_layer

  abbrev pub in_arm : Arm → Marked
  in_arm = fold-Arm Marked Marked Marked Marked Marked Marked Marked Marked Marked Marked arg_layer else_layer exp_layer postfix_layer step_layer stmt_layer arm_layer block_layer if_layer operand_layer

  abbrev pub in_block : Block → Marked
  in_block = fold-Block Marked Marked Marked Marked Marked Marked Marked Marked Marked Marked arg_layer else_layer exp_layer postfix_layer step_layer stmt_layer arm_layer block_layer if_layer operand_layer

  abbrev pub in_operand : Operand → Marked
  in_operand = fold-Operand Marked Marked Marked Marked Marked Marked Marked Marked Marked Marked arg_layer else_layer exp_layer postfix_layer step_layer stmt_layer arm_layer block_layer if_layer operand_layer

  abbrev pub in_ctor : Ctor → Marked
  in_ctor c = in_types c.parts

  abbrev pub in_param : Param → Marked
  in_param p = in_type p.ty

  abbrev pub in_kind : ItemKind → Marked
  in_kind item.Use = none
  in_kind (item.Const n t e) = join (in_type t) (in_exp e)
  in_kind (item.Alias n t) = in_type t
  in_kind (item.Struct n ts) = in_types ts
  in_kind (item.Enum n cs) = row (map in_ctor cs)
  in_kind (item.Fn n ps t b) = join (row (map in_param ps)) (join (in_optional t) (in_block b))
  in_kind (item.Array n i t) = in_type t
  in_kind (item.Bytes n i) = none
  in_kind (item.NatMod n c i m) = none
