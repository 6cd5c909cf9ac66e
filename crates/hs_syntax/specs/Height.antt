-- How high expressions, statements and blocks are.
use Rattle.std.specs.Prelude.{ℕ, suc, ◌+◌, List, length, fold, max, min, Option, Some, None}
use Rattle.hs_syntax.specs.declared.exp.Exp.{Exp, fold-Exp}
use Rattle.hs_syntax.specs.declared.exp.Arg.{Arg, fold-Arg}
use Rattle.hs_syntax.specs.declared.exp.Arg.TheOpen.{Exp-F, Arg-F, Else-F, Postfix-F, Step-F, Stmt-F, Arm-F, Block-F, If-F, Operand-F}
use Rattle.hs_syntax.specs.declared.exp.Arg.TheOpen as exp
use Rattle.hs_syntax.specs.declared.exp.Else.{Else, fold-Else}
use Rattle.hs_syntax.specs.declared.exp.If.{If, fold-If}
use Rattle.hs_syntax.specs.declared.exp.Postfix.{Postfix, fold-Postfix}
use Rattle.hs_syntax.specs.declared.exp.Step.{Step, fold-Step}
use Rattle.hs_syntax.specs.declared.exp.Block.{Block, fold-Block}
use Rattle.hs_syntax.specs.declared.exp.Stmt.{Stmt, fold-Stmt}
use Rattle.hs_syntax.specs.declared.exp.Arm.{Arm, fold-Arm}
use Rattle.hs_syntax.specs.declared.exp.Operand.{Operand, fold-Operand}

-- the greatest of these heights, 0 where there are none
abbrev pub greatest : List ℕ → ℕ
greatest hs = fold max 0 hs

-- the height of a part that may be missing
abbrev pub or_none : Option ℕ → ℕ
or_none None = 0
or_none (Some h) = h

-- the height of a node whose parts are what stands before and what is added
abbrev pub above : ℕ → ℕ → ℕ
above before added = suc (max before added)

-- of what is added one by one, which groups to the left
abbrev pub chained : ℕ → List ℕ → ℕ
chained first more = fold above first more

-- an expression: one more than its highest part; names, literals and `()` have 1
abbrev pub exp_layer : Exp-F ℕ ℕ ℕ ℕ ℕ ℕ ℕ ℕ ℕ ℕ → ℕ
exp_layer (exp.Int i) = 1
exp_layer (exp.Bool s b) = 1
exp_layer (exp.Unit s) = 1
exp_layer (exp.Group s e) = suc e
exp_layer (exp.Tuple s es) = suc (greatest es)
exp_layer (exp.Path p) = 1
exp_layer (exp.Call s p as') = suc (greatest as')
exp_layer (exp.Block b) = b
exp_layer (exp.If h) = h
exp_layer (exp.Match s e arms) = suc (max e (greatest arms))
exp_layer (exp.Post s e ps) = chained e ps
exp_layer (exp.Prefix s o e) = suc e
exp_layer (exp.Cast s e ns) = e + length ns
exp_layer (exp.Binary s e os) = chained e os

-- an argument is no node, a lent name has 1
abbrev pub arg_layer : Arg-F ℕ ℕ ℕ ℕ ℕ ℕ ℕ ℕ ℕ ℕ → ℕ
arg_layer (exp.Value e) = e
arg_layer (exp.Shared s e) = e
arg_layer (exp.Lent s n) = 1
arg_layer (exp.List s es) = greatest es

-- an `if` is an expression, also behind `else`
abbrev pub if_layer : If-F ℕ ℕ ℕ ℕ ℕ ℕ ℕ ℕ ℕ ℕ → ℕ
if_layer i = suc (max i.condition (max i.then (or_none i.otherwise)))

-- what stands behind `else`
abbrev pub else_layer : Else-F ℕ ℕ ℕ ℕ ℕ ℕ ℕ ℕ ℕ ℕ → ℕ
else_layer (exp.Chain h) = h
else_layer (exp.Last h) = h

-- what a step adds to the parts of its node
abbrev pub step_layer : Step-F ℕ ℕ ℕ ℕ ℕ ℕ ℕ ℕ ℕ ℕ → ℕ
step_layer (exp.Index s e) = e
step_layer (exp.Part s i) = 0

-- what stands behind an expression adds
abbrev pub postfix_layer : Postfix-F ℕ ℕ ℕ ℕ ℕ ℕ ℕ ℕ ℕ ℕ → ℕ
postfix_layer (exp.Try s) = 0
postfix_layer (exp.Method s n as') = greatest as'
postfix_layer (exp.Step h) = h

-- a statement; the steps of an assigned place are no nodes
abbrev pub stmt_layer : Stmt-F ℕ ℕ ℕ ℕ ℕ ℕ ℕ ℕ ℕ ℕ → ℕ
stmt_layer (exp.Let s p t e) = suc e
stmt_layer (exp.Assign s t ps o e) = suc (max (greatest ps) e)
stmt_layer (exp.For s x e f b) = suc (max (max e f) b)
stmt_layer (exp.Return s e) = suc (or_none e)
stmt_layer (exp.Bare e) = suc e
stmt_layer (exp.Exp s e) = suc e

-- an arm is no node
abbrev pub arm_layer : Arm-F ℕ ℕ ℕ ℕ ℕ ℕ ℕ ℕ ℕ ℕ → ℕ
arm_layer a = a.value

abbrev pub block_layer : Block-F ℕ ℕ ℕ ℕ ℕ ℕ ℕ ℕ ℕ ℕ → ℕ
block_layer b = suc (max (greatest b.statements) (or_none b.tail))

abbrev pub operand_layer : Operand-F ℕ ℕ ℕ ℕ ℕ ℕ ℕ ℕ ℕ ℕ → ℕ
operand_layer o = o.right

-- the height of an expression
abbrev pub height_of : Exp → ℕ
height_of = fold-Exp ℕ ℕ ℕ ℕ ℕ ℕ ℕ ℕ ℕ ℕ arg_layer else_layer exp_layer postfix_layer step_layer stmt_layer arm_layer block_layer if_layer operand_layer

-- of an argument
abbrev pub arg_height : Arg → ℕ
arg_height = fold-Arg ℕ ℕ ℕ ℕ ℕ ℕ ℕ ℕ ℕ ℕ arg_layer else_layer exp_layer postfix_layer step_layer stmt_layer arm_layer block_layer if_layer operand_layer

-- of what stands behind an expression
abbrev pub postfix_height : Postfix → ℕ
postfix_height = fold-Postfix ℕ ℕ ℕ ℕ ℕ ℕ ℕ ℕ ℕ ℕ arg_layer else_layer exp_layer postfix_layer step_layer stmt_layer arm_layer block_layer if_layer operand_layer

-- of a step
abbrev pub step_height : Step → ℕ
step_height = fold-Step ℕ ℕ ℕ ℕ ℕ ℕ ℕ ℕ ℕ ℕ arg_layer else_layer exp_layer postfix_layer step_layer stmt_layer arm_layer block_layer if_layer operand_layer

-- of an `if`
abbrev pub if_height : If → ℕ
if_height = fold-If ℕ ℕ ℕ ℕ ℕ ℕ ℕ ℕ ℕ ℕ arg_layer else_layer exp_layer postfix_layer step_layer stmt_layer arm_layer block_layer if_layer operand_layer

-- of what stands behind `else`
abbrev pub else_height : Else → ℕ
else_height = fold-Else ℕ ℕ ℕ ℕ ℕ ℕ ℕ ℕ ℕ ℕ arg_layer else_layer exp_layer postfix_layer step_layer stmt_layer arm_layer block_layer if_layer operand_layer

-- of a statement
abbrev pub stmt_height : Stmt → ℕ
stmt_height = fold-Stmt ℕ ℕ ℕ ℕ ℕ ℕ ℕ ℕ ℕ ℕ arg_layer else_layer exp_layer postfix_layer step_layer stmt_layer arm_layer block_layer if_layer operand_layer

-- of an arm
abbrev pub arm_height : Arm → ℕ
arm_height = fold-Arm ℕ ℕ ℕ ℕ ℕ ℕ ℕ ℕ ℕ ℕ arg_layer else_layer exp_layer postfix_layer step_layer stmt_layer arm_layer block_layer if_layer operand_layer

-- of a block
abbrev pub block_height : Block → ℕ
block_height = fold-Block ℕ ℕ ℕ ℕ ℕ ℕ ℕ ℕ ℕ ℕ arg_layer else_layer exp_layer postfix_layer step_layer stmt_layer arm_layer block_layer if_layer operand_layer

-- of an operator with its right operand
abbrev pub operand_height : Operand → ℕ
operand_height = fold-Operand ℕ ℕ ℕ ℕ ℕ ℕ ℕ ℕ ℕ ℕ arg_layer else_layer exp_layer postfix_layer step_layer stmt_layer arm_layer block_layer if_layer operand_layer

-- a number as far as 32 bits hold it: 4294967295 for each greater one
unfoldable pub capped : ℕ → ℕ
capped n = min n 4294967295
