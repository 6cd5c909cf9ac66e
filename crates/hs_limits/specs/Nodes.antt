-- The nodes of each form of a tree, in the order of the text.
use Rattle.std.specs.Prelude.{Option, List, map, option_map}
use Rattle.hs_syntax.specs.declared.span.Span.{Span}
use Rattle.hs_syntax.specs.declared.ty.Ty.{Ty, fold-Ty}
use Rattle.hs_syntax.specs.declared.ty.Ty.TheOpen.{Ty-F}
use Rattle.hs_syntax.specs.declared.ty.Ty.TheOpen as ty
use Rattle.hs_syntax.specs.declared.pat.Pat.{Pat, fold-Pat}
use Rattle.hs_syntax.specs.declared.pat.Pat.TheOpen.{Pat-F}
use Rattle.hs_syntax.specs.declared.pat.Pat.TheOpen as pat
use Rattle.hs_syntax.specs.declared.pat.ArmPat.{ArmPat}
use Rattle.hs_syntax.specs.declared.pat.ArmPat.TheVariants as arm_pat
use Rattle.hs_syntax.specs.declared.exp.Path.{Path}
use Rattle.hs_syntax.specs.declared.exp.Path.TheVariants as path
use Rattle.hs_syntax.specs.declared.exp.Exp.{Exp, fold-Exp}
use Rattle.hs_syntax.specs.declared.exp.Arg.{Arg, fold-Arg}
use Rattle.hs_syntax.specs.declared.exp.Arg.TheOpen.{Exp-F, Arg-F, Else-F, Postfix-F, Step-F, Stmt-F, Arm-F, Block-F, If-F, Operand-F}
use Rattle.hs_syntax.specs.declared.exp.Arg.TheOpen as exp
use Rattle.hs_syntax.specs.declared.exp.Else.{Else, fold-Else}
use Rattle.hs_syntax.specs.declared.exp.If.{If, fold-If}
use Rattle.hs_syntax.specs.declared.exp.Postfix.{Postfix, fold-Postfix}
use Rattle.hs_syntax.specs.declared.exp.Step.{Step, fold-Step}
use Rattle.hs_syntax.specs.declared.exp.Block.{Block, fold-Block}
use Rattle.hs_syntax.specs.declared.exp.Stmt.{Stmt, fold-Stmt}
use Rattle.hs_syntax.specs.declared.exp.Arm.{Arm, fold-Arm}
use Rattle.hs_syntax.specs.declared.exp.Operand.{Operand, fold-Operand}
use Rattle.hs_syntax.specs.declared.file.File.{File}
use Rattle.hs_syntax.specs.declared.item.Item.{Item}
use Rattle.hs_syntax.specs.declared.item.Ctor.{Ctor}
use Rattle.hs_syntax.specs.declared.item.Param.{Param}
use Rattle.hs_syntax.specs.declared.item.ItemKind.{ItemKind}
use Rattle.hs_syntax.specs.declared.item.ItemKind.TheVariants as item
use Rattle.hs_syntax.specs.Spans.{span_of_path, span_of_variable}
use Rattle.hs_limits.specs.Outline.{Outline, Node, none, join, counted, through, apart, parameter, statement, part, one, maybe, all, upto, chain}

-- an expression, a statement or a block
abbrev pub tall : Span → Outline → Node
tall s parts = record { at = s; kind = counted; parts = parts }

-- what lends its parts to the node that it is a part of
abbrev pub wrap : Span → Outline → Node
wrap s parts = record { at = s; kind = through; parts = parts }

-- what is no part of a height
abbrev pub flat : Span → Outline → Node
flat s parts = record { at = s; kind = apart; parts = parts }

-- a name or a number
abbrev pub word : Span → Node
word s = flat s none

abbrev pub name : Span → Outline
name s = one (word s)

abbrev pub names : List Span → Outline
names ss = all (map word ss)

-- a tuple has at most 12 parts
abbrev pub ty_layer : Ty-F Node → Node
ty_layer (ty.Name s) = word s
ty_layer (ty.Unit s) = word s
ty_layer (ty.Tuple s ts) = flat s (upto 12 part ts)
ty_layer (ty.Applied s n ts) = flat s (join (name n) (all ts))

abbrev pub node_of_ty : Ty → Node
node_of_ty = fold-Ty Node ty_layer

abbrev pub ty_outline : Ty → Outline
ty_outline t = one (node_of_ty t)

abbrev pub optional_ty : Option Ty → Outline
optional_ty t = maybe (option_map node_of_ty t)

abbrev pub pat_layer : Pat-F Node → Node
pat_layer (pat.Name s m n) = flat s (name n)
pat_layer (pat.Any s) = word s
pat_layer (pat.Tuple s ps) = flat s (upto 12 part ps)
pat_layer (pat.Struct s n ps) = flat s (join (name n) (all ps))

abbrev pub node_of_pat : Pat → Node
node_of_pat = fold-Pat Node pat_layer

abbrev pub node_of_arm_pat : ArmPat → Node
node_of_arm_pat (arm_pat.Any s) = word s
node_of_arm_pat (arm_pat.Ctor s n ps) = flat s (join (name n) (all (map node_of_pat ps)))
node_of_arm_pat (arm_pat.Member s t n ps) = flat s (join (name t) (join (name n) (all (map node_of_pat ps))))

abbrev pub node_of_path : Path → Node
node_of_path (path.Name s) = word s
node_of_path (path.Member s t n) = flat s (join (name t) (name n))
node_of_path (path.Of s n t m) = flat s (join (name n) (join (ty_outline t) (name m)))

-- what groups to the left has a node for each operator, step or `as`
abbrev pub exp_layer : Exp-F Node Node Node Node Node Node Node Node Node Node → Node
exp_layer (exp.Int i) = tall i.span none
exp_layer (exp.Bool s b) = tall s none
exp_layer (exp.Unit s) = tall s none
exp_layer (exp.Group s e) = tall s (one e)
exp_layer (exp.Tuple s es) = tall s (upto 12 part es)
exp_layer (exp.Path p) = tall (span_of_path p) (one (node_of_path p))
exp_layer (exp.Call s p as') = tall s (join (one (node_of_path p)) (all as'))
exp_layer (exp.Block b) = b
exp_layer (exp.If i) = i
exp_layer (exp.Match s e arms) = tall s (join (one e) (all arms))
exp_layer (exp.Post s e ps) = wrap s (chain s.start (one e) ps)
exp_layer (exp.Prefix s o e) = tall s (one e)
exp_layer (exp.Cast s e ns) = wrap s (chain s.start (one e) (map word ns))
exp_layer (exp.Binary s e os) = wrap s (chain s.start (one e) os)

-- an argument is no node of a height, a lent name has height 1
abbrev pub arg_layer : Arg-F Node Node Node Node Node Node Node Node Node Node → Node
arg_layer (exp.Value e) = e
arg_layer (exp.Shared s e) = wrap s (one e)
arg_layer (exp.Lent s n) = wrap s (one (tall n none))
arg_layer (exp.List s es) = wrap s (all es)

-- an `if` is an expression, also behind `else`
abbrev pub if_layer : If-F Node Node Node Node Node Node Node Node Node Node → Node
if_layer i = tall i.span (join (one i.condition) (join (one i.then) (maybe i.otherwise)))

-- what stands behind `else`
abbrev pub else_layer : Else-F Node Node Node Node Node Node Node Node Node Node → Node
else_layer (exp.Chain i) = i
else_layer (exp.Last b) = b

abbrev pub step_layer : Step-F Node Node Node Node Node Node Node Node Node Node → Node
step_layer (exp.Index s e) = wrap s (one e)
step_layer (exp.Part s i) = wrap s (name i.span)

abbrev pub postfix_layer : Postfix-F Node Node Node Node Node Node Node Node Node Node → Node
postfix_layer (exp.Try s) = wrap s none
postfix_layer (exp.Method s n as') = wrap s (join (name n) (all as'))
postfix_layer (exp.Step t) = t

abbrev pub stmt_layer : Stmt-F Node Node Node Node Node Node Node Node Node Node → Node
stmt_layer (exp.Let s p t e) = tall s (join (one (node_of_pat p)) (join (optional_ty t) (one e)))
stmt_layer (exp.Assign s t ps o e) = tall s (join (one (wrap t.span (join (name t.name) (all ps)))) (one e))
stmt_layer (exp.For s x e f b) = tall s (join (name (span_of_variable x)) (join (one e) (join (one f) (one b))))
stmt_layer (exp.Return s e) = tall s (maybe e)
stmt_layer (exp.Bare e) = tall e.at (one e)
stmt_layer (exp.Exp s e) = tall s (one e)

-- an arm is no node of a height
abbrev pub arm_layer : Arm-F Node Node Node Node Node Node Node Node Node Node → Node
arm_layer a = wrap a.span (join (one (node_of_arm_pat a.pattern)) (one a.value))

-- a block has at most 1,024 statements
abbrev pub block_layer : Block-F Node Node Node Node Node Node Node Node Node Node → Node
block_layer b = tall b.span (join (upto 1024 statement b.statements) (maybe b.tail))

abbrev pub operand_layer : Operand-F Node Node Node Node Node Node Node Node Node Node → Node
operand_layer o = o.right

abbrev pub node_of_exp : Exp → Node
node_of_exp = fold-Exp Node Node Node Node Node Node Node Node Node Node arg_layer else_layer exp_layer postfix_layer step_layer stmt_layer arm_layer block_layer if_layer operand_layer

abbrev pub node_of_arg : Arg → Node
node_of_arg = fold-Arg Node Node Node Node Node Node Node Node Node Node arg_layer else_layer exp_layer postfix_layer step_layer stmt_layer arm_layer block_layer if_layer operand_layer

abbrev pub node_of_postfix : Postfix → Node
node_of_postfix = fold-Postfix Node Node Node Node Node Node Node Node Node Node arg_layer else_layer exp_layer postfix_layer step_layer stmt_layer arm_layer block_layer if_layer operand_layer

abbrev pub node_of_step : Step → Node
node_of_step = fold-Step Node Node Node Node Node Node Node Node Node Node arg_layer else_layer exp_layer postfix_layer step_layer stmt_layer arm_layer block_layer if_layer operand_layer

abbrev pub node_of_if : If → Node
node_of_if = fold-If Node Node Node Node Node Node Node Node Node Node arg_layer else_layer exp_layer postfix_layer step_layer stmt_layer arm_layer block_layer if_layer operand_layer

abbrev pub node_of_else : Else → Node
node_of_else = fold-Else Node Node Node Node Node Node Node Node Node Node arg_layer else_layer exp_layer postfix_layer step_layer stmt_layer arm_layer block_layer if_layer operand_layer

abbrev pub node_of_stmt : Stmt → Node
node_of_stmt = fold-Stmt Node Node Node Node Node Node Node Node Node Node arg_layer else_layer exp_layer postfix_layer step_layer stmt_layer arm_layer block_layer if_layer operand_layer

abbrev pub node_of_arm : Arm → Node
node_of_arm = fold-Arm Node Node Node Node Node Node Node Node Node Node arg_layer else_layer exp_layer postfix_layer step_layer stmt_layer arm_layer block_layer if_layer operand_layer

abbrev pub node_of_block : Block → Node
node_of_block = fold-Block Node Node Node Node Node Node Node Node Node Node arg_layer else_layer exp_layer postfix_layer step_layer stmt_layer arm_layer block_layer if_layer operand_layer

abbrev pub node_of_operand : Operand → Node
node_of_operand = fold-Operand Node Node Node Node Node Node Node Node Node Node arg_layer else_layer exp_layer postfix_layer step_layer stmt_layer arm_layer block_layer if_layer operand_layer

-- a constructor has at most 12 parts
abbrev pub node_of_ctor : Ctor → Node
node_of_ctor c = flat c.span (join (name c.name) (upto 12 part (map node_of_ty c.parts)))

abbrev pub node_of_param : Param → Node
node_of_param p = flat p.span (join (name p.name) (ty_outline p.ty))

-- a struct has at most 12 parts, an enum at most 256 constructors, a function at most 32 parameters
abbrev pub kind_outline : ItemKind → Outline
kind_outline item.Use = none
kind_outline (item.Const n t e) = join (name n) (join (ty_outline t) (one (node_of_exp e)))
kind_outline (item.Alias n t) = join (name n) (ty_outline t)
kind_outline (item.Struct n ts) = join (name n) (upto 12 part (map node_of_ty ts))
kind_outline (item.Enum n cs) = join (name n) (upto 256 part (map node_of_ctor cs))
kind_outline (item.Fn n ps t b) = join (name n) (join (upto 32 parameter (map node_of_param ps)) (join (optional_ty t) (one (node_of_block b))))
kind_outline (item.Array n i t) = join (name n) (join (name i.span) (ty_outline t))
kind_outline (item.Bytes n i) = join (name n) (name i.span)
kind_outline (item.NatMod n c i m) = join (name n) (join (name c) (join (name i.span) (name m)))

abbrev pub node_of_item : Item → Node
node_of_item i = wrap i.span (join (names i.derives) (kind_outline i.kind))

-- the nodes of items, in order
abbrev pub outline_of_items : List Item → Outline
outline_of_items items = all (map node_of_item items)

-- the nodes of a file
abbrev pub outline_of : File → Outline
outline_of f = outline_of_items f.items
