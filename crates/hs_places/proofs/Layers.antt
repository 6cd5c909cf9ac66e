-- The node of each form of a tree, by the nodes of its parts.
use Rattle.std.proofs.Common.{◌≡◌, ℕ, sym, subst, Bool, List, map, Option, Some, None, option_map}
use Rattle.hs_syntax.specs.declared.span.Span.{Span}
use Rattle.hs_syntax.specs.declared.span.Int.{Int}
use Rattle.hs_syntax.specs.declared.ty.Ty.{Ty, roll-Ty}
use Rattle.hs_syntax.specs.declared.ty.Ty.TheVariants as ty
use Rattle.hs_syntax.specs.declared.ty.Ty.TheOpen as ty_layers
use Rattle.hs_syntax.specs.declared.ty.Ty.TheFolds.{fold-roll-Ty}
use Rattle.hs_syntax.specs.declared.pat.Pat.{Pat, roll-Pat}
use Rattle.hs_syntax.specs.declared.pat.Pat.TheVariants as pat
use Rattle.hs_syntax.specs.declared.pat.Pat.TheOpen as pat_layers
use Rattle.hs_syntax.specs.declared.pat.Pat.TheFolds.{fold-roll-Pat}
use Rattle.hs_syntax.specs.declared.exp.Path.{Path}
use Rattle.hs_syntax.specs.declared.exp.BinaryOp.{BinaryOp}
use Rattle.hs_syntax.specs.declared.exp.PrefixOp.{PrefixOp}
use Rattle.hs_syntax.specs.declared.exp.Target.{Target}
use Rattle.hs_syntax.specs.declared.exp.Variable.{Variable}
use Rattle.hs_syntax.specs.declared.exp.Exp.{Exp, roll-Exp}
use Rattle.hs_syntax.specs.declared.exp.Exp.TheVariants as exp
use Rattle.hs_syntax.specs.declared.exp.If.{If, roll-If}
use Rattle.hs_syntax.specs.declared.exp.Else.{Else, roll-Else}
use Rattle.hs_syntax.specs.declared.exp.Else.TheVariants as branch
use Rattle.hs_syntax.specs.declared.exp.Operand.{Operand, roll-Operand}
use Rattle.hs_syntax.specs.declared.exp.Step.{Step, roll-Step}
use Rattle.hs_syntax.specs.declared.exp.Step.TheVariants as step
use Rattle.hs_syntax.specs.declared.exp.Postfix.{Postfix, roll-Postfix}
use Rattle.hs_syntax.specs.declared.exp.Postfix.TheVariants as postfix
use Rattle.hs_syntax.specs.declared.exp.Arg.{Arg, roll-Arg}
use Rattle.hs_syntax.specs.declared.exp.Arg.TheVariants as arg
use Rattle.hs_syntax.specs.declared.exp.Arg.TheOpen as layers
use Rattle.hs_syntax.specs.declared.exp.Arg.TheOpen.{Arm-F, Block-F, Operand-F}
use Rattle.hs_syntax.specs.declared.exp.Arg.TheFolds.{fold-roll-Exp, fold-roll-If, fold-roll-Else, fold-roll-Arg, fold-roll-Step, fold-roll-Postfix, fold-roll-Stmt, fold-roll-Arm, fold-roll-Block, fold-roll-Operand}
use Rattle.hs_syntax.specs.declared.exp.Arm.{Arm, roll-Arm}
use Rattle.hs_syntax.specs.declared.exp.Stmt.{Stmt, roll-Stmt}
use Rattle.hs_syntax.specs.declared.exp.Stmt.TheVariants as stmt
use Rattle.hs_syntax.specs.declared.exp.Block.{Block, roll-Block}
use Rattle.hs_syntax.specs.Spans.{span_of_path, span_of_variable}
use Rattle.hs_limits.specs.Outline.{Node, none, join, one, maybe, all, upto, chain, part, statement}
use Rattle.hs_limits.specs.Nested.{Nested}
use Rattle.hs_limits.specs.Nodes.{word, name, tall, wrap, flat, node_of_ty, ty_layer, optional_ty, node_of_pat, pat_layer, node_of_arm_pat, node_of_path, node_of_exp, node_of_if, node_of_else, node_of_arg, node_of_step, node_of_postfix, node_of_stmt, node_of_arm, node_of_block, node_of_operand, arg_layer, else_layer, exp_layer, postfix_layer, step_layer, stmt_layer, arm_layer, block_layer, if_layer, operand_layer}

-- a node that is another one
pub on : {x y : Node} {low high : ℕ} → x ≡ y → Nested (one y) low high → Nested (one x) low high
on {low = low} {high = high} e n = subst (λ (z : Node). Nested (one z) low high) (sym e) n

pub off : {x y : Node} {low high : ℕ} → x ≡ y → Nested (one x) low high → Nested (one y) low high
off {low = low} {high = high} e n = subst (λ (z : Node). Nested (one z) low high) e n

-- ---- types and patterns

pub ty_name : (s : Span) → node_of_ty (ty.Name s) ≡ word s
unfolding roll-Ty denote.Hole.Carrier.roll
ty_name s = fold-roll-Ty Node ty_layer (ty_layers.Name s)

pub ty_unit : (s : Span) → node_of_ty (ty.Unit s) ≡ word s
unfolding roll-Ty denote.Hole.Carrier.roll
ty_unit s = fold-roll-Ty Node ty_layer (ty_layers.Unit s)

pub ty_tuple : (s : Span) (ts : List Ty) → node_of_ty (ty.Tuple s ts) ≡ flat s (upto 12 part (map node_of_ty ts))
unfolding roll-Ty denote.Hole.Carrier.roll
ty_tuple s ts = fold-roll-Ty Node ty_layer (ty_layers.Tuple s ts)

pub ty_applied : (s : Span) (n : Span) (ts : List Ty) → node_of_ty (ty.Applied s n ts) ≡ flat s (join (name n) (all (map node_of_ty ts)))
unfolding roll-Ty denote.Hole.Carrier.roll
ty_applied s n ts = fold-roll-Ty Node ty_layer (ty_layers.Applied s n ts)

pub pat_name : (s : Span) (m : Bool) (n : Span) → node_of_pat (pat.Name s m n) ≡ flat s (name n)
unfolding roll-Pat denote.Hole.Carrier.roll
pat_name s m n = fold-roll-Pat Node pat_layer (pat_layers.Name s m n)

pub pat_any : (s : Span) → node_of_pat (pat.Any s) ≡ word s
unfolding roll-Pat denote.Hole.Carrier.roll
pat_any s = fold-roll-Pat Node pat_layer (pat_layers.Any s)

pub pat_tuple : (s : Span) (ps : List Pat) → node_of_pat (pat.Tuple s ps) ≡ flat s (upto 12 part (map node_of_pat ps))
unfolding roll-Pat denote.Hole.Carrier.roll
pat_tuple s ps = fold-roll-Pat Node pat_layer (pat_layers.Tuple s ps)

pub pat_struct : (s : Span) (n : Span) (ps : List Pat) → node_of_pat (pat.Struct s n ps) ≡ flat s (join (name n) (all (map node_of_pat ps)))
unfolding roll-Pat denote.Hole.Carrier.roll
pat_struct s n ps = fold-roll-Pat Node pat_layer (pat_layers.Struct s n ps)

-- ---- expressions

pub exp_int : (i : Int) → node_of_exp (exp.Int i) ≡ tall i.span none
unfolding roll-Exp denote.Hole.Carrier.roll
exp_int i = fold-roll-Exp Node Node Node Node Node Node Node Node Node Node arg_layer else_layer exp_layer postfix_layer step_layer stmt_layer arm_layer block_layer if_layer operand_layer (layers.Int i)

pub exp_bool : (s : Span) (b : Bool) → node_of_exp (exp.Bool s b) ≡ tall s none
unfolding roll-Exp denote.Hole.Carrier.roll
exp_bool s b = fold-roll-Exp Node Node Node Node Node Node Node Node Node Node arg_layer else_layer exp_layer postfix_layer step_layer stmt_layer arm_layer block_layer if_layer operand_layer (layers.Bool s b)

pub exp_unit : (s : Span) → node_of_exp (exp.Unit s) ≡ tall s none
unfolding roll-Exp denote.Hole.Carrier.roll
exp_unit s = fold-roll-Exp Node Node Node Node Node Node Node Node Node Node arg_layer else_layer exp_layer postfix_layer step_layer stmt_layer arm_layer block_layer if_layer operand_layer (layers.Unit s)

pub exp_group : (s : Span) (e : Exp) → node_of_exp (exp.Group s e) ≡ tall s (one (node_of_exp e))
unfolding roll-Exp denote.Hole.Carrier.roll
exp_group s e = fold-roll-Exp Node Node Node Node Node Node Node Node Node Node arg_layer else_layer exp_layer postfix_layer step_layer stmt_layer arm_layer block_layer if_layer operand_layer (layers.Group s e)

pub exp_tuple : (s : Span) (es : List Exp) → node_of_exp (exp.Tuple s es) ≡ tall s (upto 12 part (map node_of_exp es))
unfolding roll-Exp denote.Hole.Carrier.roll
exp_tuple s es = fold-roll-Exp Node Node Node Node Node Node Node Node Node Node arg_layer else_layer exp_layer postfix_layer step_layer stmt_layer arm_layer block_layer if_layer operand_layer (layers.Tuple s es)

pub exp_path : (p : Path) → node_of_exp (exp.Path p) ≡ tall (span_of_path p) (one (node_of_path p))
unfolding roll-Exp denote.Hole.Carrier.roll
exp_path p = fold-roll-Exp Node Node Node Node Node Node Node Node Node Node arg_layer else_layer exp_layer postfix_layer step_layer stmt_layer arm_layer block_layer if_layer operand_layer (layers.Path p)

pub exp_call : (s : Span) (p : Path) (as' : List Arg) → node_of_exp (exp.Call s p as') ≡ tall s (join (one (node_of_path p)) (all (map node_of_arg as')))
unfolding roll-Exp denote.Hole.Carrier.roll
exp_call s p as' = fold-roll-Exp Node Node Node Node Node Node Node Node Node Node arg_layer else_layer exp_layer postfix_layer step_layer stmt_layer arm_layer block_layer if_layer operand_layer (layers.Call s p as')

pub exp_block : (b : Block) → node_of_exp (exp.Block b) ≡ node_of_block b
unfolding roll-Exp denote.Hole.Carrier.roll
exp_block b = fold-roll-Exp Node Node Node Node Node Node Node Node Node Node arg_layer else_layer exp_layer postfix_layer step_layer stmt_layer arm_layer block_layer if_layer operand_layer (layers.Block b)

pub exp_if : (i : If) → node_of_exp (exp.If i) ≡ node_of_if i
unfolding roll-Exp denote.Hole.Carrier.roll
exp_if i = fold-roll-Exp Node Node Node Node Node Node Node Node Node Node arg_layer else_layer exp_layer postfix_layer step_layer stmt_layer arm_layer block_layer if_layer operand_layer (layers.If i)

pub if_is : (s : Span) (c : Exp) (b : Block) (o : Option Else) → node_of_if (roll-If (record { span = s; condition = c; then = b; otherwise = o })) ≡ tall s (join (one (node_of_exp c)) (join (one (node_of_block b)) (maybe (option_map node_of_else o))))
if_is s c b None = fold-roll-If Node Node Node Node Node Node Node Node Node Node arg_layer else_layer exp_layer postfix_layer step_layer stmt_layer arm_layer block_layer if_layer operand_layer (record { span = s; condition = c; then = b; otherwise = None })
if_is s c b (Some o) = fold-roll-If Node Node Node Node Node Node Node Node Node Node arg_layer else_layer exp_layer postfix_layer step_layer stmt_layer arm_layer block_layer if_layer operand_layer (record { span = s; condition = c; then = b; otherwise = Some o })

pub else_chain : (i : If) → node_of_else (branch.Chain i) ≡ node_of_if i
unfolding roll-Else denote.Hole.Carrier.roll
else_chain i = fold-roll-Else Node Node Node Node Node Node Node Node Node Node arg_layer else_layer exp_layer postfix_layer step_layer stmt_layer arm_layer block_layer if_layer operand_layer (layers.Chain i)

pub else_last : (b : Block) → node_of_else (branch.Last b) ≡ node_of_block b
unfolding roll-Else denote.Hole.Carrier.roll
else_last b = fold-roll-Else Node Node Node Node Node Node Node Node Node Node arg_layer else_layer exp_layer postfix_layer step_layer stmt_layer arm_layer block_layer if_layer operand_layer (layers.Last b)

pub exp_match : (s : Span) (e : Exp) (as' : List Arm) → node_of_exp (exp.Match s e as') ≡ tall s (join (one (node_of_exp e)) (all (map node_of_arm as')))
unfolding roll-Exp denote.Hole.Carrier.roll
exp_match s e as' = fold-roll-Exp Node Node Node Node Node Node Node Node Node Node arg_layer else_layer exp_layer postfix_layer step_layer stmt_layer arm_layer block_layer if_layer operand_layer (layers.Match s e as')

pub exp_post : (s : Span) (e : Exp) (ps : List Postfix) → node_of_exp (exp.Post s e ps) ≡ wrap s (chain s.start (one (node_of_exp e)) (map node_of_postfix ps))
unfolding roll-Exp denote.Hole.Carrier.roll
exp_post s e ps = fold-roll-Exp Node Node Node Node Node Node Node Node Node Node arg_layer else_layer exp_layer postfix_layer step_layer stmt_layer arm_layer block_layer if_layer operand_layer (layers.Post s e ps)

pub exp_prefix : (s : Span) (o : PrefixOp) (e : Exp) → node_of_exp (exp.Prefix s o e) ≡ tall s (one (node_of_exp e))
unfolding roll-Exp denote.Hole.Carrier.roll
exp_prefix s o e = fold-roll-Exp Node Node Node Node Node Node Node Node Node Node arg_layer else_layer exp_layer postfix_layer step_layer stmt_layer arm_layer block_layer if_layer operand_layer (layers.Prefix s o e)

pub exp_cast : (s : Span) (e : Exp) (ns : List Span) → node_of_exp (exp.Cast s e ns) ≡ wrap s (chain s.start (one (node_of_exp e)) (map word ns))
unfolding roll-Exp denote.Hole.Carrier.roll
exp_cast s e ns = fold-roll-Exp Node Node Node Node Node Node Node Node Node Node arg_layer else_layer exp_layer postfix_layer step_layer stmt_layer arm_layer block_layer if_layer operand_layer (layers.Cast s e ns)

pub exp_binary : (s : Span) (e : Exp) (os : List Operand) → node_of_exp (exp.Binary s e os) ≡ wrap s (chain s.start (one (node_of_exp e)) (map node_of_operand os))
unfolding roll-Exp denote.Hole.Carrier.roll
exp_binary s e os = fold-roll-Exp Node Node Node Node Node Node Node Node Node Node arg_layer else_layer exp_layer postfix_layer step_layer stmt_layer arm_layer block_layer if_layer operand_layer (layers.Binary s e os)

pub arg_value : (e : Exp) → node_of_arg (arg.Value e) ≡ node_of_exp e
unfolding roll-Arg denote.Hole.Carrier.roll
arg_value e = fold-roll-Arg Node Node Node Node Node Node Node Node Node Node arg_layer else_layer exp_layer postfix_layer step_layer stmt_layer arm_layer block_layer if_layer operand_layer (layers.Value e)

pub arg_shared : (s : Span) (e : Exp) → node_of_arg (arg.Shared s e) ≡ wrap s (one (node_of_exp e))
unfolding roll-Arg denote.Hole.Carrier.roll
arg_shared s e = fold-roll-Arg Node Node Node Node Node Node Node Node Node Node arg_layer else_layer exp_layer postfix_layer step_layer stmt_layer arm_layer block_layer if_layer operand_layer (layers.Shared s e)

pub arg_lent : (s : Span) (n : Span) → node_of_arg (arg.Lent s n) ≡ wrap s (one (tall n none))
unfolding roll-Arg denote.Hole.Carrier.roll
arg_lent s n = fold-roll-Arg Node Node Node Node Node Node Node Node Node Node arg_layer else_layer exp_layer postfix_layer step_layer stmt_layer arm_layer block_layer if_layer operand_layer (layers.Lent s n)

pub arg_list : (s : Span) (es : List Exp) → node_of_arg (arg.List s es) ≡ wrap s (all (map node_of_exp es))
unfolding roll-Arg denote.Hole.Carrier.roll
arg_list s es = fold-roll-Arg Node Node Node Node Node Node Node Node Node Node arg_layer else_layer exp_layer postfix_layer step_layer stmt_layer arm_layer block_layer if_layer operand_layer (layers.List s es)

pub postfix_try : (s : Span) → node_of_postfix (postfix.Try s) ≡ wrap s none
unfolding roll-Postfix denote.Hole.Carrier.roll
postfix_try s = fold-roll-Postfix Node Node Node Node Node Node Node Node Node Node arg_layer else_layer exp_layer postfix_layer step_layer stmt_layer arm_layer block_layer if_layer operand_layer (layers.Try s)

pub postfix_method : (s : Span) (n : Span) (as' : List Arg) → node_of_postfix (postfix.Method s n as') ≡ wrap s (join (name n) (all (map node_of_arg as')))
unfolding roll-Postfix denote.Hole.Carrier.roll
postfix_method s n as' = fold-roll-Postfix Node Node Node Node Node Node Node Node Node Node arg_layer else_layer exp_layer postfix_layer step_layer stmt_layer arm_layer block_layer if_layer operand_layer (layers.Method s n as')

pub postfix_step : (t : Step) → node_of_postfix (postfix.Step t) ≡ node_of_step t
unfolding roll-Postfix denote.Hole.Carrier.roll
postfix_step t = fold-roll-Postfix Node Node Node Node Node Node Node Node Node Node arg_layer else_layer exp_layer postfix_layer step_layer stmt_layer arm_layer block_layer if_layer operand_layer (layers.Step t)

pub step_index : (s : Span) (e : Exp) → node_of_step (step.Index s e) ≡ wrap s (one (node_of_exp e))
unfolding roll-Step denote.Hole.Carrier.roll
step_index s e = fold-roll-Step Node Node Node Node Node Node Node Node Node Node arg_layer else_layer exp_layer postfix_layer step_layer stmt_layer arm_layer block_layer if_layer operand_layer (layers.Index s e)

pub step_part : (s : Span) (i : Int) → node_of_step (step.Part s i) ≡ wrap s (name i.span)
unfolding roll-Step denote.Hole.Carrier.roll
step_part s i = fold-roll-Step Node Node Node Node Node Node Node Node Node Node arg_layer else_layer exp_layer postfix_layer step_layer stmt_layer arm_layer block_layer if_layer operand_layer (layers.Part s i)

-- ---- statements

pub stmt_let : (s : Span) (p : Pat) (t : Option Ty) (e : Exp) → node_of_stmt (stmt.Let s p t e) ≡ tall s (join (one (node_of_pat p)) (join (optional_ty t) (one (node_of_exp e))))
unfolding roll-Stmt denote.Hole.Carrier.roll
stmt_let s p t e = fold-roll-Stmt Node Node Node Node Node Node Node Node Node Node arg_layer else_layer exp_layer postfix_layer step_layer stmt_layer arm_layer block_layer if_layer operand_layer (layers.Let s p t e)

pub stmt_assign : (s : Span) (t : Target) (ps : List Step) (o : Option BinaryOp) (e : Exp) → node_of_stmt (stmt.Assign s t ps o e) ≡ tall s (join (one (wrap t.span (join (name t.name) (all (map node_of_step ps))))) (one (node_of_exp e)))
unfolding roll-Stmt denote.Hole.Carrier.roll
stmt_assign s t ps o e = fold-roll-Stmt Node Node Node Node Node Node Node Node Node Node arg_layer else_layer exp_layer postfix_layer step_layer stmt_layer arm_layer block_layer if_layer operand_layer (layers.Assign s t ps o e)

pub stmt_for : (s : Span) (x : Variable) (e : Exp) (f : Exp) (b : Block) → node_of_stmt (stmt.For s x e f b) ≡ tall s (join (name (span_of_variable x)) (join (one (node_of_exp e)) (join (one (node_of_exp f)) (one (node_of_block b)))))
unfolding roll-Stmt denote.Hole.Carrier.roll
stmt_for s x e f b = fold-roll-Stmt Node Node Node Node Node Node Node Node Node Node arg_layer else_layer exp_layer postfix_layer step_layer stmt_layer arm_layer block_layer if_layer operand_layer (layers.For s x e f b)

pub stmt_return : (s : Span) (e : Option Exp) → node_of_stmt (stmt.Return s e) ≡ tall s (maybe (option_map node_of_exp e))
unfolding roll-Stmt denote.Hole.Carrier.roll
stmt_return s None = fold-roll-Stmt Node Node Node Node Node Node Node Node Node Node arg_layer else_layer exp_layer postfix_layer step_layer stmt_layer arm_layer block_layer if_layer operand_layer (layers.Return s None)
stmt_return s (Some e) = fold-roll-Stmt Node Node Node Node Node Node Node Node Node Node arg_layer else_layer exp_layer postfix_layer step_layer stmt_layer arm_layer block_layer if_layer operand_layer (layers.Return s (Some e))

pub stmt_bare : (e : Exp) → node_of_stmt (stmt.Bare e) ≡ tall (node_of_exp e).at (one (node_of_exp e))
unfolding roll-Stmt denote.Hole.Carrier.roll
stmt_bare e = fold-roll-Stmt Node Node Node Node Node Node Node Node Node Node arg_layer else_layer exp_layer postfix_layer step_layer stmt_layer arm_layer block_layer if_layer operand_layer (layers.Bare e)

pub stmt_exp : (s : Span) (e : Exp) → node_of_stmt (stmt.Exp s e) ≡ tall s (one (node_of_exp e))
unfolding roll-Stmt denote.Hole.Carrier.roll
stmt_exp s e = fold-roll-Stmt Node Node Node Node Node Node Node Node Node Node arg_layer else_layer exp_layer postfix_layer step_layer stmt_layer arm_layer block_layer if_layer operand_layer (layers.Exp s e)

-- ---- arms, blocks and operands

pub arm_is : (y : Arm-F Arg Else Exp Postfix Step Stmt Arm Block If Operand) → node_of_arm (roll-Arm y) ≡ wrap y.span (join (one (node_of_arm_pat y.pattern)) (one (node_of_exp y.value)))
arm_is y = fold-roll-Arm Node Node Node Node Node Node Node Node Node Node arg_layer else_layer exp_layer postfix_layer step_layer stmt_layer arm_layer block_layer if_layer operand_layer y

pub block_is : (s : Span) (ss : List Stmt) (t : Option Exp) → node_of_block (roll-Block (record { span = s; statements = ss; tail = t })) ≡ tall s (join (upto 1024 statement (map node_of_stmt ss)) (maybe (option_map node_of_exp t)))
block_is s ss None = fold-roll-Block Node Node Node Node Node Node Node Node Node Node arg_layer else_layer exp_layer postfix_layer step_layer stmt_layer arm_layer block_layer if_layer operand_layer (record { span = s; statements = ss; tail = None })
block_is s ss (Some e) = fold-roll-Block Node Node Node Node Node Node Node Node Node Node arg_layer else_layer exp_layer postfix_layer step_layer stmt_layer arm_layer block_layer if_layer operand_layer (record { span = s; statements = ss; tail = Some e })

pub operand_is : (y : Operand-F Arg Else Exp Postfix Step Stmt Arm Block If Operand) → node_of_operand (roll-Operand y) ≡ node_of_exp y.right
operand_is y = fold-roll-Operand Node Node Node Node Node Node Node Node Node Node arg_layer else_layer exp_layer postfix_layer step_layer stmt_layer arm_layer block_layer if_layer operand_layer y
