-- What is sure of a tree that was read from a text, and that its types don't say.
use Rattle.std.specs.Prelude.{ℕ, ◌≡◌, Bool, true, false, ◌&&◌, not, Option, Some, None, List, [], ◌∷◌, map, option_map}
use Rattle.std.specs.Str.{all_ascii_digits}
use denote.Enum.Bare.{sameb}
use Rattle.hs_base.specs.Names.{is_name}
use Rattle.hs_syntax.specs.declared.span.Span.{Span}
use Rattle.hs_syntax.specs.declared.ty.Ty.{Ty, fold-Ty}
use Rattle.hs_syntax.specs.declared.ty.Ty.TheOpen.{Ty-F}
use Rattle.hs_syntax.specs.declared.ty.Ty.TheOpen as ty
use Rattle.hs_syntax.specs.declared.pat.Pat.{Pat, fold-Pat}
use Rattle.hs_syntax.specs.declared.pat.Pat.TheOpen.{Pat-F}
use Rattle.hs_syntax.specs.declared.pat.Pat.TheOpen as pat
use Rattle.hs_syntax.specs.declared.pat.ArmPat.{ArmPat}
use Rattle.hs_syntax.specs.declared.pat.ArmPat.TheVariants as arm_pat
use Rattle.hs_syntax.specs.declared.exp.Path.{Path}
use Rattle.hs_syntax.specs.declared.exp.Path.TheVariants as path
use Rattle.hs_syntax.specs.declared.exp.Variable.{Variable}
use Rattle.hs_syntax.specs.declared.exp.Variable.TheVariants as variable
use Rattle.hs_syntax.specs.declared.exp.Level.{Level}
use Rattle.hs_syntax.specs.declared.exp.Level.TheVariants as level
use Rattle.hs_syntax.specs.contracts.exp.Level.{the_type as the_levels}
use Rattle.hs_syntax.specs.declared.exp.BinaryOp.{BinaryOp}
use Rattle.hs_syntax.specs.declared.exp.BinaryOp.TheVariants as op
use Rattle.hs_syntax.specs.declared.exp.Exp.{Exp, fold-Exp}
use Rattle.hs_syntax.specs.declared.exp.Arg.{Arg, fold-Arg}
use Rattle.hs_syntax.specs.declared.exp.Arg.TheOpen.{Exp-F, Arg-F, Else-F, Postfix-F, Step-F, Stmt-F, Arm-F, Block-F, If-F, Operand-F}
use Rattle.hs_syntax.specs.declared.exp.Arg.TheOpen as exp
use Rattle.hs_syntax.specs.declared.exp.Else.{Else, fold-Else}
use Rattle.hs_syntax.specs.declared.exp.If.{If, fold-If}
use Rattle.hs_syntax.specs.declared.exp.Postfix.{Postfix, fold-Postfix}
use Rattle.hs_syntax.specs.declared.exp.Step.{Step, fold-Step}
use Rattle.hs_syntax.specs.declared.exp.Block.{Block, fold-Block}
use Rattle.hs_syntax.specs.declared.exp.Stmt.{Stmt, fold-Stmt}
use Rattle.hs_syntax.specs.declared.exp.Arm.{Arm, fold-Arm}
use Rattle.hs_syntax.specs.declared.exp.Operand.{Operand, fold-Operand}
use Rattle.hs_syntax.specs.declared.item.Item.{Item}
use Rattle.hs_syntax.specs.declared.item.Ctor.{Ctor}
use Rattle.hs_syntax.specs.declared.item.Param.{Param}
use Rattle.hs_syntax.specs.declared.item.ItemKind.{ItemKind}
use Rattle.hs_syntax.specs.declared.item.ItemKind.TheVariants as item
use Rattle.hs_syntax.specs.Levels.{level_of}
use Rattle.hs_syntax.specs.Texts.{bytes_at}

-- ---- words

-- the bytes are a name, which is no reserved word
abbrev pub named : List ℕ → Span → Bool
named text s = is_name (bytes_at text s)

-- the bytes are decimal digits
abbrev pub decimal : List ℕ → Span → Bool
decimal text s = all_ascii_digits (bytes_at text s)

-- ---- lists

abbrev pub at_least_one : {A : Type 0} → List A → Bool
at_least_one [] = false
at_least_one (x ∷ xs) = true

abbrev pub at_least_two : {A : Type 0} → List A → Bool
at_least_two [] = false
at_least_two (x ∷ xs) = at_least_one xs

-- all of these hold
abbrev pub each : List Bool → Bool
each [] = true
each (b ∷ bs) = b && each bs

-- each of these is a name
abbrev pub all_named : List ℕ → List Span → Bool
all_named text ss = each (map (named text) ss)

-- a part is well formed where there is one
abbrev pub if_any : Option Bool → Bool
if_any None = true
if_any (Some b) = b

-- ---- operators

abbrev pub same_level : Level → Level → Bool
same_level l m = sameb the_levels l m

-- one operator or more, all of which bind as strongly; of a comparison just one
abbrev pub one_level : List BinaryOp → Bool
one_level [] = false
one_level (o ∷ []) = true
one_level (o ∷ (p ∷ os)) = not (same_level (level_of o) level.Compare) && each (map (λ q. same_level (level_of o) (level_of q)) (p ∷ os))

-- an assignment is one of an operator or of none: `+ - * / % & | ^ << >>`
abbrev pub assigns : Option BinaryOp → Bool
assigns None = true
assigns (Some op.Or) = false
assigns (Some op.And) = false
assigns (Some op.Equal) = false
assigns (Some op.Differ) = false
assigns (Some op.Less) = false
assigns (Some op.AtMost) = false
assigns (Some op.Greater) = false
assigns (Some op.AtLeast) = false
assigns (Some op.BitOr) = true
assigns (Some op.BitXor) = true
assigns (Some op.BitAnd) = true
assigns (Some op.ShiftLeft) = true
assigns (Some op.ShiftRight) = true
assigns (Some op.Add) = true
assigns (Some op.Subtract) = true
assigns (Some op.Multiply) = true
assigns (Some op.Divide) = true
assigns (Some op.Remainder) = true

-- ---- types, patterns and paths

-- a tuple has two parts at least, and what is applied one
abbrev pub ty_layer : List ℕ → Ty-F Bool → Bool
ty_layer text (ty.Name s) = named text s
ty_layer text (ty.Unit s) = true
ty_layer text (ty.Tuple s ts) = at_least_two ts && each ts
ty_layer text (ty.Applied s n ts) = named text n && (at_least_one ts && each ts)

abbrev pub well_ty : List ℕ → Ty → Bool
well_ty text t = fold-Ty Bool (ty_layer text) t

abbrev pub well_tys : List ℕ → List Ty → Bool
well_tys text ts = each (map (well_ty text) ts)

abbrev pub well_optional_ty : List ℕ → Option Ty → Bool
well_optional_ty text t = if_any (option_map (well_ty text) t)

-- what stands in a bracket is one pattern at least, of a tuple two
abbrev pub pat_layer : List ℕ → Pat-F Bool → Bool
pat_layer text (pat.Name s m n) = named text n
pat_layer text (pat.Any s) = true
pat_layer text (pat.Tuple s ps) = at_least_two ps && each ps
pat_layer text (pat.Struct s n ps) = named text n && (at_least_one ps && each ps)

abbrev pub well_pat : List ℕ → Pat → Bool
well_pat text p = fold-Pat Bool (pat_layer text) p

abbrev pub well_arm_pat : List ℕ → ArmPat → Bool
well_arm_pat text (arm_pat.Any s) = true
well_arm_pat text (arm_pat.Ctor s n ps) = named text n && each (map (well_pat text) ps)
well_arm_pat text (arm_pat.Member s t n ps) = named text t && (named text n && each (map (well_pat text) ps))

abbrev pub well_path : List ℕ → Path → Bool
well_path text (path.Name s) = named text s
well_path text (path.Member s t n) = named text t && named text n
well_path text (path.Of s n t m) = named text n && (well_ty text t && named text m)

abbrev pub well_variable : List ℕ → Variable → Bool
well_variable text (variable.Name s) = named text s
well_variable text (variable.Any s) = true

-- ---- expressions, statements and blocks

-- a tuple has two parts at least, a `match` an arm; what groups to the left has one operator, step or `as` at least, and
-- operators of one level
abbrev pub exp_layer : List ℕ → Exp-F Bool Bool Bool Bool Bool Bool Bool Bool Bool (BinaryOp × Bool) → Bool
exp_layer text (exp.Int i) = true
exp_layer text (exp.Bool s b) = true
exp_layer text (exp.Unit s) = true
exp_layer text (exp.Group s e) = e
exp_layer text (exp.Tuple s es) = at_least_two es && each es
exp_layer text (exp.Path p) = well_path text p
exp_layer text (exp.Call s p as') = well_path text p && each as'
exp_layer text (exp.Block b) = b
exp_layer text (exp.If i) = i
exp_layer text (exp.Match s e as') = e && (at_least_one as' && each as')
exp_layer text (exp.Post s e ps) = e && (at_least_one ps && each ps)
exp_layer text (exp.Prefix s o e) = e
exp_layer text (exp.Cast s e ns) = e && (at_least_one ns && all_named text ns)
exp_layer text (exp.Binary s e os) = e && (one_level (map (λ (o : BinaryOp × Bool). o.0) os) && each (map (λ (o : BinaryOp × Bool). o.1) os))

-- a list has one item at least
abbrev pub arg_layer : List ℕ → Arg-F Bool Bool Bool Bool Bool Bool Bool Bool Bool (BinaryOp × Bool) → Bool
arg_layer text (exp.Value e) = e
arg_layer text (exp.Shared s e) = e
arg_layer text (exp.Lent s n) = named text n
arg_layer text (exp.List s es) = at_least_one es && each es

abbrev pub if_layer : If-F Bool Bool Bool Bool Bool Bool Bool Bool Bool (BinaryOp × Bool) → Bool
if_layer i = i.condition && (i.then && if_any i.otherwise)

abbrev pub else_layer : Else-F Bool Bool Bool Bool Bool Bool Bool Bool Bool (BinaryOp × Bool) → Bool
else_layer (exp.Chain i) = i
else_layer (exp.Last b) = b

-- the number of a part is decimal digits
abbrev pub step_layer : List ℕ → Step-F Bool Bool Bool Bool Bool Bool Bool Bool Bool (BinaryOp × Bool) → Bool
step_layer text (exp.Index s e) = e
step_layer text (exp.Part s i) = decimal text i.span

abbrev pub postfix_layer : List ℕ → Postfix-F Bool Bool Bool Bool Bool Bool Bool Bool Bool (BinaryOp × Bool) → Bool
postfix_layer text (exp.Try s) = true
postfix_layer text (exp.Method s n as') = named text n && each as'
postfix_layer text (exp.Step t) = t

-- the operator of a compound assignment is one of those that have one
abbrev pub stmt_layer : List ℕ → Stmt-F Bool Bool Bool Bool Bool Bool Bool Bool Bool (BinaryOp × Bool) → Bool
stmt_layer text (exp.Let s p t e) = well_pat text p && (well_optional_ty text t && e)
stmt_layer text (exp.Assign s t ts o e) = named text t.name && (each ts && (assigns o && e))
stmt_layer text (exp.For s x e f b) = well_variable text x && (e && (f && b))
stmt_layer text (exp.Return s e) = if_any e
stmt_layer text (exp.Bare e) = e
stmt_layer text (exp.Exp s e) = e

abbrev pub arm_layer : List ℕ → Arm-F Bool Bool Bool Bool Bool Bool Bool Bool Bool (BinaryOp × Bool) → Bool
arm_layer text a = well_arm_pat text a.pattern && a.value

abbrev pub block_layer : Block-F Bool Bool Bool Bool Bool Bool Bool Bool Bool (BinaryOp × Bool) → Bool
block_layer b = each b.statements && if_any b.tail

abbrev pub operand_layer : Operand-F Bool Bool Bool Bool Bool Bool Bool Bool Bool (BinaryOp × Bool) → BinaryOp × Bool
operand_layer o = (o.op, o.right)

abbrev pub well_exp : List ℕ → Exp → Bool
well_exp text x = fold-Exp Bool Bool Bool Bool Bool Bool Bool Bool Bool (BinaryOp × Bool) (arg_layer text) else_layer (exp_layer text) (postfix_layer text) (step_layer text) (stmt_layer text) (arm_layer text) block_layer if_layer operand_layer x

abbrev pub well_arg : List ℕ → Arg → Bool
well_arg text x = fold-Arg Bool Bool Bool Bool Bool Bool Bool Bool Bool (BinaryOp × Bool) (arg_layer text) else_layer (exp_layer text) (postfix_layer text) (step_layer text) (stmt_layer text) (arm_layer text) block_layer if_layer operand_layer x

abbrev pub well_if : List ℕ → If → Bool
well_if text x = fold-If Bool Bool Bool Bool Bool Bool Bool Bool Bool (BinaryOp × Bool) (arg_layer text) else_layer (exp_layer text) (postfix_layer text) (step_layer text) (stmt_layer text) (arm_layer text) block_layer if_layer operand_layer x

abbrev pub well_else : List ℕ → Else → Bool
well_else text x = fold-Else Bool Bool Bool Bool Bool Bool Bool Bool Bool (BinaryOp × Bool) (arg_layer text) else_layer (exp_layer text) (postfix_layer text) (step_layer text) (stmt_layer text) (arm_layer text) block_layer if_layer operand_layer x

abbrev pub well_step : List ℕ → Step → Bool
well_step text x = fold-Step Bool Bool Bool Bool Bool Bool Bool Bool Bool (BinaryOp × Bool) (arg_layer text) else_layer (exp_layer text) (postfix_layer text) (step_layer text) (stmt_layer text) (arm_layer text) block_layer if_layer operand_layer x

abbrev pub well_postfix : List ℕ → Postfix → Bool
well_postfix text x = fold-Postfix Bool Bool Bool Bool Bool Bool Bool Bool Bool (BinaryOp × Bool) (arg_layer text) else_layer (exp_layer text) (postfix_layer text) (step_layer text) (stmt_layer text) (arm_layer text) block_layer if_layer operand_layer x

abbrev pub well_stmt : List ℕ → Stmt → Bool
well_stmt text x = fold-Stmt Bool Bool Bool Bool Bool Bool Bool Bool Bool (BinaryOp × Bool) (arg_layer text) else_layer (exp_layer text) (postfix_layer text) (step_layer text) (stmt_layer text) (arm_layer text) block_layer if_layer operand_layer x

abbrev pub well_arm : List ℕ → Arm → Bool
well_arm text x = fold-Arm Bool Bool Bool Bool Bool Bool Bool Bool Bool (BinaryOp × Bool) (arg_layer text) else_layer (exp_layer text) (postfix_layer text) (step_layer text) (stmt_layer text) (arm_layer text) block_layer if_layer operand_layer x

abbrev pub well_block : List ℕ → Block → Bool
well_block text x = fold-Block Bool Bool Bool Bool Bool Bool Bool Bool Bool (BinaryOp × Bool) (arg_layer text) else_layer (exp_layer text) (postfix_layer text) (step_layer text) (stmt_layer text) (arm_layer text) block_layer if_layer operand_layer x

-- an operator, and whether its right operand is well formed
abbrev pub well_operand : List ℕ → Operand → BinaryOp × Bool
well_operand text x = fold-Operand Bool Bool Bool Bool Bool Bool Bool Bool Bool (BinaryOp × Bool) (arg_layer text) else_layer (exp_layer text) (postfix_layer text) (step_layer text) (stmt_layer text) (arm_layer text) block_layer if_layer operand_layer x

-- ---- items

abbrev pub well_ctor : List ℕ → Ctor → Bool
well_ctor text c = named text c.name && well_tys text c.parts

abbrev pub well_param : List ℕ → Param → Bool
well_param text p = named text p.name && well_ty text p.ty

-- a struct has one part at least, and an enum one constructor
abbrev pub well_kind : List ℕ → ItemKind → Bool
well_kind text item.Use = true
well_kind text (item.Const n t e) = named text n && (well_ty text t && well_exp text e)
well_kind text (item.Alias n t) = named text n && well_ty text t
well_kind text (item.Struct n ts) = named text n && (at_least_one ts && well_tys text ts)
well_kind text (item.Enum n cs) = named text n && (at_least_one cs && each (map (well_ctor text) cs))
well_kind text (item.Fn n ps t b) = named text n && (each (map (well_param text) ps) && (well_optional_ty text t && well_block text b))
well_kind text (item.Array n i t) = named text n && well_ty text t
well_kind text (item.Bytes n i) = named text n
well_kind text (item.NatMod n c i m) = named text n && named text c

abbrev pub well_item : List ℕ → Item → Bool
well_item text i = all_named text i.derives && well_kind text i.kind

-- the items of a file of this text are well formed
abbrev pub WellFormed : List ℕ → List Item → Type 0
WellFormed text items = each (map (well_item text) items) ≡ true
