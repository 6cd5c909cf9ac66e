-- The heights of nodes are those of expressions, statements and blocks.
use Rattle.std.proofs.Common.{ℕ, suc, ◌+◌, ◌≡◌, refl, sym, ◌∙◌, ap, subst, max, Option, Some, None, List, [], ◌∷◌, map, length, fold, arith}
use Rattle.hs_syntax.specs.declared.span.Span.{Span}
use Rattle.hs_syntax.specs.declared.ty.Ty.{Ty, out-Ty}
use Rattle.hs_syntax.specs.declared.ty.Ty.TheOpen.{Ty-F}
use Rattle.hs_syntax.specs.declared.ty.Ty.TheOpen as ty
use Rattle.hs_syntax.specs.declared.ty.Ty.TheFolds.{map-Ty, fold_out-Ty}
use Rattle.hs_syntax.specs.declared.pat.Pat.{Pat, out-Pat}
use Rattle.hs_syntax.specs.declared.pat.Pat.TheOpen.{Pat-F}
use Rattle.hs_syntax.specs.declared.pat.Pat.TheOpen as pat
use Rattle.hs_syntax.specs.declared.pat.Pat.TheFolds.{map-Pat, fold_out-Pat}
use Rattle.hs_syntax.specs.declared.pat.ArmPat.{ArmPat}
use Rattle.hs_syntax.specs.declared.pat.ArmPat.TheVariants as arm_pat
use Rattle.hs_syntax.specs.declared.exp.Path.{Path}
use Rattle.hs_syntax.specs.declared.exp.Path.TheVariants as path
use Rattle.hs_syntax.specs.declared.exp.Exp.{Exp}
use Rattle.hs_syntax.specs.declared.exp.Arg.{Arg}
use Rattle.hs_syntax.specs.declared.exp.Else.{Else}
use Rattle.hs_syntax.specs.declared.exp.If.{If}
use Rattle.hs_syntax.specs.declared.exp.Postfix.{Postfix}
use Rattle.hs_syntax.specs.declared.exp.Step.{Step}
use Rattle.hs_syntax.specs.declared.exp.Stmt.{Stmt}
use Rattle.hs_syntax.specs.declared.exp.Arm.{Arm}
use Rattle.hs_syntax.specs.declared.exp.Block.{Block}
use Rattle.hs_syntax.specs.declared.exp.Operand.{Operand}
use Rattle.hs_syntax.specs.declared.exp.Arg.TheOpen.{Exp-F, Arg-F, Else-F, Postfix-F, Step-F, Stmt-F, Arm-F, Block-F, If-F, Operand-F}
use Rattle.hs_syntax.specs.declared.exp.Arg.TheOpen as exp
use Rattle.hs_syntax.specs.declared.exp.Arg.TheViews.{roll-Exp, roll-Arg, roll-Else, roll-Postfix, roll-Step, roll-Stmt, roll-Arm, roll-Block, roll-If, roll-Operand}
use Rattle.hs_syntax.specs.declared.exp.Arg.TheFolds.{map-Exp, map-Arg, map-Else, map-Postfix, map-Step, map-Stmt, map-Arm, map-Block, map-If, map-Operand, fold-roll-Exp, fold-roll-Arg, fold-roll-Else, fold-roll-Postfix, fold-roll-Step, fold-roll-Stmt, fold-roll-Arm, fold-roll-Block, fold-roll-If, fold-roll-Operand, ind-Exp, ind-Stmt, ind-Block}
use Rattle.hs_syntax.specs.Height as high
use Rattle.hs_syntax.specs.Height.{height_of, arg_height, else_height, postfix_height, step_height, stmt_height, arm_height, block_height, if_height, operand_height, greatest, chained, above, or_none}
use Rattle.hs_limits.specs.Outline.{Outline, Node, Kind, Surplus, join, node, counted, apart, part, statement, rise, one, all, numbered, chain, height}
use Rattle.hs_limits.specs.Nodes.{word, node_of_ty, ty_layer, optional_ty, pat_layer, node_of_exp, node_of_arg, node_of_else, node_of_postfix, node_of_step, node_of_stmt, node_of_arm, node_of_block, node_of_if, node_of_operand, node_of_path, node_of_arm_pat, node_of_pat, arg_layer, else_layer, exp_layer, postfix_layer, step_layer, stmt_layer, arm_layer, block_layer, if_layer, operand_layer}

fold_max : (h : ℕ) (hs : List ℕ) → fold max h hs ≡ max h (greatest hs)
fold_max h [] = omega arith
fold_max h (k ∷ hs) = let i = fold_max (max h k) hs in let j = fold_max (max 0 k) hs in omega (arith, i, j)

greatest_more : (h : ℕ) (hs : List ℕ) → greatest (h ∷ hs) ≡ max h (greatest hs)
greatest_more h hs = let i = fold_max (max 0 h) hs in omega (arith, i)

abbrev IsArg : Arg → Type 0
IsArg a = height (one (node_of_arg a)) ≡ arg_height a

abbrev IsExp : Exp → Type 0
IsExp e = height (one (node_of_exp e)) ≡ height_of e

abbrev IsPostfix : Postfix → Type 0
IsPostfix p = height (one (node_of_postfix p)) ≡ postfix_height p

abbrev IsElse : Else → Type 0
IsElse e = height (one (node_of_else e)) ≡ else_height e

abbrev IsStep : Step → Type 0
IsStep t = height (one (node_of_step t)) ≡ step_height t

abbrev IsIf : If → Type 0
IsIf i = height (one (node_of_if i)) ≡ if_height i

abbrev IsStmt : Stmt → Type 0
IsStmt s = height (one (node_of_stmt s)) ≡ stmt_height s

abbrev IsArm : Arm → Type 0
IsArm a = height (one (node_of_arm a)) ≡ arm_height a

abbrev IsBlock : Block → Type 0
IsBlock b = height (one (node_of_block b)) ≡ block_height b

abbrev IsOperand : Operand → Type 0
IsOperand o = height (one (node_of_operand o)) ≡ operand_height o

abbrev A : Type 0
A = (a : Arg) × IsArg a

abbrev E : Type 0
E = (e : Exp) × IsExp e

abbrev L : Type 0
L = (e : Else) × IsElse e

abbrev T : Type 0
T = (t : Step) × IsStep t

abbrev I : Type 0
I = (i : If) × IsIf i

abbrev P : Type 0
P = (p : Postfix) × IsPostfix p

abbrev S : Type 0
S = (s : Stmt) × IsStmt s

abbrev R : Type 0
R = (a : Arm) × IsArm a

abbrev B : Type 0
B = (b : Block) × IsBlock b

abbrev O : Type 0
O = (o : Operand) × IsOperand o

-- in a list, where it holds of each
module _ (C : Type 0) (f : C → Node) (h : C → ℕ) where
  abbrev Each : Type 0
  Each = (x : C) × (height (one (f x)) ≡ h x)

  all_heights : (xs : List Each) → height (all (map f (map (λ x. x.0) xs))) ≡ greatest (map h (map (λ x. x.0) xs))
  all_heights [] = refl
  all_heights (x ∷ xs) = let i = all_heights xs in let j = greatest_more (h x.0) (map h (map (λ x. x.0) xs)) in omega (arith, x.1, i, j)

  numbered_heights : (limit : ℕ) (what : Surplus) (i : ℕ) (xs : List Each) → height (numbered limit what i (map f (map (λ x. x.0) xs))) ≡ greatest (map h (map (λ x. x.0) xs))
  numbered_heights limit what i [] = refl
  numbered_heights limit what i (x ∷ xs) = let k = numbered_heights limit what (i + 1) xs in let j = greatest_more (h x.0) (map h (map (λ x. x.0) xs)) in omega (arith, x.1, k, j)

  chain_heights : (at : ℕ) (o : Outline) (n : ℕ) (xs : List Each) → height o ≡ n → height (chain at o (map f (map (λ x. x.0) xs))) ≡ chained n (map h (map (λ x. x.0) xs))
  chain_heights at o n [] e = e
  chain_heights at o n (x ∷ xs) e =
      chain_heights at (node (record { start = at; end = (f x.0).at.end }) counted None (join o (one (f x.0)))) (above n (h x.0)) xs (omega (arith, e, x.1))

word_heights : (at : ℕ) (o : Outline) (n : ℕ) (ss : List Span) → height o ≡ n → height (chain at o (map word ss)) ≡ n + length ss
word_heights at o n [] e = omega (arith, e)
word_heights at o n (s ∷ ss) e =
    let i = word_heights at (node (record { start = at; end = s.end }) counted None (join o (one (word s)))) (suc n) ss (omega (arith, e)) in omega (arith, i)

path_height : (p : Path) → height (one (node_of_path p)) ≡ 0
path_height (path.Name s) = refl
path_height (path.Member s t n) = refl
path_height (path.Of s n t m) = refl

ty_apart : (y : Ty-F Ty) → (ty_layer (map-Ty Ty Node node_of_ty y)).kind ≡ apart
ty_apart (ty.Name s) = refl
ty_apart (ty.Unit s) = refl
ty_apart (ty.Tuple s ts) = refl
ty_apart (ty.Applied s n ts) = refl

ty_height : (t : Ty) → height (one (node_of_ty t)) ≡ 0
ty_height t = ap (λ (k : Kind). rise k (height (node_of_ty t).parts)) (ap (λ (n : Node). n.kind) (fold_out-Ty Node ty_layer t) ∙ ty_apart (out-Ty t))

optional_height : (t : Option Ty) → height (optional_ty t) ≡ 0
optional_height None = refl
optional_height (Some t) = ty_height t

pat_apart : (y : Pat-F Pat) → (pat_layer (map-Pat Pat Node node_of_pat y)).kind ≡ apart
pat_apart (pat.Name s m n) = refl
pat_apart (pat.Any s) = refl
pat_apart (pat.Tuple s ps) = refl
pat_apart (pat.Struct s n ps) = refl

pat_height : (p : Pat) → height (one (node_of_pat p)) ≡ 0
pat_height p = ap (λ (k : Kind). rise k (height (node_of_pat p).parts)) (ap (λ (n : Node). n.kind) (fold_out-Pat Node pat_layer p) ∙ pat_apart (out-Pat p))

arm_pat_height : (p : ArmPat) → height (one (node_of_arm_pat p)) ≡ 0
arm_pat_height (arm_pat.Any s) = refl
arm_pat_height (arm_pat.Ctor s n ps) = refl
arm_pat_height (arm_pat.Member s t n ps) = refl

abbrev exp_inside : Exp-F A L E P T S R B I O → Exp-F Arg Else Exp Postfix Step Stmt Arm Block If Operand
exp_inside y = map-Exp A L E P T S R B I O Arg Else Exp Postfix Step Stmt Arm Block If Operand (λ x. x.0) (λ x. x.0) (λ x. x.0) (λ x. x.0) (λ x. x.0) (λ x. x.0) (λ x. x.0) (λ x. x.0) (λ x. x.0) (λ x. x.0) y

abbrev exp_nodes : Exp-F Arg Else Exp Postfix Step Stmt Arm Block If Operand → Exp-F Node Node Node Node Node Node Node Node Node Node
exp_nodes y = map-Exp Arg Else Exp Postfix Step Stmt Arm Block If Operand Node Node Node Node Node Node Node Node Node Node node_of_arg node_of_else node_of_exp node_of_postfix node_of_step node_of_stmt node_of_arm node_of_block node_of_if node_of_operand y

abbrev exp_heights : Exp-F Arg Else Exp Postfix Step Stmt Arm Block If Operand → Exp-F ℕ ℕ ℕ ℕ ℕ ℕ ℕ ℕ ℕ ℕ
exp_heights y = map-Exp Arg Else Exp Postfix Step Stmt Arm Block If Operand ℕ ℕ ℕ ℕ ℕ ℕ ℕ ℕ ℕ ℕ arg_height else_height height_of postfix_height step_height stmt_height arm_height block_height if_height operand_height y

exp_same : (y : Exp-F A L E P T S R B I O) → height (one (exp_layer (exp_nodes (exp_inside y)))) ≡ high.exp_layer (exp_heights (exp_inside y))
exp_same (exp.Int i) = refl
exp_same (exp.Bool s b) = refl
exp_same (exp.Unit s) = refl
exp_same (exp.Group s e) = ap suc e.1
exp_same (exp.Tuple s es) = ap suc (numbered_heights Exp node_of_exp height_of 12 part 0 es)
exp_same (exp.Path p) = ap suc (path_height p)
exp_same (exp.Call s p as') = let k = path_height p in let l = all_heights Arg node_of_arg arg_height as' in omega (arith, k, l)
exp_same (exp.Block b) = b.1
exp_same (exp.If i) = i.1
exp_same (exp.Match s e as') = let k = all_heights Arm node_of_arm arm_height as' in omega (arith, e.1, k)
exp_same (exp.Post s e ps) = chain_heights Postfix node_of_postfix postfix_height s.start (one (node_of_exp e.0)) (height_of e.0) ps e.1
exp_same (exp.Prefix s o e) = ap suc e.1
exp_same (exp.Cast s e ns) = word_heights s.start (one (node_of_exp e.0)) (height_of e.0) ns e.1
exp_same (exp.Binary s e os) = chain_heights Operand node_of_operand operand_height s.start (one (node_of_exp e.0)) (height_of e.0) os e.1

abbrev arg_inside : Arg-F A L E P T S R B I O → Arg-F Arg Else Exp Postfix Step Stmt Arm Block If Operand
arg_inside y = map-Arg A L E P T S R B I O Arg Else Exp Postfix Step Stmt Arm Block If Operand (λ x. x.0) (λ x. x.0) (λ x. x.0) (λ x. x.0) (λ x. x.0) (λ x. x.0) (λ x. x.0) (λ x. x.0) (λ x. x.0) (λ x. x.0) y

abbrev arg_nodes : Arg-F Arg Else Exp Postfix Step Stmt Arm Block If Operand → Arg-F Node Node Node Node Node Node Node Node Node Node
arg_nodes y = map-Arg Arg Else Exp Postfix Step Stmt Arm Block If Operand Node Node Node Node Node Node Node Node Node Node node_of_arg node_of_else node_of_exp node_of_postfix node_of_step node_of_stmt node_of_arm node_of_block node_of_if node_of_operand y

abbrev arg_heights : Arg-F Arg Else Exp Postfix Step Stmt Arm Block If Operand → Arg-F ℕ ℕ ℕ ℕ ℕ ℕ ℕ ℕ ℕ ℕ
arg_heights y = map-Arg Arg Else Exp Postfix Step Stmt Arm Block If Operand ℕ ℕ ℕ ℕ ℕ ℕ ℕ ℕ ℕ ℕ arg_height else_height height_of postfix_height step_height stmt_height arm_height block_height if_height operand_height y

arg_same : (y : Arg-F A L E P T S R B I O) → height (one (arg_layer (arg_nodes (arg_inside y)))) ≡ high.arg_layer (arg_heights (arg_inside y))
arg_same (exp.Value e) = e.1
arg_same (exp.Shared s e) = e.1
arg_same (exp.Lent s n) = refl
arg_same (exp.List s es) = all_heights Exp node_of_exp height_of es

abbrev postfix_inside : Postfix-F A L E P T S R B I O → Postfix-F Arg Else Exp Postfix Step Stmt Arm Block If Operand
postfix_inside y = map-Postfix A L E P T S R B I O Arg Else Exp Postfix Step Stmt Arm Block If Operand (λ x. x.0) (λ x. x.0) (λ x. x.0) (λ x. x.0) (λ x. x.0) (λ x. x.0) (λ x. x.0) (λ x. x.0) (λ x. x.0) (λ x. x.0) y

abbrev postfix_nodes : Postfix-F Arg Else Exp Postfix Step Stmt Arm Block If Operand → Postfix-F Node Node Node Node Node Node Node Node Node Node
postfix_nodes y = map-Postfix Arg Else Exp Postfix Step Stmt Arm Block If Operand Node Node Node Node Node Node Node Node Node Node node_of_arg node_of_else node_of_exp node_of_postfix node_of_step node_of_stmt node_of_arm node_of_block node_of_if node_of_operand y

abbrev postfix_heights : Postfix-F Arg Else Exp Postfix Step Stmt Arm Block If Operand → Postfix-F ℕ ℕ ℕ ℕ ℕ ℕ ℕ ℕ ℕ ℕ
postfix_heights y = map-Postfix Arg Else Exp Postfix Step Stmt Arm Block If Operand ℕ ℕ ℕ ℕ ℕ ℕ ℕ ℕ ℕ ℕ arg_height else_height height_of postfix_height step_height stmt_height arm_height block_height if_height operand_height y

postfix_same : (y : Postfix-F A L E P T S R B I O) → height (one (postfix_layer (postfix_nodes (postfix_inside y)))) ≡ high.postfix_layer (postfix_heights (postfix_inside y))
postfix_same (exp.Try s) = refl
postfix_same (exp.Method s n as') = let k = all_heights Arg node_of_arg arg_height as' in omega (arith, k)
postfix_same (exp.Step t) = t.1

abbrev else_inside : Else-F A L E P T S R B I O → Else-F Arg Else Exp Postfix Step Stmt Arm Block If Operand
else_inside y = map-Else A L E P T S R B I O Arg Else Exp Postfix Step Stmt Arm Block If Operand (λ x. x.0) (λ x. x.0) (λ x. x.0) (λ x. x.0) (λ x. x.0) (λ x. x.0) (λ x. x.0) (λ x. x.0) (λ x. x.0) (λ x. x.0) y

abbrev else_nodes : Else-F Arg Else Exp Postfix Step Stmt Arm Block If Operand → Else-F Node Node Node Node Node Node Node Node Node Node
else_nodes y = map-Else Arg Else Exp Postfix Step Stmt Arm Block If Operand Node Node Node Node Node Node Node Node Node Node node_of_arg node_of_else node_of_exp node_of_postfix node_of_step node_of_stmt node_of_arm node_of_block node_of_if node_of_operand y

abbrev else_heights : Else-F Arg Else Exp Postfix Step Stmt Arm Block If Operand → Else-F ℕ ℕ ℕ ℕ ℕ ℕ ℕ ℕ ℕ ℕ
else_heights y = map-Else Arg Else Exp Postfix Step Stmt Arm Block If Operand ℕ ℕ ℕ ℕ ℕ ℕ ℕ ℕ ℕ ℕ arg_height else_height height_of postfix_height step_height stmt_height arm_height block_height if_height operand_height y

else_same : (y : Else-F A L E P T S R B I O) → height (one (else_layer (else_nodes (else_inside y)))) ≡ high.else_layer (else_heights (else_inside y))
else_same (exp.Chain i) = i.1
else_same (exp.Last b) = b.1

abbrev step_inside : Step-F A L E P T S R B I O → Step-F Arg Else Exp Postfix Step Stmt Arm Block If Operand
step_inside y = map-Step A L E P T S R B I O Arg Else Exp Postfix Step Stmt Arm Block If Operand (λ x. x.0) (λ x. x.0) (λ x. x.0) (λ x. x.0) (λ x. x.0) (λ x. x.0) (λ x. x.0) (λ x. x.0) (λ x. x.0) (λ x. x.0) y

abbrev step_nodes : Step-F Arg Else Exp Postfix Step Stmt Arm Block If Operand → Step-F Node Node Node Node Node Node Node Node Node Node
step_nodes y = map-Step Arg Else Exp Postfix Step Stmt Arm Block If Operand Node Node Node Node Node Node Node Node Node Node node_of_arg node_of_else node_of_exp node_of_postfix node_of_step node_of_stmt node_of_arm node_of_block node_of_if node_of_operand y

abbrev step_heights : Step-F Arg Else Exp Postfix Step Stmt Arm Block If Operand → Step-F ℕ ℕ ℕ ℕ ℕ ℕ ℕ ℕ ℕ ℕ
step_heights y = map-Step Arg Else Exp Postfix Step Stmt Arm Block If Operand ℕ ℕ ℕ ℕ ℕ ℕ ℕ ℕ ℕ ℕ arg_height else_height height_of postfix_height step_height stmt_height arm_height block_height if_height operand_height y

step_same : (y : Step-F A L E P T S R B I O) → height (one (step_layer (step_nodes (step_inside y)))) ≡ high.step_layer (step_heights (step_inside y))
step_same (exp.Index s e) = e.1
step_same (exp.Part s i) = refl

abbrev if_inside : If-F A L E P T S R B I O → If-F Arg Else Exp Postfix Step Stmt Arm Block If Operand
if_inside y = map-If A L E P T S R B I O Arg Else Exp Postfix Step Stmt Arm Block If Operand (λ x. x.0) (λ x. x.0) (λ x. x.0) (λ x. x.0) (λ x. x.0) (λ x. x.0) (λ x. x.0) (λ x. x.0) (λ x. x.0) (λ x. x.0) y

abbrev if_nodes : If-F Arg Else Exp Postfix Step Stmt Arm Block If Operand → If-F Node Node Node Node Node Node Node Node Node Node
if_nodes y = map-If Arg Else Exp Postfix Step Stmt Arm Block If Operand Node Node Node Node Node Node Node Node Node Node node_of_arg node_of_else node_of_exp node_of_postfix node_of_step node_of_stmt node_of_arm node_of_block node_of_if node_of_operand y

abbrev if_heights : If-F Arg Else Exp Postfix Step Stmt Arm Block If Operand → If-F ℕ ℕ ℕ ℕ ℕ ℕ ℕ ℕ ℕ ℕ
if_heights y = map-If Arg Else Exp Postfix Step Stmt Arm Block If Operand ℕ ℕ ℕ ℕ ℕ ℕ ℕ ℕ ℕ ℕ arg_height else_height height_of postfix_height step_height stmt_height arm_height block_height if_height operand_height y

abbrev SameIf : If-F A L E P T S R B I O → Type 0
SameIf y = height (one (if_layer (if_nodes (if_inside y)))) ≡ high.if_layer (if_heights (if_inside y))

if_case : (s : Span) (c : E) (b : B) (o : Option L) → SameIf (record { span = s; condition = c; then = b; otherwise = o })
if_case s c b None = omega (arith, c.1, b.1)
if_case s c b (Some o) = omega (arith, c.1, b.1, o.1)

if_same : (y : If-F A L E P T S R B I O) → SameIf y
if_same y = if_case y.span y.condition y.then y.otherwise

abbrev stmt_inside : Stmt-F A L E P T S R B I O → Stmt-F Arg Else Exp Postfix Step Stmt Arm Block If Operand
stmt_inside y = map-Stmt A L E P T S R B I O Arg Else Exp Postfix Step Stmt Arm Block If Operand (λ x. x.0) (λ x. x.0) (λ x. x.0) (λ x. x.0) (λ x. x.0) (λ x. x.0) (λ x. x.0) (λ x. x.0) (λ x. x.0) (λ x. x.0) y

abbrev stmt_nodes : Stmt-F Arg Else Exp Postfix Step Stmt Arm Block If Operand → Stmt-F Node Node Node Node Node Node Node Node Node Node
stmt_nodes y = map-Stmt Arg Else Exp Postfix Step Stmt Arm Block If Operand Node Node Node Node Node Node Node Node Node Node node_of_arg node_of_else node_of_exp node_of_postfix node_of_step node_of_stmt node_of_arm node_of_block node_of_if node_of_operand y

abbrev stmt_heights : Stmt-F Arg Else Exp Postfix Step Stmt Arm Block If Operand → Stmt-F ℕ ℕ ℕ ℕ ℕ ℕ ℕ ℕ ℕ ℕ
stmt_heights y = map-Stmt Arg Else Exp Postfix Step Stmt Arm Block If Operand ℕ ℕ ℕ ℕ ℕ ℕ ℕ ℕ ℕ ℕ arg_height else_height height_of postfix_height step_height stmt_height arm_height block_height if_height operand_height y

stmt_same : (y : Stmt-F A L E P T S R B I O) → height (one (stmt_layer (stmt_nodes (stmt_inside y)))) ≡ high.stmt_layer (stmt_heights (stmt_inside y))
stmt_same (exp.Let s p t e) = let k = pat_height p in let l = optional_height t in omega (arith, k, l, e.1)
stmt_same (exp.Assign s t ps o e) = let k = all_heights Step node_of_step step_height ps in omega (arith, k, e.1)
stmt_same (exp.For s x e f b) = omega (arith, e.1, f.1, b.1)
stmt_same (exp.Return s None) = refl
stmt_same (exp.Return s (Some e)) = ap suc e.1
stmt_same (exp.Bare e) = ap suc e.1
stmt_same (exp.Exp s e) = ap suc e.1

abbrev arm_inside : Arm-F A L E P T S R B I O → Arm-F Arg Else Exp Postfix Step Stmt Arm Block If Operand
arm_inside y = map-Arm A L E P T S R B I O Arg Else Exp Postfix Step Stmt Arm Block If Operand (λ x. x.0) (λ x. x.0) (λ x. x.0) (λ x. x.0) (λ x. x.0) (λ x. x.0) (λ x. x.0) (λ x. x.0) (λ x. x.0) (λ x. x.0) y

abbrev arm_nodes : Arm-F Arg Else Exp Postfix Step Stmt Arm Block If Operand → Arm-F Node Node Node Node Node Node Node Node Node Node
arm_nodes y = map-Arm Arg Else Exp Postfix Step Stmt Arm Block If Operand Node Node Node Node Node Node Node Node Node Node node_of_arg node_of_else node_of_exp node_of_postfix node_of_step node_of_stmt node_of_arm node_of_block node_of_if node_of_operand y

abbrev arm_heights : Arm-F Arg Else Exp Postfix Step Stmt Arm Block If Operand → Arm-F ℕ ℕ ℕ ℕ ℕ ℕ ℕ ℕ ℕ ℕ
arm_heights y = map-Arm Arg Else Exp Postfix Step Stmt Arm Block If Operand ℕ ℕ ℕ ℕ ℕ ℕ ℕ ℕ ℕ ℕ arg_height else_height height_of postfix_height step_height stmt_height arm_height block_height if_height operand_height y

arm_same : (y : Arm-F A L E P T S R B I O) → height (one (arm_layer (arm_nodes (arm_inside y)))) ≡ high.arm_layer (arm_heights (arm_inside y))
arm_same a = let k = arm_pat_height a.pattern in omega (arith, k, a.value.1)

abbrev block_inside : Block-F A L E P T S R B I O → Block-F Arg Else Exp Postfix Step Stmt Arm Block If Operand
block_inside y = map-Block A L E P T S R B I O Arg Else Exp Postfix Step Stmt Arm Block If Operand (λ x. x.0) (λ x. x.0) (λ x. x.0) (λ x. x.0) (λ x. x.0) (λ x. x.0) (λ x. x.0) (λ x. x.0) (λ x. x.0) (λ x. x.0) y

abbrev block_nodes : Block-F Arg Else Exp Postfix Step Stmt Arm Block If Operand → Block-F Node Node Node Node Node Node Node Node Node Node
block_nodes y = map-Block Arg Else Exp Postfix Step Stmt Arm Block If Operand Node Node Node Node Node Node Node Node Node Node node_of_arg node_of_else node_of_exp node_of_postfix node_of_step node_of_stmt node_of_arm node_of_block node_of_if node_of_operand y

abbrev block_heights : Block-F Arg Else Exp Postfix Step Stmt Arm Block If Operand → Block-F ℕ ℕ ℕ ℕ ℕ ℕ ℕ ℕ ℕ ℕ
block_heights y = map-Block Arg Else Exp Postfix Step Stmt Arm Block If Operand ℕ ℕ ℕ ℕ ℕ ℕ ℕ ℕ ℕ ℕ arg_height else_height height_of postfix_height step_height stmt_height arm_height block_height if_height operand_height y

abbrev SameBlock : Block-F A L E P T S R B I O → Type 0
SameBlock y = height (one (block_layer (block_nodes (block_inside y)))) ≡ high.block_layer (block_heights (block_inside y))

block_case : (s : Span) (ss : List S) (t : Option E) → SameBlock (record { span = s; statements = ss; tail = t })
block_case s ss None = let k = numbered_heights Stmt node_of_stmt stmt_height 1024 statement 0 ss in omega (arith, k)
block_case s ss (Some t) = let k = numbered_heights Stmt node_of_stmt stmt_height 1024 statement 0 ss in omega (arith, k, t.1)

block_same : (y : Block-F A L E P T S R B I O) → SameBlock y
block_same y = block_case y.span y.statements y.tail

abbrev operand_inside : Operand-F A L E P T S R B I O → Operand-F Arg Else Exp Postfix Step Stmt Arm Block If Operand
operand_inside y = map-Operand A L E P T S R B I O Arg Else Exp Postfix Step Stmt Arm Block If Operand (λ x. x.0) (λ x. x.0) (λ x. x.0) (λ x. x.0) (λ x. x.0) (λ x. x.0) (λ x. x.0) (λ x. x.0) (λ x. x.0) (λ x. x.0) y

abbrev operand_nodes : Operand-F Arg Else Exp Postfix Step Stmt Arm Block If Operand → Operand-F Node Node Node Node Node Node Node Node Node Node
operand_nodes y = map-Operand Arg Else Exp Postfix Step Stmt Arm Block If Operand Node Node Node Node Node Node Node Node Node Node node_of_arg node_of_else node_of_exp node_of_postfix node_of_step node_of_stmt node_of_arm node_of_block node_of_if node_of_operand y

abbrev operand_heights : Operand-F Arg Else Exp Postfix Step Stmt Arm Block If Operand → Operand-F ℕ ℕ ℕ ℕ ℕ ℕ ℕ ℕ ℕ ℕ
operand_heights y = map-Operand Arg Else Exp Postfix Step Stmt Arm Block If Operand ℕ ℕ ℕ ℕ ℕ ℕ ℕ ℕ ℕ ℕ arg_height else_height height_of postfix_height step_height stmt_height arm_height block_height if_height operand_height y

operand_same : (y : Operand-F A L E P T S R B I O) → height (one (operand_layer (operand_nodes (operand_inside y)))) ≡ high.operand_layer (operand_heights (operand_inside y))
operand_same o = o.right.1

exp_level : (y : Exp-F A L E P T S R B I O) → IsExp (roll-Exp (exp_inside y))
exp_level y =
    ap (λ n. height (one n)) (fold-roll-Exp Node Node Node Node Node Node Node Node Node Node arg_layer else_layer exp_layer postfix_layer step_layer stmt_layer arm_layer block_layer if_layer operand_layer (exp_inside y))
    ∙ exp_same y
    ∙ sym (fold-roll-Exp ℕ ℕ ℕ ℕ ℕ ℕ ℕ ℕ ℕ ℕ high.arg_layer high.else_layer high.exp_layer high.postfix_layer high.step_layer high.stmt_layer high.arm_layer high.block_layer high.if_layer high.operand_layer (exp_inside y))

arg_level : (y : Arg-F A L E P T S R B I O) → IsArg (roll-Arg (arg_inside y))
arg_level y =
    ap (λ n. height (one n)) (fold-roll-Arg Node Node Node Node Node Node Node Node Node Node arg_layer else_layer exp_layer postfix_layer step_layer stmt_layer arm_layer block_layer if_layer operand_layer (arg_inside y))
    ∙ arg_same y
    ∙ sym (fold-roll-Arg ℕ ℕ ℕ ℕ ℕ ℕ ℕ ℕ ℕ ℕ high.arg_layer high.else_layer high.exp_layer high.postfix_layer high.step_layer high.stmt_layer high.arm_layer high.block_layer high.if_layer high.operand_layer (arg_inside y))

postfix_level : (y : Postfix-F A L E P T S R B I O) → IsPostfix (roll-Postfix (postfix_inside y))
postfix_level y =
    ap (λ n. height (one n)) (fold-roll-Postfix Node Node Node Node Node Node Node Node Node Node arg_layer else_layer exp_layer postfix_layer step_layer stmt_layer arm_layer block_layer if_layer operand_layer (postfix_inside y))
    ∙ postfix_same y
    ∙ sym (fold-roll-Postfix ℕ ℕ ℕ ℕ ℕ ℕ ℕ ℕ ℕ ℕ high.arg_layer high.else_layer high.exp_layer high.postfix_layer high.step_layer high.stmt_layer high.arm_layer high.block_layer high.if_layer high.operand_layer (postfix_inside y))

else_level : (y : Else-F A L E P T S R B I O) → IsElse (roll-Else (else_inside y))
else_level y =
    ap (λ n. height (one n)) (fold-roll-Else Node Node Node Node Node Node Node Node Node Node arg_layer else_layer exp_layer postfix_layer step_layer stmt_layer arm_layer block_layer if_layer operand_layer (else_inside y))
    ∙ else_same y
    ∙ sym (fold-roll-Else ℕ ℕ ℕ ℕ ℕ ℕ ℕ ℕ ℕ ℕ high.arg_layer high.else_layer high.exp_layer high.postfix_layer high.step_layer high.stmt_layer high.arm_layer high.block_layer high.if_layer high.operand_layer (else_inside y))

step_level : (y : Step-F A L E P T S R B I O) → IsStep (roll-Step (step_inside y))
step_level y =
    ap (λ n. height (one n)) (fold-roll-Step Node Node Node Node Node Node Node Node Node Node arg_layer else_layer exp_layer postfix_layer step_layer stmt_layer arm_layer block_layer if_layer operand_layer (step_inside y))
    ∙ step_same y
    ∙ sym (fold-roll-Step ℕ ℕ ℕ ℕ ℕ ℕ ℕ ℕ ℕ ℕ high.arg_layer high.else_layer high.exp_layer high.postfix_layer high.step_layer high.stmt_layer high.arm_layer high.block_layer high.if_layer high.operand_layer (step_inside y))

if_level : (y : If-F A L E P T S R B I O) → IsIf (roll-If (if_inside y))
if_level y =
    ap (λ n. height (one n)) (fold-roll-If Node Node Node Node Node Node Node Node Node Node arg_layer else_layer exp_layer postfix_layer step_layer stmt_layer arm_layer block_layer if_layer operand_layer (if_inside y))
    ∙ if_same y
    ∙ sym (fold-roll-If ℕ ℕ ℕ ℕ ℕ ℕ ℕ ℕ ℕ ℕ high.arg_layer high.else_layer high.exp_layer high.postfix_layer high.step_layer high.stmt_layer high.arm_layer high.block_layer high.if_layer high.operand_layer (if_inside y))

stmt_level : (y : Stmt-F A L E P T S R B I O) → IsStmt (roll-Stmt (stmt_inside y))
stmt_level y =
    ap (λ n. height (one n)) (fold-roll-Stmt Node Node Node Node Node Node Node Node Node Node arg_layer else_layer exp_layer postfix_layer step_layer stmt_layer arm_layer block_layer if_layer operand_layer (stmt_inside y))
    ∙ stmt_same y
    ∙ sym (fold-roll-Stmt ℕ ℕ ℕ ℕ ℕ ℕ ℕ ℕ ℕ ℕ high.arg_layer high.else_layer high.exp_layer high.postfix_layer high.step_layer high.stmt_layer high.arm_layer high.block_layer high.if_layer high.operand_layer (stmt_inside y))

arm_level : (y : Arm-F A L E P T S R B I O) → IsArm (roll-Arm (arm_inside y))
arm_level y =
    ap (λ n. height (one n)) (fold-roll-Arm Node Node Node Node Node Node Node Node Node Node arg_layer else_layer exp_layer postfix_layer step_layer stmt_layer arm_layer block_layer if_layer operand_layer (arm_inside y))
    ∙ arm_same y
    ∙ sym (fold-roll-Arm ℕ ℕ ℕ ℕ ℕ ℕ ℕ ℕ ℕ ℕ high.arg_layer high.else_layer high.exp_layer high.postfix_layer high.step_layer high.stmt_layer high.arm_layer high.block_layer high.if_layer high.operand_layer (arm_inside y))

block_level : (y : Block-F A L E P T S R B I O) → IsBlock (roll-Block (block_inside y))
block_level y =
    ap (λ n. height (one n)) (fold-roll-Block Node Node Node Node Node Node Node Node Node Node arg_layer else_layer exp_layer postfix_layer step_layer stmt_layer arm_layer block_layer if_layer operand_layer (block_inside y))
    ∙ block_same y
    ∙ sym (fold-roll-Block ℕ ℕ ℕ ℕ ℕ ℕ ℕ ℕ ℕ ℕ high.arg_layer high.else_layer high.exp_layer high.postfix_layer high.step_layer high.stmt_layer high.arm_layer high.block_layer high.if_layer high.operand_layer (block_inside y))

operand_level : (y : Operand-F A L E P T S R B I O) → IsOperand (roll-Operand (operand_inside y))
operand_level y =
    ap (λ n. height (one n)) (fold-roll-Operand Node Node Node Node Node Node Node Node Node Node arg_layer else_layer exp_layer postfix_layer step_layer stmt_layer arm_layer block_layer if_layer operand_layer (operand_inside y))
    ∙ operand_same y
    ∙ sym (fold-roll-Operand ℕ ℕ ℕ ℕ ℕ ℕ ℕ ℕ ℕ ℕ high.arg_layer high.else_layer high.exp_layer high.postfix_layer high.step_layer high.stmt_layer high.arm_layer high.block_layer high.if_layer high.operand_layer (operand_inside y))

pub exp_agrees : (x : Exp) → IsExp x
exp_agrees = ind-Exp IsArg IsElse IsExp IsPostfix IsStep IsStmt IsArm IsBlock IsIf IsOperand
    (λ x y is. subst (λ z. IsArg (roll-Arg z)) is (arg_level y))
    (λ x y is. subst (λ z. IsElse (roll-Else z)) is (else_level y))
    (λ x y is. subst (λ z. IsExp (roll-Exp z)) is (exp_level y))
    (λ x y is. subst (λ z. IsPostfix (roll-Postfix z)) is (postfix_level y))
    (λ x y is. subst (λ z. IsStep (roll-Step z)) is (step_level y))
    (λ x y is. subst (λ z. IsStmt (roll-Stmt z)) is (stmt_level y))
    (λ x y is. subst (λ z. IsArm (roll-Arm z)) is (arm_level y))
    (λ x y is. subst (λ z. IsBlock (roll-Block z)) is (block_level y))
    (λ x y is. subst (λ z. IsIf (roll-If z)) is (if_level y))
    (λ x y is. subst (λ z. IsOperand (roll-Operand z)) is (operand_level y))

pub stmt_agrees : (x : Stmt) → IsStmt x
stmt_agrees = ind-Stmt IsArg IsElse IsExp IsPostfix IsStep IsStmt IsArm IsBlock IsIf IsOperand
    (λ x y is. subst (λ z. IsArg (roll-Arg z)) is (arg_level y))
    (λ x y is. subst (λ z. IsElse (roll-Else z)) is (else_level y))
    (λ x y is. subst (λ z. IsExp (roll-Exp z)) is (exp_level y))
    (λ x y is. subst (λ z. IsPostfix (roll-Postfix z)) is (postfix_level y))
    (λ x y is. subst (λ z. IsStep (roll-Step z)) is (step_level y))
    (λ x y is. subst (λ z. IsStmt (roll-Stmt z)) is (stmt_level y))
    (λ x y is. subst (λ z. IsArm (roll-Arm z)) is (arm_level y))
    (λ x y is. subst (λ z. IsBlock (roll-Block z)) is (block_level y))
    (λ x y is. subst (λ z. IsIf (roll-If z)) is (if_level y))
    (λ x y is. subst (λ z. IsOperand (roll-Operand z)) is (operand_level y))

pub block_agrees : (x : Block) → IsBlock x
block_agrees = ind-Block IsArg IsElse IsExp IsPostfix IsStep IsStmt IsArm IsBlock IsIf IsOperand
    (λ x y is. subst (λ z. IsArg (roll-Arg z)) is (arg_level y))
    (λ x y is. subst (λ z. IsElse (roll-Else z)) is (else_level y))
    (λ x y is. subst (λ z. IsExp (roll-Exp z)) is (exp_level y))
    (λ x y is. subst (λ z. IsPostfix (roll-Postfix z)) is (postfix_level y))
    (λ x y is. subst (λ z. IsStep (roll-Step z)) is (step_level y))
    (λ x y is. subst (λ z. IsStmt (roll-Stmt z)) is (stmt_level y))
    (λ x y is. subst (λ z. IsArm (roll-Arm z)) is (arm_level y))
    (λ x y is. subst (λ z. IsBlock (roll-Block z)) is (block_level y))
    (λ x y is. subst (λ z. IsIf (roll-If z)) is (if_level y))
    (λ x y is. subst (λ z. IsOperand (roll-Operand z)) is (operand_level y))
