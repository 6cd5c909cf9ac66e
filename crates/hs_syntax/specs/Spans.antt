-- The bytes that each node stands for.
use Rattle.hs_syntax.specs.declared.span.Span.{Span}
use Rattle.hs_syntax.specs.declared.ty.Ty.{Ty, out-Ty}
use Rattle.hs_syntax.specs.declared.ty.Ty.TheOpen.{Ty-F}
use Rattle.hs_syntax.specs.declared.ty.Ty.TheOpen as ty
use Rattle.hs_syntax.specs.declared.pat.Pat.{Pat, out-Pat}
use Rattle.hs_syntax.specs.declared.pat.Pat.TheOpen.{Pat-F}
use Rattle.hs_syntax.specs.declared.pat.Pat.TheOpen as pat
use Rattle.hs_syntax.specs.declared.pat.ArmPat.{ArmPat}
use Rattle.hs_syntax.specs.declared.pat.ArmPat.TheVariants as arm_pat
use Rattle.hs_syntax.specs.declared.exp.Path.{Path}
use Rattle.hs_syntax.specs.declared.exp.Path.TheVariants as path
use Rattle.hs_syntax.specs.declared.exp.Variable.{Variable}
use Rattle.hs_syntax.specs.declared.exp.Variable.TheVariants as variable
use Rattle.hs_syntax.specs.declared.exp.Exp.{Exp, out-Exp}
use Rattle.hs_syntax.specs.declared.exp.Arg.TheOpen.{Else-F, Exp-F, Postfix-F, Step-F, Stmt-F}
use Rattle.hs_syntax.specs.declared.exp.Arg.TheOpen as exp
use Rattle.hs_syntax.specs.declared.exp.Else.{Else, out-Else}
use Rattle.hs_syntax.specs.declared.exp.If.{If, out-If}
use Rattle.hs_syntax.specs.declared.exp.Postfix.{Postfix, out-Postfix}
use Rattle.hs_syntax.specs.declared.exp.Step.{Step, out-Step}
use Rattle.hs_syntax.specs.declared.exp.Block.{Block, out-Block}
use Rattle.hs_syntax.specs.declared.exp.Stmt.{Stmt, out-Stmt}

abbrev pub ty_span : {T : Type 0} → Ty-F T → Span
ty_span (ty.Name s) = s
ty_span (ty.Unit s) = s
ty_span (ty.Tuple s ts) = s
ty_span (ty.Applied s n ts) = s

-- of a type
unfoldable pub span_of_ty : Ty → Span
span_of_ty t = ty_span (out-Ty t)

abbrev pub pat_span : {P : Type 0} → Pat-F P → Span
pat_span (pat.Name s m n) = s
pat_span (pat.Any s) = s
pat_span (pat.Tuple s ps) = s
pat_span (pat.Struct s n ps) = s

-- of a pattern
unfoldable pub span_of_pat : Pat → Span
span_of_pat p = pat_span (out-Pat p)

-- of an arm's pattern
unfoldable pub span_of_arm_pat : ArmPat → Span
span_of_arm_pat (arm_pat.Any s) = s
span_of_arm_pat (arm_pat.Ctor s n ps) = s
span_of_arm_pat (arm_pat.Member s t n ps) = s

-- of a path
unfoldable pub span_of_path : Path → Span
span_of_path (path.Name s) = s
span_of_path (path.Member s t n) = s
span_of_path (path.Of s n t m) = s

-- of the variable of a loop
unfoldable pub span_of_variable : Variable → Span
span_of_variable (variable.Name s) = s
span_of_variable (variable.Any s) = s

-- of a block
unfoldable pub span_of_block : Block → Span
span_of_block b = (out-Block b).span

-- of an `if`
unfoldable pub span_of_if : If → Span
span_of_if i = (out-If i).span

abbrev pub else_span : {A L E P T S R O : Type 0} → Else-F A L E P T S R Block If O → Span
else_span (exp.Chain i) = span_of_if i
else_span (exp.Last b) = span_of_block b

-- of what stands behind `else`
unfoldable pub span_of_else : Else → Span
span_of_else e = else_span (out-Else e)

abbrev pub exp_span : {A L E P T S R O : Type 0} → Exp-F A L E P T S R Block If O → Span
exp_span (exp.Int i) = i.span
exp_span (exp.Bool s b) = s
exp_span (exp.Unit s) = s
exp_span (exp.Group s e) = s
exp_span (exp.Tuple s es) = s
exp_span (exp.Path p) = span_of_path p
exp_span (exp.Call s p as') = s
exp_span (exp.Block b) = span_of_block b
exp_span (exp.If i) = span_of_if i
exp_span (exp.Match s e as') = s
exp_span (exp.Post s e ps) = s
exp_span (exp.Prefix s o e) = s
exp_span (exp.Cast s e ns) = s
exp_span (exp.Binary s e os) = s

-- of an expression
unfoldable pub span_of_exp : Exp → Span
span_of_exp e = exp_span (out-Exp e)

abbrev pub step_span : {A L E P T S R B I O : Type 0} → Step-F A L E P T S R B I O → Span
step_span (exp.Index s e) = s
step_span (exp.Part s i) = s

-- of a step
unfoldable pub span_of_step : Step → Span
span_of_step t = step_span (out-Step t)

abbrev pub postfix_span : {A L E P S R B I O : Type 0} → Postfix-F A L E P Step S R B I O → Span
postfix_span (exp.Try s) = s
postfix_span (exp.Method s n as') = s
postfix_span (exp.Step t) = span_of_step t

-- of what stands behind an expression
unfoldable pub span_of_postfix : Postfix → Span
span_of_postfix p = postfix_span (out-Postfix p)

abbrev pub stmt_span : {A L P T S R B I O : Type 0} → Stmt-F A L Exp P T S R B I O → Span
stmt_span (exp.Let s p t e) = s
stmt_span (exp.Assign s t ps o e) = s
stmt_span (exp.For s x e f b) = s
stmt_span (exp.Return s e) = s
stmt_span (exp.Bare e) = span_of_exp e
stmt_span (exp.Exp s e) = s

-- of a statement
unfoldable pub span_of_stmt : Stmt → Span
span_of_stmt s = stmt_span (out-Stmt s)
