-- Statements and the blocks that are made of them.
use Rattle.std.specs.Prelude.{List, [], ◌∷◌, Bool, true, false, Option, Some, None}
use Rattle.hs_grammar.specs.Form.{Step as Turn, More, Last}
use Rattle.hs_syntax.specs.declared.span.Span.{Span}
use Rattle.hs_syntax.specs.declared.ty.Ty.{Ty}
use Rattle.hs_syntax.specs.declared.pat.Pat.{Pat}
use Rattle.hs_syntax.specs.declared.exp.Path.{Path}
use Rattle.hs_syntax.specs.declared.exp.Path.TheVariants as path
use Rattle.hs_syntax.specs.declared.exp.BinaryOp.{BinaryOp}
use Rattle.hs_syntax.specs.declared.exp.PrefixOp.{PrefixOp}
use Rattle.hs_syntax.specs.declared.exp.PrefixOp.TheVariants as prefix
use Rattle.hs_syntax.specs.declared.exp.Target.{Target}
use Rattle.hs_syntax.specs.declared.exp.Variable.{Variable}
use Rattle.hs_syntax.specs.declared.exp.Arg.TheOpen.{Exp-F, Postfix-F, Stmt-F}
use Rattle.hs_syntax.specs.declared.exp.Arg.TheOpen as layer
use Rattle.hs_syntax.specs.declared.exp.Exp.{Exp, out-Exp}
use Rattle.hs_syntax.specs.declared.exp.Postfix.{Postfix, out-Postfix}
use Rattle.hs_syntax.specs.declared.exp.Step.{Step}
use Rattle.hs_syntax.specs.declared.exp.Stmt.{Stmt, out-Stmt}
use Rattle.hs_syntax.specs.declared.exp.Stmt.TheVariants as stmt
use Rattle.hs_syntax.specs.declared.exp.Block.{Block, roll-Block}
use Rattle.hs_syntax.specs.Spans.{span_of_exp, span_of_block}
use Rattle.hs_forms.specs.declared.piece.Piece.{Piece}
use Rattle.hs_forms.specs.declared.piece.Piece.TheVariants as piece
use Rattle.hs_forms.specs.Nodes.{across}

-- ---- places

abbrev pub step_layer : {A L E P S R B I O : Type 0} → Postfix-F A L E P Step S R B I O → Option Step
step_layer (layer.Try s) = None
step_layer (layer.Method s n as') = None
step_layer (layer.Step t) = Some t

-- the index or the part that stands behind an expression
unfoldable pub step_in : Postfix → Option Step
step_in p = step_layer (out-Postfix p)

-- one more step before others
abbrev pub and_steps : Option Step → Option (List Step) → Option (List Step)
and_steps None ts = None
and_steps (Some t) None = None
and_steps (Some t) (Some ts) = Some (t ∷ ts)

-- what stands behind an expression, where all of it is indices and parts
abbrev pub all_steps : List Postfix → Option (List Step)
all_steps [] = Some []
all_steps (p ∷ ps) = and_steps (step_in p) (all_steps ps)

abbrev pub name_in_path : Path → Option Span
name_in_path (path.Name s) = Some s
name_in_path _ = None

abbrev pub name_layer : {A L E P T S R B I O : Type 0} → Exp-F A L E P T S R B I O → Option Span
name_layer (layer.Path p) = name_in_path p
name_layer _ = None

-- the name that an expression is
unfoldable pub name_in : Exp → Option Span
name_in e = name_layer (out-Exp e)

-- a name with steps behind it, where it is a name and they are steps
abbrev pub stepped : Option Span → Option (List Step) → Option (Span × List Step)
stepped None ts = None
stepped (Some n) None = None
stepped (Some n) (Some ts) = Some (n, ts)

abbrev pub steps_layer : {A L T S R B I O : Type 0} → Exp-F A L Exp Postfix T S R B I O → Option (Span × List Step)
steps_layer (layer.Path p) = stepped (name_in_path p) (Some [])
steps_layer (layer.Post s e ps) = stepped (name_in e) (all_steps ps)
steps_layer _ = None

-- the name and the steps that an expression is
unfoldable pub steps_in : Exp → Option (Span × List Step)
steps_in e = steps_layer (out-Exp e)

abbrev pub target_of : Span → Bool → Option (Span × List Step) → Option (Target × List Step)
target_of whole star None = None
target_of whole star (Some (n, ts)) = Some (record { span = whole; star = star; name = n }, ts)

abbrev pub starred : Span → PrefixOp → Exp → Option (Target × List Step)
starred s prefix.Read e = target_of s true (steps_in e)
starred s prefix.Negate e = None
starred s prefix.Not e = None

abbrev pub place_layer : {A L P T S R B I O : Type 0} → Exp → Exp-F A L Exp P T S R B I O → Option (Target × List Step)
place_layer whole (layer.Prefix s o e) = starred s o e
place_layer whole _ = target_of (span_of_exp whole) false (steps_in whole)

-- the place that an expression is: a name with indices and parts behind it, and perhaps a `*` before it
unfoldable pub place_in : Exp → Option (Target × List Step)
place_in e = place_layer e (out-Exp e)

abbrev pub is_some : {A : Type 0} → Option A → Bool
is_some None = false
is_some (Some a) = true

unfoldable pub is_place : Exp → Bool
is_place e = is_some (place_in e)

-- ---- statements

abbrev pub let_of : Span → Pat → Option Ty → Exp → Span → Stmt
let_of word p t e close = stmt.Let (across word close) p t e

abbrev pub for_of : Span → Variable → Exp → Exp → Block → Stmt
for_of word x low high body = stmt.For (across word (span_of_block body)) x low high body

abbrev pub return_of : Span → Option Exp → Span → Stmt
return_of word e close = stmt.Return (across word close) e

-- an `if`, a `match` or a block with or without `;`
abbrev pub alone_of : Exp → Option Span → Stmt
alone_of e None = stmt.Bare e
alone_of e (Some close) = stmt.Exp (across (span_of_exp e) close) e

-- an expression and its `;`
abbrev pub exp_stmt_of : Exp → Span → Stmt
exp_stmt_of e close = stmt.Exp (across (span_of_exp e) close) e

abbrev pub assign_to : Exp → Option (Target × List Step) → Option BinaryOp → Exp → Span → Stmt
assign_to e None o right close = exp_stmt_of e close
assign_to e (Some (t, ts)) o right close = stmt.Assign (across t.span close) t ts o right

-- an assignment to the place that an expression is
abbrev pub assign_of : Exp → Option BinaryOp → Exp → Span → Stmt
assign_of e o right close = assign_to e (place_in e) o right close

-- ---- blocks

-- a piece as a turn of a loop
abbrev pub step_of_piece : Piece → Turn Stmt Exp
step_of_piece (piece.Statement s) = More s
step_of_piece (piece.Tail e) = Last e

-- something, and whether it was the last, as a turn of a loop
abbrev pub step_of : {A : Type 0} → A × Bool → Turn A A
step_of (a, true) = Last a
step_of (a, false) = More a

abbrev pub bare_layer : {A L P T S R B I O : Type 0} → Stmt-F A L Exp P T S R B I O → Option Exp
bare_layer (layer.Bare e) = Some e
bare_layer _ = None

-- the `if`, `match` or block that stands alone as a statement
unfoldable pub bare_in : Stmt → Option Exp
bare_in s = bare_layer (out-Stmt s)

-- a last statement is the tail where it stands alone
abbrev pub ending : Stmt → Option Exp → List Stmt × Option Exp
ending s None = (s ∷ [], None)
ending s (Some e) = ([], Some e)

-- the last of these statements is the tail where it stands alone
abbrev pub split_tail : List Stmt → List Stmt × Option Exp
split_tail [] = ([], None)
split_tail (s ∷ []) = ending s (bare_in s)
split_tail (s ∷ (t ∷ ss)) = (s ∷ (split_tail (t ∷ ss)).0, (split_tail (t ∷ ss)).1)

-- an `if`, a `match` or a block directly before the end is the tail
abbrev pub with_tail : List Stmt × Option Exp → List Stmt × Option Exp
with_tail (ss, Some e) = (ss, Some e)
with_tail (ss, None) = split_tail ss

abbrev pub block_of : Span → List Stmt × Option Exp → Span → Block
block_of first body close = roll-Block (record { span = across first close; statements = body.0; tail = body.1 })
