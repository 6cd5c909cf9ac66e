-- The nodes that forms make of their parts, with the bytes of each.
use Rattle.std.specs.Prelude.{List, [], ◌∷◌, ◌++◌, Bool, true, false, Option, Some, None}
use Rattle.hs_syntax.specs.declared.span.Span.{Span}
use Rattle.hs_syntax.specs.declared.span.Int.{Int}
use Rattle.hs_syntax.specs.declared.ty.Ty.{Ty}
use Rattle.hs_syntax.specs.declared.ty.Ty.TheVariants as ty
use Rattle.hs_syntax.specs.declared.pat.Pat.{Pat}
use Rattle.hs_syntax.specs.declared.pat.Pat.TheVariants as pat
use Rattle.hs_syntax.specs.declared.pat.ArmPat.{ArmPat}
use Rattle.hs_syntax.specs.declared.pat.ArmPat.TheVariants as arm_pat
use Rattle.hs_syntax.specs.declared.exp.Path.{Path}
use Rattle.hs_syntax.specs.declared.exp.BinaryOp.{BinaryOp}
use Rattle.hs_syntax.specs.declared.exp.BinaryOp.TheVariants as op
use Rattle.hs_syntax.specs.declared.exp.PrefixOp.{PrefixOp}
use Rattle.hs_syntax.specs.declared.exp.PrefixOp.TheVariants as prefix
use Rattle.hs_syntax.specs.declared.exp.Exp.{Exp}
use Rattle.hs_syntax.specs.declared.exp.Exp.TheVariants as exp
use Rattle.hs_syntax.specs.declared.exp.If.{If, roll-If}
use Rattle.hs_syntax.specs.declared.exp.Else.{Else}
use Rattle.hs_syntax.specs.declared.exp.Operand.{Operand, roll-Operand, out-Operand}
use Rattle.hs_syntax.specs.declared.exp.Postfix.{Postfix}
use Rattle.hs_syntax.specs.declared.exp.Arg.{Arg}
use Rattle.hs_syntax.specs.declared.exp.Arm.{Arm, roll-Arm}
use Rattle.hs_syntax.specs.declared.exp.Block.{Block}
use Rattle.hs_syntax.specs.Spans.{span_of_arm_pat, span_of_path, span_of_exp, span_of_else, span_of_postfix, span_of_block}
use Rattle.hs_forms.specs.declared.token.Kind.{Kind}
use Rattle.hs_forms.specs.declared.token.Kind.TheVariants as k
use Rattle.hs_forms.specs.declared.token.Token.{Token}

abbrev pub span_of : Token → Span
span_of t = t.span

abbrev pub int_of : Token → Int
int_of t = record { span = t.span; value = t.value; suffix = t.suffix }

-- from the first byte of the one to the end of the other
abbrev pub across : Span → Span → Span
across a b = record { start = a.start; end = b.end }

-- the last of these, or the first where there are none behind it
abbrev pub last_of : {A : Type 0} → A → List A → A
last_of a [] = a
last_of a (b ∷ bs) = last_of b bs

-- ---- types

-- a tuple's type behind its first item
abbrev pub tuple_ty : Span → Ty → List Ty → Span → Ty
tuple_ty first t ts close = ty.Tuple (across first close) (t ∷ ts)

-- the items of a bracket, the last of which may have been read up to a half of `>>`
abbrev pub all_types : Ty × Bool → List Ty × Option Ty → List Ty × Bool
all_types first (more, None) = (first.0 ∷ more, first.1)
all_types first (more, Some last) = (first.0 ∷ (more ++ last ∷ []), true)

-- ---- patterns

abbrev pub mutable_pat : Span → Span → Pat
mutable_pat word name = pat.Name (across word name) true name

-- a name with patterns behind it, and where their bracket is closed
abbrev pub name_pat : Span → Option (List Pat × Span) → Pat
name_pat name None = pat.Name name false name
name_pat name (Some (ps, close)) = pat.Struct (across name close) name ps

abbrev pub tuple_pat : Span → Pat → List Pat → Span → Pat
tuple_pat first p ps close = pat.Tuple (across first close) (p ∷ ps)

abbrev pub ctor_pat : Span → Option (List Pat × Span) → ArmPat
ctor_pat name None = arm_pat.Ctor name name []
ctor_pat name (Some (ps, close)) = arm_pat.Ctor (across name close) name ps

abbrev pub member_pat : Span → Span → Option (List Pat × Span) → ArmPat
member_pat type_ name None = arm_pat.Member (across type_ name) type_ name []
member_pat type_ name (Some (ps, close)) = arm_pat.Member (across type_ close) type_ name ps

-- ---- expressions

-- the operator between two operands that a token names
abbrev pub op_named : Kind → BinaryOp
op_named k.OrOr = op.Or
op_named k.AndAnd = op.And
op_named k.EqualsEquals = op.Equal
op_named k.NotEquals = op.Differ
op_named k.Less = op.Less
op_named k.LessEquals = op.AtMost
op_named k.Greater = op.Greater
op_named k.GreaterEquals = op.AtLeast
op_named k.Or = op.BitOr
op_named k.Caret = op.BitXor
op_named k.And = op.BitAnd
op_named k.ShiftLeft = op.ShiftLeft
op_named k.ShiftBack = op.ShiftRight
op_named k.Plus = op.Add
op_named k.Minus = op.Subtract
op_named k.Star = op.Multiply
op_named k.Slash = op.Divide
op_named _ = op.Remainder

-- the operator of a compound assignment that a token names, none for `=`
abbrev pub assign_named : Kind → Option BinaryOp
assign_named k.PlusEquals = Some op.Add
assign_named k.MinusEquals = Some op.Subtract
assign_named k.StarEquals = Some op.Multiply
assign_named k.SlashEquals = Some op.Divide
assign_named k.PercentEquals = Some op.Remainder
assign_named k.AndEquals = Some op.BitAnd
assign_named k.OrEquals = Some op.BitOr
assign_named k.CaretEquals = Some op.BitXor
assign_named k.ShiftLeftEquals = Some op.ShiftLeft
assign_named k.ShiftRightEquals = Some op.ShiftRight
assign_named _ = None

-- the prefix that a token names
abbrev pub prefix_named : Kind → PrefixOp
prefix_named k.Minus = prefix.Negate
prefix_named k.Not = prefix.Not
prefix_named _ = prefix.Read

abbrev pub operand_of : BinaryOp → Exp → Operand
operand_of o right = roll-Operand (record { op = o; right = right })

abbrev pub right_of : Operand → Exp
right_of o = (out-Operand o).right

-- an operand with operators and operands behind it
abbrev pub binary_of : Exp → List Operand → Exp
binary_of first [] = first
binary_of first (o ∷ os) = exp.Binary (across (span_of_exp first) (span_of_exp (right_of (last_of o os)))) first (o ∷ os)

-- an expression with names behind `as`
abbrev pub cast_of : Exp → List Span → Exp
cast_of inner [] = inner
cast_of inner (n ∷ ns) = exp.Cast (across (span_of_exp inner) (last_of n ns)) inner (n ∷ ns)

-- an expression with steps behind it
abbrev pub post_of : Exp → List Postfix → Exp
post_of first [] = first
post_of first (p ∷ ps) = exp.Post (across (span_of_exp first) (span_of_postfix (last_of p ps))) first (p ∷ ps)

abbrev pub prefix_of : Token → Exp → Exp
prefix_of t e = exp.Prefix (across t.span (span_of_exp e)) (prefix_named t.kind) e

-- what stands behind the first bracket and the first expression in it
abbrev pub group_of : Span → Exp → Span → Exp
group_of first e close = exp.Group (across first close) e

abbrev pub tuple_of : Span → Exp → List Exp → Span → Exp
tuple_of first e es close = exp.Tuple (across first close) (e ∷ es)

abbrev pub call_of : Path → Option (List Arg × Span) → Exp
call_of p None = exp.Path p
call_of p (Some (as', close)) = exp.Call (across (span_of_path p) close) p as'

-- where an `if` ends: behind what stands behind `else`, or behind its first branch
abbrev pub if_end : Block → Option Else → Span
if_end then None = span_of_block then
if_end then (Some other) = span_of_else other

abbrev pub if_of : Span → Exp → Block → Option Else → If
if_of word test then other = roll-If (record { span = across word (if_end then other); condition = test; then = then; otherwise = other })

abbrev pub match_of : Span → Exp → List Arm → Span → Exp
match_of word e arms close = exp.Match (across word close) e arms

abbrev pub arm_of : ArmPat → Exp → Arm
arm_of p e = roll-Arm (record { span = across (span_of_arm_pat p) (span_of_exp e); pattern = p; value = e })

-- all arms, behind the first
abbrev pub all_arms : Arm → List Arm × Option Arm → List Arm
all_arms first (more, None) = first ∷ more
all_arms first (more, Some last) = first ∷ (more ++ last ∷ [])
