-- The grammar as one token of lookahead reads it.
use Rattle.std.specs.Prelude.{List, [], ◌∷◌, Bool, true, false, Option, Some, None}
use Rattle.hs_grammar.specs.Form.{Rules, rules_of, Form, Pure, Tok, Map, Seq, Split, Alt, Loop, Unless, Grammar}
use Rattle.hs_grammar.specs.Kinds.{has}
use Rattle.hs_grammar.specs.Lookahead.{Tables}
use Rattle.hs_grammar.specs.Combinators.{word, rule, ◌>>◌, ◌<<◌, ◌&◌, optional, star, list_read}
use Rattle.hs_syntax.specs.declared.span.Span.{Span}
use Rattle.hs_syntax.specs.declared.span.Int.{Int}
use Rattle.hs_syntax.specs.declared.ty.Ty.{Ty}
use Rattle.hs_syntax.specs.declared.ty.Ty.TheVariants as ty
use Rattle.hs_syntax.specs.declared.pat.Pat.{Pat}
use Rattle.hs_syntax.specs.declared.pat.Pat.TheVariants as pat
use Rattle.hs_syntax.specs.declared.pat.ArmPat.{ArmPat}
use Rattle.hs_syntax.specs.declared.pat.ArmPat.TheVariants as arm_pat
use Rattle.hs_syntax.specs.declared.exp.Path.{Path}
use Rattle.hs_syntax.specs.declared.exp.Path.TheVariants as path
use Rattle.hs_syntax.specs.declared.exp.Level.{Level}
use Rattle.hs_syntax.specs.declared.exp.Level.TheVariants as level
use Rattle.hs_syntax.specs.declared.exp.BinaryOp.{BinaryOp}
use Rattle.hs_syntax.specs.declared.exp.Target.{Target}
use Rattle.hs_syntax.specs.declared.exp.Variable.{Variable}
use Rattle.hs_syntax.specs.declared.exp.Variable.TheVariants as variable
use Rattle.hs_syntax.specs.declared.exp.Exp.{Exp}
use Rattle.hs_syntax.specs.declared.exp.Exp.TheVariants as exp
use Rattle.hs_syntax.specs.declared.exp.If.{If}
use Rattle.hs_syntax.specs.declared.exp.Else.{Else}
use Rattle.hs_syntax.specs.declared.exp.Else.TheVariants as branch
use Rattle.hs_syntax.specs.declared.exp.Operand.{Operand}
use Rattle.hs_syntax.specs.declared.exp.Step.{Step}
use Rattle.hs_syntax.specs.declared.exp.Step.TheVariants as step
use Rattle.hs_syntax.specs.declared.exp.Postfix.{Postfix}
use Rattle.hs_syntax.specs.declared.exp.Postfix.TheVariants as postfix
use Rattle.hs_syntax.specs.declared.exp.Arg.{Arg}
use Rattle.hs_syntax.specs.declared.exp.Arg.TheVariants as arg
use Rattle.hs_syntax.specs.declared.exp.Arm.{Arm}
use Rattle.hs_syntax.specs.declared.exp.Stmt.{Stmt}
use Rattle.hs_syntax.specs.declared.exp.Block.{Block}
use Rattle.hs_syntax.specs.declared.item.Mode.{Mode}
use Rattle.hs_syntax.specs.declared.item.Mode.TheVariants as mode
use Rattle.hs_syntax.specs.declared.item.Param.{Param}
use Rattle.hs_syntax.specs.declared.item.Ctor.{Ctor}
use Rattle.hs_syntax.specs.declared.item.Item.{Item}
use Rattle.hs_syntax.specs.declared.item.ItemKind.{ItemKind}
use Rattle.hs_syntax.specs.declared.item.ItemKind.TheVariants as item
use Rattle.hs_syntax.specs.Spans.{span_of_ty, span_of_exp, span_of_step, span_of_block}
use Rattle.hs_forms.specs.declared.token.Kind.{Kind}
use Rattle.hs_forms.specs.declared.token.Kind.TheVariants as k
use Rattle.hs_forms.specs.declared.token.Token.{Token}
use Rattle.hs_forms.specs.declared.piece.Piece.{Piece}
use Rattle.hs_forms.specs.declared.piece.Piece.TheVariants as piece
use Rattle.hs_forms.specs.Lexis.{lexis}
use Rattle.hs_forms.specs.Nodes.{span_of, int_of, across, last_of, tuple_ty, all_types, mutable_pat, name_pat, tuple_pat, ctor_pat, member_pat, op_named, assign_named, operand_of, binary_of, cast_of, post_of, prefix_of, group_of, tuple_of, call_of, if_of, match_of, arm_of, all_arms}
use Rattle.hs_forms.specs.Blocks.{is_place, let_of, for_of, return_of, alone_of, exp_stmt_of, assign_of, step_of_piece, step_of, with_tail, block_of}

-- the rules that lead back to themselves
pub data Rule : Type 0 where
  RFile : Rule
  RType : Rule
  -- a type whose last bracket may be closed by the first half of a `>>`
  RMaybe : Rule
  RPat : Rule
  RExp : Rule
  RUnary : Rule
  RBlock : Rule
  -- an `if` behind `else`
  RIf : Rule
  -- a type that lacks its last bracket, as the grammar is written
  ROpen : Rule
  -- a name with indices and parts behind it, and such a place with perhaps a `*` before it, as the grammar is written
  RPlace : Rule
  RPlaced : Rule

-- what each gives: of a type that may be open, whether it is; of one that lacks its bracket, its name and its items
abbrev pub value : Rule → Type 0
value RFile = List Item
value RType = Ty
value RMaybe = Ty × Bool
value RPat = Pat
value RExp = Exp
value RUnary = Exp
value RBlock = Block
value RIf = If
value ROpen = Span × List Ty
value RPlace = Span × List Step
value RPlaced = Target × List Step

abbrev pub rules : Rules
rules = rules_of value

abbrev pub F : Type 0 → Type 1
F = Form lexis rules

-- a token of this kind, by its bytes
abbrev pub at : Kind → F Span
at kind = Tok (kind ∷ []) span_of

-- the kinds of names
abbrev pub name_kinds : List Kind
name_kinds =
    k.Name ∷ k.Array ∷ k.Bytes ∷ k.NatMod ∷ k.HacspecLib ∷ k.Derive ∷ k.TypeName ∷ k.TypeOfCanvas
    ∷ k.BitSizeOfField ∷ k.ModuloValue ∷ []

-- whether a token of this kind is a name
abbrev pub is_name : Kind → Bool
is_name kind = has lexis name_kinds kind

-- NAME
unfoldable pub name : F Span
name = Tok name_kinds span_of

-- INT
unfoldable pub int : F Int
int = Tok (k.Int ∷ k.Digits ∷ []) int_of

abbrev pub comma : F (Unit {0})
comma = word k.Comma

-- ---- types

abbrev pub type_ : F Ty
type_ = rule RType

-- ',' Type, where the last may be open
unfoldable pub next_type : F (Ty × Bool)
next_type = comma >> rule RMaybe

-- (',' Type)*
unfoldable pub next_types : F (List Ty × Option Ty)
next_types = Loop (λ ts last. (ts, last)) (Map step_of next_type)

-- Type (',' Type)*
unfoldable pub types : F (List Ty × Bool)
types = Split (λ first. first.1) all_types (rule RMaybe) (Pure ([], None)) next_types

-- '<' Type (',' Type)*
unfoldable pub angle : F (List Ty × Bool)
angle = word k.Less >> types

abbrev pub applied_of : Span → List Ty → Span → Ty
applied_of n ts close = ty.Applied (across n close) n ts

-- what closes a bracket: '>', or behind an open type the second half of a `>>`
unfoldable pub closed : F (Span → Ty)
closed = Split {C = Span → Ty} (λ ts. ts.1) (λ ts close n. applied_of n ts.0 close) angle (at k.ShiftBack) (at k.Greater)

-- what closes it where the type may be open: the first half of a `>>` as well
unfoldable pub close_maybe : F (Span × Bool)
close_maybe = Alt (Map (λ s. (s, false)) (at k.Greater)) (Map (λ s. (s, true)) (at k.ShiftFront))

unfoldable pub maybe_closed : F (Span → Ty × Bool)
maybe_closed =
    Split {C = Span → Ty × Bool} (λ ts. ts.1) (λ ts close n. (applied_of n ts.0 close.0, close.1)) angle
    (Map (λ s. (s, false)) (at k.ShiftBack)) close_maybe

abbrev pub named_ty : Span → Option (Span → Ty) → Ty
named_ty n None = ty.Name n
named_ty n (Some f) = f n

abbrev pub named_maybe : Span → Option (Span → Ty × Bool) → Ty × Bool
named_maybe n None = (ty.Name n, false)
named_maybe n (Some f) = f n

-- what stands behind '(': ')' | Type ',' list(Type) ')'
unfoldable pub tuple_items : F (Span → Ty)
tuple_items = Seq {C = Span → Ty} (λ t (r : List Ty × Span) o. tuple_ty o t r.0 r.1) type_ (comma >> (list_read comma type_ & at k.RightParenthesis))

unfoldable pub tuple_rest : F (Span → Ty)
tuple_rest = Alt (Map {C = Span → Ty} (λ close o. ty.Unit (across o close)) (at k.RightParenthesis)) tuple_items

-- '(' ')' | '(' Type ',' list(Type) ')'
unfoldable pub bracketed : F Ty
bracketed = Seq (λ o f. f o) (at k.LeftParenthesis) tuple_rest

-- Type
unfoldable pub type_form : F Ty
type_form = Alt bracketed (Seq named_ty name (optional closed))

-- a type that may be open
unfoldable pub maybe_form : F (Ty × Bool)
maybe_form = Alt (Map (λ t. (t, false)) bracketed) (Seq named_maybe name (optional maybe_closed))

-- ---- patterns

abbrev pub pattern : F Pat
pattern = rule RPat

-- '(' list(Pat) ')'
unfoldable pub patterns : F (List Pat × Span)
patterns = word k.LeftParenthesis >> (list_read comma pattern & at k.RightParenthesis)

-- NAME | NAME '(' list(Pat) ')'
unfoldable pub named_pattern : F Pat
named_pattern = Seq name_pat name (optional patterns)

-- 'mut' NAME
unfoldable pub mutable_pattern : F Pat
mutable_pattern = Seq mutable_pat (at k.Mut) name

-- '(' Pat ',' list(Pat) ')'
unfoldable pub tuple_pattern : F Pat
tuple_pattern =
    Seq (λ o (r : Pat × (List Pat × Span)). tuple_pat o r.0 r.1.0 r.1.1) (at k.LeftParenthesis)
    (pattern & (comma >> (list_read comma pattern & at k.RightParenthesis)))

-- Pat
unfoldable pub pat_form : F Pat
pat_form = Alt mutable_pattern (Alt (Map pat.Any (at k.Underscore)) (Alt tuple_pattern named_pattern))

-- '::' NAME ('(' list(Pat) ')')?
unfoldable pub member_pattern : F (Span → ArmPat)
member_pattern = word k.PathSeparator >> Seq {C = Span → ArmPat} (λ n o t. member_pat t n o) name (optional patterns)

-- what stands behind the first name of an arm's pattern
unfoldable pub behind_ctor : F (Span → ArmPat)
behind_ctor = Alt member_pattern (Map {C = Span → ArmPat} (λ o n. ctor_pat n o) (optional patterns))

-- ArmPat
unfoldable pub arm_pattern : F ArmPat
arm_pattern = Alt (Map arm_pat.Any (at k.Underscore)) (Seq (λ n f. f n) name behind_ctor)

-- ---- expressions

abbrev pub expression : F Exp
expression = rule RExp

abbrev pub block : F Block
block = rule RBlock

-- what closes the type of a path
unfoldable pub path_type : F Ty
path_type = word k.Less >> Split (λ t. t.1) (λ (t : Ty × Bool) _. t.0) (rule RMaybe) (word k.ShiftBack) (word k.Greater)

-- '<' Type '>' '::' NAME
unfoldable pub path_of_type : F (Span → Path)
path_of_type = Seq {C = Span → Path} (λ t m n. path.Of (across n m) n t m) path_type (word k.PathSeparator >> name)

-- what stands behind '::'
unfoldable pub behind_separator : F (Span → Path)
behind_separator = Alt path_of_type (Map {C = Span → Path} (λ m n. path.Member (across n m) n m) name)

abbrev pub named_path : Span → Option (Span → Path) → Path
named_path n None = path.Name n
named_path n (Some f) = f n

-- Path
unfoldable pub path_form : F Path
path_form = Seq named_path name (optional (word k.PathSeparator >> behind_separator))

-- what stands behind '&' in an argument
unfoldable pub lent : F (Span → Arg)
lent = Alt (word k.Mut >> Map {C = Span → Arg} (λ n s. arg.Lent (across s n) n) name) (Map {C = Span → Arg} (λ e s. arg.Shared (across s (span_of_exp e)) e) expression)

-- '&' Exp | '&' 'mut' NAME
unfoldable pub lent_arg : F Arg
lent_arg = Seq (λ s f. f s) (at k.And) lent

-- '[' list(Exp) ']'
unfoldable pub list_arg : F Arg
list_arg =
    Seq (λ o (r : List Exp × Span). arg.List (across o r.1) r.0) (at k.LeftBracket) (list_read comma expression & at k.RightBracket)

-- Arg
unfoldable pub arg_form : F Arg
arg_form = Alt lent_arg (Alt list_arg (Map arg.Value expression))

-- what stands behind '(': ')' | list(Arg) ')'
unfoldable pub args_rest : F (List Arg × Span)
args_rest = Alt (Map (λ close. ([], close)) (at k.RightParenthesis)) (list_read comma arg_form & at k.RightParenthesis)

-- '(' list(Arg)? ')'
unfoldable pub args : F (List Arg × Span)
args = word k.LeftParenthesis >> args_rest

-- Path ('(' list(Arg)? ')')?
unfoldable pub call_form : F Exp
call_form = Seq call_of path_form (optional args)

-- what stands behind '(' Exp: ')' | ',' list(Exp) ')'
unfoldable pub behind_first : F (Span → Exp → Exp)
behind_first =
    Alt (Map {C = Span → Exp → Exp} (λ close o e. group_of o e close) (at k.RightParenthesis))
    (comma >> Map {C = Span → Exp → Exp} (λ r o e. tuple_of o e r.0 r.1) (list_read comma expression & at k.RightParenthesis))

-- what stands behind '('
unfoldable pub grouped_rest : F (Span → Exp)
grouped_rest =
    Alt (Map {C = Span → Exp} (λ close o. exp.Unit (across o close)) (at k.RightParenthesis)) (Seq {C = Span → Exp} (λ e f o. f o e) expression behind_first)

-- '(' ')' | '(' Exp ')' | '(' Exp ',' list(Exp) ')'
unfoldable pub grouped : F Exp
grouped = Seq (λ o f. f o) (at k.LeftParenthesis) grouped_rest

-- what stands behind 'else': If | Block
unfoldable pub else_branch : F Else
else_branch = Alt (Map branch.Chain (rule RIf)) (Map branch.Last block)

-- ('else' (If | Block))?
unfoldable pub else_form : F (Option Else)
else_form = optional (word k.Else >> else_branch)

-- If
unfoldable pub if_form : F If
if_form = Seq (λ s (r : Exp × (Block × Option Else)). if_of s r.0 r.1.0 r.1.1) (at k.If) (expression & (block & else_form))

-- Block ','?
unfoldable pub block_value : F (Exp × Bool)
block_value = Map (λ b. (exp.Block b, false)) (block << optional comma)

abbrev pub closed_value : Exp → Option (Unit {0}) → Exp × Bool
closed_value e None = (e, true)
closed_value e (Some c) = (e, false)

-- Exp ','?, which does not begin with '{'
unfoldable pub exp_value : F (Exp × Bool)
exp_value = Seq closed_value (Unless (k.LeftBrace ∷ []) expression) (optional comma)

abbrev pub arm_turn : ArmPat → Exp × Bool → Arm × Bool
arm_turn p v = (arm_of p v.0, v.1)

-- an arm, and whether it is the last, since no ',' stands behind its expression
unfoldable pub arm_form : F (Arm × Bool)
arm_form = Seq arm_turn arm_pattern (word k.FatArrow >> Alt block_value exp_value)

unfoldable pub next_arms : F (List Arm × Option Arm)
next_arms = Loop (λ as' last. (as', last)) (Map step_of arm_form)

abbrev pub arms_of : Arm × Bool → List Arm × Option Arm → List Arm
arms_of first more = all_arms first.0 more

-- Arm+
unfoldable pub arms : F (List Arm)
arms = Split (λ first. first.1) arms_of arm_form (Pure ([], None)) next_arms

-- Match
unfoldable pub match_form : F Exp
match_form =
    Seq (λ s (r : Exp × (List Arm × Span)). match_of s r.0 r.1.0 r.1.1) (at k.Match)
    (expression & (word k.LeftBrace >> (arms & at k.RightBrace)))

abbrev pub bool_of : Bool → Token → Exp
bool_of b t = exp.Bool t.span b

-- INT | 'true' | 'false'
unfoldable pub literal : F Exp
literal = Alt (Map exp.Int int) (Alt (Tok (k.True ∷ []) (bool_of true)) (Tok (k.False ∷ []) (bool_of false)))

-- If | Match | Block
unfoldable pub alone : F Exp
alone = Alt (Map exp.If if_form) (Alt match_form (Map exp.Block block))

-- Prim
unfoldable pub prim : F Exp
prim = Alt literal (Alt grouped (Alt call_form alone))

-- NAME '(' list(Arg)? ')', behind '.'
unfoldable pub method : F (Span → Postfix)
method = Seq {C = Span → Postfix} (λ n r s. postfix.Method (across s r.1) n r.0) name args

-- what stands behind '.'
unfoldable pub behind_dot : F (Span → Postfix)
behind_dot = Alt (Map {C = Span → Postfix} (λ i s. postfix.Step (step.Part (across s i.span) i)) (Tok (k.Digits ∷ []) int_of)) method

-- '[' Exp ']'
unfoldable pub index : F Step
index = Seq (λ o (r : Exp × Span). step.Index (across o r.1) r.0) (at k.LeftBracket) (expression & at k.RightBracket)

-- '?' | '.' NAME '(' list(Arg)? ')' | Step
unfoldable pub postfix_form : F Postfix
postfix_form = Alt (Map postfix.Try (at k.Question)) (Alt (Seq (λ s f. f s) (at k.Dot) behind_dot) (Map postfix.Step index))

-- Post
unfoldable pub post : F Exp
post = Seq post_of prim (star postfix_form)

-- Unary
unfoldable pub unary : F Exp
unary = Alt (Seq prefix_of (Tok (k.Minus ∷ k.Not ∷ k.Star ∷ []) (λ t. t)) (rule RUnary)) post

-- Cast
unfoldable pub cast : F Exp
cast = Seq cast_of unary (star (word k.As >> name))

abbrev pub op_of : Token → BinaryOp
op_of t = op_named t.kind

-- the operators of a level of binding strength
unfoldable pub operator : Level → F BinaryOp
operator level.Product = Tok (k.Star ∷ k.Slash ∷ k.Percent ∷ []) op_of
operator level.Sum = Tok (k.Plus ∷ k.Minus ∷ []) op_of
operator level.Shift = Alt (Tok (k.ShiftLeft ∷ []) op_of) (word k.ShiftFront >> Tok (k.ShiftBack ∷ []) op_of)
operator level.BitAnd = Tok (k.And ∷ []) op_of
operator level.BitXor = Tok (k.Caret ∷ []) op_of
operator level.BitOr = Tok (k.Or ∷ []) op_of
operator level.Compare = Tok (k.EqualsEquals ∷ k.NotEquals ∷ k.Less ∷ k.LessEquals ∷ k.Greater ∷ k.GreaterEquals ∷ []) op_of
operator level.And = Tok (k.AndAnd ∷ []) op_of
operator level.Or = Tok (k.OrOr ∷ []) op_of

-- an operator of the level, and its right operand
unfoldable pub operand : Level → F Exp → F Operand
operand l below = Seq operand_of (operator l) below

abbrev pub one_or_none : {A : Type 0} → Option A → List A
one_or_none None = []
one_or_none (Some a) = a ∷ []

-- any number of them; of a comparison at most one
unfoldable pub operands : Level → F Exp → F (List Operand)
operands level.Compare below = Map one_or_none (optional (operand level.Compare below))
operands l below = star (operand l below)

-- all levels, from the weakest on
abbrev pub levels : List Level
levels =
    level.Or ∷ level.And ∷ level.Compare ∷ level.BitOr ∷ level.BitXor ∷ level.BitAnd ∷ level.Shift ∷ level.Sum
    ∷ level.Product ∷ []

-- the expressions whose operators are of these levels, the weakest of which comes first
unfoldable pub binary : List Level → F Exp
binary [] = cast
binary (l ∷ ls) = Seq binary_of (binary ls) (operands l (binary ls))

-- ---- statements and blocks

-- 'let' Pat (':' Type)? '=' Exp ';'
unfoldable pub let_form : F Piece
let_form =
    Seq (λ s (r : Pat × (Option Ty × (Exp × Span))). piece.Statement (let_of s r.0 r.1.0 r.1.1.0 r.1.1.1)) (at k.Let)
    (pattern & (optional (word k.Colon >> type_) & (word k.Equals >> (expression & at k.Semicolon))))

-- NAME | '_'
unfoldable pub loop_variable : F Variable
loop_variable = Alt (Map variable.Any (at k.Underscore)) (Map variable.Name name)

-- 'for' (NAME | '_') 'in' Exp '..' Exp Block
unfoldable pub for_form : F Piece
for_form =
    Seq (λ s (r : Variable × (Exp × (Exp × Block))). piece.Statement (for_of s r.0 r.1.0 r.1.1.0 r.1.1.1)) (at k.For)
    (loop_variable & (word k.In >> (expression & (word k.DotDot >> (expression & block)))))

-- what stands behind 'return': ';' | Exp ';'
unfoldable pub returned : F (Option Exp × Span)
returned = Alt (Map (λ close. (None, close)) (at k.Semicolon)) (Map (λ e. Some e) expression & at k.Semicolon)

-- 'return' Exp? ';'
unfoldable pub return_form : F Piece
return_form = Seq (λ s (r : Option Exp × Span). piece.Statement (return_of s r.0 r.1)) (at k.Return) returned

-- (If | Match | Block) ';'?
unfoldable pub alone_form : F Piece
alone_form = Seq (λ e o. piece.Statement (alone_of e o)) alone (optional (at k.Semicolon))

abbrev pub assign_kinds : List Kind
assign_kinds =
    k.Equals ∷ k.PlusEquals ∷ k.MinusEquals ∷ k.StarEquals ∷ k.SlashEquals ∷ k.PercentEquals ∷ k.AndEquals
    ∷ k.OrEquals ∷ k.CaretEquals ∷ k.ShiftLeftEquals ∷ k.ShiftRightEquals ∷ []

-- AssignOp
unfoldable pub assign_op : F (Option BinaryOp)
assign_op = Tok assign_kinds (λ t. assign_named t.kind)

-- AssignOp Exp ';'
unfoldable pub assigned : F (Exp → Piece)
assigned =
    Seq {C = Exp → Piece} (λ o r e. piece.Statement (assign_of e o r.0 r.1)) assign_op (expression & at k.Semicolon)

-- ';', or nothing behind the tail
unfoldable pub finished : F (Exp → Piece)
finished = Alt (Map {C = Exp → Piece} (λ close e. piece.Statement (exp_stmt_of e close)) (at k.Semicolon)) (Pure (λ e. piece.Tail e))

-- what stands behind a place
unfoldable pub behind_place : F (Exp → Piece)
behind_place = Alt assigned finished

-- what begins with an expression that does not stand alone
unfoldable pub exp_form : F Piece
exp_form =
    Unless (k.LeftBrace ∷ k.If ∷ k.Match ∷ []) (Split is_place (λ e f. f e) expression behind_place finished)

-- a statement, or the tail
unfoldable pub piece_form : F Piece
piece_form = Alt let_form (Alt for_form (Alt return_form (Alt alone_form exp_form)))

-- Stmt* Exp?
unfoldable pub pieces : F (List Stmt × Option Exp)
pieces = Loop (λ ss e. (ss, e)) (Map step_of_piece piece_form)

-- Block
unfoldable pub block_form : F Block
block_form =
    Seq (λ o (r : (List Stmt × Option Exp) × Span). block_of o r.0 r.1) (at k.LeftBrace) (Map with_tail pieces & at k.RightBrace)

-- ---- items

-- 'mut' NAME ':' Type
unfoldable pub mutable_param : F Param
mutable_param =
    Seq (λ s (r : Span × Ty). record { span = across s (span_of_ty r.1); mode = mode.Mut; name = r.0; ty = r.1 }) (at k.Mut)
    (name & (word k.Colon >> type_))

abbrev pub lent_mode : Option (Unit {0}) → Mode
lent_mode None = mode.Shared
lent_mode (Some m) = mode.Lent

-- '&' 'mut'? Type
unfoldable pub lent_type : F (Mode × Ty)
lent_type = word k.And >> (Map lent_mode (optional (word k.Mut)) & type_)

-- what stands behind ':' in a parameter
unfoldable pub mode_type : F (Mode × Ty)
mode_type = Alt lent_type (Map (λ t. (mode.Value, t)) type_)

-- NAME ':' Type | NAME ':' '&' 'mut'? Type
unfoldable pub named_param : F Param
named_param =
    Seq (λ n (r : Mode × Ty). record { span = across n (span_of_ty r.1); mode = r.0; name = n; ty = r.1 }) name
    (word k.Colon >> mode_type)

-- Param
unfoldable pub param : F Param
param = Alt mutable_param named_param

-- '(' list(Type) ')'
unfoldable pub parts : F (List Ty × Span)
parts = word k.LeftParenthesis >> (list_read comma type_ & at k.RightParenthesis)

abbrev pub ctor_of : Span → Option (List Ty × Span) → Ctor
ctor_of n None = record { span = n; name = n; parts = [] }
ctor_of n (Some (ts, close)) = record { span = across n close; name = n; parts = ts }

-- Ctor
unfoldable pub ctor : F Ctor
ctor = Seq ctor_of name (optional parts)

-- what an item declares, and its bytes without `pub` and derive list
abbrev pub Declared : Type 0
Declared = ItemKind × Span

-- 'const' NAME ':' Type '=' Exp ';'
unfoldable pub const_form : F Declared
const_form =
    Seq (λ s (r : Span × (Ty × (Exp × Span))). (item.Const r.0 r.1.0 r.1.1.0, across s r.1.1.1)) (at k.Const)
    (name & (word k.Colon >> (type_ & (word k.Equals >> (expression & at k.Semicolon)))))

-- 'type' NAME '=' Type ';'
unfoldable pub alias_form : F Declared
alias_form =
    Seq (λ s (r : Span × (Ty × Span)). (item.Alias r.0 r.1.0, across s r.1.1)) (at k.Type)
    (name & (word k.Equals >> (type_ & at k.Semicolon)))

-- 'struct' NAME '(' list(Type) ')' ';'
unfoldable pub struct_form : F Declared
struct_form =
    Seq (λ s (r : Span × ((List Ty × Span) × Span)). (item.Struct r.0 r.1.0.0, across s r.1.1)) (at k.Struct)
    (name & (parts & at k.Semicolon))

-- 'enum' NAME '{' list(Ctor) '}'
unfoldable pub enum_form : F Declared
enum_form =
    Seq (λ s (r : Span × (List Ctor × Span)). (item.Enum r.0 r.1.0, across s r.1.1)) (at k.Enum)
    (name & (word k.LeftBrace >> (list_read comma ctor & at k.RightBrace)))

-- what stands behind '(' in a function: ')' | list(Param) ')'
unfoldable pub params_rest : F (List Param)
params_rest = Alt (Map (λ _. []) (word k.RightParenthesis)) (list_read comma param << word k.RightParenthesis)

-- '(' list(Param)? ')'
unfoldable pub params : F (List Param)
params = word k.LeftParenthesis >> params_rest

-- ('->' Type)?
unfoldable pub result_type : F (Option Ty)
result_type = optional (word k.Arrow >> type_)

-- 'fn' NAME '(' list(Param)? ')' ('->' Type)? Block
unfoldable pub fn_form : F Declared
fn_form =
    Seq (λ s (r : Span × (List Param × (Option Ty × Block))). (item.Fn r.0 r.1.0 r.1.1.0 r.1.1.1, across s (span_of_block r.1.1.1))) (at k.Fn)
    (name & (params & (result_type & block)))

-- what may have a derive list
unfoldable pub data_form : F Declared
data_form = Alt struct_form enum_form

-- what may have 'pub'
unfoldable pub declaration : F Declared
declaration = Alt const_form (Alt alias_form (Alt fn_form data_form))

-- '[' 'derive' '(' list(NAME) ')' ']'
unfoldable pub derive_names : F (List Span)
derive_names =
    word k.LeftBracket >> (word k.Derive >> (word k.LeftParenthesis >>
    (list_read comma name << (word k.RightParenthesis >> word k.RightBracket))))

abbrev pub item_of : Span → List Span → Declared → Item
item_of first names d = record { span = across first d.1; derives = names; kind = d.0 }

-- an item with a derive list, which begins with its '#'
unfoldable pub derived_item : F Item
derived_item =
    Seq (λ s (r : List Span × Declared). item_of s r.0 r.1) (at k.Hash) (derive_names & (optional (word k.Pub) >> data_form))

-- an item with 'pub'
unfoldable pub public_item : F Item
public_item = Seq (λ s d. item_of s [] d) (at k.Pub) declaration

-- an item without
unfoldable pub plain_item : F Item
plain_item = Map (λ (d : Declared). item_of d.1 [] d) declaration

-- 'use' 'hacspec_lib' '::' '*' ';'
unfoldable pub use_form : F Declared
use_form =
    Seq (λ s close. (item.Use, across s close)) (at k.Use)
    (word k.HacspecLib >> (word k.PathSeparator >> (word k.Star >> at k.Semicolon)))

-- 'array' '!' '(' NAME ',' INT ',' Type ')' ';'
unfoldable pub array_form : F Declared
array_form =
    Seq (λ s (r : Span × (Int × (Ty × Span))). (item.Array r.0 r.1.0 r.1.1.0, across s r.1.1.1)) (at k.Array)
    (word k.Not >> (word k.LeftParenthesis >> (name & (comma >> (int & (comma >> (type_ & (word k.RightParenthesis >> at k.Semicolon))))))))

-- 'bytes' '!' '(' NAME ',' INT ')' ';'
unfoldable pub bytes_form : F Declared
bytes_form =
    Seq (λ s (r : Span × (Int × Span)). (item.Bytes r.0 r.1.0, across s r.1.1)) (at k.Bytes)
    (word k.Not >> (word k.LeftParenthesis >> (name & (comma >> (int & (word k.RightParenthesis >> at k.Semicolon))))))

-- 'type_name' ':' NAME ',' 'type_of_canvas' ':' NAME ','
unfoldable pub nat_mod_names : F (Span × Span)
nat_mod_names =
    word k.TypeName >> (word k.Colon >> (name & (comma >> (word k.TypeOfCanvas >> (word k.Colon >> (name << comma))))))

-- 'bit_size_of_field' ':' INT ',' 'modulo_value' ':' STRING
unfoldable pub nat_mod_values : F (Int × Span)
nat_mod_values =
    word k.BitSizeOfField >> (word k.Colon >> (int & (comma >> (word k.ModuloValue >> (word k.Colon >> at k.Text)))))

-- 'nat_mod' '!' '(' 'type_name' ':' NAME ',' 'type_of_canvas' ':' NAME ',' 'bit_size_of_field' ':' INT ',' 'modulo_value' ':' STRING ')' ';'
unfoldable pub nat_mod_form : F Declared
nat_mod_form =
    Seq (λ s (r : (Span × Span) × ((Int × Span) × Span)). (item.NatMod r.0.0 r.0.1 r.1.0.0 r.1.0.1, across s r.1.1)) (at k.NatMod)
    (word k.Not >> (word k.LeftParenthesis >> (nat_mod_names & (nat_mod_values & (word k.RightParenthesis >> at k.Semicolon)))))

-- what never has 'pub' nor a derive list
unfoldable pub other_item : F Item
other_item = Map (λ (d : Declared). item_of d.1 [] d) (Alt use_form (Alt array_form (Alt bytes_form nat_mod_form)))

-- Item
unfoldable pub item_form : F Item
item_form = Alt derived_item (Alt public_item (Alt other_item plain_item))

-- File
unfoldable pub file_form : F (List Item)
file_form = star item_form

-- ---- what only the written grammar refers to

-- NAME '<' Type (',' Type)*
unfoldable pub open_form : F (Span × List Ty)
open_form = name & (word k.Less >> (Seq (λ t ts. t ∷ ts) type_ (star (comma >> type_))))

-- '[' Exp ']' | '.' INT
unfoldable pub step_form : F Step
step_form = Alt index (Seq (λ s i. step.Part (across s i.span) i) (at k.Dot) (Tok (k.Digits ∷ []) int_of))

-- NAME Step*
unfoldable pub place_form : F (Span × List Step)
place_form = name & star step_form

abbrev pub steps_end : Span → List Step → Span
steps_end n [] = n
steps_end n (t ∷ ts) = span_of_step (last_of t ts)

abbrev pub plain_target : Span × List Step → Target × List Step
plain_target (n, ts) = (record { span = across n (steps_end n ts); star = false; name = n }, ts)

abbrev pub starred_target : Span → Span × List Step → Target × List Step
starred_target s (n, ts) = (record { span = across s (steps_end n ts); star = true; name = n }, ts)

-- '*'? NAME Step*
unfoldable pub placed_form : F (Target × List Step)
placed_form = Alt (Seq starred_target (at k.Star) (rule RPlace)) (Map plain_target place_form)

-- ---- the grammar

abbrev pub grammar : Grammar lexis rules
grammar RFile = file_form
grammar RType = type_form
grammar RMaybe = maybe_form
grammar RPat = pat_form
grammar RExp = binary levels
grammar RUnary = unary
grammar RBlock = block_form
grammar RIf = if_form
grammar ROpen = open_form
grammar RPlace = place_form
grammar RPlaced = placed_form

-- ---- what is said of each rule

abbrev pub rule_empty : Rule → Bool
rule_empty RFile = true
rule_empty RType = false
rule_empty RMaybe = false
rule_empty RPat = false
rule_empty RExp = false
rule_empty RUnary = false
rule_empty RBlock = false
rule_empty RIf = false
rule_empty ROpen = false
rule_empty RPlace = false
rule_empty RPlaced = false

abbrev pub item_kinds : List Kind
item_kinds =
    k.Hash ∷ k.Pub ∷ k.Use ∷ k.Array ∷ k.Bytes ∷ k.NatMod ∷ k.Const ∷ k.Type ∷ k.Fn ∷ k.Struct ∷ k.Enum ∷ []

abbrev pub type_kinds : List Kind
type_kinds = k.LeftParenthesis ∷ name_kinds

abbrev pub pat_kinds : List Kind
pat_kinds = k.Mut ∷ k.Underscore ∷ k.LeftParenthesis ∷ name_kinds

abbrev pub exp_kinds : List Kind
exp_kinds =
    k.Minus ∷ k.Not ∷ k.Star ∷ k.Int ∷ k.Digits ∷ k.True ∷ k.False ∷ k.LeftParenthesis ∷ k.If ∷ k.Match
    ∷ k.LeftBrace ∷ name_kinds

-- what may stand behind an operand that could be over
abbrev pub unary_more : List Kind
unary_more = k.Question ∷ k.Dot ∷ k.LeftBracket ∷ k.LeftParenthesis ∷ k.PathSeparator ∷ k.Else ∷ []

abbrev pub exp_more : List Kind
exp_more =
    k.OrOr ∷ k.AndAnd ∷ k.EqualsEquals ∷ k.NotEquals ∷ k.Less ∷ k.LessEquals ∷ k.Greater ∷ k.GreaterEquals ∷ k.Or
    ∷ k.Caret ∷ k.And ∷ k.ShiftLeft ∷ k.ShiftFront ∷ k.Plus ∷ k.Minus ∷ k.Star ∷ k.Slash ∷ k.Percent ∷ k.As ∷ unary_more

abbrev pub rule_begin : Rule → List Kind
rule_begin RFile = item_kinds
rule_begin RType = type_kinds
rule_begin RMaybe = type_kinds
rule_begin RPat = pat_kinds
rule_begin RExp = exp_kinds
rule_begin RUnary = exp_kinds
rule_begin RBlock = k.LeftBrace ∷ []
rule_begin RIf = k.If ∷ []
rule_begin ROpen = name_kinds
rule_begin RPlace = name_kinds
rule_begin RPlaced = k.Star ∷ name_kinds

abbrev pub rule_go_on : Rule → List Kind
rule_go_on RFile = item_kinds
rule_go_on RType = k.Less ∷ []
rule_go_on RMaybe = k.Less ∷ []
rule_go_on RPat = k.LeftParenthesis ∷ []
rule_go_on RExp = exp_more
rule_go_on RUnary = unary_more
rule_go_on RBlock = []
rule_go_on RIf = k.Else ∷ []
rule_go_on ROpen = k.Comma ∷ k.Less ∷ []
rule_go_on RPlace = k.LeftBracket ∷ k.Dot ∷ []
rule_go_on RPlaced = k.LeftBracket ∷ k.Dot ∷ []

abbrev pub tables : Tables lexis rules
tables = record { empty = rule_empty; begin = rule_begin; go_on = rule_go_on }
