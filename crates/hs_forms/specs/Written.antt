-- The grammar of the source language as it is written: the language's definition.
use Rattle.std.specs.Prelude.{List, [], ◌∷◌, ◌++◌, Bool, true, false, Option, Some, None}
use Rattle.hs_grammar.specs.Form.{Tok, Map, Seq, Alt, Unless, Grammar}
use Rattle.hs_grammar.specs.Combinators.{word, rule, ◌>>◌, ◌<<◌, ◌&◌, optional, star, plus, separated, list}
use Rattle.hs_syntax.specs.declared.span.Span.{Span}
use Rattle.hs_syntax.specs.declared.ty.Ty.{Ty}
use Rattle.hs_syntax.specs.declared.ty.Ty.TheVariants as ty
use Rattle.hs_syntax.specs.declared.pat.Pat.{Pat}
use Rattle.hs_syntax.specs.declared.pat.Pat.TheVariants as pat
use Rattle.hs_syntax.specs.declared.pat.ArmPat.{ArmPat}
use Rattle.hs_syntax.specs.declared.pat.ArmPat.TheVariants as arm_pat
use Rattle.hs_syntax.specs.declared.exp.Path.{Path}
use Rattle.hs_syntax.specs.declared.exp.Path.TheVariants as path
use Rattle.hs_syntax.specs.declared.exp.Level.TheVariants as level
use Rattle.hs_syntax.specs.declared.exp.BinaryOp.{BinaryOp}
use Rattle.hs_syntax.specs.declared.exp.Target.{Target}
use Rattle.hs_syntax.specs.declared.exp.Variable.{Variable}
use Rattle.hs_syntax.specs.declared.exp.Exp.{Exp}
use Rattle.hs_syntax.specs.declared.exp.Exp.TheVariants as exp
use Rattle.hs_syntax.specs.declared.exp.Postfix.{Postfix}
use Rattle.hs_syntax.specs.declared.exp.Postfix.TheVariants as postfix
use Rattle.hs_syntax.specs.declared.exp.Step.{Step}
use Rattle.hs_syntax.specs.declared.exp.Arg.{Arg}
use Rattle.hs_syntax.specs.declared.exp.Arg.TheVariants as arg
use Rattle.hs_syntax.specs.declared.exp.Arm.{Arm}
use Rattle.hs_syntax.specs.declared.exp.Stmt.{Stmt}
use Rattle.hs_syntax.specs.declared.exp.Stmt.TheVariants as stmt
use Rattle.hs_syntax.specs.declared.exp.Block.{Block}
use Rattle.hs_syntax.specs.declared.item.Mode.TheVariants as mode
use Rattle.hs_syntax.specs.declared.item.Param.{Param}
use Rattle.hs_syntax.specs.declared.item.Ctor.{Ctor}
use Rattle.hs_syntax.specs.declared.item.Item.{Item}
use Rattle.hs_syntax.specs.declared.item.ItemKind.TheVariants as item
use Rattle.hs_syntax.specs.Spans.{span_of_ty, span_of_exp, span_of_block}
use Rattle.hs_forms.specs.declared.token.Kind.TheVariants as k
use Rattle.hs_forms.specs.Lexis.{lexis}
use Rattle.hs_forms.specs.Nodes.{across, tuple_ty, tuple_pat, binary_of, operand_of, cast_of, post_of, prefix_of, group_of, tuple_of, call_of, match_of, arm_of}
use Rattle.hs_forms.specs.Blocks.{let_of, for_of, return_of, alone_of, exp_stmt_of, with_tail, block_of}
use Rattle.hs_forms.specs.Reading.{RFile, RType, RMaybe, RPat, RExp, RUnary, RBlock, RIf, ROpen, RPlace, RPlaced, rules, F, at, name, comma, type_, applied_of, pattern, expression, block, if_form, literal, operator, one_or_none, step_form, loop_variable, assign_op, lent_mode, ctor_of, Declared, const_form, alias_form, result_type, item_of, use_form, array_form, bytes_form, nat_mod_form, open_form, place_form, placed_form}

-- the items of a list that may be missing
abbrev pub or_empty : {A : Type 0} → Option (List A) → List A
or_empty None = []
or_empty (Some as') = as'

-- ---- types

abbrev pub open_ty : Span × List Ty → Span → Ty
open_ty o close = applied_of o.0 o.1 close

-- Open '>', where '>' is the first half of a '>>'
unfoldable pub opened : F Ty
opened = Seq open_ty (rule ROpen) (at k.ShiftFront)

-- '(' ')'
unfoldable pub unit_type : F Ty
unit_type = Seq (λ o close. ty.Unit (across o close)) (at k.LeftParenthesis) (at k.RightParenthesis)

-- '(' Type ',' list(Type) ')'
unfoldable pub tuple_type : F Ty
tuple_type =
    Seq (λ o (r : Ty × (List Ty × Span)). tuple_ty o r.0 r.1.0 r.1.1) (at k.LeftParenthesis)
    (type_ & (comma >> (list comma type_ & at k.RightParenthesis)))

-- NAME '<' list1(Type) '>'
unfoldable pub applied_type : F Ty
applied_type =
    Seq (λ n (r : List Ty × Span). applied_of n r.0 r.1) name (word k.Less >> (separated comma type_ & at k.Greater))

-- NAME '<' (Type ',')* Open '>>'
unfoldable pub applied_open : F Ty
applied_open =
    Seq (λ n (r : List Ty × (Ty × Span)). applied_of n (r.0 ++ r.1.0 ∷ []) r.1.1) name
    (word k.Less >> (star (type_ << comma) & (opened & at k.ShiftBack)))

-- Type ::= NAME | '(' ')' | '(' Type ',' list(Type) ')' | NAME '<' list1(Type) '>' | NAME '<' (Type ',')* Open '>>'
unfoldable pub written_type : F Ty
written_type = Alt (Map ty.Name name) (Alt unit_type (Alt tuple_type (Alt applied_type applied_open)))

-- Type | Open '>', where '>' is the first half of a '>>', and whether it is that; no other rule refers to it
unfoldable pub written_maybe : F (Ty × Bool)
written_maybe =
    Alt (Map (λ t. (t, false)) written_type) (Seq (λ (o : Span × List Ty) close. (open_ty o close, true)) open_form (at k.ShiftFront))

-- ---- patterns

abbrev pub maybe_mutable : Option Span → Span → Pat
maybe_mutable None n = pat.Name n false n
maybe_mutable (Some s) n = pat.Name (across s n) true n

-- '(' list(Pat) ')'
unfoldable pub written_patterns : F (List Pat × Span)
written_patterns = word k.LeftParenthesis >> (list comma pattern & at k.RightParenthesis)

-- Pat ::= 'mut'? NAME | '_' | '(' Pat ',' list(Pat) ')' | NAME '(' list(Pat) ')'
unfoldable pub written_pat : F Pat
written_pat =
    Alt (Seq maybe_mutable (optional (at k.Mut)) name) (Alt (Map pat.Any (at k.Underscore))
    (Alt (Seq (λ o (r : Pat × (List Pat × Span)). tuple_pat o r.0 r.1.0 r.1.1) (at k.LeftParenthesis)
    (pattern & (comma >> (list comma pattern & at k.RightParenthesis))))
    (Seq (λ n (r : List Pat × Span). pat.Struct (across n r.1) n r.0) name written_patterns)))

abbrev pub member_of : Span → Span → Option (List Pat × Span) → ArmPat
member_of t n None = arm_pat.Member (across t n) t n []
member_of t n (Some r) = arm_pat.Member (across t r.1) t n r.0

-- ArmPat ::= '_' | NAME | NAME '(' list(Pat) ')' | NAME '::' NAME ('(' list(Pat) ')')?
unfoldable pub written_arm_pat : F ArmPat
written_arm_pat =
    Alt (Map arm_pat.Any (at k.Underscore)) (Alt (Map (λ n. arm_pat.Ctor n n []) name)
    (Alt (Seq (λ n (r : List Pat × Span). arm_pat.Ctor (across n r.1) n r.0) name written_patterns)
    (Seq (λ t (r : Span × Option (List Pat × Span)). member_of t r.0 r.1) name (word k.PathSeparator >> (name & optional written_patterns)))))

-- ---- expressions

-- NAME '::' '<' Type '>' '::' NAME
unfoldable pub path_of : F Path
path_of =
    Seq (λ n (r : Ty × Span). path.Of (across n r.1) n r.0 r.1) name
    (word k.PathSeparator >> (word k.Less >> ((type_ << word k.Greater) & (word k.PathSeparator >> name))))

-- NAME '::' '<' Open '>>' '::' NAME
unfoldable pub path_of_open : F Path
path_of_open =
    Seq (λ n (r : Ty × Span). path.Of (across n r.1) n r.0 r.1) name
    (word k.PathSeparator >> (word k.Less >> ((opened << word k.ShiftBack) & (word k.PathSeparator >> name))))

-- Path ::= NAME | NAME '::' NAME | NAME '::' '<' Type '>' '::' NAME | NAME '::' '<' Open '>>' '::' NAME
unfoldable pub written_path : F Path
written_path =
    Alt (Map path.Name name)
    (Alt (Seq (λ n m. path.Member (across n m) n m) name (word k.PathSeparator >> name)) (Alt path_of path_of_open))

-- Arg ::= Exp | '&' Exp | '&' 'mut' NAME | '[' list(Exp) ']'
unfoldable pub written_arg : F Arg
written_arg =
    Alt (Map arg.Value expression) (Alt (Seq (λ s e. arg.Shared (across s (span_of_exp e)) e) (at k.And) expression)
    (Alt (Seq (λ s n. arg.Lent (across s n) n) (at k.And) (word k.Mut >> name))
    (Seq (λ o (r : List Exp × Span). arg.List (across o r.1) r.0) (at k.LeftBracket) (list comma expression & at k.RightBracket))))

-- '(' list(Arg)? ')'
unfoldable pub written_args : F (List Arg × Span)
written_args = word k.LeftParenthesis >> (Map or_empty (optional (list comma written_arg)) & at k.RightParenthesis)

-- ArmPat '=>' (Block ','? | Exp ','), where Exp does not begin with '{'
unfoldable pub written_arm : F Arm
written_arm =
    Seq arm_of written_arm_pat
    (word k.FatArrow >> Alt (Map exp.Block (block << optional comma)) (Unless (k.LeftBrace ∷ []) expression << comma))

-- ArmPat '=>' Exp, where Exp does not begin with '{'
unfoldable pub last_arm : F Arm
last_arm = Seq arm_of written_arm_pat (word k.FatArrow >> Unless (k.LeftBrace ∷ []) expression)

-- Arm+, or Arm* and an arm with an expression and no comma
unfoldable pub written_arms : F (List Arm)
written_arms = Alt (plus written_arm) (Seq (λ as' a. as' ++ a ∷ []) (star written_arm) last_arm)

-- Match ::= 'match' Exp '{' Arm+ '}', where the comma after the last Exp is optional
unfoldable pub written_match : F Exp
written_match =
    Seq (λ s (r : Exp × (List Arm × Span)). match_of s r.0 r.1.0 r.1.1) (at k.Match)
    (expression & (word k.LeftBrace >> (written_arms & at k.RightBrace)))

-- If | Match | Block
unfoldable pub written_alone : F Exp
written_alone = Alt (Map exp.If if_form) (Alt written_match (Map exp.Block block))

-- '(' ')' | '(' Exp ')' | '(' Exp ',' list(Exp) ')'
unfoldable pub written_grouped : F Exp
written_grouped =
    Alt (Seq (λ o close. exp.Unit (across o close)) (at k.LeftParenthesis) (at k.RightParenthesis))
    (Alt (Seq (λ o (r : Exp × Span). group_of o r.0 r.1) (at k.LeftParenthesis) (expression & at k.RightParenthesis))
    (Seq (λ o (r : Exp × (List Exp × Span)). tuple_of o r.0 r.1.0 r.1.1) (at k.LeftParenthesis)
    (expression & (comma >> (list comma expression & at k.RightParenthesis)))))

-- Path ('(' list(Arg)? ')')?
unfoldable pub written_call : F Exp
written_call = Seq call_of written_path (optional written_args)

-- Prim ::= INT | 'true' | 'false' | '(' ')' | '(' Exp ')' | '(' Exp ',' list(Exp) ')' | Path ('(' list(Arg)? ')')? | Block | If | Match
unfoldable pub written_prim : F Exp
written_prim = Alt literal (Alt written_grouped (Alt written_call (Alt (Map exp.Block block) (Alt (Map exp.If if_form) written_match))))

-- '?' | '.' NAME '(' list(Arg)? ')' | Step
unfoldable pub written_postfix : F Postfix
written_postfix =
    Alt (Map postfix.Try (at k.Question))
    (Alt (Seq (λ s (r : Span × (List Arg × Span)). postfix.Method (across s r.1.1) r.0 r.1.0) (at k.Dot) (name & written_args)) (Map postfix.Step step_form))

-- Post ::= Prim ('?' | '.' NAME '(' list(Arg)? ')' | Step)*
unfoldable pub written_post : F Exp
written_post = Seq post_of written_prim (star written_postfix)

-- Unary ::= ('-' | '!' | '*') Unary | Post
unfoldable pub written_unary : F Exp
written_unary = Alt (Seq prefix_of (Tok (k.Minus ∷ k.Not ∷ k.Star ∷ []) (λ t. t)) (rule RUnary)) written_post

-- Cast ::= Unary ('as' NAME)*
unfoldable pub written_cast : F Exp
written_cast = Seq cast_of written_unary (star (word k.As >> name))

-- operands with operators between
abbrev pub chain_of : F BinaryOp → F Exp → F Exp
chain_of o operand = Seq binary_of operand (star (Seq operand_of o operand))

-- Prod ::= Cast (('*' | '/' | '%') Cast)*
unfoldable pub written_product : F Exp
written_product = chain_of (operator level.Product) written_cast

-- Sum ::= Prod (('+' | '-') Prod)*
unfoldable pub written_sum : F Exp
written_sum = chain_of (operator level.Sum) written_product

-- Shift ::= Sum (('<<' | '>>') Sum)*
unfoldable pub written_shift : F Exp
written_shift = chain_of (operator level.Shift) written_sum

-- Band ::= Shift ('&' Shift)*
unfoldable pub written_bit_and : F Exp
written_bit_and = chain_of (operator level.BitAnd) written_shift

-- Bxor ::= Band ('^' Band)*
unfoldable pub written_bit_xor : F Exp
written_bit_xor = chain_of (operator level.BitXor) written_bit_and

-- Bor ::= Bxor ('|' Bxor)*
unfoldable pub written_bit_or : F Exp
written_bit_or = chain_of (operator level.BitOr) written_bit_xor

-- Cmp ::= Bor (('==' | '!=' | '<' | '<=' | '>' | '>=') Bor)?
unfoldable pub written_comparison : F Exp
written_comparison = Seq binary_of written_bit_or (Map one_or_none (optional (Seq operand_of (operator level.Compare) written_bit_or)))

-- And ::= Cmp ('&&' Cmp)*
unfoldable pub written_and : F Exp
written_and = chain_of (operator level.And) written_comparison

-- Exp ::= Or, Or ::= And ('||' And)*
unfoldable pub written_exp : F Exp
written_exp = chain_of (operator level.Or) written_and

-- ---- statements and blocks

-- 'let' Pat (':' Type)? '=' Exp ';'
unfoldable pub let_stmt : F Stmt
let_stmt =
    Seq (λ s (r : Pat × (Option Ty × (Exp × Span))). let_of s r.0 r.1.0 r.1.1.0 r.1.1.1) (at k.Let)
    (pattern & (optional (word k.Colon >> type_) & (word k.Equals >> (expression & at k.Semicolon))))

-- '*'? NAME Step* AssignOp Exp ';'
unfoldable pub assign_stmt : F Stmt
assign_stmt =
    Seq (λ (p : Target × List Step) (r : Option BinaryOp × (Exp × Span)). stmt.Assign (across p.0.span r.1.1) p.0 p.1 r.0 r.1.0)
    (rule RPlaced) (assign_op & (expression & at k.Semicolon))

-- 'for' (NAME | '_') 'in' Exp '..' Exp Block
unfoldable pub for_stmt : F Stmt
for_stmt =
    Seq (λ s (r : Variable × (Exp × (Exp × Block))). for_of s r.0 r.1.0 r.1.1.0 r.1.1.1) (at k.For)
    (loop_variable & (word k.In >> (expression & (word k.DotDot >> (expression & block)))))

-- 'return' Exp? ';'
unfoldable pub return_stmt : F Stmt
return_stmt = Seq (λ s (r : Option Exp × Span). return_of s r.0 r.1) (at k.Return) (optional expression & at k.Semicolon)

-- (If | Match | Block) ';'?
unfoldable pub alone_stmt : F Stmt
alone_stmt = Seq alone_of written_alone (optional (at k.Semicolon))

-- Exp ';', which does not begin with '{', 'if' or 'match'
unfoldable pub exp_stmt : F Stmt
exp_stmt = Unless (k.LeftBrace ∷ k.If ∷ k.Match ∷ []) (Seq exp_stmt_of expression (at k.Semicolon))

-- Stmt
unfoldable pub written_stmt : F Stmt
written_stmt = Alt let_stmt (Alt assign_stmt (Alt for_stmt (Alt return_stmt (Alt alone_stmt exp_stmt))))

-- the expression at a block's end, which does not begin with '{', 'if' or 'match'
unfoldable pub tail_exp : F Exp
tail_exp = Unless (k.LeftBrace ∷ k.If ∷ k.Match ∷ []) expression

-- Block ::= '{' Stmt* Exp? '}', where an 'if', a 'match' or a block directly before the '}' is the Exp
unfoldable pub written_block : F Block
written_block =
    Seq (λ o (r : (List Stmt × Option Exp) × Span). block_of o r.0 r.1) (at k.LeftBrace)
    (Map with_tail (star written_stmt & optional tail_exp) & at k.RightBrace)

-- ---- items

abbrev pub mode_of : Option Span → Span → Ty → Param
mode_of None n t = record { span = across n (span_of_ty t); mode = mode.Value; name = n; ty = t }
mode_of (Some s) n t = record { span = across s (span_of_ty t); mode = mode.Mut; name = n; ty = t }

-- Param ::= 'mut'? NAME ':' Type | NAME ':' '&' 'mut'? Type
unfoldable pub written_param : F Param
written_param =
    Alt (Seq (λ m (r : Span × Ty). mode_of m r.0 r.1) (optional (at k.Mut)) (name & (word k.Colon >> type_)))
    (Seq (λ n (r : Option (Unit {0}) × Ty). record { span = across n (span_of_ty r.1); mode = lent_mode r.0; name = n; ty = r.1 }) name
    (word k.Colon >> (word k.And >> (optional (word k.Mut) & type_))))

-- '(' list(Type) ')'
unfoldable pub written_parts : F (List Ty × Span)
written_parts = word k.LeftParenthesis >> (list comma type_ & at k.RightParenthesis)

-- Ctor ::= NAME ('(' list(Type) ')')?
unfoldable pub written_ctor : F Ctor
written_ctor = Seq ctor_of name (optional written_parts)

-- 'struct' NAME '(' list(Type) ')' ';'
unfoldable pub written_struct : F Declared
written_struct =
    Seq (λ s (r : Span × ((List Ty × Span) × Span)). (item.Struct r.0 r.1.0.0, across s r.1.1)) (at k.Struct)
    (name & (written_parts & at k.Semicolon))

-- 'enum' NAME '{' list(Ctor) '}'
unfoldable pub written_enum : F Declared
written_enum =
    Seq (λ s (r : Span × (List Ctor × Span)). (item.Enum r.0 r.1.0, across s r.1.1)) (at k.Enum)
    (name & (word k.LeftBrace >> (list comma written_ctor & at k.RightBrace)))

-- '(' list(Param)? ')'
unfoldable pub written_params : F (List Param)
written_params = word k.LeftParenthesis >> (Map or_empty (optional (list comma written_param)) << word k.RightParenthesis)

-- 'fn' NAME '(' list(Param)? ')' ('->' Type)? Block
unfoldable pub written_fn : F Declared
written_fn =
    Seq (λ s (r : Span × (List Param × (Option Ty × Block))). (item.Fn r.0 r.1.0 r.1.1.0 r.1.1.1, across s (span_of_block r.1.1.1))) (at k.Fn)
    (name & (written_params & (result_type & block)))

-- Derive ::= '#' '[' 'derive' '(' list(NAME) ')' ']', where it begins, and the names
unfoldable pub derive_list : F (Span × List Span)
derive_list =
    at k.Hash & (word k.LeftBracket >> (word k.Derive >> (word k.LeftParenthesis >>
    (list comma name << (word k.RightParenthesis >> word k.RightBracket)))))

abbrev pub public_of : Option Span → Declared → Item
public_of None d = item_of d.1 [] d
public_of (Some s) d = item_of s [] d

abbrev pub derived_of : Option (Span × List Span) → Option Span → Declared → Item
derived_of None p d = public_of p d
derived_of (Some l) p d = item_of l.0 l.1 d

-- an item that never has 'pub'
abbrev pub bare : F Declared → F Item
bare f = Map (λ (d : Declared). item_of d.1 [] d) f

-- 'pub'? and an item
abbrev pub public : F Declared → F Item
public f = Seq public_of (optional (at k.Pub)) f

-- Derive? 'pub'? and an item
abbrev pub derived : F Declared → F Item
derived f = Seq (λ l (r : Option Span × Declared). derived_of l r.0 r.1) (optional derive_list) (optional (at k.Pub) & f)

-- Item
unfoldable pub written_item : F Item
written_item =
    Alt (bare use_form) (Alt (public const_form) (Alt (public alias_form) (Alt (derived written_struct) (Alt (derived written_enum)
    (Alt (public written_fn) (Alt (bare array_form) (Alt (bare bytes_form) (bare nat_mod_form))))))))

-- File ::= Item*
unfoldable pub written_file : F (List Item)
written_file = star written_item

-- ---- the grammar

abbrev pub written : Grammar lexis rules
written RFile = written_file
written RType = written_type
written RMaybe = written_maybe
written RPat = written_pat
written RExp = written_exp
written RUnary = written_unary
written RBlock = written_block
written RIf = if_form
written ROpen = open_form
written RPlace = place_form
written RPlaced = placed_form
