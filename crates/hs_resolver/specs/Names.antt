-- What the names in each form of a tree stand for, and which of them break a rule.
use Rattle.std.specs.Prelude.{ℕ, suc, List, [], ◌∷◌, ◌++◌, map, Bool, true, false, ◌&&◌, length, Option, option_map, if◌then◌else◌}
use Rattle.hs_base.specs.declared.rule.Rule.TheVariants.{N1, N2, N3, N4, N5, N6, N10, S3}
use Rattle.hs_syntax.specs.declared.span.Span.{Span}
use Rattle.hs_syntax.specs.declared.ty.Ty.{Ty, fold-Ty}
use Rattle.hs_syntax.specs.declared.ty.Ty.TheOpen.{Ty-F}
use Rattle.hs_syntax.specs.declared.ty.Ty.TheOpen as ty
use Rattle.hs_syntax.specs.declared.pat.Pat.{Pat, fold-Pat}
use Rattle.hs_syntax.specs.declared.pat.Pat.TheOpen.{Pat-F}
use Rattle.hs_syntax.specs.declared.pat.Pat.TheOpen as pat
use Rattle.hs_syntax.specs.declared.pat.ArmPat.{ArmPat}
use Rattle.hs_syntax.specs.declared.pat.ArmPat.TheVariants as arm_pat
use Rattle.hs_syntax.specs.declared.exp.Path.{Path}
use Rattle.hs_syntax.specs.declared.exp.Path.TheVariants as path
use Rattle.hs_syntax.specs.declared.exp.Variable.{Variable}
use Rattle.hs_syntax.specs.declared.exp.Variable.TheVariants as variable
use Rattle.hs_syntax.specs.declared.exp.Exp.{Exp, fold-Exp}
use Rattle.hs_syntax.specs.declared.exp.Arg.{Arg, fold-Arg}
use Rattle.hs_syntax.specs.declared.exp.Arg.TheOpen.{Exp-F, Arg-F, Else-F, Postfix-F, Step-F, Stmt-F, Arm-F, Block-F, If-F, Operand-F}
use Rattle.hs_syntax.specs.declared.exp.Arg.TheOpen as exp
use Rattle.hs_syntax.specs.declared.exp.Else.{Else, fold-Else}
use Rattle.hs_syntax.specs.declared.exp.If.{If, fold-If}
use Rattle.hs_syntax.specs.declared.exp.Postfix.{Postfix, fold-Postfix}
use Rattle.hs_syntax.specs.declared.exp.Step.{Step, fold-Step}
use Rattle.hs_syntax.specs.declared.exp.Stmt.{Stmt, fold-Stmt}
use Rattle.hs_syntax.specs.declared.exp.Arm.{Arm, fold-Arm}
use Rattle.hs_syntax.specs.declared.exp.Operand.{Operand, fold-Operand}
use Rattle.hs_syntax.specs.declared.exp.Block.{Block, fold-Block}
use Rattle.hs_syntax.specs.declared.file.File.{File}
use Rattle.hs_syntax.specs.Texts.{bytes_at}
use Rattle.hs_syntax.specs.declared.item.Item.{Item}
use Rattle.hs_syntax.specs.declared.item.Ctor.{Ctor}
use Rattle.hs_syntax.specs.declared.item.Param.{Param}
use Rattle.hs_syntax.specs.declared.item.ItemKind.{ItemKind}
use Rattle.hs_syntax.specs.declared.item.ItemKind.TheVariants as item
use Rattle.hs_marks.specs.Marked.{Marked, none, join, node}
use Rattle.hs_scope.specs.Scope.{Binding, look}
use Rattle.hs_symbols.specs.declared.declared.Declared.{Declared}
use Rattle.hs_symbols.specs.declared.referent.Referent.{Referent}
use Rattle.hs_symbols.specs.declared.referent.Referent.TheVariants as r
use Rattle.hs_symbols.specs.Symbols.{declared_by, callee_named, value_named, ctor_named, member}
use Rattle.hs_resolver.specs.declared.known.Known.{Known}
use Rattle.hs_resolver.specs.Rules.{type_of, path_maker, unknown_type, unknown_function, unknown_value, unknown_ctor, unknown_member, unknown_called, unknown_of, unknown_called_of, taken, repeated, no_local, one_function_more}
use Rattle.hs_resolver.specs.Parts.{Seen, Part, Scoped, Line, nothing, ◌&◌, all, maybe, every, if_any, line, in_order, scope_behind, bound, used, leaf, known, known_path, known_of, when, place, binder, exit_around}

-- the bytes from the first one's first to the second one's end
abbrev pub across : Span → Span → Span
across a b = record { start = a.start; end = b.end }

-- what stands behind an expression: a `?`, which is an exit, or what has parts of its own
pub data Behind : Type 0 where
  question : Span → Behind
  inner : Scoped → Behind

-- ---- what is bound

abbrev pub binds_all : List (List Span) → List Span
binds_all [] = []
binds_all (ns ∷ rest) = ns ++ binds_all rest

abbrev pub binds_layer : Pat-F (List Span) → List Span
binds_layer (pat.Name s m n) = n ∷ []
binds_layer (pat.Any s) = []
binds_layer (pat.Tuple s ps) = binds_all ps
binds_layer (pat.Struct s n ps) = binds_all ps

-- the names that a pattern binds, in the order of the text
abbrev pub binds : Pat → List Span
binds = fold-Pat (List Span) binds_layer

abbrev pub binds_of_arm : ArmPat → List Span
binds_of_arm (arm_pat.Any s) = []
binds_of_arm (arm_pat.Ctor s n ps) = binds_all (map binds ps)
binds_of_arm (arm_pat.Member s t n ps) = binds_all (map binds ps)

-- ---- where an item begins

-- locals and exits are limited in functions alone
abbrev pub is_function : ItemKind → Bool
is_function (item.Fn n ps t b) = true
is_function _ = false

-- what is known there
abbrev pub fresh : Known
fresh = record { places = []; exits = []; uses = [] }

module _ (file : File) where
  abbrev spell : Span → List ℕ
  spell = bytes_at file.text

  -- ---- types

  -- the name of a type, with so many types behind it
  abbrev pub type_name : Span → ℕ → Part
  type_name n types = known N1 n (unknown_type file (spell n) types) (type_of file (spell n) types)

  abbrev pub alone : Span → Part
  alone n = type_name n 0

  abbrev pub ty_layer : Ty-F Part → Part
  ty_layer (ty.Name n) = alone n
  ty_layer (ty.Unit s) = nothing
  ty_layer (ty.Tuple s ts) = all ts
  ty_layer (ty.Applied s n ts) = type_name n (length ts) & all ts

  abbrev pub names_of_ty : Ty → Part
  names_of_ty = fold-Ty Part ty_layer

  abbrev pub names_of_tys : List Ty → Part
  names_of_tys ts = all (map names_of_ty ts)

  abbrev pub optional_ty : Option Ty → Part
  optional_ty t = maybe (option_map names_of_ty t)

  -- ---- paths

  abbrev pub member_of : Span → Span → Option Referent
  member_of t x = member file.text file.items (spell t) (spell x)

  -- a constructor's path, which is not called
  abbrev pub ctor_path : Span → Span → Span → Part
  ctor_path s t x = known_path s t x (unknown_member file (spell t) (spell x)) (type_of file (spell t) 0) (member_of t x)

  -- a path that stands alone
  abbrev pub value_path : Path → Scoped
  value_path (path.Name s) scope = known N3 s (unknown_value file scope (spell s)) (value_named file.text file.items scope (spell s))
  value_path (path.Member s t x) scope = ctor_path s t x
  value_path (path.Of s n t x) scope = known_of s n (unknown_of file (spell n)) (path_maker (spell n)) (names_of_ty t)

  -- a path before `(`
  abbrev pub called_path : Path → Part
  called_path (path.Name s) = known N2 s (unknown_function file (spell s)) (callee_named file.text file.items (spell s))
  called_path (path.Member s t x) = known_path s t x (unknown_called file (spell t) (spell x)) (type_of file (spell t) 0) (member_of t x)
  called_path (path.Of s n t x) = known_of s n (unknown_called_of file (spell n)) (path_maker (spell n)) (names_of_ty t)

  -- the name of a constructor in a pattern
  abbrev pub ctor_name : Span → Part
  ctor_name n = known N4 n (unknown_ctor file (spell n)) (ctor_named file.text file.items (spell n))

  -- a name that is assigned or lent
  abbrev pub assigned : Span → Scoped
  assigned n scope = known N10 n (no_local file scope (spell n)) (option_map (λ number. r.Local number) (look (spell n) scope))

  module _ (in_function : Bool) where
    -- ---- patterns

    -- a pattern that begins behind so many binding places
    abbrev pub pat_layer : Pat-F (ℕ → Part) → ℕ → Part
    pat_layer (pat.Name s m n) start = binder file in_function start n
    pat_layer (pat.Any s) start = nothing
    pat_layer (pat.Tuple s ps) start = every ps start
    pat_layer (pat.Struct s n ps) start = ctor_name n & every ps start

    abbrev pub names_of_pat : Pat → ℕ → Part
    names_of_pat = fold-Pat (ℕ → Part) pat_layer

    abbrev pub names_of_pats : List Pat → ℕ → Part
    names_of_pats ps = every (map names_of_pat ps)

    abbrev pub names_of_arm_pat : ArmPat → ℕ → Part
    names_of_arm_pat (arm_pat.Any s) start = nothing
    names_of_arm_pat (arm_pat.Ctor s n ps) start = ctor_name n & names_of_pats ps start
    names_of_arm_pat (arm_pat.Member s t n ps) start = ctor_path (across t n) t n & names_of_pats ps start

    -- ---- expressions

    -- what was seen, which begins at this byte, with what stands behind it: an exit by `?` has all before it in it
    abbrev pub with_behind : ℕ → Behind → List Binding → Seen → Seen
    with_behind start (question s) scope a = exit_around in_function (record { start = start; end = s.end }) a
    with_behind start (inner q) scope a = record { nodes = join a.nodes (q scope a.behind).nodes; behind = (q scope a.behind).behind }

    -- the same with all that stands behind it
    abbrev pub steps : ℕ → List Behind → List Binding → Seen → Seen
    steps start [] scope a = a
    steps start (b ∷ bs) scope a = steps start bs scope (with_behind start b scope a)

    abbrev pub exp_layer : Exp-F Scoped Scoped Scoped Behind Scoped Line Scoped Scoped Scoped Scoped → Scoped
    exp_layer (exp.Int i) scope = nothing
    exp_layer (exp.Bool s b) scope = nothing
    exp_layer (exp.Unit s) scope = nothing
    exp_layer (exp.Group s e) scope = e scope
    exp_layer (exp.Tuple s es) scope = every es scope
    exp_layer (exp.Path p) scope = value_path p scope
    exp_layer (exp.Call s p as') scope = called_path p & every as' scope
    exp_layer (exp.Block b) scope = b scope
    exp_layer (exp.If i) scope = i scope
    exp_layer (exp.Match s e arms) scope = e scope & every arms scope
    exp_layer (exp.Post s e ss) scope = λ k. steps s.start ss scope (e scope k)
    exp_layer (exp.Prefix s o e) scope = e scope
    exp_layer (exp.Cast s e ns) scope = e scope & all (map alone ns)
    exp_layer (exp.Binary s e os) scope = e scope & every os scope

    abbrev pub arg_layer : Arg-F Scoped Scoped Scoped Behind Scoped Line Scoped Scoped Scoped Scoped → Scoped
    arg_layer (exp.Value e) scope = e scope
    arg_layer (exp.Shared s e) scope = e scope
    arg_layer (exp.Lent s n) scope = assigned n scope
    arg_layer (exp.List s es) scope = every es scope

    abbrev pub if_layer : If-F Scoped Scoped Scoped Behind Scoped Line Scoped Scoped Scoped Scoped → Scoped
    if_layer i scope = i.condition scope & i.then scope & if_any i.otherwise scope

    abbrev pub else_layer : Else-F Scoped Scoped Scoped Behind Scoped Line Scoped Scoped Scoped Scoped → Scoped
    else_layer (exp.Chain i) scope = i scope
    else_layer (exp.Last b) scope = b scope

    abbrev pub step_layer : Step-F Scoped Scoped Scoped Behind Scoped Line Scoped Scoped Scoped Scoped → Scoped
    step_layer (exp.Index s e) scope = e scope
    step_layer (exp.Part s i) scope = nothing

    abbrev pub postfix_layer : Postfix-F Scoped Scoped Scoped Behind Scoped Line Scoped Scoped Scoped Scoped → Behind
    postfix_layer (exp.Try s) = question s
    postfix_layer (exp.Method s n as') = inner (every as')
    postfix_layer (exp.Step t) = inner t

    -- an arm: its value knows the names that its pattern binds
    abbrev pub arm_layer : Arm-F Scoped Scoped Scoped Behind Scoped Line Scoped Scoped Scoped Scoped → Scoped
    arm_layer a scope = λ k. (names_of_arm_pat a.pattern (length k.places) & a.value (bound file.text (binds_of_arm a.pattern) (length k.places) scope)) k

    -- ---- statements and blocks

    -- the place of a loop's variable, which may have the name of a constant
    abbrev pub variable_place : Variable → Part
    variable_place (variable.Name n) k = place in_function n [] (used n (r.Local (length k.places)) k)
    variable_place (variable.Any s) k = place in_function s [] k

    abbrev pub with_variable : Variable → ℕ → List Binding → List Binding
    with_variable (variable.Name n) number scope = record { name = spell n; number = number } ∷ scope
    with_variable (variable.Any s) number scope = scope

    -- a `let`: its value does not know the names that it binds, what follows it does
    abbrev pub let_line : Pat → Option Ty → Scoped → Line
    let_line p t e = record {
      part = λ scope k. (names_of_pat p (length k.places) & optional_ty t & e scope) k;
      after = λ scope k. bound file.text (binds p) (length k.places) scope;
    }

    -- a loop: its variable is in scope in its body, and not in its bounds
    abbrev pub for_part : Variable → Scoped → Scoped → Scoped → Scoped
    for_part x low high body scope k = (variable_place x & low scope & high scope & body (with_variable x (length k.places) scope)) k

    abbrev pub stmt_layer : Stmt-F Scoped Scoped Scoped Behind Scoped Line Scoped Scoped Scoped Scoped → Line
    stmt_layer (exp.Let s p t e) = let_line p t e
    stmt_layer (exp.Assign s t ss o e) = line (λ scope. assigned t.name scope & every ss scope & e scope)
    stmt_layer (exp.For s x e f b) = line (for_part x e f b)
    stmt_layer (exp.Return s e) = line (λ scope k. exit_around in_function s (if_any e scope k))
    stmt_layer (exp.Bare e) = line e
    stmt_layer (exp.Exp s e) = line e

    abbrev pub block_layer : Block-F Scoped Scoped Scoped Behind Scoped Line Scoped Scoped Scoped Scoped → Scoped
    block_layer b scope = λ k. (in_order b.statements scope & if_any b.tail (scope_behind b.statements scope k)) k

    abbrev pub operand_layer : Operand-F Scoped Scoped Scoped Behind Scoped Line Scoped Scoped Scoped Scoped → Scoped
    operand_layer o scope = o.right scope

    abbrev pub names_of_exp : Exp → Scoped
    names_of_exp = fold-Exp Scoped Scoped Scoped Behind Scoped Line Scoped Scoped Scoped Scoped arg_layer else_layer exp_layer postfix_layer step_layer stmt_layer arm_layer block_layer if_layer operand_layer

    abbrev pub names_of_arg : Arg → Scoped
    names_of_arg = fold-Arg Scoped Scoped Scoped Behind Scoped Line Scoped Scoped Scoped Scoped arg_layer else_layer exp_layer postfix_layer step_layer stmt_layer arm_layer block_layer if_layer operand_layer

    abbrev pub names_of_if : If → Scoped
    names_of_if = fold-If Scoped Scoped Scoped Behind Scoped Line Scoped Scoped Scoped Scoped arg_layer else_layer exp_layer postfix_layer step_layer stmt_layer arm_layer block_layer if_layer operand_layer

    abbrev pub names_of_else : Else → Scoped
    names_of_else = fold-Else Scoped Scoped Scoped Behind Scoped Line Scoped Scoped Scoped Scoped arg_layer else_layer exp_layer postfix_layer step_layer stmt_layer arm_layer block_layer if_layer operand_layer

    abbrev pub names_of_step : Step → Scoped
    names_of_step = fold-Step Scoped Scoped Scoped Behind Scoped Line Scoped Scoped Scoped Scoped arg_layer else_layer exp_layer postfix_layer step_layer stmt_layer arm_layer block_layer if_layer operand_layer

    abbrev pub names_of_postfix : Postfix → Behind
    names_of_postfix = fold-Postfix Scoped Scoped Scoped Behind Scoped Line Scoped Scoped Scoped Scoped arg_layer else_layer exp_layer postfix_layer step_layer stmt_layer arm_layer block_layer if_layer operand_layer

    abbrev pub names_of_stmt : Stmt → Line
    names_of_stmt = fold-Stmt Scoped Scoped Scoped Behind Scoped Line Scoped Scoped Scoped Scoped arg_layer else_layer exp_layer postfix_layer step_layer stmt_layer arm_layer block_layer if_layer operand_layer

    abbrev pub names_of_arm : Arm → Scoped
    names_of_arm = fold-Arm Scoped Scoped Scoped Behind Scoped Line Scoped Scoped Scoped Scoped arg_layer else_layer exp_layer postfix_layer step_layer stmt_layer arm_layer block_layer if_layer operand_layer

    abbrev pub names_of_block : Block → Scoped
    names_of_block = fold-Block Scoped Scoped Scoped Behind Scoped Line Scoped Scoped Scoped Scoped arg_layer else_layer exp_layer postfix_layer step_layer stmt_layer arm_layer block_layer if_layer operand_layer

    abbrev pub names_of_operand : Operand → Scoped
    names_of_operand = fold-Operand Scoped Scoped Scoped Behind Scoped Line Scoped Scoped Scoped Scoped arg_layer else_layer exp_layer postfix_layer step_layer stmt_layer arm_layer block_layer if_layer operand_layer

  -- ---- items

  -- the name of an item, behind those of other items
  abbrev pub item_name : Span → List (List ℕ) → Part
  item_name n before = leaf n (when (taken file (spell n) before) N5)

  -- the name of a constructor, behind those of other constructors of its enum
  abbrev pub ctor_title : Span → List (List ℕ) → Part
  ctor_title n before = leaf n (when (repeated file (spell n) before) N6)

  abbrev pub ctors_behind : List Ctor → List (List ℕ) → Part
  ctors_behind [] before = nothing
  ctors_behind (c ∷ cs) before = ctor_title c.name before & names_of_tys c.parts & ctors_behind cs (before ++ spell c.name ∷ [])

  abbrev pub names_of_param : Param → Part
  names_of_param p = binder file true 0 p.name & names_of_ty p.ty

  -- the names in scope where the body of a function begins
  abbrev pub parameters : List Param → List Binding
  parameters ps = bound file.text (map (λ (p : Param). p.name) ps) 0 []

  -- an item behind others with these names; locals and exits are limited in functions alone
  abbrev pub kind_part : ItemKind → List (List ℕ) → Part
  kind_part item.Use before = nothing
  kind_part (item.Const n t e) before = item_name n before & names_of_ty t & names_of_exp false e []
  kind_part (item.Alias n t) before = item_name n before & names_of_ty t
  kind_part (item.Struct n ts) before = item_name n before & names_of_tys ts
  kind_part (item.Enum n cs) before = item_name n before & ctors_behind cs []
  kind_part (item.Fn n ps t b) before = item_name n before & all (map names_of_param ps) & optional_ty t & names_of_block true b (parameters ps)
  kind_part (item.Array n i t) before = item_name n before & names_of_ty t
  kind_part (item.Bytes n i) before = item_name n before
  kind_part (item.NatMod n c i m) before = item_name n before & item_name c (before ++ spell n ∷ [])

  -- an item behind so many functions and these names
  abbrev pub item_part : Item → ℕ → List (List ℕ) → Part
  item_part i functions before k =
      record { nodes = node i.span (when (is_function i.kind && one_function_more functions) S3) (kind_part i.kind before k).nodes; behind = (kind_part i.kind before k).behind }

  abbrev pub names_by : ItemKind → List (List ℕ)
  names_by kind = map (λ (d : Declared). spell d.name) (declared_by 0 kind)

  -- what items break behind so many functions and these names, and what the names in each stand for
  abbrev pub items_behind : List Item → ℕ → List (List ℕ) → List Seen
  items_behind [] functions before = []
  items_behind (i ∷ is) functions before =
      item_part i functions before fresh ∷ items_behind is (if is_function i.kind then suc functions else functions) (before ++ names_by i.kind)

  -- what the items of a file break, and what the names in each stand for
  abbrev pub names_of : List Seen
  names_of = items_behind file.items 0 []

  -- the nodes of items, in order
  abbrev pub rows : List Seen → Marked
  rows [] = none
  rows (a ∷ as') = join a.nodes (rows as')

  abbrev pub marked : Marked
  marked = rows names_of
