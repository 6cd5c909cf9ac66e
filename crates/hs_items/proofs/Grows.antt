-- What a text names before some place it names behind it too: the names of an item only grow.
use Rattle.std.proofs.Common.{ℕ, ◌≡◌, refl, sym, subst, Bool, true, false, ◌||◌, nat_eq, Option, Some, None, List, [], ◌∷◌, ◌++◌, map, length}
use Rattle.hs_order.specs.Order.{has}
use Rattle.hs_syntax.specs.declared.span.Span.{Span}
use Rattle.hs_syntax.specs.declared.file.File.{File}
use Rattle.hs_syntax.specs.declared.ty.Ty.{Ty, roll-Ty}
use Rattle.hs_syntax.specs.declared.ty.Ty.TheOpen.{Ty-F}
use Rattle.hs_syntax.specs.declared.ty.Ty.TheOpen as ty
use Rattle.hs_syntax.specs.declared.ty.Ty.TheFolds.{map-Ty, fold-roll-Ty, ind-Ty}
use Rattle.hs_syntax.specs.declared.pat.Pat.{Pat, roll-Pat}
use Rattle.hs_syntax.specs.declared.pat.Pat.TheOpen.{Pat-F}
use Rattle.hs_syntax.specs.declared.pat.Pat.TheOpen as pat
use Rattle.hs_syntax.specs.declared.pat.Pat.TheFolds.{map-Pat, fold-roll-Pat, ind-Pat}
use Rattle.hs_syntax.specs.declared.pat.ArmPat.{ArmPat}
use Rattle.hs_syntax.specs.declared.pat.ArmPat.TheVariants as arm_pat
use Rattle.hs_syntax.specs.declared.exp.Path.{Path}
use Rattle.hs_syntax.specs.declared.exp.Path.TheVariants as path
use Rattle.hs_syntax.specs.declared.exp.Variable.{Variable}
use Rattle.hs_syntax.specs.declared.exp.Variable.TheVariants as variable
use Rattle.hs_syntax.specs.declared.exp.Arg.{Arg}
use Rattle.hs_syntax.specs.declared.exp.Else.{Else}
use Rattle.hs_syntax.specs.declared.exp.Exp.{Exp}
use Rattle.hs_syntax.specs.declared.exp.Postfix.{Postfix}
use Rattle.hs_syntax.specs.declared.exp.Step.{Step}
use Rattle.hs_syntax.specs.declared.exp.Stmt.{Stmt}
use Rattle.hs_syntax.specs.declared.exp.Arm.{Arm}
use Rattle.hs_syntax.specs.declared.exp.Block.{Block}
use Rattle.hs_syntax.specs.declared.exp.If.{If}
use Rattle.hs_syntax.specs.declared.exp.Operand.{Operand}
use Rattle.hs_syntax.specs.declared.exp.Arg.TheOpen.{Arg-F, Else-F, Exp-F, Postfix-F, Step-F, Stmt-F, Arm-F, Block-F, If-F, Operand-F}
use Rattle.hs_syntax.specs.declared.exp.Arg.TheOpen as exp
use Rattle.hs_syntax.specs.declared.exp.Arg.TheViews.{roll-Arg, roll-Else, roll-Exp, roll-Postfix, roll-Step, roll-Stmt, roll-Arm, roll-Block, roll-If, roll-Operand}
use Rattle.hs_syntax.specs.declared.exp.Arg.TheFolds.{map-Arg, map-Else, map-Exp, map-Postfix, map-Step, map-Stmt, map-Arm, map-Block, map-If, map-Operand, fold-roll-Arg, fold-roll-Else, fold-roll-Exp, fold-roll-Postfix, fold-roll-Step, fold-roll-Stmt, fold-roll-Arm, fold-roll-Block, fold-roll-If, fold-roll-Operand, ind-Exp, ind-Block}
use Rattle.hs_scope.specs.Scope.{Binding}
use Rattle.hs_symbols.specs.declared.referent.Referent.{Referent}
use Rattle.hs_symbols.specs.declared.referent.Referent.TheVariants as r
use Rattle.hs_resolver.specs.declared.known.Known.{Known}
use Rattle.hs_resolver.specs.declared.known.Use.{Use}
use Rattle.hs_resolver.specs.Order.{item_of, items_of}
use Rattle.hs_resolver.specs.Parts.{Seen, Part, Scoped, Line, all, every, in_order, used, meaning, binder}
use Rattle.hs_resolver.specs.Names.{Behind, question, inner, with_behind, steps, type_name, alone, ty_layer, names_of_ty, names_of_tys, optional_ty, value_path, called_path, assigned, pat_layer, names_of_pat, names_of_pats, names_of_arm_pat, variable_place, names_of_arg, names_of_else, names_of_exp, names_of_postfix, names_of_step, names_of_stmt, names_of_arm, names_of_block, names_of_if, names_of_operand, arg_layer, else_layer, exp_layer, postfix_layer, step_layer, stmt_layer, arm_layer, block_layer, if_layer, operand_layer}

-- the items that are named in the first are named in the second
abbrev pub Sub : List Use → List Use → Type 0
Sub us vs = (x : ℕ) → has (items_of us) x ≡ true → has (items_of vs) x ≡ true

-- all that is named before a part is named behind it
abbrev pub Grows : Part → Type 0
Grows p = (k : Known) → Sub k.uses (p k).behind.uses

abbrev pub ScopedGrows : Scoped → Type 0
ScopedGrows p = (scope : List Binding) → Grows (p scope)

abbrev pub LineGrows : Line → Type 0
LineGrows l = ScopedGrows l.part

abbrev pub BehindGrows : Behind → Type 0
BehindGrows (question s) = Unit {0}
BehindGrows (inner p) = ScopedGrows p

-- ---- single nodes

or_step : (a b c : Bool) → (b ≡ true → c ≡ true) → (a || b) ≡ true → (a || c) ≡ true
or_step true b c f h = refl
or_step false b c f h = f h

has_more : (is us vs : List ℕ) (x : ℕ) → (has us x ≡ true → has vs x ≡ true) → has (is ++ us) x ≡ true → has (is ++ vs) x ≡ true
has_more [] us vs x f h = f h
has_more (i ∷ is) us vs x f h = or_step (nat_eq x i) (has (is ++ us) x) (has (is ++ vs) x) (has_more is us vs x f) h

use_more : (us : List Use) (u : Use) → Sub us (us ++ u ∷ [])
use_more [] u x h = cc
use_more (v ∷ us) u x h = has_more (item_of v.referent) (items_of us) (items_of (us ++ u ∷ [])) x (use_more us u x) h

pub meaning_grows : (n : Span) (to : Option Referent) (k : Known) → Sub k.uses (meaning n to k).uses
meaning_grows n None k x h = h
meaning_grows n (Some to) k x h = use_more k.uses (record { name = n; referent = to }) x h

path_grows : (t n : Span) (first second : Option Referent) (k : Known) → Sub k.uses (meaning n second (meaning t first k)).uses
path_grows t n first second k x h = meaning_grows n second (meaning t first k) x (meaning_grows t first k x h)

used_grows : (n : Span) (to : Referent) (k : Known) → Sub k.uses (used n to k).uses
used_grows n to k x h = use_more k.uses (record { name = n; referent = to }) x h

pub binder_grows : (file : File) (in_function : Bool) (start : ℕ) (n : Span) → Grows (binder file in_function start n)
binder_grows file in_function start n k x h = used_grows n (r.Local (length k.places)) k x h

-- ---- rows

-- of a row of which each part grows
module _ (C : Type 0) (g : C → Part) where
  abbrev GrowingPart : Type 0
  GrowingPart = (x : C) × Grows (g x)

  pub all_grow : (xs : List GrowingPart) → Grows (all (map g (map (λ x. x.0) xs)))
  all_grow [] k x h = h
  all_grow (p ∷ ps) k x h = all_grow ps (g p.0 k).behind x (p.1 k x h)

  pub all_grows : ((x : C) → Grows (g x)) → (xs : List C) → Grows (all (map g xs))
  all_grows f [] k x h = h
  all_grows f (c ∷ cs) k x h = all_grows f cs (g c k).behind x (f c k x h)

module _ (C X : Type 0) (g : C → X → Part) where
  abbrev GrowingScoped : Type 0
  GrowingScoped = (c : C) × ((x : X) → Grows (g c x))

  every_grows : (cs : List GrowingScoped) (x : X) → Grows (every (map g (map (λ c. c.0) cs)) x)
  every_grows [] x k i h = h
  every_grows (c ∷ cs) x k i h = every_grows cs x (g c.0 x k).behind i (c.1 x k i h)

  every_one_grows : ((c : C) (x : X) → Grows (g c x)) → (cs : List C) (x : X) → Grows (every (map g cs) x)
  every_one_grows f [] x k i h = h
  every_one_grows f (c ∷ cs) x k i h = every_one_grows f cs x (g c x k).behind i (f c x k i h)

module _ (file : File) where
  -- ---- types

  abbrev TyGrows : Ty → Type 0
  TyGrows t = Grows (names_of_ty file t)

  abbrev GrowingTy : Type 0
  GrowingTy = (t : Ty) × TyGrows t

  abbrev inside : Ty-F GrowingTy → Ty-F Ty
  inside y = map-Ty GrowingTy Ty (λ x. x.0) y

  type_name_grows : (n : Span) (count : ℕ) → Grows (type_name file n count)
  type_name_grows n count k x h = meaning_grows n _ k x h

  ty_layer_grows : (y : Ty-F GrowingTy) → Grows (ty_layer file (map-Ty Ty Part (names_of_ty file) (inside y)))
  ty_layer_grows (ty.Name n) k x h = type_name_grows n 0 k x h
  ty_layer_grows (ty.Unit s) k x h = h
  ty_layer_grows (ty.Tuple s ts) k x h = all_grow Ty (names_of_ty file) ts k x h
  ty_layer_grows (ty.Applied s n ts) k x h = all_grow Ty (names_of_ty file) ts _ x (type_name_grows n _ k x h)

  ty_level : (y : Ty-F GrowingTy) → TyGrows (roll-Ty (inside y))
  ty_level y = subst Grows (sym (fold-roll-Ty Part (ty_layer file) (inside y))) (ty_layer_grows y)

  pub ty_grows : (t : Ty) → TyGrows t
  ty_grows = ind-Ty TyGrows (λ x y is. subst (λ z. TyGrows (roll-Ty z)) is (ty_level y))

  pub tys_grow : (ts : List Ty) → Grows (names_of_tys file ts)
  tys_grow ts = all_grows Ty (names_of_ty file) ty_grows ts

  pub optional_grows : (t : Option Ty) → Grows (optional_ty file t)
  optional_grows None k x h = h
  optional_grows (Some t) k x h = ty_grows t k x h

  -- ---- paths

  value_path_grows : (p : Path) → ScopedGrows (value_path file p)
  value_path_grows (path.Name s) scope k x h = meaning_grows s _ k x h
  value_path_grows (path.Member s t n) scope k x h = path_grows t n _ _ k x h
  value_path_grows (path.Of s n t m) scope k x h = ty_grows t _ x (meaning_grows n _ k x h)

  called_path_grows : (p : Path) → Grows (called_path file p)
  called_path_grows (path.Name s) k x h = meaning_grows s _ k x h
  called_path_grows (path.Member s t n) k x h = path_grows t n _ _ k x h
  called_path_grows (path.Of s n t m) k x h = ty_grows t _ x (meaning_grows n _ k x h)

  assigned_grows : (n : Span) → ScopedGrows (assigned file n)
  assigned_grows n scope k x h = meaning_grows n _ k x h

  alone_grow : (ns : List Span) → Grows (all (map (alone file) ns))
  alone_grow ns = all_grows Span (alone file) (λ n k x h. type_name_grows n 0 k x h) ns

  module _ (in_function : Bool) where
    -- ---- patterns

    abbrev PatGrows : Pat → Type 0
    PatGrows p = (start : ℕ) → Grows (names_of_pat file in_function p start)

    abbrev GrowingPat : Type 0
    GrowingPat = (p : Pat) × PatGrows p

    abbrev pats_inside : Pat-F GrowingPat → Pat-F Pat
    pats_inside y = map-Pat GrowingPat Pat (λ x. x.0) y

    pat_layer_grows : (y : Pat-F GrowingPat) (start : ℕ) → Grows (pat_layer file in_function (map-Pat Pat (ℕ → Part) (names_of_pat file in_function) (pats_inside y)) start)
    pat_layer_grows (pat.Name s m n) start k x h = binder_grows file in_function start n k x h
    pat_layer_grows (pat.Any s) start k x h = h
    pat_layer_grows (pat.Tuple s ps) start k x h = every_grows Pat ℕ (names_of_pat file in_function) ps start k x h
    pat_layer_grows (pat.Struct s n ps) start k x h = every_grows Pat ℕ (names_of_pat file in_function) ps start _ x (meaning_grows n _ k x h)

    pat_level : (y : Pat-F GrowingPat) → PatGrows (roll-Pat (pats_inside y))
    pat_level y =
        subst (λ (p : ℕ → Part). (start : ℕ) → Grows (p start)) (sym (fold-roll-Pat (ℕ → Part) (pat_layer file in_function) (pats_inside y))) (pat_layer_grows y)

    pat_grows : (p : Pat) → PatGrows p
    pat_grows = ind-Pat PatGrows (λ x y is. subst (λ z. PatGrows (roll-Pat z)) is (pat_level y))

    pats_grow : (ps : List Pat) (start : ℕ) → Grows (names_of_pats file in_function ps start)
    pats_grow ps start = every_one_grows Pat ℕ (names_of_pat file in_function) pat_grows ps start

    arm_pat_grows : (p : ArmPat) (start : ℕ) → Grows (names_of_arm_pat file in_function p start)
    arm_pat_grows (arm_pat.Any s) start k x h = h
    arm_pat_grows (arm_pat.Ctor s n ps) start k x h = pats_grow ps start _ x (meaning_grows n _ k x h)
    arm_pat_grows (arm_pat.Member s t n ps) start k x h = pats_grow ps start _ x (path_grows t n _ _ k x h)

    variable_grows : (v : Variable) → Grows (variable_place file in_function v)
    variable_grows (variable.Name n) k x h = used_grows n (r.Local (length k.places)) k x h
    variable_grows (variable.Any s) k x h = h

    -- ---- expressions, statements and blocks

    abbrev ArgGrows : Arg → Type 0
    ArgGrows x = ScopedGrows (names_of_arg file in_function x)

    abbrev ElseGrows : Else → Type 0
    ElseGrows x = ScopedGrows (names_of_else file in_function x)

    abbrev ExpGrows : Exp → Type 0
    ExpGrows x = ScopedGrows (names_of_exp file in_function x)

    abbrev PostfixGrows : Postfix → Type 0
    PostfixGrows x = BehindGrows (names_of_postfix file in_function x)

    abbrev StepGrows : Step → Type 0
    StepGrows x = ScopedGrows (names_of_step file in_function x)

    abbrev StmtGrows : Stmt → Type 0
    StmtGrows x = LineGrows (names_of_stmt file in_function x)

    abbrev ArmGrows : Arm → Type 0
    ArmGrows x = ScopedGrows (names_of_arm file in_function x)

    abbrev BlockGrows : Block → Type 0
    BlockGrows x = ScopedGrows (names_of_block file in_function x)

    abbrev IfGrows : If → Type 0
    IfGrows x = ScopedGrows (names_of_if file in_function x)

    abbrev OperandGrows : Operand → Type 0
    OperandGrows x = ScopedGrows (names_of_operand file in_function x)

    abbrev A : Type 0
    A = (x : Arg) × ArgGrows x

    abbrev L : Type 0
    L = (x : Else) × ElseGrows x

    abbrev E : Type 0
    E = (x : Exp) × ExpGrows x

    abbrev P : Type 0
    P = (x : Postfix) × PostfixGrows x

    abbrev T : Type 0
    T = (x : Step) × StepGrows x

    abbrev S : Type 0
    S = (x : Stmt) × StmtGrows x

    abbrev R : Type 0
    R = (x : Arm) × ArmGrows x

    abbrev B : Type 0
    B = (x : Block) × BlockGrows x

    abbrev I : Type 0
    I = (x : If) × IfGrows x

    abbrev O : Type 0
    O = (x : Operand) × OperandGrows x

    next_grows : (start : ℕ) (b : Behind) → BehindGrows b → (scope : List Binding) (a : Seen) → Sub a.behind.uses (with_behind file in_function start b scope a).behind.uses
    next_grows start (question s) g scope a x h = h
    next_grows start (inner q) g scope a x h = g scope a.behind x h

    steps_grow : (start : ℕ) (xs : List P) (scope : List Binding) (a : Seen) → Sub a.behind.uses (steps file in_function start (map (names_of_postfix file in_function) (map (λ x. x.0) xs)) scope a).behind.uses
    steps_grow start [] scope a x h = h
    steps_grow start (p ∷ ps) scope a x h =
        steps_grow start ps scope (with_behind file in_function start (names_of_postfix file in_function p.0) scope a) x (next_grows start (names_of_postfix file in_function p.0) p.1 scope a x h)

    lines_grow : (xs : List S) (scope : List Binding) → Grows (in_order (map (names_of_stmt file in_function) (map (λ x. x.0) xs)) scope)
    lines_grow [] scope k x h = h
    lines_grow (s ∷ ss) scope k x h =
        lines_grow ss ((names_of_stmt file in_function s.0).after scope k) ((names_of_stmt file in_function s.0).part scope k).behind x (s.1 scope k x h)

    every_exp : (es : List E) → ScopedGrows (every (map (names_of_exp file in_function) (map (λ x. x.0) es)))
    every_exp es scope = every_grows Exp (List Binding) (names_of_exp file in_function) es scope

    every_arg : (es : List A) → ScopedGrows (every (map (names_of_arg file in_function) (map (λ x. x.0) es)))
    every_arg es scope = every_grows Arg (List Binding) (names_of_arg file in_function) es scope

    every_step : (es : List T) → ScopedGrows (every (map (names_of_step file in_function) (map (λ x. x.0) es)))
    every_step es scope = every_grows Step (List Binding) (names_of_step file in_function) es scope

    every_arm : (es : List R) → ScopedGrows (every (map (names_of_arm file in_function) (map (λ x. x.0) es)))
    every_arm es scope = every_grows Arm (List Binding) (names_of_arm file in_function) es scope

    every_operand : (es : List O) → ScopedGrows (every (map (names_of_operand file in_function) (map (λ x. x.0) es)))
    every_operand es scope = every_grows Operand (List Binding) (names_of_operand file in_function) es scope

    abbrev arg_inside : Arg-F A L E P T S R B I O → Arg-F Arg Else Exp Postfix Step Stmt Arm Block If Operand
    arg_inside y = map-Arg A L E P T S R B I O Arg Else Exp Postfix Step Stmt Arm Block If Operand (λ x. x.0) (λ x. x.0) (λ x. x.0) (λ x. x.0) (λ x. x.0) (λ x. x.0) (λ x. x.0) (λ x. x.0) (λ x. x.0) (λ x. x.0) y

    abbrev arg_parts : Arg-F Arg Else Exp Postfix Step Stmt Arm Block If Operand → Scoped
    arg_parts y = arg_layer file in_function (map-Arg Arg Else Exp Postfix Step Stmt Arm Block If Operand Scoped Scoped Scoped Behind Scoped Line Scoped Scoped Scoped Scoped (names_of_arg file in_function) (names_of_else file in_function) (names_of_exp file in_function) (names_of_postfix file in_function) (names_of_step file in_function) (names_of_stmt file in_function) (names_of_arm file in_function) (names_of_block file in_function) (names_of_if file in_function) (names_of_operand file in_function) y)

    arg_layer_grows : (y : Arg-F A L E P T S R B I O) → ScopedGrows (arg_parts (arg_inside y))
    arg_layer_grows (exp.Value e) scope k x h = e.1 scope k x h
    arg_layer_grows (exp.Shared s e) scope k x h = e.1 scope k x h
    arg_layer_grows (exp.Lent s n) scope k x h = assigned_grows n scope k x h
    arg_layer_grows (exp.List s es) scope k x h = every_exp es scope k x h

    arg_level : (y : Arg-F A L E P T S R B I O) → ArgGrows (roll-Arg (arg_inside y))
    arg_level y =
        subst ScopedGrows (sym (fold-roll-Arg Scoped Scoped Scoped Behind Scoped Line Scoped Scoped Scoped Scoped (arg_layer file in_function) (else_layer file in_function) (exp_layer file in_function) (postfix_layer file in_function) (step_layer file in_function) (stmt_layer file in_function) (arm_layer file in_function) (block_layer file in_function) (if_layer file in_function) (operand_layer file in_function) (arg_inside y))) (arg_layer_grows y)

    abbrev else_inside : Else-F A L E P T S R B I O → Else-F Arg Else Exp Postfix Step Stmt Arm Block If Operand
    else_inside y = map-Else A L E P T S R B I O Arg Else Exp Postfix Step Stmt Arm Block If Operand (λ x. x.0) (λ x. x.0) (λ x. x.0) (λ x. x.0) (λ x. x.0) (λ x. x.0) (λ x. x.0) (λ x. x.0) (λ x. x.0) (λ x. x.0) y

    abbrev else_parts : Else-F Arg Else Exp Postfix Step Stmt Arm Block If Operand → Scoped
    else_parts y = else_layer file in_function (map-Else Arg Else Exp Postfix Step Stmt Arm Block If Operand Scoped Scoped Scoped Behind Scoped Line Scoped Scoped Scoped Scoped (names_of_arg file in_function) (names_of_else file in_function) (names_of_exp file in_function) (names_of_postfix file in_function) (names_of_step file in_function) (names_of_stmt file in_function) (names_of_arm file in_function) (names_of_block file in_function) (names_of_if file in_function) (names_of_operand file in_function) y)

    else_layer_grows : (y : Else-F A L E P T S R B I O) → ScopedGrows (else_parts (else_inside y))
    else_layer_grows (exp.Chain i) scope k x h = i.1 scope k x h
    else_layer_grows (exp.Last b) scope k x h = b.1 scope k x h

    else_level : (y : Else-F A L E P T S R B I O) → ElseGrows (roll-Else (else_inside y))
    else_level y =
        subst ScopedGrows (sym (fold-roll-Else Scoped Scoped Scoped Behind Scoped Line Scoped Scoped Scoped Scoped (arg_layer file in_function) (else_layer file in_function) (exp_layer file in_function) (postfix_layer file in_function) (step_layer file in_function) (stmt_layer file in_function) (arm_layer file in_function) (block_layer file in_function) (if_layer file in_function) (operand_layer file in_function) (else_inside y))) (else_layer_grows y)

    abbrev exp_inside : Exp-F A L E P T S R B I O → Exp-F Arg Else Exp Postfix Step Stmt Arm Block If Operand
    exp_inside y = map-Exp A L E P T S R B I O Arg Else Exp Postfix Step Stmt Arm Block If Operand (λ x. x.0) (λ x. x.0) (λ x. x.0) (λ x. x.0) (λ x. x.0) (λ x. x.0) (λ x. x.0) (λ x. x.0) (λ x. x.0) (λ x. x.0) y

    abbrev exp_parts : Exp-F Arg Else Exp Postfix Step Stmt Arm Block If Operand → Scoped
    exp_parts y = exp_layer file in_function (map-Exp Arg Else Exp Postfix Step Stmt Arm Block If Operand Scoped Scoped Scoped Behind Scoped Line Scoped Scoped Scoped Scoped (names_of_arg file in_function) (names_of_else file in_function) (names_of_exp file in_function) (names_of_postfix file in_function) (names_of_step file in_function) (names_of_stmt file in_function) (names_of_arm file in_function) (names_of_block file in_function) (names_of_if file in_function) (names_of_operand file in_function) y)

    exp_layer_grows : (y : Exp-F A L E P T S R B I O) → ScopedGrows (exp_parts (exp_inside y))
    exp_layer_grows (exp.Int i) scope k x h = h
    exp_layer_grows (exp.Bool s b) scope k x h = h
    exp_layer_grows (exp.Unit s) scope k x h = h
    exp_layer_grows (exp.Group s e) scope k x h = e.1 scope k x h
    exp_layer_grows (exp.Tuple s es) scope k x h = every_exp es scope k x h
    exp_layer_grows (exp.Path p) scope k x h = value_path_grows p scope k x h
    exp_layer_grows (exp.Call s p as') scope k x h = every_arg as' scope _ x (called_path_grows p k x h)
    exp_layer_grows (exp.Block b) scope k x h = b.1 scope k x h
    exp_layer_grows (exp.If i) scope k x h = i.1 scope k x h
    exp_layer_grows (exp.Match s e as') scope k x h = every_arm as' scope _ x (e.1 scope k x h)
    exp_layer_grows (exp.Post s e ps) scope k x h = steps_grow s.start ps scope _ x (e.1 scope k x h)
    exp_layer_grows (exp.Prefix s o e) scope k x h = e.1 scope k x h
    exp_layer_grows (exp.Cast s e ns) scope k x h = alone_grow ns _ x (e.1 scope k x h)
    exp_layer_grows (exp.Binary s e os) scope k x h = every_operand os scope _ x (e.1 scope k x h)

    exp_level : (y : Exp-F A L E P T S R B I O) → ExpGrows (roll-Exp (exp_inside y))
    exp_level y =
        subst ScopedGrows (sym (fold-roll-Exp Scoped Scoped Scoped Behind Scoped Line Scoped Scoped Scoped Scoped (arg_layer file in_function) (else_layer file in_function) (exp_layer file in_function) (postfix_layer file in_function) (step_layer file in_function) (stmt_layer file in_function) (arm_layer file in_function) (block_layer file in_function) (if_layer file in_function) (operand_layer file in_function) (exp_inside y))) (exp_layer_grows y)

    abbrev postfix_inside : Postfix-F A L E P T S R B I O → Postfix-F Arg Else Exp Postfix Step Stmt Arm Block If Operand
    postfix_inside y = map-Postfix A L E P T S R B I O Arg Else Exp Postfix Step Stmt Arm Block If Operand (λ x. x.0) (λ x. x.0) (λ x. x.0) (λ x. x.0) (λ x. x.0) (λ x. x.0) (λ x. x.0) (λ x. x.0) (λ x. x.0) (λ x. x.0) y

    abbrev postfix_parts : Postfix-F Arg Else Exp Postfix Step Stmt Arm Block If Operand → Behind
    postfix_parts y = postfix_layer file in_function (map-Postfix Arg Else Exp Postfix Step Stmt Arm Block If Operand Scoped Scoped Scoped Behind Scoped Line Scoped Scoped Scoped Scoped (names_of_arg file in_function) (names_of_else file in_function) (names_of_exp file in_function) (names_of_postfix file in_function) (names_of_step file in_function) (names_of_stmt file in_function) (names_of_arm file in_function) (names_of_block file in_function) (names_of_if file in_function) (names_of_operand file in_function) y)

    postfix_layer_grows : (y : Postfix-F A L E P T S R B I O) → BehindGrows (postfix_parts (postfix_inside y))
    postfix_layer_grows (exp.Try s) = tt {0}
    postfix_layer_grows (exp.Method s n as') = λ scope k x h. every_arg as' scope k x h
    postfix_layer_grows (exp.Step t) = t.1

    postfix_level : (y : Postfix-F A L E P T S R B I O) → PostfixGrows (roll-Postfix (postfix_inside y))
    postfix_level y =
        subst BehindGrows (sym (fold-roll-Postfix Scoped Scoped Scoped Behind Scoped Line Scoped Scoped Scoped Scoped (arg_layer file in_function) (else_layer file in_function) (exp_layer file in_function) (postfix_layer file in_function) (step_layer file in_function) (stmt_layer file in_function) (arm_layer file in_function) (block_layer file in_function) (if_layer file in_function) (operand_layer file in_function) (postfix_inside y))) (postfix_layer_grows y)

    abbrev step_inside : Step-F A L E P T S R B I O → Step-F Arg Else Exp Postfix Step Stmt Arm Block If Operand
    step_inside y = map-Step A L E P T S R B I O Arg Else Exp Postfix Step Stmt Arm Block If Operand (λ x. x.0) (λ x. x.0) (λ x. x.0) (λ x. x.0) (λ x. x.0) (λ x. x.0) (λ x. x.0) (λ x. x.0) (λ x. x.0) (λ x. x.0) y

    abbrev step_parts : Step-F Arg Else Exp Postfix Step Stmt Arm Block If Operand → Scoped
    step_parts y = step_layer file in_function (map-Step Arg Else Exp Postfix Step Stmt Arm Block If Operand Scoped Scoped Scoped Behind Scoped Line Scoped Scoped Scoped Scoped (names_of_arg file in_function) (names_of_else file in_function) (names_of_exp file in_function) (names_of_postfix file in_function) (names_of_step file in_function) (names_of_stmt file in_function) (names_of_arm file in_function) (names_of_block file in_function) (names_of_if file in_function) (names_of_operand file in_function) y)

    step_layer_grows : (y : Step-F A L E P T S R B I O) → ScopedGrows (step_parts (step_inside y))
    step_layer_grows (exp.Index s e) scope k x h = e.1 scope k x h
    step_layer_grows (exp.Part s i) scope k x h = h

    step_level : (y : Step-F A L E P T S R B I O) → StepGrows (roll-Step (step_inside y))
    step_level y =
        subst ScopedGrows (sym (fold-roll-Step Scoped Scoped Scoped Behind Scoped Line Scoped Scoped Scoped Scoped (arg_layer file in_function) (else_layer file in_function) (exp_layer file in_function) (postfix_layer file in_function) (step_layer file in_function) (stmt_layer file in_function) (arm_layer file in_function) (block_layer file in_function) (if_layer file in_function) (operand_layer file in_function) (step_inside y))) (step_layer_grows y)

    abbrev stmt_inside : Stmt-F A L E P T S R B I O → Stmt-F Arg Else Exp Postfix Step Stmt Arm Block If Operand
    stmt_inside y = map-Stmt A L E P T S R B I O Arg Else Exp Postfix Step Stmt Arm Block If Operand (λ x. x.0) (λ x. x.0) (λ x. x.0) (λ x. x.0) (λ x. x.0) (λ x. x.0) (λ x. x.0) (λ x. x.0) (λ x. x.0) (λ x. x.0) y

    abbrev stmt_parts : Stmt-F Arg Else Exp Postfix Step Stmt Arm Block If Operand → Line
    stmt_parts y = stmt_layer file in_function (map-Stmt Arg Else Exp Postfix Step Stmt Arm Block If Operand Scoped Scoped Scoped Behind Scoped Line Scoped Scoped Scoped Scoped (names_of_arg file in_function) (names_of_else file in_function) (names_of_exp file in_function) (names_of_postfix file in_function) (names_of_step file in_function) (names_of_stmt file in_function) (names_of_arm file in_function) (names_of_block file in_function) (names_of_if file in_function) (names_of_operand file in_function) y)

    stmt_layer_grows : (y : Stmt-F A L E P T S R B I O) → LineGrows (stmt_parts (stmt_inside y))
    stmt_layer_grows (exp.Let s p t e) scope k x h = e.1 scope _ x (optional_grows t _ x (pat_grows p (length k.places) k x h))
    stmt_layer_grows (exp.Assign s t ps o e) scope k x h = e.1 scope _ x (every_step ps scope _ x (assigned_grows t.name scope k x h))
    stmt_layer_grows (exp.For s v e f b) scope k x h = b.1 _ _ x (f.1 scope _ x (e.1 scope _ x (variable_grows v k x h)))
    stmt_layer_grows (exp.Return s None) scope k x h = h
    stmt_layer_grows (exp.Return s (Some e)) scope k x h = e.1 scope k x h
    stmt_layer_grows (exp.Bare e) scope k x h = e.1 scope k x h
    stmt_layer_grows (exp.Exp s e) scope k x h = e.1 scope k x h

    stmt_level : (y : Stmt-F A L E P T S R B I O) → StmtGrows (roll-Stmt (stmt_inside y))
    stmt_level y =
        subst LineGrows (sym (fold-roll-Stmt Scoped Scoped Scoped Behind Scoped Line Scoped Scoped Scoped Scoped (arg_layer file in_function) (else_layer file in_function) (exp_layer file in_function) (postfix_layer file in_function) (step_layer file in_function) (stmt_layer file in_function) (arm_layer file in_function) (block_layer file in_function) (if_layer file in_function) (operand_layer file in_function) (stmt_inside y))) (stmt_layer_grows y)

    abbrev arm_inside : Arm-F A L E P T S R B I O → Arm-F Arg Else Exp Postfix Step Stmt Arm Block If Operand
    arm_inside y = map-Arm A L E P T S R B I O Arg Else Exp Postfix Step Stmt Arm Block If Operand (λ x. x.0) (λ x. x.0) (λ x. x.0) (λ x. x.0) (λ x. x.0) (λ x. x.0) (λ x. x.0) (λ x. x.0) (λ x. x.0) (λ x. x.0) y

    abbrev arm_parts : Arm-F Arg Else Exp Postfix Step Stmt Arm Block If Operand → Scoped
    arm_parts y = arm_layer file in_function (map-Arm Arg Else Exp Postfix Step Stmt Arm Block If Operand Scoped Scoped Scoped Behind Scoped Line Scoped Scoped Scoped Scoped (names_of_arg file in_function) (names_of_else file in_function) (names_of_exp file in_function) (names_of_postfix file in_function) (names_of_step file in_function) (names_of_stmt file in_function) (names_of_arm file in_function) (names_of_block file in_function) (names_of_if file in_function) (names_of_operand file in_function) y)

    arm_layer_grows : (y : Arm-F A L E P T S R B I O) → ScopedGrows (arm_parts (arm_inside y))
    arm_layer_grows a scope k x h = a.value.1 _ _ x (arm_pat_grows a.pattern (length k.places) k x h)

    arm_level : (y : Arm-F A L E P T S R B I O) → ArmGrows (roll-Arm (arm_inside y))
    arm_level y =
        subst ScopedGrows (sym (fold-roll-Arm Scoped Scoped Scoped Behind Scoped Line Scoped Scoped Scoped Scoped (arg_layer file in_function) (else_layer file in_function) (exp_layer file in_function) (postfix_layer file in_function) (step_layer file in_function) (stmt_layer file in_function) (arm_layer file in_function) (block_layer file in_function) (if_layer file in_function) (operand_layer file in_function) (arm_inside y))) (arm_layer_grows y)

    abbrev block_inside : Block-F A L E P T S R B I O → Block-F Arg Else Exp Postfix Step Stmt Arm Block If Operand
    block_inside y = map-Block A L E P T S R B I O Arg Else Exp Postfix Step Stmt Arm Block If Operand (λ x. x.0) (λ x. x.0) (λ x. x.0) (λ x. x.0) (λ x. x.0) (λ x. x.0) (λ x. x.0) (λ x. x.0) (λ x. x.0) (λ x. x.0) y

    abbrev block_parts : Block-F Arg Else Exp Postfix Step Stmt Arm Block If Operand → Scoped
    block_parts y = block_layer file in_function (map-Block Arg Else Exp Postfix Step Stmt Arm Block If Operand Scoped Scoped Scoped Behind Scoped Line Scoped Scoped Scoped Scoped (names_of_arg file in_function) (names_of_else file in_function) (names_of_exp file in_function) (names_of_postfix file in_function) (names_of_step file in_function) (names_of_stmt file in_function) (names_of_arm file in_function) (names_of_block file in_function) (names_of_if file in_function) (names_of_operand file in_function) y)

    block_case : (s : Span) (ss : List S) (t : Option E) → ScopedGrows (block_parts (block_inside (record { span = s; statements = ss; tail = t })))
    block_case s ss None scope k x h = lines_grow ss scope k x h
    block_case s ss (Some t) scope k x h = t.1 _ _ x (lines_grow ss scope k x h)

    block_layer_grows : (y : Block-F A L E P T S R B I O) → ScopedGrows (block_parts (block_inside y))
    block_layer_grows y = block_case y.span y.statements y.tail

    block_level : (y : Block-F A L E P T S R B I O) → BlockGrows (roll-Block (block_inside y))
    block_level y =
        subst ScopedGrows (sym (fold-roll-Block Scoped Scoped Scoped Behind Scoped Line Scoped Scoped Scoped Scoped (arg_layer file in_function) (else_layer file in_function) (exp_layer file in_function) (postfix_layer file in_function) (step_layer file in_function) (stmt_layer file in_function) (arm_layer file in_function) (block_layer file in_function) (if_layer file in_function) (operand_layer file in_function) (block_inside y))) (block_layer_grows y)

    abbrev if_inside : If-F A L E P T S R B I O → If-F Arg Else Exp Postfix Step Stmt Arm Block If Operand
    if_inside y = map-If A L E P T S R B I O Arg Else Exp Postfix Step Stmt Arm Block If Operand (λ x. x.0) (λ x. x.0) (λ x. x.0) (λ x. x.0) (λ x. x.0) (λ x. x.0) (λ x. x.0) (λ x. x.0) (λ x. x.0) (λ x. x.0) y

    abbrev if_parts : If-F Arg Else Exp Postfix Step Stmt Arm Block If Operand → Scoped
    if_parts y = if_layer file in_function (map-If Arg Else Exp Postfix Step Stmt Arm Block If Operand Scoped Scoped Scoped Behind Scoped Line Scoped Scoped Scoped Scoped (names_of_arg file in_function) (names_of_else file in_function) (names_of_exp file in_function) (names_of_postfix file in_function) (names_of_step file in_function) (names_of_stmt file in_function) (names_of_arm file in_function) (names_of_block file in_function) (names_of_if file in_function) (names_of_operand file in_function) y)

    if_case : (s : Span) (c : E) (b : B) (o : Option L) → ScopedGrows (if_parts (if_inside (record { span = s; condition = c; then = b; otherwise = o })))
    if_case s c b None scope k x h = b.1 scope _ x (c.1 scope k x h)
    if_case s c b (Some o) scope k x h = o.1 scope _ x (b.1 scope _ x (c.1 scope k x h))

    if_layer_grows : (y : If-F A L E P T S R B I O) → ScopedGrows (if_parts (if_inside y))
    if_layer_grows y = if_case y.span y.condition y.then y.otherwise

    if_level : (y : If-F A L E P T S R B I O) → IfGrows (roll-If (if_inside y))
    if_level y =
        subst ScopedGrows (sym (fold-roll-If Scoped Scoped Scoped Behind Scoped Line Scoped Scoped Scoped Scoped (arg_layer file in_function) (else_layer file in_function) (exp_layer file in_function) (postfix_layer file in_function) (step_layer file in_function) (stmt_layer file in_function) (arm_layer file in_function) (block_layer file in_function) (if_layer file in_function) (operand_layer file in_function) (if_inside y))) (if_layer_grows y)

    abbrev operand_inside : Operand-F A L E P T S R B I O → Operand-F Arg Else Exp Postfix Step Stmt Arm Block If Operand
    operand_inside y = map-Operand A L E P T S R B I O Arg Else Exp Postfix Step Stmt Arm Block If Operand (λ x. x.0) (λ x. x.0) (λ x. x.0) (λ x. x.0) (λ x. x.0) (λ x. x.0) (λ x. x.0) (λ x. x.0) (λ x. x.0) (λ x. x.0) y

    abbrev operand_parts : Operand-F Arg Else Exp Postfix Step Stmt Arm Block If Operand → Scoped
    operand_parts y = operand_layer file in_function (map-Operand Arg Else Exp Postfix Step Stmt Arm Block If Operand Scoped Scoped Scoped Behind Scoped Line Scoped Scoped Scoped Scoped (names_of_arg file in_function) (names_of_else file in_function) (names_of_exp file in_function) (names_of_postfix file in_function) (names_of_step file in_function) (names_of_stmt file in_function) (names_of_arm file in_function) (names_of_block file in_function) (names_of_if file in_function) (names_of_operand file in_function) y)

    operand_layer_grows : (y : Operand-F A L E P T S R B I O) → ScopedGrows (operand_parts (operand_inside y))
    operand_layer_grows o scope k x h = o.right.1 scope k x h

    operand_level : (y : Operand-F A L E P T S R B I O) → OperandGrows (roll-Operand (operand_inside y))
    operand_level y =
        subst ScopedGrows (sym (fold-roll-Operand Scoped Scoped Scoped Behind Scoped Line Scoped Scoped Scoped Scoped (arg_layer file in_function) (else_layer file in_function) (exp_layer file in_function) (postfix_layer file in_function) (step_layer file in_function) (stmt_layer file in_function) (arm_layer file in_function) (block_layer file in_function) (if_layer file in_function) (operand_layer file in_function) (operand_inside y))) (operand_layer_grows y)

    pub exp_grows : (x : Exp) → ExpGrows x
    exp_grows = ind-Exp ArgGrows ElseGrows ExpGrows PostfixGrows StepGrows StmtGrows ArmGrows BlockGrows IfGrows OperandGrows
        (λ x y is. subst (λ z. ArgGrows (roll-Arg z)) is (arg_level y))
        (λ x y is. subst (λ z. ElseGrows (roll-Else z)) is (else_level y))
        (λ x y is. subst (λ z. ExpGrows (roll-Exp z)) is (exp_level y))
        (λ x y is. subst (λ z. PostfixGrows (roll-Postfix z)) is (postfix_level y))
        (λ x y is. subst (λ z. StepGrows (roll-Step z)) is (step_level y))
        (λ x y is. subst (λ z. StmtGrows (roll-Stmt z)) is (stmt_level y))
        (λ x y is. subst (λ z. ArmGrows (roll-Arm z)) is (arm_level y))
        (λ x y is. subst (λ z. BlockGrows (roll-Block z)) is (block_level y))
        (λ x y is. subst (λ z. IfGrows (roll-If z)) is (if_level y))
        (λ x y is. subst (λ z. OperandGrows (roll-Operand z)) is (operand_level y))

    pub block_grows : (x : Block) → BlockGrows x
    block_grows = ind-Block ArgGrows ElseGrows ExpGrows PostfixGrows StepGrows StmtGrows ArmGrows BlockGrows IfGrows OperandGrows
        (λ x y is. subst (λ z. ArgGrows (roll-Arg z)) is (arg_level y))
        (λ x y is. subst (λ z. ElseGrows (roll-Else z)) is (else_level y))
        (λ x y is. subst (λ z. ExpGrows (roll-Exp z)) is (exp_level y))
        (λ x y is. subst (λ z. PostfixGrows (roll-Postfix z)) is (postfix_level y))
        (λ x y is. subst (λ z. StepGrows (roll-Step z)) is (step_level y))
        (λ x y is. subst (λ z. StmtGrows (roll-Stmt z)) is (stmt_level y))
        (λ x y is. subst (λ z. ArmGrows (roll-Arm z)) is (arm_level y))
        (λ x y is. subst (λ z. BlockGrows (roll-Block z)) is (block_level y))
        (λ x y is. subst (λ z. IfGrows (roll-If z)) is (if_level y))
        (λ x y is. subst (λ z. OperandGrows (roll-Operand z)) is (operand_level y))
