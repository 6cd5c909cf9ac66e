-- Expressions, statements and blocks: a name that stands for a local is spelled as its binding place.
use Rattle.std.proofs.Common.{ℕ, sym, subst, Bool, Option, Some, None, List, [], ◌∷◌, map, length, option_map}
use Rattle.hs_syntax.specs.declared.span.Span.{Span}
use Rattle.hs_syntax.specs.declared.file.File.{File}
use Rattle.hs_syntax.specs.declared.exp.Arg.{Arg}
use Rattle.hs_syntax.specs.declared.exp.Else.{Else}
use Rattle.hs_syntax.specs.declared.exp.Exp.{Exp}
use Rattle.hs_syntax.specs.declared.exp.Postfix.{Postfix}
use Rattle.hs_syntax.specs.declared.exp.Step.{Step}
use Rattle.hs_syntax.specs.declared.exp.Stmt.{Stmt}
use Rattle.hs_syntax.specs.declared.exp.Arm.{Arm}
use Rattle.hs_syntax.specs.declared.exp.Block.{Block}
use Rattle.hs_syntax.specs.declared.exp.If.{If}
use Rattle.hs_syntax.specs.declared.exp.Operand.{Operand}
use Rattle.hs_syntax.specs.declared.exp.Arg.TheOpen.{Arg-F, Else-F, Exp-F, Postfix-F, Step-F, Stmt-F, Arm-F, Block-F, If-F, Operand-F}
use Rattle.hs_syntax.specs.declared.exp.Arg.TheOpen as exp
use Rattle.hs_syntax.specs.declared.exp.Arg.TheViews.{roll-Arg, roll-Else, roll-Exp, roll-Postfix, roll-Step, roll-Stmt, roll-Arm, roll-Block, roll-If, roll-Operand}
use Rattle.hs_syntax.specs.declared.exp.Arg.TheFolds.{map-Arg, map-Else, map-Exp, map-Postfix, map-Step, map-Stmt, map-Arm, map-Block, map-If, map-Operand, fold-roll-Arg, fold-roll-Else, fold-roll-Exp, fold-roll-Postfix, fold-roll-Step, fold-roll-Stmt, fold-roll-Arm, fold-roll-Block, fold-roll-If, fold-roll-Operand, ind-Exp, ind-Block}
use Rattle.hs_syntax.specs.Texts.{bytes_at}
use Rattle.hs_scope.specs.Scope.{Binding, look}
use Rattle.hs_symbols.specs.declared.referent.Referent.TheVariants as r
use Rattle.hs_resolver.specs.declared.known.Known.{Known}
use Rattle.hs_resolver.specs.Parts.{Seen, Scoped, Line, all, every, in_order, scope_behind, bound}
use Rattle.hs_resolver.specs.Names.{Behind, question, inner, with_behind, steps, alone, assigned, binds, binds_of_arm, names_of_pat, names_of_arm_pat, optional_ty, variable_place, with_variable, names_of_arg, names_of_else, names_of_exp, names_of_postfix, names_of_step, names_of_stmt, names_of_arm, names_of_block, names_of_if, names_of_operand, arg_layer, else_layer, exp_layer, postfix_layer, step_layer, stmt_layer, arm_layer, block_layer, if_layer, operand_layer}
use Rattle.hs_resolver.proofs.Holds.{InScope, scope_longer, bound_in_scope, look_place, found_alone, Keeps, keeps, keeps_then, keeps_means, keeps_other, keeps_exit}
use Rattle.hs_resolver.proofs.Patterns.{pat_binds, arm_pat_binds}
use Rattle.hs_resolver.proofs.Leaves.{type_other, optional_keeps, pat_keeps, arm_pat_keeps, value_path_keeps, called_path_keeps, variable_keeps, variable_in_scope}

module _ (file : File) (in_function : Bool) where
  abbrev pub KeepsIn : Known → Known → Type 0
  KeepsIn k m = Keeps file.text k m

  abbrev pub ScopedKeeps : Scoped → Type 0
  ScopedKeeps p = (scope : List Binding) (k : Known) → InScope file.text k.places scope → KeepsIn k (p scope k).behind

  -- what is in scope behind a statement is that of its place, too
  abbrev pub LineKeeps : Line → Type 0
  LineKeeps l = (scope : List Binding) (k : Known) → InScope file.text k.places scope
      → KeepsIn k (l.part scope k).behind × InScope file.text (l.part scope k).behind.places (l.after scope k)

  abbrev pub BehindKeeps : Behind → Type 0
  BehindKeeps (question s) = Unit {0}
  BehindKeeps (inner p) = ScopedKeeps p

  -- what is in scope stays so
  stays : (scope : List Binding) (k m : Known) → InScope file.text k.places scope → KeepsIn k m → InScope file.text m.places scope
  stays scope k m h p = scope_longer file.text k.places m.places scope p.longer h

  -- a part behind another
  behind : (q : Scoped) (scope : List Binding) (k m : Known) → ScopedKeeps q → InScope file.text k.places scope → KeepsIn k m → KeepsIn k (q scope m).behind
  behind q scope k m s h p = keeps_then file.text p (s scope m (stays scope k m h p))

  module _ (C : Type 0) (g : C → Scoped) where
    every_keep : (xs : List ((x : C) × ScopedKeeps (g x))) (scope : List Binding) (k : Known) → InScope file.text k.places scope
        → KeepsIn k (every (map g (map (λ x. x.0) xs)) scope k).behind
    every_keep [] scope k h = keeps file.text
    every_keep (x ∷ xs) scope k h =
        let p = x.1 scope k h in
        keeps_then file.text p (every_keep xs scope (g x.0 scope k).behind (stays scope k (g x.0 scope k).behind h p))

  abbrev ArgKeeps : Arg → Type 0
  ArgKeeps x = ScopedKeeps (names_of_arg file in_function x)

  abbrev ElseKeeps : Else → Type 0
  ElseKeeps x = ScopedKeeps (names_of_else file in_function x)

  abbrev ExpKeeps : Exp → Type 0
  ExpKeeps x = ScopedKeeps (names_of_exp file in_function x)

  abbrev PostfixKeeps : Postfix → Type 0
  PostfixKeeps x = BehindKeeps (names_of_postfix file in_function x)

  abbrev StepKeeps : Step → Type 0
  StepKeeps x = ScopedKeeps (names_of_step file in_function x)

  abbrev StmtKeeps : Stmt → Type 0
  StmtKeeps x = LineKeeps (names_of_stmt file in_function x)

  abbrev ArmKeeps : Arm → Type 0
  ArmKeeps x = ScopedKeeps (names_of_arm file in_function x)

  abbrev BlockKeeps : Block → Type 0
  BlockKeeps x = ScopedKeeps (names_of_block file in_function x)

  abbrev IfKeeps : If → Type 0
  IfKeeps x = ScopedKeeps (names_of_if file in_function x)

  abbrev OperandKeeps : Operand → Type 0
  OperandKeeps x = ScopedKeeps (names_of_operand file in_function x)

  abbrev A : Type 0
  A = (x : Arg) × ArgKeeps x

  abbrev L : Type 0
  L = (x : Else) × ElseKeeps x

  abbrev E : Type 0
  E = (x : Exp) × ExpKeeps x

  abbrev P : Type 0
  P = (x : Postfix) × PostfixKeeps x

  abbrev T : Type 0
  T = (x : Step) × StepKeeps x

  abbrev S : Type 0
  S = (x : Stmt) × StmtKeeps x

  abbrev R : Type 0
  R = (x : Arm) × ArmKeeps x

  abbrev B : Type 0
  B = (x : Block) × BlockKeeps x

  abbrev I : Type 0
  I = (x : If) × IfKeeps x

  abbrev O : Type 0
  O = (x : Operand) × OperandKeeps x

  assigned_keeps : (n : Span) → ScopedKeeps (assigned file n)
  assigned_keeps n scope k h =
      keeps_means file.text n (option_map (λ number. r.Local number) (look (bytes_at file.text n) scope))
      (λ number e. look_place file.text k.places scope (bytes_at file.text n) h number (found_alone (look (bytes_at file.text n) scope) number e))

  casts_keep : (ns : List Span) (k : Known) → KeepsIn k (all (map (alone file) ns) k).behind
  casts_keep [] k = keeps file.text
  casts_keep (n ∷ ns) k = keeps_then file.text (keeps_other file.text n _ (type_other file (bytes_at file.text n) 0)) (casts_keep ns (alone file n k).behind)

  -- what stands behind an expression
  next_keeps : (start : ℕ) (scope : List Binding) (k : Known) (a : Seen) (b : Behind) → BehindKeeps b → InScope file.text k.places scope → KeepsIn k a.behind
      → KeepsIn k (with_behind file in_function start b scope a).behind
  next_keeps start scope k a (question s) q h p = keeps_exit file.text (record { start = start; end = s.end }) p
  next_keeps start scope k a (inner q) s h p = behind q scope k a.behind s h p

  steps_keep : (start : ℕ) (scope : List Binding) (k : Known) (a : Seen) (xs : List P) → InScope file.text k.places scope → KeepsIn k a.behind
      → KeepsIn k (steps file in_function start (map (names_of_postfix file in_function) (map (λ x. x.0) xs)) scope a).behind
  steps_keep start scope k a [] h p = p
  steps_keep start scope k a (x ∷ xs) h p =
      steps_keep start scope k (with_behind file in_function start (names_of_postfix file in_function x.0) scope a) xs h
      (next_keeps start scope k a (names_of_postfix file in_function x.0) x.1 h p)

  lines_keep : (xs : List S) (scope : List Binding) (k : Known) → InScope file.text k.places scope
      → KeepsIn k (in_order (map (names_of_stmt file in_function) (map (λ x. x.0) xs)) scope k).behind
      × InScope file.text (in_order (map (names_of_stmt file in_function) (map (λ x. x.0) xs)) scope k).behind.places (scope_behind (map (names_of_stmt file in_function) (map (λ x. x.0) xs)) scope k)
  lines_keep [] scope k h = (keeps file.text, h)
  lines_keep (x ∷ xs) scope k h =
      let p = x.1 scope k h in
      let i = lines_keep xs ((names_of_stmt file in_function x.0).after scope k) ((names_of_stmt file in_function x.0).part scope k).behind p.1 in
      (keeps_then file.text p.0 i.0, i.1)

  abbrev arg_inside : Arg-F A L E P T S R B I O → Arg-F Arg Else Exp Postfix Step Stmt Arm Block If Operand
  arg_inside y = map-Arg A L E P T S R B I O Arg Else Exp Postfix Step Stmt Arm Block If Operand (λ x. x.0) (λ x. x.0) (λ x. x.0) (λ x. x.0) (λ x. x.0) (λ x. x.0) (λ x. x.0) (λ x. x.0) (λ x. x.0) (λ x. x.0) y

  abbrev arg_parts : Arg-F Arg Else Exp Postfix Step Stmt Arm Block If Operand → Scoped
  arg_parts y = arg_layer file in_function (map-Arg Arg Else Exp Postfix Step Stmt Arm Block If Operand Scoped Scoped Scoped Behind Scoped Line Scoped Scoped Scoped Scoped (names_of_arg file in_function) (names_of_else file in_function) (names_of_exp file in_function) (names_of_postfix file in_function) (names_of_step file in_function) (names_of_stmt file in_function) (names_of_arm file in_function) (names_of_block file in_function) (names_of_if file in_function) (names_of_operand file in_function) y)

  arg_layer_keeps : (y : Arg-F A L E P T S R B I O) → ScopedKeeps (arg_parts (arg_inside y))
  arg_layer_keeps (exp.Value e) scope k h = e.1 scope k h
  arg_layer_keeps (exp.Shared s e) scope k h = e.1 scope k h
  arg_layer_keeps (exp.Lent s n) scope k h = assigned_keeps n scope k h
  arg_layer_keeps (exp.List s es) scope k h = every_keep Exp (names_of_exp file in_function) es scope k h

  arg_level : (y : Arg-F A L E P T S R B I O) → ArgKeeps (roll-Arg (arg_inside y))
  arg_level y = subst ScopedKeeps (sym (fold-roll-Arg Scoped Scoped Scoped Behind Scoped Line Scoped Scoped Scoped Scoped (arg_layer file in_function) (else_layer file in_function) (exp_layer file in_function) (postfix_layer file in_function) (step_layer file in_function) (stmt_layer file in_function) (arm_layer file in_function) (block_layer file in_function) (if_layer file in_function) (operand_layer file in_function) (arg_inside y))) (arg_layer_keeps y)

  abbrev else_inside : Else-F A L E P T S R B I O → Else-F Arg Else Exp Postfix Step Stmt Arm Block If Operand
  else_inside y = map-Else A L E P T S R B I O Arg Else Exp Postfix Step Stmt Arm Block If Operand (λ x. x.0) (λ x. x.0) (λ x. x.0) (λ x. x.0) (λ x. x.0) (λ x. x.0) (λ x. x.0) (λ x. x.0) (λ x. x.0) (λ x. x.0) y

  abbrev else_parts : Else-F Arg Else Exp Postfix Step Stmt Arm Block If Operand → Scoped
  else_parts y = else_layer file in_function (map-Else Arg Else Exp Postfix Step Stmt Arm Block If Operand Scoped Scoped Scoped Behind Scoped Line Scoped Scoped Scoped Scoped (names_of_arg file in_function) (names_of_else file in_function) (names_of_exp file in_function) (names_of_postfix file in_function) (names_of_step file in_function) (names_of_stmt file in_function) (names_of_arm file in_function) (names_of_block file in_function) (names_of_if file in_function) (names_of_operand file in_function) y)

  else_layer_keeps : (y : Else-F A L E P T S R B I O) → ScopedKeeps (else_parts (else_inside y))
  else_layer_keeps (exp.Chain i) scope k h = i.1 scope k h
  else_layer_keeps (exp.Last b) scope k h = b.1 scope k h

  else_level : (y : Else-F A L E P T S R B I O) → ElseKeeps (roll-Else (else_inside y))
  else_level y = subst ScopedKeeps (sym (fold-roll-Else Scoped Scoped Scoped Behind Scoped Line Scoped Scoped Scoped Scoped (arg_layer file in_function) (else_layer file in_function) (exp_layer file in_function) (postfix_layer file in_function) (step_layer file in_function) (stmt_layer file in_function) (arm_layer file in_function) (block_layer file in_function) (if_layer file in_function) (operand_layer file in_function) (else_inside y))) (else_layer_keeps y)

  abbrev exp_inside : Exp-F A L E P T S R B I O → Exp-F Arg Else Exp Postfix Step Stmt Arm Block If Operand
  exp_inside y = map-Exp A L E P T S R B I O Arg Else Exp Postfix Step Stmt Arm Block If Operand (λ x. x.0) (λ x. x.0) (λ x. x.0) (λ x. x.0) (λ x. x.0) (λ x. x.0) (λ x. x.0) (λ x. x.0) (λ x. x.0) (λ x. x.0) y

  abbrev exp_parts : Exp-F Arg Else Exp Postfix Step Stmt Arm Block If Operand → Scoped
  exp_parts y = exp_layer file in_function (map-Exp Arg Else Exp Postfix Step Stmt Arm Block If Operand Scoped Scoped Scoped Behind Scoped Line Scoped Scoped Scoped Scoped (names_of_arg file in_function) (names_of_else file in_function) (names_of_exp file in_function) (names_of_postfix file in_function) (names_of_step file in_function) (names_of_stmt file in_function) (names_of_arm file in_function) (names_of_block file in_function) (names_of_if file in_function) (names_of_operand file in_function) y)

  exp_layer_keeps : (y : Exp-F A L E P T S R B I O) → ScopedKeeps (exp_parts (exp_inside y))
  exp_layer_keeps (exp.Int i) scope k h = keeps file.text
  exp_layer_keeps (exp.Bool s b) scope k h = keeps file.text
  exp_layer_keeps (exp.Unit s) scope k h = keeps file.text
  exp_layer_keeps (exp.Group s e) scope k h = e.1 scope k h
  exp_layer_keeps (exp.Tuple s es) scope k h = every_keep Exp (names_of_exp file in_function) es scope k h
  exp_layer_keeps (exp.Path p) scope k h = value_path_keeps file p scope k h
  exp_layer_keeps (exp.Call s p as') scope k h =
      let q = called_path_keeps file p k in
      keeps_then file.text q (every_keep Arg (names_of_arg file in_function) as' scope _ (stays scope k _ h q))
  exp_layer_keeps (exp.Block b) scope k h = b.1 scope k h
  exp_layer_keeps (exp.If i) scope k h = i.1 scope k h
  exp_layer_keeps (exp.Match s e as') scope k h =
      let q = e.1 scope k h in
      keeps_then file.text q (every_keep Arm (names_of_arm file in_function) as' scope _ (stays scope k _ h q))
  exp_layer_keeps (exp.Post s e ps) scope k h = steps_keep s.start scope k (names_of_exp file in_function e.0 scope k) ps h (e.1 scope k h)
  exp_layer_keeps (exp.Prefix s o e) scope k h = e.1 scope k h
  exp_layer_keeps (exp.Cast s e ns) scope k h = keeps_then file.text (e.1 scope k h) (casts_keep ns _)
  exp_layer_keeps (exp.Binary s e os) scope k h =
      let q = e.1 scope k h in
      keeps_then file.text q (every_keep Operand (names_of_operand file in_function) os scope _ (stays scope k _ h q))

  exp_level : (y : Exp-F A L E P T S R B I O) → ExpKeeps (roll-Exp (exp_inside y))
  exp_level y = subst ScopedKeeps (sym (fold-roll-Exp Scoped Scoped Scoped Behind Scoped Line Scoped Scoped Scoped Scoped (arg_layer file in_function) (else_layer file in_function) (exp_layer file in_function) (postfix_layer file in_function) (step_layer file in_function) (stmt_layer file in_function) (arm_layer file in_function) (block_layer file in_function) (if_layer file in_function) (operand_layer file in_function) (exp_inside y))) (exp_layer_keeps y)

  abbrev postfix_inside : Postfix-F A L E P T S R B I O → Postfix-F Arg Else Exp Postfix Step Stmt Arm Block If Operand
  postfix_inside y = map-Postfix A L E P T S R B I O Arg Else Exp Postfix Step Stmt Arm Block If Operand (λ x. x.0) (λ x. x.0) (λ x. x.0) (λ x. x.0) (λ x. x.0) (λ x. x.0) (λ x. x.0) (λ x. x.0) (λ x. x.0) (λ x. x.0) y

  abbrev postfix_parts : Postfix-F Arg Else Exp Postfix Step Stmt Arm Block If Operand → Behind
  postfix_parts y = postfix_layer file in_function (map-Postfix Arg Else Exp Postfix Step Stmt Arm Block If Operand Scoped Scoped Scoped Behind Scoped Line Scoped Scoped Scoped Scoped (names_of_arg file in_function) (names_of_else file in_function) (names_of_exp file in_function) (names_of_postfix file in_function) (names_of_step file in_function) (names_of_stmt file in_function) (names_of_arm file in_function) (names_of_block file in_function) (names_of_if file in_function) (names_of_operand file in_function) y)

  postfix_layer_keeps : (y : Postfix-F A L E P T S R B I O) → BehindKeeps (postfix_parts (postfix_inside y))
  postfix_layer_keeps (exp.Try s) = tt {0}
  postfix_layer_keeps (exp.Method s n as') = λ scope k h. every_keep Arg (names_of_arg file in_function) as' scope k h
  postfix_layer_keeps (exp.Step t) = t.1

  postfix_level : (y : Postfix-F A L E P T S R B I O) → PostfixKeeps (roll-Postfix (postfix_inside y))
  postfix_level y = subst BehindKeeps (sym (fold-roll-Postfix Scoped Scoped Scoped Behind Scoped Line Scoped Scoped Scoped Scoped (arg_layer file in_function) (else_layer file in_function) (exp_layer file in_function) (postfix_layer file in_function) (step_layer file in_function) (stmt_layer file in_function) (arm_layer file in_function) (block_layer file in_function) (if_layer file in_function) (operand_layer file in_function) (postfix_inside y))) (postfix_layer_keeps y)

  abbrev step_inside : Step-F A L E P T S R B I O → Step-F Arg Else Exp Postfix Step Stmt Arm Block If Operand
  step_inside y = map-Step A L E P T S R B I O Arg Else Exp Postfix Step Stmt Arm Block If Operand (λ x. x.0) (λ x. x.0) (λ x. x.0) (λ x. x.0) (λ x. x.0) (λ x. x.0) (λ x. x.0) (λ x. x.0) (λ x. x.0) (λ x. x.0) y

  abbrev step_parts : Step-F Arg Else Exp Postfix Step Stmt Arm Block If Operand → Scoped
  step_parts y = step_layer file in_function (map-Step Arg Else Exp Postfix Step Stmt Arm Block If Operand Scoped Scoped Scoped Behind Scoped Line Scoped Scoped Scoped Scoped (names_of_arg file in_function) (names_of_else file in_function) (names_of_exp file in_function) (names_of_postfix file in_function) (names_of_step file in_function) (names_of_stmt file in_function) (names_of_arm file in_function) (names_of_block file in_function) (names_of_if file in_function) (names_of_operand file in_function) y)

  step_layer_keeps : (y : Step-F A L E P T S R B I O) → ScopedKeeps (step_parts (step_inside y))
  step_layer_keeps (exp.Index s e) scope k h = e.1 scope k h
  step_layer_keeps (exp.Part s i) scope k h = keeps file.text

  step_level : (y : Step-F A L E P T S R B I O) → StepKeeps (roll-Step (step_inside y))
  step_level y = subst ScopedKeeps (sym (fold-roll-Step Scoped Scoped Scoped Behind Scoped Line Scoped Scoped Scoped Scoped (arg_layer file in_function) (else_layer file in_function) (exp_layer file in_function) (postfix_layer file in_function) (step_layer file in_function) (stmt_layer file in_function) (arm_layer file in_function) (block_layer file in_function) (if_layer file in_function) (operand_layer file in_function) (step_inside y))) (step_layer_keeps y)

  abbrev stmt_inside : Stmt-F A L E P T S R B I O → Stmt-F Arg Else Exp Postfix Step Stmt Arm Block If Operand
  stmt_inside y = map-Stmt A L E P T S R B I O Arg Else Exp Postfix Step Stmt Arm Block If Operand (λ x. x.0) (λ x. x.0) (λ x. x.0) (λ x. x.0) (λ x. x.0) (λ x. x.0) (λ x. x.0) (λ x. x.0) (λ x. x.0) (λ x. x.0) y

  abbrev stmt_parts : Stmt-F Arg Else Exp Postfix Step Stmt Arm Block If Operand → Line
  stmt_parts y = stmt_layer file in_function (map-Stmt Arg Else Exp Postfix Step Stmt Arm Block If Operand Scoped Scoped Scoped Behind Scoped Line Scoped Scoped Scoped Scoped (names_of_arg file in_function) (names_of_else file in_function) (names_of_exp file in_function) (names_of_postfix file in_function) (names_of_step file in_function) (names_of_stmt file in_function) (names_of_arm file in_function) (names_of_block file in_function) (names_of_if file in_function) (names_of_operand file in_function) y)

  stmt_layer_keeps : (y : Stmt-F A L E P T S R B I O) → LineKeeps (stmt_parts (stmt_inside y))
  stmt_layer_keeps (exp.Let s p t e) scope k h =
      let first = pat_keeps file in_function p (length k.places) k in
      let middle : Known = (names_of_pat file in_function p (length k.places) k).behind in
      let named : InScope file.text middle.places (bound file.text (binds p) (length k.places) scope) =
      subst (λ (ps : List Span). InScope file.text ps (bound file.text (binds p) (length k.places) scope)) (sym (pat_binds file in_function p (length k.places) k)) (bound_in_scope file.text (binds p) k.places scope h) in
      let typed = optional_keeps file t middle in
      let rest = keeps_then file.text typed (e.1 scope (optional_ty file t middle).behind (stays scope k (optional_ty file t middle).behind h (keeps_then file.text first typed))) in
      (keeps_then file.text first rest, stays (bound file.text (binds p) (length k.places) scope) middle _ named rest)
  stmt_layer_keeps (exp.Assign s t ss o e) scope k h =
      let name = assigned_keeps t.name scope k h in
      let way = keeps_then file.text name (every_keep Step (names_of_step file in_function) ss scope _ (stays scope k _ h name)) in
      let whole = keeps_then file.text way (e.1 scope _ (stays scope k _ h way)) in
      (whole, stays scope k _ h whole)
  stmt_layer_keeps (exp.For s x e f b) scope k h =
      let first = variable_keeps file in_function x k in
      let low = keeps_then file.text first (e.1 scope _ (stays scope k _ h first)) in
      let high = keeps_then file.text low (f.1 scope _ (stays scope k _ h low)) in
      let middle : Known = (variable_place file in_function x k).behind in
      let bounds = keeps_then file.text (e.1 scope middle (stays scope k middle h first)) (f.1 scope _ (stays scope k _ h low)) in
      let named = variable_in_scope file in_function x scope k h in
      let whole = keeps_then file.text high (b.1 (with_variable file in_function x (length k.places) scope) _ (stays (with_variable file in_function x (length k.places) scope) middle _ named bounds)) in
      (whole, stays scope k _ h whole)
  stmt_layer_keeps (exp.Return s None) scope k h = let whole = keeps_exit file.text s (keeps file.text) in (whole, stays scope k _ h whole)
  stmt_layer_keeps (exp.Return s (Some e)) scope k h = let whole = keeps_exit file.text s (e.1 scope k h) in (whole, stays scope k _ h whole)
  stmt_layer_keeps (exp.Bare e) scope k h = let whole = e.1 scope k h in (whole, stays scope k _ h whole)
  stmt_layer_keeps (exp.Exp s e) scope k h = let whole = e.1 scope k h in (whole, stays scope k _ h whole)

  stmt_level : (y : Stmt-F A L E P T S R B I O) → StmtKeeps (roll-Stmt (stmt_inside y))
  stmt_level y = subst LineKeeps (sym (fold-roll-Stmt Scoped Scoped Scoped Behind Scoped Line Scoped Scoped Scoped Scoped (arg_layer file in_function) (else_layer file in_function) (exp_layer file in_function) (postfix_layer file in_function) (step_layer file in_function) (stmt_layer file in_function) (arm_layer file in_function) (block_layer file in_function) (if_layer file in_function) (operand_layer file in_function) (stmt_inside y))) (stmt_layer_keeps y)

  abbrev arm_inside : Arm-F A L E P T S R B I O → Arm-F Arg Else Exp Postfix Step Stmt Arm Block If Operand
  arm_inside y = map-Arm A L E P T S R B I O Arg Else Exp Postfix Step Stmt Arm Block If Operand (λ x. x.0) (λ x. x.0) (λ x. x.0) (λ x. x.0) (λ x. x.0) (λ x. x.0) (λ x. x.0) (λ x. x.0) (λ x. x.0) (λ x. x.0) y

  abbrev arm_parts : Arm-F Arg Else Exp Postfix Step Stmt Arm Block If Operand → Scoped
  arm_parts y = arm_layer file in_function (map-Arm Arg Else Exp Postfix Step Stmt Arm Block If Operand Scoped Scoped Scoped Behind Scoped Line Scoped Scoped Scoped Scoped (names_of_arg file in_function) (names_of_else file in_function) (names_of_exp file in_function) (names_of_postfix file in_function) (names_of_step file in_function) (names_of_stmt file in_function) (names_of_arm file in_function) (names_of_block file in_function) (names_of_if file in_function) (names_of_operand file in_function) y)

  arm_layer_keeps : (y : Arm-F A L E P T S R B I O) → ScopedKeeps (arm_parts (arm_inside y))
  arm_layer_keeps a scope k h =
      let first = arm_pat_keeps file in_function a.pattern (length k.places) k in
      let middle : Known = (names_of_arm_pat file in_function a.pattern (length k.places) k).behind in
      let named : InScope file.text middle.places (bound file.text (binds_of_arm a.pattern) (length k.places) scope) =
      subst (λ (ps : List Span). InScope file.text ps (bound file.text (binds_of_arm a.pattern) (length k.places) scope)) (sym (arm_pat_binds file in_function a.pattern (length k.places) k)) (bound_in_scope file.text (binds_of_arm a.pattern) k.places scope h) in
      keeps_then file.text first (a.value.1 (bound file.text (binds_of_arm a.pattern) (length k.places) scope) middle named)

  arm_level : (y : Arm-F A L E P T S R B I O) → ArmKeeps (roll-Arm (arm_inside y))
  arm_level y = subst ScopedKeeps (sym (fold-roll-Arm Scoped Scoped Scoped Behind Scoped Line Scoped Scoped Scoped Scoped (arg_layer file in_function) (else_layer file in_function) (exp_layer file in_function) (postfix_layer file in_function) (step_layer file in_function) (stmt_layer file in_function) (arm_layer file in_function) (block_layer file in_function) (if_layer file in_function) (operand_layer file in_function) (arm_inside y))) (arm_layer_keeps y)

  abbrev block_inside : Block-F A L E P T S R B I O → Block-F Arg Else Exp Postfix Step Stmt Arm Block If Operand
  block_inside y = map-Block A L E P T S R B I O Arg Else Exp Postfix Step Stmt Arm Block If Operand (λ x. x.0) (λ x. x.0) (λ x. x.0) (λ x. x.0) (λ x. x.0) (λ x. x.0) (λ x. x.0) (λ x. x.0) (λ x. x.0) (λ x. x.0) y

  abbrev block_parts : Block-F Arg Else Exp Postfix Step Stmt Arm Block If Operand → Scoped
  block_parts y = block_layer file in_function (map-Block Arg Else Exp Postfix Step Stmt Arm Block If Operand Scoped Scoped Scoped Behind Scoped Line Scoped Scoped Scoped Scoped (names_of_arg file in_function) (names_of_else file in_function) (names_of_exp file in_function) (names_of_postfix file in_function) (names_of_step file in_function) (names_of_stmt file in_function) (names_of_arm file in_function) (names_of_block file in_function) (names_of_if file in_function) (names_of_operand file in_function) y)

  block_case : (s : Span) (ss : List S) (t : Option E) → ScopedKeeps (block_parts (block_inside (record { span = s; statements = ss; tail = t })))
  block_case s ss None scope k h = (lines_keep ss scope k h).0
  block_case s ss (Some t) scope k h = let p = lines_keep ss scope k h in keeps_then file.text p.0 (t.1 _ _ p.1)

  block_layer_keeps : (y : Block-F A L E P T S R B I O) → ScopedKeeps (block_parts (block_inside y))
  block_layer_keeps y = block_case y.span y.statements y.tail

  block_level : (y : Block-F A L E P T S R B I O) → BlockKeeps (roll-Block (block_inside y))
  block_level y = subst ScopedKeeps (sym (fold-roll-Block Scoped Scoped Scoped Behind Scoped Line Scoped Scoped Scoped Scoped (arg_layer file in_function) (else_layer file in_function) (exp_layer file in_function) (postfix_layer file in_function) (step_layer file in_function) (stmt_layer file in_function) (arm_layer file in_function) (block_layer file in_function) (if_layer file in_function) (operand_layer file in_function) (block_inside y))) (block_layer_keeps y)

  abbrev if_inside : If-F A L E P T S R B I O → If-F Arg Else Exp Postfix Step Stmt Arm Block If Operand
  if_inside y = map-If A L E P T S R B I O Arg Else Exp Postfix Step Stmt Arm Block If Operand (λ x. x.0) (λ x. x.0) (λ x. x.0) (λ x. x.0) (λ x. x.0) (λ x. x.0) (λ x. x.0) (λ x. x.0) (λ x. x.0) (λ x. x.0) y

  abbrev if_parts : If-F Arg Else Exp Postfix Step Stmt Arm Block If Operand → Scoped
  if_parts y = if_layer file in_function (map-If Arg Else Exp Postfix Step Stmt Arm Block If Operand Scoped Scoped Scoped Behind Scoped Line Scoped Scoped Scoped Scoped (names_of_arg file in_function) (names_of_else file in_function) (names_of_exp file in_function) (names_of_postfix file in_function) (names_of_step file in_function) (names_of_stmt file in_function) (names_of_arm file in_function) (names_of_block file in_function) (names_of_if file in_function) (names_of_operand file in_function) y)

  if_case : (s : Span) (c : E) (b : B) (o : Option L) → ScopedKeeps (if_parts (if_inside (record { span = s; condition = c; then = b; otherwise = o })))
  if_case s c b None scope k h = let p = c.1 scope k h in keeps_then file.text p (b.1 scope _ (stays scope k _ h p))
  if_case s c b (Some o) scope k h =
      let p = c.1 scope k h in
      let q = keeps_then file.text p (b.1 scope _ (stays scope k _ h p)) in
      keeps_then file.text q (o.1 scope _ (stays scope k _ h q))

  if_layer_keeps : (y : If-F A L E P T S R B I O) → ScopedKeeps (if_parts (if_inside y))
  if_layer_keeps y = if_case y.span y.condition y.then y.otherwise

  if_level : (y : If-F A L E P T S R B I O) → IfKeeps (roll-If (if_inside y))
  if_level y = subst ScopedKeeps (sym (fold-roll-If Scoped Scoped Scoped Behind Scoped Line Scoped Scoped Scoped Scoped (arg_layer file in_function) (else_layer file in_function) (exp_layer file in_function) (postfix_layer file in_function) (step_layer file in_function) (stmt_layer file in_function) (arm_layer file in_function) (block_layer file in_function) (if_layer file in_function) (operand_layer file in_function) (if_inside y))) (if_layer_keeps y)

  abbrev operand_inside : Operand-F A L E P T S R B I O → Operand-F Arg Else Exp Postfix Step Stmt Arm Block If Operand
  operand_inside y = map-Operand A L E P T S R B I O Arg Else Exp Postfix Step Stmt Arm Block If Operand (λ x. x.0) (λ x. x.0) (λ x. x.0) (λ x. x.0) (λ x. x.0) (λ x. x.0) (λ x. x.0) (λ x. x.0) (λ x. x.0) (λ x. x.0) y

  abbrev operand_parts : Operand-F Arg Else Exp Postfix Step Stmt Arm Block If Operand → Scoped
  operand_parts y = operand_layer file in_function (map-Operand Arg Else Exp Postfix Step Stmt Arm Block If Operand Scoped Scoped Scoped Behind Scoped Line Scoped Scoped Scoped Scoped (names_of_arg file in_function) (names_of_else file in_function) (names_of_exp file in_function) (names_of_postfix file in_function) (names_of_step file in_function) (names_of_stmt file in_function) (names_of_arm file in_function) (names_of_block file in_function) (names_of_if file in_function) (names_of_operand file in_function) y)

  operand_layer_keeps : (y : Operand-F A L E P T S R B I O) → ScopedKeeps (operand_parts (operand_inside y))
  operand_layer_keeps o scope k h = o.right.1 scope k h

  operand_level : (y : Operand-F A L E P T S R B I O) → OperandKeeps (roll-Operand (operand_inside y))
  operand_level y = subst ScopedKeeps (sym (fold-roll-Operand Scoped Scoped Scoped Behind Scoped Line Scoped Scoped Scoped Scoped (arg_layer file in_function) (else_layer file in_function) (exp_layer file in_function) (postfix_layer file in_function) (step_layer file in_function) (stmt_layer file in_function) (arm_layer file in_function) (block_layer file in_function) (if_layer file in_function) (operand_layer file in_function) (operand_inside y))) (operand_layer_keeps y)

  pub exp_keeps : (x : Exp) → ExpKeeps x
  exp_keeps = ind-Exp ArgKeeps ElseKeeps ExpKeeps PostfixKeeps StepKeeps StmtKeeps ArmKeeps BlockKeeps IfKeeps OperandKeeps
      (λ x y is. subst (λ z. ArgKeeps (roll-Arg z)) is (arg_level y))
      (λ x y is. subst (λ z. ElseKeeps (roll-Else z)) is (else_level y))
      (λ x y is. subst (λ z. ExpKeeps (roll-Exp z)) is (exp_level y))
      (λ x y is. subst (λ z. PostfixKeeps (roll-Postfix z)) is (postfix_level y))
      (λ x y is. subst (λ z. StepKeeps (roll-Step z)) is (step_level y))
      (λ x y is. subst (λ z. StmtKeeps (roll-Stmt z)) is (stmt_level y))
      (λ x y is. subst (λ z. ArmKeeps (roll-Arm z)) is (arm_level y))
      (λ x y is. subst (λ z. BlockKeeps (roll-Block z)) is (block_level y))
      (λ x y is. subst (λ z. IfKeeps (roll-If z)) is (if_level y))
      (λ x y is. subst (λ z. OperandKeeps (roll-Operand z)) is (operand_level y))

  pub block_keeps : (x : Block) → BlockKeeps x
  block_keeps = ind-Block ArgKeeps ElseKeeps ExpKeeps PostfixKeeps StepKeeps StmtKeeps ArmKeeps BlockKeeps IfKeeps OperandKeeps
      (λ x y is. subst (λ z. ArgKeeps (roll-Arg z)) is (arg_level y))
      (λ x y is. subst (λ z. ElseKeeps (roll-Else z)) is (else_level y))
      (λ x y is. subst (λ z. ExpKeeps (roll-Exp z)) is (exp_level y))
      (λ x y is. subst (λ z. PostfixKeeps (roll-Postfix z)) is (postfix_level y))
      (λ x y is. subst (λ z. StepKeeps (roll-Step z)) is (step_level y))
      (λ x y is. subst (λ z. StmtKeeps (roll-Stmt z)) is (stmt_level y))
      (λ x y is. subst (λ z. ArmKeeps (roll-Arm z)) is (arm_level y))
      (λ x y is. subst (λ z. BlockKeeps (roll-Block z)) is (block_level y))
      (λ x y is. subst (λ z. IfKeeps (roll-If z)) is (if_level y))
      (λ x y is. subst (λ z. OperandKeeps (roll-Operand z)) is (operand_level y))
