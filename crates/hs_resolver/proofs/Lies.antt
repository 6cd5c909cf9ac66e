-- Expressions, statements and blocks: their nodes lie as in the outline.
use Rattle.std.proofs.Common.{ℕ, ◌+◌, ◌≡◌, refl, sym, subst, Bool, Option, Some, None, List, [], ◌∷◌, map, length, option_map}
use Rattle.hs_syntax.specs.declared.span.Span.{Span}
use Rattle.hs_syntax.specs.declared.file.File.{File}
use Rattle.hs_syntax.specs.declared.exp.Arg.{Arg}
use Rattle.hs_syntax.specs.declared.exp.Else.{Else}
use Rattle.hs_syntax.specs.declared.exp.Exp.{Exp}
use Rattle.hs_syntax.specs.declared.exp.Postfix.{Postfix}
use Rattle.hs_syntax.specs.declared.exp.Step.{Step}
use Rattle.hs_syntax.specs.declared.exp.Stmt.{Stmt}
use Rattle.hs_syntax.specs.declared.exp.Arm.{Arm}
use Rattle.hs_syntax.specs.declared.exp.Block.{Block}
use Rattle.hs_syntax.specs.declared.exp.If.{If}
use Rattle.hs_syntax.specs.declared.exp.Operand.{Operand}
use Rattle.hs_syntax.specs.declared.exp.Arg.TheOpen.{Arg-F, Else-F, Exp-F, Postfix-F, Step-F, Stmt-F, Arm-F, Block-F, If-F, Operand-F}
use Rattle.hs_syntax.specs.declared.exp.Arg.TheOpen as exp
use Rattle.hs_syntax.specs.declared.exp.Arg.TheViews.{roll-Arg, roll-Else, roll-Exp, roll-Postfix, roll-Step, roll-Stmt, roll-Arm, roll-Block, roll-If, roll-Operand}
use Rattle.hs_syntax.specs.declared.exp.Arg.TheFolds.{map-Arg, map-Else, map-Exp, map-Postfix, map-Step, map-Stmt, map-Arm, map-Block, map-If, map-Operand, fold-roll-Arg, fold-roll-Else, fold-roll-Exp, fold-roll-Postfix, fold-roll-Step, fold-roll-Stmt, fold-roll-Arm, fold-roll-Block, fold-roll-If, fold-roll-Operand, ind-Exp, ind-Block}
use Rattle.hs_limits.specs.Outline.{Outline, Node, Surplus, counted, none, join, node, part, statement, one, numbered, chain}
use Rattle.hs_limits.specs.Outline as outline
use Rattle.hs_limits.specs.Nodes.{word, node_of_arg, node_of_else, node_of_exp, node_of_postfix, node_of_step, node_of_stmt, node_of_arm, node_of_block, node_of_if, node_of_operand}
use Rattle.hs_limits.specs.Nodes as nodes
use Rattle.hs_scope.specs.Scope.{Binding, look}
use Rattle.hs_symbols.specs.declared.referent.Referent.{Referent}
use Rattle.hs_symbols.specs.declared.referent.Referent.TheVariants as r
use Rattle.hs_syntax.specs.Texts.{bytes_at}
use Rattle.hs_resolver.specs.declared.known.Known.{Known}
use Rattle.hs_resolver.specs.Parts.{Seen, Scoped, Line, all, every, in_order}
use Rattle.hs_resolver.specs.Rules.{type_of}
use Rattle.hs_resolver.specs.Names.{Behind, question, inner, with_behind, steps, alone, names_of_arg, names_of_else, names_of_exp, names_of_postfix, names_of_step, names_of_stmt, names_of_arm, names_of_block, names_of_if, names_of_operand, arg_layer, else_layer, exp_layer, postfix_layer, step_layer, stmt_layer, arm_layer, block_layer, if_layer, operand_layer}
use Rattle.hs_resolver.proofs.Good.{Good, good_none, good_join, good_left, good_right, good_apart, good_node, good_leaf, good_inside, good_over, good_exit, good_known, good_chain, one_rises}
use Rattle.hs_resolver.proofs.Patterns.{Fits, called_path_fits, value_path_fits, optional_fits, pat_fits, arm_pat_fits, variable_fits}

abbrev pub ScopedFits : Node → Scoped → Type 0
ScopedFits n p = (scope : List Binding) → Fits n (p scope)

abbrev pub LineFits : Node → Line → Type 0
LineFits n l = ScopedFits n l.part

-- a `?` ends where its node does
abbrev pub BehindFits : Node → Behind → Type 0
BehindFits n (question s) = n.at ≡ s
BehindFits n (inner p) = ScopedFits n p

-- in a row, where it holds of each
module _ (C : Type 0) (f : C → Node) (g : C → Scoped) where
  abbrev Each : Type 0
  Each = (x : C) × ScopedFits (f x) (g x)

  every_fits : (xs : List Each) (scope : List Binding) (k : Known) → Good (outline.all (map f (map (λ x. x.0) xs))) (every (map g (map (λ x. x.0) xs)) scope k).nodes k (every (map g (map (λ x. x.0) xs)) scope k).behind
  every_fits [] scope k = good_none
  every_fits (x ∷ xs) scope k = good_join (x.1 scope k) (every_fits xs scope (g x.0 scope k).behind)

  numbered_every_fits : (limit : ℕ) (what : Surplus) (i : ℕ) (xs : List Each) (scope : List Binding) (k : Known)
      → Good (numbered limit what i (map f (map (λ x. x.0) xs))) (every (map g (map (λ x. x.0) xs)) scope k).nodes k (every (map g (map (λ x. x.0) xs)) scope k).behind
  numbered_every_fits limit what i [] scope k = good_none
  numbered_every_fits limit what i (x ∷ xs) scope k = good_join (good_over (x.1 scope k)) (numbered_every_fits limit what (i + 1) xs scope (g x.0 scope k).behind)

module _ (file : File) (in_function : Bool) where
  abbrev ArgFits : Arg → Type 0
  ArgFits x = ScopedFits (node_of_arg x) (names_of_arg file in_function x)

  abbrev ElseFits : Else → Type 0
  ElseFits x = ScopedFits (node_of_else x) (names_of_else file in_function x)

  abbrev ExpFits : Exp → Type 0
  ExpFits x = ScopedFits (node_of_exp x) (names_of_exp file in_function x)

  abbrev PostfixFits : Postfix → Type 0
  PostfixFits x = BehindFits (node_of_postfix x) (names_of_postfix file in_function x)

  abbrev StepFits : Step → Type 0
  StepFits x = ScopedFits (node_of_step x) (names_of_step file in_function x)

  abbrev StmtFits : Stmt → Type 0
  StmtFits x = LineFits (node_of_stmt x) (names_of_stmt file in_function x)

  abbrev ArmFits : Arm → Type 0
  ArmFits x = ScopedFits (node_of_arm x) (names_of_arm file in_function x)

  abbrev BlockFits : Block → Type 0
  BlockFits x = ScopedFits (node_of_block x) (names_of_block file in_function x)

  abbrev IfFits : If → Type 0
  IfFits x = ScopedFits (node_of_if x) (names_of_if file in_function x)

  abbrev OperandFits : Operand → Type 0
  OperandFits x = ScopedFits (node_of_operand x) (names_of_operand file in_function x)

  abbrev A : Type 0
  A = (x : Arg) × ArgFits x

  abbrev L : Type 0
  L = (x : Else) × ElseFits x

  abbrev E : Type 0
  E = (x : Exp) × ExpFits x

  abbrev P : Type 0
  P = (x : Postfix) × PostfixFits x

  abbrev T : Type 0
  T = (x : Step) × StepFits x

  abbrev S : Type 0
  S = (x : Stmt) × StmtFits x

  abbrev R : Type 0
  R = (x : Arm) × ArmFits x

  abbrev B : Type 0
  B = (x : Block) × BlockFits x

  abbrev I : Type 0
  I = (x : If) × IfFits x

  abbrev O : Type 0
  O = (x : Operand) × OperandFits x

  -- the local that a name stands for
  abbrev local_named : List Binding → Span → Option Referent
  local_named scope n = option_map (λ number. r.Local number) (look (bytes_at file.text n) scope)

  casts_fit : (ns : List Span) (k : Known) → Good (outline.all (map word ns)) (all (map (alone file) ns) k).nodes k (all (map (alone file) ns) k).behind
  casts_fit [] k = good_none
  casts_fit (n ∷ ns) k = good_join (good_known (type_of file (bytes_at file.text n) 0) (one_rises _ _)) (casts_fit ns (alone file n k).behind)

  -- what stands behind an expression
  next_fits : (start : ℕ) (scope : List Binding) (o : Outline) (k : Known) (a : Seen) (n : Node) (b : Behind) → BehindFits n b → Good o a.nodes k a.behind
      → Good (node (record { start = start; end = n.at.end }) counted None (join o (one n))) (with_behind file in_function start b scope a).nodes k (with_behind file in_function start b scope a).behind
  next_fits start scope o k a n (question s) e p =
      subst (λ (s : Span). Good (node (record { start = start; end = n.at.end }) counted None (join o (one n))) (with_behind file in_function start (question s) scope a).nodes k (with_behind file in_function start (question s) scope a).behind) e
      (good_exit (record { start = start; end = n.at.end }) (good_node (one_rises _ _) (good_left p)))
  next_fits start scope o k a n (inner q) h p = good_inside (good_join p (h scope a.behind))

  steps_fit : (start : ℕ) (scope : List Binding) (o : Outline) (k : Known) (a : Seen) (xs : List P) → Good o a.nodes k a.behind
      → Good (chain start o (map node_of_postfix (map (λ x. x.0) xs))) (steps file in_function start (map (names_of_postfix file in_function) (map (λ x. x.0) xs)) scope a).nodes k (steps file in_function start (map (names_of_postfix file in_function) (map (λ x. x.0) xs)) scope a).behind
  steps_fit start scope o k a [] p = p
  steps_fit start scope o k a (x ∷ xs) p =
      steps_fit start scope (node (record { start = start; end = (node_of_postfix x.0).at.end }) counted None (join o (one (node_of_postfix x.0)))) k
      (with_behind file in_function start (names_of_postfix file in_function x.0) scope a) xs
      (next_fits start scope o k a (node_of_postfix x.0) (names_of_postfix file in_function x.0) x.1 p)

  lines_fit : (i : ℕ) (xs : List S) (scope : List Binding) (k : Known)
      → Good (numbered 1024 statement i (map node_of_stmt (map (λ x. x.0) xs))) (in_order (map (names_of_stmt file in_function) (map (λ x. x.0) xs)) scope k).nodes k (in_order (map (names_of_stmt file in_function) (map (λ x. x.0) xs)) scope k).behind
  lines_fit i [] scope k = good_none
  lines_fit i (x ∷ xs) scope k =
      good_join (good_over (x.1 scope k))
      (lines_fit (i + 1) xs ((names_of_stmt file in_function x.0).after scope k) ((names_of_stmt file in_function x.0).part scope k).behind)

  abbrev arg_inside : Arg-F A L E P T S R B I O → Arg-F Arg Else Exp Postfix Step Stmt Arm Block If Operand
  arg_inside y = map-Arg A L E P T S R B I O Arg Else Exp Postfix Step Stmt Arm Block If Operand (λ x. x.0) (λ x. x.0) (λ x. x.0) (λ x. x.0) (λ x. x.0) (λ x. x.0) (λ x. x.0) (λ x. x.0) (λ x. x.0) (λ x. x.0) y

  abbrev arg_outlines : Arg-F Arg Else Exp Postfix Step Stmt Arm Block If Operand → Node
  arg_outlines y = nodes.arg_layer (map-Arg Arg Else Exp Postfix Step Stmt Arm Block If Operand Node Node Node Node Node Node Node Node Node Node node_of_arg node_of_else node_of_exp node_of_postfix node_of_step node_of_stmt node_of_arm node_of_block node_of_if node_of_operand y)

  abbrev arg_parts : Arg-F Arg Else Exp Postfix Step Stmt Arm Block If Operand → Scoped
  arg_parts y = arg_layer file in_function (map-Arg Arg Else Exp Postfix Step Stmt Arm Block If Operand Scoped Scoped Scoped Behind Scoped Line Scoped Scoped Scoped Scoped (names_of_arg file in_function) (names_of_else file in_function) (names_of_exp file in_function) (names_of_postfix file in_function) (names_of_step file in_function) (names_of_stmt file in_function) (names_of_arm file in_function) (names_of_block file in_function) (names_of_if file in_function) (names_of_operand file in_function) y)

  arg_layer_fits : (y : Arg-F A L E P T S R B I O) → ScopedFits (arg_outlines (arg_inside y)) (arg_parts (arg_inside y))
  arg_layer_fits (exp.Value e) scope k = e.1 scope k
  arg_layer_fits (exp.Shared s e) scope k = good_inside (e.1 scope k)
  arg_layer_fits (exp.Lent s n) scope k = good_inside (good_known (local_named scope n) (one_rises _ _))
  arg_layer_fits (exp.List s es) scope k = good_inside (every_fits Exp node_of_exp (names_of_exp file in_function) es scope k)

  arg_level : (y : Arg-F A L E P T S R B I O) → ArgFits (roll-Arg (arg_inside y))
  arg_level y =
      subst (λ (n : Node). ScopedFits n (names_of_arg file in_function (roll-Arg (arg_inside y)))) (sym (fold-roll-Arg Node Node Node Node Node Node Node Node Node Node nodes.arg_layer nodes.else_layer nodes.exp_layer nodes.postfix_layer nodes.step_layer nodes.stmt_layer nodes.arm_layer nodes.block_layer nodes.if_layer nodes.operand_layer (arg_inside y)))
      (subst (λ (p : Scoped). ScopedFits (arg_outlines (arg_inside y)) p) (sym (fold-roll-Arg Scoped Scoped Scoped Behind Scoped Line Scoped Scoped Scoped Scoped (arg_layer file in_function) (else_layer file in_function) (exp_layer file in_function) (postfix_layer file in_function) (step_layer file in_function) (stmt_layer file in_function) (arm_layer file in_function) (block_layer file in_function) (if_layer file in_function) (operand_layer file in_function) (arg_inside y))) (arg_layer_fits y))

  abbrev else_inside : Else-F A L E P T S R B I O → Else-F Arg Else Exp Postfix Step Stmt Arm Block If Operand
  else_inside y = map-Else A L E P T S R B I O Arg Else Exp Postfix Step Stmt Arm Block If Operand (λ x. x.0) (λ x. x.0) (λ x. x.0) (λ x. x.0) (λ x. x.0) (λ x. x.0) (λ x. x.0) (λ x. x.0) (λ x. x.0) (λ x. x.0) y

  abbrev else_outlines : Else-F Arg Else Exp Postfix Step Stmt Arm Block If Operand → Node
  else_outlines y = nodes.else_layer (map-Else Arg Else Exp Postfix Step Stmt Arm Block If Operand Node Node Node Node Node Node Node Node Node Node node_of_arg node_of_else node_of_exp node_of_postfix node_of_step node_of_stmt node_of_arm node_of_block node_of_if node_of_operand y)

  abbrev else_parts : Else-F Arg Else Exp Postfix Step Stmt Arm Block If Operand → Scoped
  else_parts y = else_layer file in_function (map-Else Arg Else Exp Postfix Step Stmt Arm Block If Operand Scoped Scoped Scoped Behind Scoped Line Scoped Scoped Scoped Scoped (names_of_arg file in_function) (names_of_else file in_function) (names_of_exp file in_function) (names_of_postfix file in_function) (names_of_step file in_function) (names_of_stmt file in_function) (names_of_arm file in_function) (names_of_block file in_function) (names_of_if file in_function) (names_of_operand file in_function) y)

  else_layer_fits : (y : Else-F A L E P T S R B I O) → ScopedFits (else_outlines (else_inside y)) (else_parts (else_inside y))
  else_layer_fits (exp.Chain i) scope k = i.1 scope k
  else_layer_fits (exp.Last b) scope k = b.1 scope k

  else_level : (y : Else-F A L E P T S R B I O) → ElseFits (roll-Else (else_inside y))
  else_level y =
      subst (λ (n : Node). ScopedFits n (names_of_else file in_function (roll-Else (else_inside y)))) (sym (fold-roll-Else Node Node Node Node Node Node Node Node Node Node nodes.arg_layer nodes.else_layer nodes.exp_layer nodes.postfix_layer nodes.step_layer nodes.stmt_layer nodes.arm_layer nodes.block_layer nodes.if_layer nodes.operand_layer (else_inside y)))
      (subst (λ (p : Scoped). ScopedFits (else_outlines (else_inside y)) p) (sym (fold-roll-Else Scoped Scoped Scoped Behind Scoped Line Scoped Scoped Scoped Scoped (arg_layer file in_function) (else_layer file in_function) (exp_layer file in_function) (postfix_layer file in_function) (step_layer file in_function) (stmt_layer file in_function) (arm_layer file in_function) (block_layer file in_function) (if_layer file in_function) (operand_layer file in_function) (else_inside y))) (else_layer_fits y))

  abbrev exp_inside : Exp-F A L E P T S R B I O → Exp-F Arg Else Exp Postfix Step Stmt Arm Block If Operand
  exp_inside y = map-Exp A L E P T S R B I O Arg Else Exp Postfix Step Stmt Arm Block If Operand (λ x. x.0) (λ x. x.0) (λ x. x.0) (λ x. x.0) (λ x. x.0) (λ x. x.0) (λ x. x.0) (λ x. x.0) (λ x. x.0) (λ x. x.0) y

  abbrev exp_outlines : Exp-F Arg Else Exp Postfix Step Stmt Arm Block If Operand → Node
  exp_outlines y = nodes.exp_layer (map-Exp Arg Else Exp Postfix Step Stmt Arm Block If Operand Node Node Node Node Node Node Node Node Node Node node_of_arg node_of_else node_of_exp node_of_postfix node_of_step node_of_stmt node_of_arm node_of_block node_of_if node_of_operand y)

  abbrev exp_parts : Exp-F Arg Else Exp Postfix Step Stmt Arm Block If Operand → Scoped
  exp_parts y = exp_layer file in_function (map-Exp Arg Else Exp Postfix Step Stmt Arm Block If Operand Scoped Scoped Scoped Behind Scoped Line Scoped Scoped Scoped Scoped (names_of_arg file in_function) (names_of_else file in_function) (names_of_exp file in_function) (names_of_postfix file in_function) (names_of_step file in_function) (names_of_stmt file in_function) (names_of_arm file in_function) (names_of_block file in_function) (names_of_if file in_function) (names_of_operand file in_function) y)

  exp_layer_fits : (y : Exp-F A L E P T S R B I O) → ScopedFits (exp_outlines (exp_inside y)) (exp_parts (exp_inside y))
  exp_layer_fits (exp.Int i) scope k = good_none
  exp_layer_fits (exp.Bool s b) scope k = good_none
  exp_layer_fits (exp.Unit s) scope k = good_none
  exp_layer_fits (exp.Group s e) scope k = good_inside (e.1 scope k)
  exp_layer_fits (exp.Tuple s es) scope k = good_inside (numbered_every_fits Exp node_of_exp (names_of_exp file in_function) 12 part 0 es scope k)
  exp_layer_fits (exp.Path p) scope k = good_inside (value_path_fits file p scope k)
  exp_layer_fits (exp.Call s p as') scope k = good_inside (good_join (called_path_fits file p k) (every_fits Arg node_of_arg (names_of_arg file in_function) as' scope _))
  exp_layer_fits (exp.Block b) scope k = b.1 scope k
  exp_layer_fits (exp.If i) scope k = i.1 scope k
  exp_layer_fits (exp.Match s e as') scope k = good_inside (good_join (e.1 scope k) (every_fits Arm node_of_arm (names_of_arm file in_function) as' scope _))
  exp_layer_fits (exp.Post s e ps) scope k = good_inside (steps_fit s.start scope (one (node_of_exp e.0)) k (names_of_exp file in_function e.0 scope k) ps (e.1 scope k))
  exp_layer_fits (exp.Prefix s o e) scope k = good_inside (e.1 scope k)
  exp_layer_fits (exp.Cast s e ns) scope k = good_inside (good_chain s.start (one (node_of_exp e.0)) (map word ns) (good_join (e.1 scope k) (casts_fit ns _)))
  exp_layer_fits (exp.Binary s e os) scope k = good_inside (good_chain s.start (one (node_of_exp e.0)) (map node_of_operand (map (λ x. x.0) os)) (good_join (e.1 scope k) (every_fits Operand node_of_operand (names_of_operand file in_function) os scope _)))

  exp_level : (y : Exp-F A L E P T S R B I O) → ExpFits (roll-Exp (exp_inside y))
  exp_level y =
      subst (λ (n : Node). ScopedFits n (names_of_exp file in_function (roll-Exp (exp_inside y)))) (sym (fold-roll-Exp Node Node Node Node Node Node Node Node Node Node nodes.arg_layer nodes.else_layer nodes.exp_layer nodes.postfix_layer nodes.step_layer nodes.stmt_layer nodes.arm_layer nodes.block_layer nodes.if_layer nodes.operand_layer (exp_inside y)))
      (subst (λ (p : Scoped). ScopedFits (exp_outlines (exp_inside y)) p) (sym (fold-roll-Exp Scoped Scoped Scoped Behind Scoped Line Scoped Scoped Scoped Scoped (arg_layer file in_function) (else_layer file in_function) (exp_layer file in_function) (postfix_layer file in_function) (step_layer file in_function) (stmt_layer file in_function) (arm_layer file in_function) (block_layer file in_function) (if_layer file in_function) (operand_layer file in_function) (exp_inside y))) (exp_layer_fits y))

  abbrev postfix_inside : Postfix-F A L E P T S R B I O → Postfix-F Arg Else Exp Postfix Step Stmt Arm Block If Operand
  postfix_inside y = map-Postfix A L E P T S R B I O Arg Else Exp Postfix Step Stmt Arm Block If Operand (λ x. x.0) (λ x. x.0) (λ x. x.0) (λ x. x.0) (λ x. x.0) (λ x. x.0) (λ x. x.0) (λ x. x.0) (λ x. x.0) (λ x. x.0) y

  abbrev postfix_outlines : Postfix-F Arg Else Exp Postfix Step Stmt Arm Block If Operand → Node
  postfix_outlines y = nodes.postfix_layer (map-Postfix Arg Else Exp Postfix Step Stmt Arm Block If Operand Node Node Node Node Node Node Node Node Node Node node_of_arg node_of_else node_of_exp node_of_postfix node_of_step node_of_stmt node_of_arm node_of_block node_of_if node_of_operand y)

  abbrev postfix_parts : Postfix-F Arg Else Exp Postfix Step Stmt Arm Block If Operand → Behind
  postfix_parts y = postfix_layer file in_function (map-Postfix Arg Else Exp Postfix Step Stmt Arm Block If Operand Scoped Scoped Scoped Behind Scoped Line Scoped Scoped Scoped Scoped (names_of_arg file in_function) (names_of_else file in_function) (names_of_exp file in_function) (names_of_postfix file in_function) (names_of_step file in_function) (names_of_stmt file in_function) (names_of_arm file in_function) (names_of_block file in_function) (names_of_if file in_function) (names_of_operand file in_function) y)

  postfix_layer_fits : (y : Postfix-F A L E P T S R B I O) → BehindFits (postfix_outlines (postfix_inside y)) (postfix_parts (postfix_inside y))
  postfix_layer_fits (exp.Try s) = refl
  postfix_layer_fits (exp.Method s n as') = λ scope k. good_inside (good_right (every_fits Arg node_of_arg (names_of_arg file in_function) as' scope k))
  postfix_layer_fits (exp.Step t) = t.1

  postfix_level : (y : Postfix-F A L E P T S R B I O) → PostfixFits (roll-Postfix (postfix_inside y))
  postfix_level y =
      subst (λ (n : Node). BehindFits n (names_of_postfix file in_function (roll-Postfix (postfix_inside y)))) (sym (fold-roll-Postfix Node Node Node Node Node Node Node Node Node Node nodes.arg_layer nodes.else_layer nodes.exp_layer nodes.postfix_layer nodes.step_layer nodes.stmt_layer nodes.arm_layer nodes.block_layer nodes.if_layer nodes.operand_layer (postfix_inside y)))
      (subst (λ (p : Behind). BehindFits (postfix_outlines (postfix_inside y)) p) (sym (fold-roll-Postfix Scoped Scoped Scoped Behind Scoped Line Scoped Scoped Scoped Scoped (arg_layer file in_function) (else_layer file in_function) (exp_layer file in_function) (postfix_layer file in_function) (step_layer file in_function) (stmt_layer file in_function) (arm_layer file in_function) (block_layer file in_function) (if_layer file in_function) (operand_layer file in_function) (postfix_inside y))) (postfix_layer_fits y))

  abbrev step_inside : Step-F A L E P T S R B I O → Step-F Arg Else Exp Postfix Step Stmt Arm Block If Operand
  step_inside y = map-Step A L E P T S R B I O Arg Else Exp Postfix Step Stmt Arm Block If Operand (λ x. x.0) (λ x. x.0) (λ x. x.0) (λ x. x.0) (λ x. x.0) (λ x. x.0) (λ x. x.0) (λ x. x.0) (λ x. x.0) (λ x. x.0) y

  abbrev step_outlines : Step-F Arg Else Exp Postfix Step Stmt Arm Block If Operand → Node
  step_outlines y = nodes.step_layer (map-Step Arg Else Exp Postfix Step Stmt Arm Block If Operand Node Node Node Node Node Node Node Node Node Node node_of_arg node_of_else node_of_exp node_of_postfix node_of_step node_of_stmt node_of_arm node_of_block node_of_if node_of_operand y)

  abbrev step_parts : Step-F Arg Else Exp Postfix Step Stmt Arm Block If Operand → Scoped
  step_parts y = step_layer file in_function (map-Step Arg Else Exp Postfix Step Stmt Arm Block If Operand Scoped Scoped Scoped Behind Scoped Line Scoped Scoped Scoped Scoped (names_of_arg file in_function) (names_of_else file in_function) (names_of_exp file in_function) (names_of_postfix file in_function) (names_of_step file in_function) (names_of_stmt file in_function) (names_of_arm file in_function) (names_of_block file in_function) (names_of_if file in_function) (names_of_operand file in_function) y)

  step_layer_fits : (y : Step-F A L E P T S R B I O) → ScopedFits (step_outlines (step_inside y)) (step_parts (step_inside y))
  step_layer_fits (exp.Index s e) scope k = good_inside (e.1 scope k)
  step_layer_fits (exp.Part s i) scope k = good_none

  step_level : (y : Step-F A L E P T S R B I O) → StepFits (roll-Step (step_inside y))
  step_level y =
      subst (λ (n : Node). ScopedFits n (names_of_step file in_function (roll-Step (step_inside y)))) (sym (fold-roll-Step Node Node Node Node Node Node Node Node Node Node nodes.arg_layer nodes.else_layer nodes.exp_layer nodes.postfix_layer nodes.step_layer nodes.stmt_layer nodes.arm_layer nodes.block_layer nodes.if_layer nodes.operand_layer (step_inside y)))
      (subst (λ (p : Scoped). ScopedFits (step_outlines (step_inside y)) p) (sym (fold-roll-Step Scoped Scoped Scoped Behind Scoped Line Scoped Scoped Scoped Scoped (arg_layer file in_function) (else_layer file in_function) (exp_layer file in_function) (postfix_layer file in_function) (step_layer file in_function) (stmt_layer file in_function) (arm_layer file in_function) (block_layer file in_function) (if_layer file in_function) (operand_layer file in_function) (step_inside y))) (step_layer_fits y))

  abbrev stmt_inside : Stmt-F A L E P T S R B I O → Stmt-F Arg Else Exp Postfix Step Stmt Arm Block If Operand
  stmt_inside y = map-Stmt A L E P T S R B I O Arg Else Exp Postfix Step Stmt Arm Block If Operand (λ x. x.0) (λ x. x.0) (λ x. x.0) (λ x. x.0) (λ x. x.0) (λ x. x.0) (λ x. x.0) (λ x. x.0) (λ x. x.0) (λ x. x.0) y

  abbrev stmt_outlines : Stmt-F Arg Else Exp Postfix Step Stmt Arm Block If Operand → Node
  stmt_outlines y = nodes.stmt_layer (map-Stmt Arg Else Exp Postfix Step Stmt Arm Block If Operand Node Node Node Node Node Node Node Node Node Node node_of_arg node_of_else node_of_exp node_of_postfix node_of_step node_of_stmt node_of_arm node_of_block node_of_if node_of_operand y)

  abbrev stmt_parts : Stmt-F Arg Else Exp Postfix Step Stmt Arm Block If Operand → Line
  stmt_parts y = stmt_layer file in_function (map-Stmt Arg Else Exp Postfix Step Stmt Arm Block If Operand Scoped Scoped Scoped Behind Scoped Line Scoped Scoped Scoped Scoped (names_of_arg file in_function) (names_of_else file in_function) (names_of_exp file in_function) (names_of_postfix file in_function) (names_of_step file in_function) (names_of_stmt file in_function) (names_of_arm file in_function) (names_of_block file in_function) (names_of_if file in_function) (names_of_operand file in_function) y)

  stmt_layer_fits : (y : Stmt-F A L E P T S R B I O) → LineFits (stmt_outlines (stmt_inside y)) (stmt_parts (stmt_inside y))
  stmt_layer_fits (exp.Let s p t e) scope k = good_inside (good_join (pat_fits file in_function p (length k.places) k) (good_join (optional_fits file t _) (e.1 scope _)))
  stmt_layer_fits (exp.Assign s t ps o e) scope k = good_inside (good_apart (good_known (local_named scope t.name) (one_rises _ _)) (every_fits Step node_of_step (names_of_step file in_function) ps scope _) (e.1 scope _))
  stmt_layer_fits (exp.For s x e f b) scope k = good_inside (good_join (variable_fits file in_function x k) (good_join (e.1 scope _) (good_join (f.1 scope _) (b.1 _ _))))
  stmt_layer_fits (exp.Return s None) scope k = good_exit s (good_leaf (one_rises _ _))
  stmt_layer_fits (exp.Return s (Some e)) scope k = good_exit s (good_node (one_rises _ _) (e.1 scope k))
  stmt_layer_fits (exp.Bare e) scope k = good_inside (e.1 scope k)
  stmt_layer_fits (exp.Exp s e) scope k = good_inside (e.1 scope k)

  stmt_level : (y : Stmt-F A L E P T S R B I O) → StmtFits (roll-Stmt (stmt_inside y))
  stmt_level y =
      subst (λ (n : Node). LineFits n (names_of_stmt file in_function (roll-Stmt (stmt_inside y)))) (sym (fold-roll-Stmt Node Node Node Node Node Node Node Node Node Node nodes.arg_layer nodes.else_layer nodes.exp_layer nodes.postfix_layer nodes.step_layer nodes.stmt_layer nodes.arm_layer nodes.block_layer nodes.if_layer nodes.operand_layer (stmt_inside y)))
      (subst (λ (p : Line). LineFits (stmt_outlines (stmt_inside y)) p) (sym (fold-roll-Stmt Scoped Scoped Scoped Behind Scoped Line Scoped Scoped Scoped Scoped (arg_layer file in_function) (else_layer file in_function) (exp_layer file in_function) (postfix_layer file in_function) (step_layer file in_function) (stmt_layer file in_function) (arm_layer file in_function) (block_layer file in_function) (if_layer file in_function) (operand_layer file in_function) (stmt_inside y))) (stmt_layer_fits y))

  abbrev arm_inside : Arm-F A L E P T S R B I O → Arm-F Arg Else Exp Postfix Step Stmt Arm Block If Operand
  arm_inside y = map-Arm A L E P T S R B I O Arg Else Exp Postfix Step Stmt Arm Block If Operand (λ x. x.0) (λ x. x.0) (λ x. x.0) (λ x. x.0) (λ x. x.0) (λ x. x.0) (λ x. x.0) (λ x. x.0) (λ x. x.0) (λ x. x.0) y

  abbrev arm_outlines : Arm-F Arg Else Exp Postfix Step Stmt Arm Block If Operand → Node
  arm_outlines y = nodes.arm_layer (map-Arm Arg Else Exp Postfix Step Stmt Arm Block If Operand Node Node Node Node Node Node Node Node Node Node node_of_arg node_of_else node_of_exp node_of_postfix node_of_step node_of_stmt node_of_arm node_of_block node_of_if node_of_operand y)

  abbrev arm_parts : Arm-F Arg Else Exp Postfix Step Stmt Arm Block If Operand → Scoped
  arm_parts y = arm_layer file in_function (map-Arm Arg Else Exp Postfix Step Stmt Arm Block If Operand Scoped Scoped Scoped Behind Scoped Line Scoped Scoped Scoped Scoped (names_of_arg file in_function) (names_of_else file in_function) (names_of_exp file in_function) (names_of_postfix file in_function) (names_of_step file in_function) (names_of_stmt file in_function) (names_of_arm file in_function) (names_of_block file in_function) (names_of_if file in_function) (names_of_operand file in_function) y)

  arm_layer_fits : (y : Arm-F A L E P T S R B I O) → ScopedFits (arm_outlines (arm_inside y)) (arm_parts (arm_inside y))
  arm_layer_fits a scope k = good_inside (good_join (arm_pat_fits file in_function a.pattern (length k.places) k) (a.value.1 _ _))

  arm_level : (y : Arm-F A L E P T S R B I O) → ArmFits (roll-Arm (arm_inside y))
  arm_level y =
      subst (λ (n : Node). ScopedFits n (names_of_arm file in_function (roll-Arm (arm_inside y)))) (sym (fold-roll-Arm Node Node Node Node Node Node Node Node Node Node nodes.arg_layer nodes.else_layer nodes.exp_layer nodes.postfix_layer nodes.step_layer nodes.stmt_layer nodes.arm_layer nodes.block_layer nodes.if_layer nodes.operand_layer (arm_inside y)))
      (subst (λ (p : Scoped). ScopedFits (arm_outlines (arm_inside y)) p) (sym (fold-roll-Arm Scoped Scoped Scoped Behind Scoped Line Scoped Scoped Scoped Scoped (arg_layer file in_function) (else_layer file in_function) (exp_layer file in_function) (postfix_layer file in_function) (step_layer file in_function) (stmt_layer file in_function) (arm_layer file in_function) (block_layer file in_function) (if_layer file in_function) (operand_layer file in_function) (arm_inside y))) (arm_layer_fits y))

  abbrev block_inside : Block-F A L E P T S R B I O → Block-F Arg Else Exp Postfix Step Stmt Arm Block If Operand
  block_inside y = map-Block A L E P T S R B I O Arg Else Exp Postfix Step Stmt Arm Block If Operand (λ x. x.0) (λ x. x.0) (λ x. x.0) (λ x. x.0) (λ x. x.0) (λ x. x.0) (λ x. x.0) (λ x. x.0) (λ x. x.0) (λ x. x.0) y

  abbrev block_outlines : Block-F Arg Else Exp Postfix Step Stmt Arm Block If Operand → Node
  block_outlines y = nodes.block_layer (map-Block Arg Else Exp Postfix Step Stmt Arm Block If Operand Node Node Node Node Node Node Node Node Node Node node_of_arg node_of_else node_of_exp node_of_postfix node_of_step node_of_stmt node_of_arm node_of_block node_of_if node_of_operand y)

  abbrev block_parts : Block-F Arg Else Exp Postfix Step Stmt Arm Block If Operand → Scoped
  block_parts y = block_layer file in_function (map-Block Arg Else Exp Postfix Step Stmt Arm Block If Operand Scoped Scoped Scoped Behind Scoped Line Scoped Scoped Scoped Scoped (names_of_arg file in_function) (names_of_else file in_function) (names_of_exp file in_function) (names_of_postfix file in_function) (names_of_step file in_function) (names_of_stmt file in_function) (names_of_arm file in_function) (names_of_block file in_function) (names_of_if file in_function) (names_of_operand file in_function) y)

  block_case : (s : Span) (ss : List S) (t : Option E) → ScopedFits (block_outlines (block_inside (record { span = s; statements = ss; tail = t }))) (block_parts (block_inside (record { span = s; statements = ss; tail = t })))
  block_case s ss None scope k = good_inside (good_join (lines_fit 0 ss scope k) good_none)
  block_case s ss (Some t) scope k = good_inside (good_join (lines_fit 0 ss scope k) (t.1 _ _))

  block_layer_fits : (y : Block-F A L E P T S R B I O) → ScopedFits (block_outlines (block_inside y)) (block_parts (block_inside y))
  block_layer_fits y = block_case y.span y.statements y.tail

  block_level : (y : Block-F A L E P T S R B I O) → BlockFits (roll-Block (block_inside y))
  block_level y =
      subst (λ (n : Node). ScopedFits n (names_of_block file in_function (roll-Block (block_inside y)))) (sym (fold-roll-Block Node Node Node Node Node Node Node Node Node Node nodes.arg_layer nodes.else_layer nodes.exp_layer nodes.postfix_layer nodes.step_layer nodes.stmt_layer nodes.arm_layer nodes.block_layer nodes.if_layer nodes.operand_layer (block_inside y)))
      (subst (λ (p : Scoped). ScopedFits (block_outlines (block_inside y)) p) (sym (fold-roll-Block Scoped Scoped Scoped Behind Scoped Line Scoped Scoped Scoped Scoped (arg_layer file in_function) (else_layer file in_function) (exp_layer file in_function) (postfix_layer file in_function) (step_layer file in_function) (stmt_layer file in_function) (arm_layer file in_function) (block_layer file in_function) (if_layer file in_function) (operand_layer file in_function) (block_inside y))) (block_layer_fits y))

  abbrev if_inside : If-F A L E P T S R B I O → If-F Arg Else Exp Postfix Step Stmt Arm Block If Operand
  if_inside y = map-If A L E P T S R B I O Arg Else Exp Postfix Step Stmt Arm Block If Operand (λ x. x.0) (λ x. x.0) (λ x. x.0) (λ x. x.0) (λ x. x.0) (λ x. x.0) (λ x. x.0) (λ x. x.0) (λ x. x.0) (λ x. x.0) y

  abbrev if_outlines : If-F Arg Else Exp Postfix Step Stmt Arm Block If Operand → Node
  if_outlines y = nodes.if_layer (map-If Arg Else Exp Postfix Step Stmt Arm Block If Operand Node Node Node Node Node Node Node Node Node Node node_of_arg node_of_else node_of_exp node_of_postfix node_of_step node_of_stmt node_of_arm node_of_block node_of_if node_of_operand y)

  abbrev if_parts : If-F Arg Else Exp Postfix Step Stmt Arm Block If Operand → Scoped
  if_parts y = if_layer file in_function (map-If Arg Else Exp Postfix Step Stmt Arm Block If Operand Scoped Scoped Scoped Behind Scoped Line Scoped Scoped Scoped Scoped (names_of_arg file in_function) (names_of_else file in_function) (names_of_exp file in_function) (names_of_postfix file in_function) (names_of_step file in_function) (names_of_stmt file in_function) (names_of_arm file in_function) (names_of_block file in_function) (names_of_if file in_function) (names_of_operand file in_function) y)

  if_case : (s : Span) (c : E) (b : B) (o : Option L) → ScopedFits (if_outlines (if_inside (record { span = s; condition = c; then = b; otherwise = o }))) (if_parts (if_inside (record { span = s; condition = c; then = b; otherwise = o })))
  if_case s c b None scope k = good_inside (good_join (c.1 scope k) (good_join (b.1 scope _) good_none))
  if_case s c b (Some o) scope k = good_inside (good_join (c.1 scope k) (good_join (b.1 scope _) (o.1 scope _)))

  if_layer_fits : (y : If-F A L E P T S R B I O) → ScopedFits (if_outlines (if_inside y)) (if_parts (if_inside y))
  if_layer_fits y = if_case y.span y.condition y.then y.otherwise

  if_level : (y : If-F A L E P T S R B I O) → IfFits (roll-If (if_inside y))
  if_level y =
      subst (λ (n : Node). ScopedFits n (names_of_if file in_function (roll-If (if_inside y)))) (sym (fold-roll-If Node Node Node Node Node Node Node Node Node Node nodes.arg_layer nodes.else_layer nodes.exp_layer nodes.postfix_layer nodes.step_layer nodes.stmt_layer nodes.arm_layer nodes.block_layer nodes.if_layer nodes.operand_layer (if_inside y)))
      (subst (λ (p : Scoped). ScopedFits (if_outlines (if_inside y)) p) (sym (fold-roll-If Scoped Scoped Scoped Behind Scoped Line Scoped Scoped Scoped Scoped (arg_layer file in_function) (else_layer file in_function) (exp_layer file in_function) (postfix_layer file in_function) (step_layer file in_function) (stmt_layer file in_function) (arm_layer file in_function) (block_layer file in_function) (if_layer file in_function) (operand_layer file in_function) (if_inside y))) (if_layer_fits y))

  abbrev operand_inside : Operand-F A L E P T S R B I O → Operand-F Arg Else Exp Postfix Step Stmt Arm Block If Operand
  operand_inside y = map-Operand A L E P T S R B I O Arg Else Exp Postfix Step Stmt Arm Block If Operand (λ x. x.0) (λ x. x.0) (λ x. x.0) (λ x. x.0) (λ x. x.0) (λ x. x.0) (λ x. x.0) (λ x. x.0) (λ x. x.0) (λ x. x.0) y

  abbrev operand_outlines : Operand-F Arg Else Exp Postfix Step Stmt Arm Block If Operand → Node
  operand_outlines y = nodes.operand_layer (map-Operand Arg Else Exp Postfix Step Stmt Arm Block If Operand Node Node Node Node Node Node Node Node Node Node node_of_arg node_of_else node_of_exp node_of_postfix node_of_step node_of_stmt node_of_arm node_of_block node_of_if node_of_operand y)

  abbrev operand_parts : Operand-F Arg Else Exp Postfix Step Stmt Arm Block If Operand → Scoped
  operand_parts y = operand_layer file in_function (map-Operand Arg Else Exp Postfix Step Stmt Arm Block If Operand Scoped Scoped Scoped Behind Scoped Line Scoped Scoped Scoped Scoped (names_of_arg file in_function) (names_of_else file in_function) (names_of_exp file in_function) (names_of_postfix file in_function) (names_of_step file in_function) (names_of_stmt file in_function) (names_of_arm file in_function) (names_of_block file in_function) (names_of_if file in_function) (names_of_operand file in_function) y)

  operand_layer_fits : (y : Operand-F A L E P T S R B I O) → ScopedFits (operand_outlines (operand_inside y)) (operand_parts (operand_inside y))
  operand_layer_fits o scope k = o.right.1 scope k

  operand_level : (y : Operand-F A L E P T S R B I O) → OperandFits (roll-Operand (operand_inside y))
  operand_level y =
      subst (λ (n : Node). ScopedFits n (names_of_operand file in_function (roll-Operand (operand_inside y)))) (sym (fold-roll-Operand Node Node Node Node Node Node Node Node Node Node nodes.arg_layer nodes.else_layer nodes.exp_layer nodes.postfix_layer nodes.step_layer nodes.stmt_layer nodes.arm_layer nodes.block_layer nodes.if_layer nodes.operand_layer (operand_inside y)))
      (subst (λ (p : Scoped). ScopedFits (operand_outlines (operand_inside y)) p) (sym (fold-roll-Operand Scoped Scoped Scoped Behind Scoped Line Scoped Scoped Scoped Scoped (arg_layer file in_function) (else_layer file in_function) (exp_layer file in_function) (postfix_layer file in_function) (step_layer file in_function) (stmt_layer file in_function) (arm_layer file in_function) (block_layer file in_function) (if_layer file in_function) (operand_layer file in_function) (operand_inside y))) (operand_layer_fits y))

  pub exp_fits : (x : Exp) → ExpFits x
  exp_fits = ind-Exp ArgFits ElseFits ExpFits PostfixFits StepFits StmtFits ArmFits BlockFits IfFits OperandFits
      (λ x y is. subst (λ z. ArgFits (roll-Arg z)) is (arg_level y))
      (λ x y is. subst (λ z. ElseFits (roll-Else z)) is (else_level y))
      (λ x y is. subst (λ z. ExpFits (roll-Exp z)) is (exp_level y))
      (λ x y is. subst (λ z. PostfixFits (roll-Postfix z)) is (postfix_level y))
      (λ x y is. subst (λ z. StepFits (roll-Step z)) is (step_level y))
      (λ x y is. subst (λ z. StmtFits (roll-Stmt z)) is (stmt_level y))
      (λ x y is. subst (λ z. ArmFits (roll-Arm z)) is (arm_level y))
      (λ x y is. subst (λ z. BlockFits (roll-Block z)) is (block_level y))
      (λ x y is. subst (λ z. IfFits (roll-If z)) is (if_level y))
      (λ x y is. subst (λ z. OperandFits (roll-Operand z)) is (operand_level y))

  pub block_fits : (x : Block) → BlockFits x
  block_fits = ind-Block ArgFits ElseFits ExpFits PostfixFits StepFits StmtFits ArmFits BlockFits IfFits OperandFits
      (λ x y is. subst (λ z. ArgFits (roll-Arg z)) is (arg_level y))
      (λ x y is. subst (λ z. ElseFits (roll-Else z)) is (else_level y))
      (λ x y is. subst (λ z. ExpFits (roll-Exp z)) is (exp_level y))
      (λ x y is. subst (λ z. PostfixFits (roll-Postfix z)) is (postfix_level y))
      (λ x y is. subst (λ z. StepFits (roll-Step z)) is (step_level y))
      (λ x y is. subst (λ z. StmtFits (roll-Stmt z)) is (stmt_level y))
      (λ x y is. subst (λ z. ArmFits (roll-Arm z)) is (arm_level y))
      (λ x y is. subst (λ z. BlockFits (roll-Block z)) is (block_level y))
      (λ x y is. subst (λ z. IfFits (roll-If z)) is (if_level y))
      (λ x y is. subst (λ z. OperandFits (roll-Operand z)) is (operand_level y))
