-- The parts of an assigned place, and of what stands alone, are well formed.
use Rattle.std.proofs.Common.{◌≡◌, ℕ, Bool, true, false, ◌&&◌, List, [], ◌∷◌, Option, Some, None, refl, sym, ap, ap₂, ◌∙◌, subst, map}
use Rattle.hs_syntax.specs.declared.span.Span.{Span}
use Rattle.hs_syntax.specs.declared.exp.Path.{Path}
use Rattle.hs_syntax.specs.declared.exp.Path.TheVariants as path
use Rattle.hs_syntax.specs.declared.exp.PrefixOp.{PrefixOp}
use Rattle.hs_syntax.specs.declared.exp.PrefixOp.TheVariants as prefix
use Rattle.hs_syntax.specs.declared.exp.BinaryOp.{BinaryOp}
use Rattle.hs_syntax.specs.declared.exp.Target.{Target}
use Rattle.hs_syntax.specs.declared.exp.Exp.{Exp, out-Exp}
use Rattle.hs_syntax.specs.declared.exp.Arg.{Arg}
use Rattle.hs_syntax.specs.declared.exp.If.{If}
use Rattle.hs_syntax.specs.declared.exp.Else.{Else}
use Rattle.hs_syntax.specs.declared.exp.Postfix.{Postfix, out-Postfix}
use Rattle.hs_syntax.specs.declared.exp.Step.{Step}
use Rattle.hs_syntax.specs.declared.exp.Stmt.{Stmt, out-Stmt}
use Rattle.hs_syntax.specs.declared.exp.Arm.{Arm}
use Rattle.hs_syntax.specs.declared.exp.Block.{Block}
use Rattle.hs_syntax.specs.declared.exp.Operand.{Operand}
use Rattle.hs_syntax.specs.declared.exp.Arg.TheOpen.{Exp-F, Postfix-F, Stmt-F}
use Rattle.hs_syntax.specs.declared.exp.Arg.TheOpen as layer
use Rattle.hs_syntax.specs.declared.exp.Arg.TheFolds.{map-Exp, map-Postfix, map-Stmt, fold_out-Exp, fold_out-Postfix, fold_out-Stmt}
use Rattle.hs_syntax.specs.Spans.{span_of_exp}
use Rattle.hs_syntax.specs.WellFormed.{named, at_least_one, each, arg_layer, else_layer, exp_layer, postfix_layer, step_layer, stmt_layer, arm_layer, block_layer, if_layer, operand_layer, well_exp, well_if, well_else, well_arg, well_step, well_postfix, well_stmt, well_arm, well_block, well_operand}
use Rattle.hs_forms.specs.Blocks.{step_layer as step_within, step_in, and_steps, all_steps, name_in_path, name_layer, name_in, stepped, steps_layer, steps_in, target_of, starred, place_layer, place_in, bare_layer, bare_in}
use Rattle.hs_shapes.proofs.Facts.{first_true, second_true}

abbrev E : Type 0
E = Exp-F Arg Else Exp Postfix Step Stmt Arm Block If Operand

abbrev P : Type 0
P = Postfix-F Arg Else Exp Postfix Step Stmt Arm Block If Operand

abbrev S : Type 0
S = Stmt-F Arg Else Exp Postfix Step Stmt Arm Block If Operand

some_one : {A : Type 0} (a b : A) → Some a ≡ Some b → a ≡ b
some_one a b e = cc

none_some : {A : Type 0} (a : A) → ◌≡◌ {A = Option A} None (Some a) → ⊥
none_some a e = cc

module _ (text : List ℕ) where
  -- whether a layer is well formed
  abbrev exp_well : E → Bool
  exp_well y = exp_layer text (map-Exp Arg Else Exp Postfix Step Stmt Arm Block If Operand Bool Bool Bool Bool Bool Bool Bool Bool Bool (BinaryOp × Bool) (well_arg text) (well_else text) (well_exp text) (well_postfix text) (well_step text) (well_stmt text) (well_arm text) (well_block text) (well_if text) (well_operand text) y)

  abbrev postfix_well : P → Bool
  postfix_well y = postfix_layer text (map-Postfix Arg Else Exp Postfix Step Stmt Arm Block If Operand Bool Bool Bool Bool Bool Bool Bool Bool Bool (BinaryOp × Bool) (well_arg text) (well_else text) (well_exp text) (well_postfix text) (well_step text) (well_stmt text) (well_arm text) (well_block text) (well_if text) (well_operand text) y)

  abbrev stmt_well : S → Bool
  stmt_well y = stmt_layer text (map-Stmt Arg Else Exp Postfix Step Stmt Arm Block If Operand Bool Bool Bool Bool Bool Bool Bool Bool Bool (BinaryOp × Bool) (well_arg text) (well_else text) (well_exp text) (well_postfix text) (well_step text) (well_stmt text) (well_arm text) (well_block text) (well_if text) (well_operand text) y)

  exp_out : (e : Exp) → well_exp text e ≡ exp_well (out-Exp e)
  exp_out e = fold_out-Exp Bool Bool Bool Bool Bool Bool Bool Bool Bool (BinaryOp × Bool) (arg_layer text) else_layer (exp_layer text) (postfix_layer text) (step_layer text) (stmt_layer text) (arm_layer text) block_layer if_layer operand_layer e

  postfix_out : (p : Postfix) → well_postfix text p ≡ postfix_well (out-Postfix p)
  postfix_out p = fold_out-Postfix Bool Bool Bool Bool Bool Bool Bool Bool Bool (BinaryOp × Bool) (arg_layer text) else_layer (exp_layer text) (postfix_layer text) (step_layer text) (stmt_layer text) (arm_layer text) block_layer if_layer operand_layer p

  stmt_out : (s : Stmt) → well_stmt text s ≡ stmt_well (out-Stmt s)
  stmt_out s = fold_out-Stmt Bool Bool Bool Bool Bool Bool Bool Bool Bool (BinaryOp × Bool) (arg_layer text) else_layer (exp_layer text) (postfix_layer text) (step_layer text) (stmt_layer text) (arm_layer text) block_layer if_layer operand_layer s

  -- ---- the name that an expression is

  path_name : (p : Path) (n : Span) → name_in_path p ≡ Some n → exp_well (layer.Path p) ≡ true → named text n ≡ true
  path_name (path.Name s) n e w = subst (λ (n : Span). named text n ≡ true) (some_one s n e) w
  path_name (path.Member s t m) n e w = absurd (none_some n e)
  path_name (path.Of s n t m) k e w = absurd (none_some k e)

  name_out : (y : E) (n : Span) → name_layer y ≡ Some n → exp_well y ≡ true → named text n ≡ true
  name_out (layer.Path p) n e w = path_name p n e w
  name_out _ n e w = absurd (none_some n e)

  name_well : (x : Exp) (n : Span) → name_in x ≡ Some n → well_exp text x ≡ true → named text n ≡ true
  unfolding name_in
  name_well x n e w = name_out (out-Exp x) n e (sym (exp_out x) ∙ w)

  -- ---- a name with steps behind it

  abbrev Stepped : Span → List Step → Type 0
  Stepped n ts = (named text n ≡ true) × (each (map (well_step text) ts) ≡ true)

  stepped_some : (o : Option Span) (p : Option (List Step)) (n : Span) (ts : List Step) → stepped o p ≡ Some (n, ts) → (o ≡ Some n) × (p ≡ Some ts)
  stepped_some None p n ts e = absurd (none_some (n, ts) e)
  stepped_some (Some m) None n ts e = absurd (none_some (n, ts) e)
  stepped_some (Some m) (Some us) n ts e =
      let i = some_one (m, us) (n, ts) e in (ap (λ (x : Span × List Step). Some x.0) i, ap (λ (x : Span × List Step). Some x.1) i)

  step_out : (y : P) (t : Step) → step_within y ≡ Some t → postfix_well y ≡ well_step text t
  step_out (layer.Try s) t e = absurd (none_some t e)
  step_out (layer.Method s n as') t e = absurd (none_some t e)
  step_out (layer.Step u) t e = ap (well_step text) (some_one u t e)

  step_is : (p : Postfix) (t : Step) → step_in p ≡ Some t → well_postfix text p ≡ well_step text t
  unfolding step_in
  step_is p t e = postfix_out p ∙ step_out (out-Postfix p) t e

  and_some : (o : Option Step) (p : Option (List Step)) (ts : List Step) → and_steps o p ≡ Some ts → (t : Step) × (us : List Step) × (o ≡ Some t) × (p ≡ Some us) × (t ∷ us ≡ ts)
  and_some None p ts e = absurd (none_some ts e)
  and_some (Some t) None ts e = absurd (none_some ts e)
  and_some (Some t) (Some us) ts e = (t, us, refl, refl, some_one (t ∷ us) ts e)

  steps_are : (qs : List Postfix) (ts : List Step) → all_steps qs ≡ Some ts → map (well_postfix text) qs ≡ map (well_step text) ts
  steps_are [] ts e = ap (map (well_step text)) (some_one [] ts e)
  steps_are (q ∷ qs) ts e =
      let i = and_some (step_in q) (all_steps qs) ts e in
      ap₂ (λ (b : Bool) (bs : List Bool). b ∷ bs) (step_is q i.0 i.2) (steps_are qs i.1 i.3) ∙ ap (map (well_step text)) i.4

  steps_out : (y : E) (n : Span) (ts : List Step) → steps_layer y ≡ Some (n, ts) → exp_well y ≡ true → Stepped n ts
  steps_out (layer.Path p) n ts e w =
      let i = stepped_some (name_in_path p) (Some []) n ts e in
      (path_name p n i.0 w, subst (λ (ts : List Step). each (map (well_step text) ts) ≡ true) (some_one [] ts i.1) refl)
  steps_out (layer.Post s x qs) n ts e w =
      let i = stepped_some (name_in x) (all_steps qs) n ts e in
      let rest = second_true (well_exp text x) (at_least_one (map (well_postfix text) qs) && each (map (well_postfix text) qs)) w in (
        name_well x n i.0 (first_true (well_exp text x) (at_least_one (map (well_postfix text) qs) && each (map (well_postfix text) qs)) w),
        ap each (sym (steps_are qs ts i.1)) ∙ second_true (at_least_one (map (well_postfix text) qs)) (each (map (well_postfix text) qs)) rest,
      )
  steps_out _ n ts e w = absurd (none_some (n, ts) e)

  steps_well : (x : Exp) (n : Span) (ts : List Step) → steps_in x ≡ Some (n, ts) → well_exp text x ≡ true → Stepped n ts
  unfolding steps_in
  steps_well x n ts e w = steps_out (out-Exp x) n ts e (sym (exp_out x) ∙ w)

  -- ---- a place

  target_well : (whole : Span) (star : Bool) (o : Option (Span × List Step)) (t : Target) (ts : List Step) → target_of whole star o ≡ Some (t, ts)
      → ((n : Span) (us : List Step) → o ≡ Some (n, us) → Stepped n us) → Stepped t.name ts
  target_well whole star None t ts e h = absurd (none_some (t, ts) e)
  target_well whole star (Some (n, us)) t ts e h =
      subst (λ (x : Target × List Step). Stepped x.0.name x.1) (some_one (record { span = whole; star = star; name = n }, us) (t, ts) e) (h n us refl)

  starred_well : (s : Span) (o : PrefixOp) (x : Exp) (t : Target) (ts : List Step) → starred s o x ≡ Some (t, ts) → well_exp text x ≡ true → Stepped t.name ts
  starred_well s prefix.Read x t ts e w = target_well s true (steps_in x) t ts e (λ n us i. steps_well x n us i w)
  starred_well s prefix.Negate x t ts e w = absurd (none_some (t, ts) e)
  starred_well s prefix.Not x t ts e w = absurd (none_some (t, ts) e)

  place_out : (whole : Exp) (y : E) (t : Target) (ts : List Step) → place_layer whole y ≡ Some (t, ts) → exp_well y ≡ true → well_exp text whole ≡ true → Stepped t.name ts
  place_out whole (layer.Prefix s o x) t ts e w v = starred_well s o x t ts e w
  place_out whole _ t ts e w v = target_well (span_of_exp whole) false (steps_in whole) t ts e (λ n us i. steps_well whole n us i v)

  pub place_well : (x : Exp) (t : Target) (ts : List Step) → place_in x ≡ Some (t, ts) → well_exp text x ≡ true → Stepped t.name ts
  unfolding place_in
  place_well x t ts e w = place_out x (out-Exp x) t ts e (sym (exp_out x) ∙ w) w

  -- ---- what stands alone as a statement

  bare_out : (y : S) (x : Exp) → bare_layer y ≡ Some x → stmt_well y ≡ true → well_exp text x ≡ true
  bare_out (layer.Bare z) x e w = subst (λ (x : Exp). well_exp text x ≡ true) (some_one z x e) w
  bare_out _ x e w = absurd (none_some x e)

  pub bare_well : (s : Stmt) (x : Exp) → bare_in s ≡ Some x → well_stmt text s ≡ true → well_exp text x ≡ true
  unfolding bare_in
  bare_well s x e w = bare_out (out-Stmt s) x e (sym (stmt_out s) ∙ w)
