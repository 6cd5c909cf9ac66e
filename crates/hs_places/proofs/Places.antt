-- Where the parts of an assigned place lie.
use Rattle.std.proofs.Common.{◌≡◌, ℕ, arith, Bool, true, false, List, [], ◌∷◌, Option, Some, None, refl, sym, ap, ap₂, ◌∙◌, subst, map}
use Rattle.hs_syntax.specs.declared.span.Span.{Span}
use Rattle.hs_syntax.specs.declared.exp.Path.{Path}
use Rattle.hs_syntax.specs.declared.exp.Path.TheVariants as path
use Rattle.hs_syntax.specs.declared.exp.PrefixOp.{PrefixOp}
use Rattle.hs_syntax.specs.declared.exp.PrefixOp.TheVariants as prefix
use Rattle.hs_syntax.specs.declared.exp.Target.{Target}
use Rattle.hs_syntax.specs.declared.exp.Exp.{Exp, out-Exp}
use Rattle.hs_syntax.specs.declared.exp.Arg.{Arg}
use Rattle.hs_syntax.specs.declared.exp.If.{If}
use Rattle.hs_syntax.specs.declared.exp.Else.{Else}
use Rattle.hs_syntax.specs.declared.exp.Postfix.{Postfix, out-Postfix}
use Rattle.hs_syntax.specs.declared.exp.Step.{Step}
use Rattle.hs_syntax.specs.declared.exp.Stmt.{Stmt, out-Stmt}
use Rattle.hs_syntax.specs.declared.exp.Arm.{Arm}
use Rattle.hs_syntax.specs.declared.exp.Block.{Block}
use Rattle.hs_syntax.specs.declared.exp.Operand.{Operand}
use Rattle.hs_syntax.specs.declared.exp.Arg.TheOpen.{Exp-F, Postfix-F, Stmt-F}
use Rattle.hs_syntax.specs.declared.exp.Arg.TheOpen as layer
use Rattle.hs_syntax.specs.declared.exp.Arg.TheFolds.{map-Exp, map-Postfix, map-Stmt, fold_out-Exp, fold_out-Postfix, fold_out-Stmt}
use Rattle.hs_syntax.specs.Spans.{span_of_exp, span_of_path}
use Rattle.hs_forms.specs.Blocks.{step_layer as step_within, step_in, and_steps, all_steps, name_in_path, name_layer, name_in, stepped, steps_layer, steps_in, target_of, starred, place_layer, place_in, bare_layer, bare_in}
use Rattle.hs_limits.specs.Outline.{Outline, Node, node, join, one, all, through}
use Rattle.hs_limits.specs.Nodes.{name, wrap, node_of_exp, node_of_if, node_of_else, node_of_arg, node_of_postfix, node_of_step, node_of_stmt, node_of_arm, node_of_block, node_of_operand, arg_layer, else_layer, exp_layer, postfix_layer, step_layer, stmt_layer, arm_layer, block_layer, if_layer, operand_layer}
use Rattle.hs_limits.specs.Nested.{Nested}
use Rattle.hs_limits.specs.Spans.{SpansAgree}
use Rattle.hs_places.proofs.Outlines.{wide, chained_nested}
use Rattle.hs_places.proofs.Layers.{off}

abbrev E : Type 0
E = Exp-F Arg Else Exp Postfix Step Stmt Arm Block If Operand

abbrev P : Type 0
P = Postfix-F Arg Else Exp Postfix Step Stmt Arm Block If Operand

abbrev S : Type 0
S = Stmt-F Arg Else Exp Postfix Step Stmt Arm Block If Operand

-- the node of a layer
abbrev exp_node : E → Node
exp_node y = exp_layer (map-Exp Arg Else Exp Postfix Step Stmt Arm Block If Operand Node Node Node Node Node Node Node Node Node Node node_of_arg node_of_else node_of_exp node_of_postfix node_of_step node_of_stmt node_of_arm node_of_block node_of_if node_of_operand y)

abbrev postfix_node : P → Node
postfix_node y = postfix_layer (map-Postfix Arg Else Exp Postfix Step Stmt Arm Block If Operand Node Node Node Node Node Node Node Node Node Node node_of_arg node_of_else node_of_exp node_of_postfix node_of_step node_of_stmt node_of_arm node_of_block node_of_if node_of_operand y)

abbrev stmt_node : S → Node
stmt_node y = stmt_layer (map-Stmt Arg Else Exp Postfix Step Stmt Arm Block If Operand Node Node Node Node Node Node Node Node Node Node node_of_arg node_of_else node_of_exp node_of_postfix node_of_step node_of_stmt node_of_arm node_of_block node_of_if node_of_operand y)

exp_out : (e : Exp) → node_of_exp e ≡ exp_node (out-Exp e)
exp_out e = fold_out-Exp Node Node Node Node Node Node Node Node Node Node arg_layer else_layer exp_layer postfix_layer step_layer stmt_layer arm_layer block_layer if_layer operand_layer e

postfix_out : (p : Postfix) → node_of_postfix p ≡ postfix_node (out-Postfix p)
postfix_out p = fold_out-Postfix Node Node Node Node Node Node Node Node Node Node arg_layer else_layer exp_layer postfix_layer step_layer stmt_layer arm_layer block_layer if_layer operand_layer p

stmt_out : (s : Stmt) → node_of_stmt s ≡ stmt_node (out-Stmt s)
stmt_out s = fold_out-Stmt Node Node Node Node Node Node Node Node Node Node arg_layer else_layer exp_layer postfix_layer step_layer stmt_layer arm_layer block_layer if_layer operand_layer s

some_one : {A : Type 0} (a b : A) → Some a ≡ Some b → a ≡ b
some_one a b e = cc

none_some : {A : Type 0} (a : A) → ◌≡◌ {A = Option A} None (Some a) → ⊥
none_some a e = cc

-- ---- the name that an expression is

path_name : (p : Path) (n : Span) (low high : ℕ) → name_in_path p ≡ Some n → Nested (one (exp_node (layer.Path p))) low high → Nested (name n) low high
unfolding span_of_path
path_name (path.Name s) n low high e (a, b, c, d) =
    subst (λ (n : Span). Nested (name n) low high) (some_one s n e) (wide (name s) s.start s.end low high a c d)
path_name (path.Member s t m) n low high e p = absurd (none_some n e)
path_name (path.Of s m t k) n low high e p = absurd (none_some n e)

name_out : (y : E) (n : Span) (low high : ℕ) → name_layer y ≡ Some n → Nested (one (exp_node y)) low high → Nested (name n) low high
name_out (layer.Path p) n low high e q = path_name p n low high e q
name_out _ n low high e q = absurd (none_some n e)

name_nested : (x : Exp) (n : Span) (low high : ℕ) → name_in x ≡ Some n → Nested (one (node_of_exp x)) low high → Nested (name n) low high
unfolding name_in
name_nested x n low high e p = name_out (out-Exp x) n low high e (off (exp_out x) p)

-- ---- a name with steps behind it

abbrev place : Span → Span → List Step → Outline
place s n ps = node s through None (join (name n) (all (map node_of_step ps)))

stepped_some : (o : Option Span) (p : Option (List Step)) (n : Span) (ts : List Step) → stepped o p ≡ Some (n, ts) → (o ≡ Some n) × (p ≡ Some ts)
stepped_some None p n ts e = absurd (none_some (n, ts) e)
stepped_some (Some m) None n ts e = absurd (none_some (n, ts) e)
stepped_some (Some m) (Some us) n ts e =
    let i = some_one (m, us) (n, ts) e in (ap (λ (x : Span × List Step). Some x.0) i, ap (λ (x : Span × List Step). Some x.1) i)

step_node : (y : P) (t : Step) → step_within y ≡ Some t → postfix_node y ≡ node_of_step t
step_node (layer.Try s) t e = absurd (none_some t e)
step_node (layer.Method s n as') t e = absurd (none_some t e)
step_node (layer.Step u) t e = ap node_of_step (some_one u t e)

-- what stands behind an expression has the node of the step that it is
step_is : (p : Postfix) (t : Step) → step_in p ≡ Some t → node_of_postfix p ≡ node_of_step t
unfolding step_in
step_is p t e = postfix_out p ∙ step_node (out-Postfix p) t e

and_some : (o : Option Step) (p : Option (List Step)) (ts : List Step) → and_steps o p ≡ Some ts → (t : Step) × (us : List Step) × (o ≡ Some t) × (p ≡ Some us) × (t ∷ us ≡ ts)
and_some None p ts e = absurd (none_some ts e)
and_some (Some t) None ts e = absurd (none_some ts e)
and_some (Some t) (Some us) ts e = (t, us, refl, refl, some_one (t ∷ us) ts e)

steps_are : (qs : List Postfix) (ts : List Step) → all_steps qs ≡ Some ts → map node_of_postfix qs ≡ map node_of_step ts
steps_are [] ts e = ap (map node_of_step) (some_one [] ts e)
steps_are (q ∷ qs) ts e =
    let i = and_some (step_in q) (all_steps qs) ts e in
    ap₂ (λ (n : Node) (ns : List Node). n ∷ ns) (step_is q i.0 i.2) (steps_are qs i.1 i.3) ∙ ap (map node_of_step) i.4

steps_out : (y : E) (n : Span) (ps : List Step) (low high : ℕ) → steps_layer y ≡ Some (n, ps) → Nested (one (exp_node y)) low high → Nested (place (exp_node y).at n ps) low high
steps_out (layer.Path p) n ps low high e (a, b, c, d) =
    let i = stepped_some (name_in_path p) (Some []) n ps e in
    let q = path_name p n (span_of_path p).start (span_of_path p).end i.0 (omega arith, b, omega arith, d) in
    subst (λ (ps : List Step). Nested (place (span_of_path p) n ps) low high) (some_one [] ps i.1) (a, b, c, ((span_of_path p).end, q, omega arith))
steps_out (layer.Post s x qs) n ps low high e (a, b, c, d) =
    let i = stepped_some (name_in x) (all_steps qs) n ps e in
    let m = chained_nested s.start (one (node_of_exp x)) (map node_of_postfix qs) s.start s.end d in
    (a, b, c, (m.0, name_nested x n s.start m.0 i.0 m.1, subst (λ (ns : List Node). Nested (all ns) m.0 s.end) (steps_are qs ps i.1) m.2))
steps_out _ n ps low high e q = absurd (none_some (n, ps) e)

steps_nested : SpansAgree → (x : Exp) (n : Span) (ps : List Step) (low high : ℕ) → steps_in x ≡ Some (n, ps) → Nested (one (node_of_exp x)) low high → Nested (place (span_of_exp x) n ps) low high
unfolding steps_in
steps_nested agree x n ps low high e p =
    subst (λ (s : Span). Nested (place s n ps) low high) (ap (λ (z : Node). z.at) (sym (exp_out x)) ∙ agree.of_exp x) (steps_out (out-Exp x) n ps low high e (off (exp_out x) p))

-- ---- a place

abbrev Holds : Target → List Step → ℕ → ℕ → Type 0
Holds t ps low high = Nested (place t.span t.name ps) low high

target_nested : (whole : Span) (star : Bool) (o : Option (Span × List Step)) (t : Target) (ps : List Step) (low high : ℕ) → target_of whole star o ≡ Some (t, ps)
    → ((n : Span) (qs : List Step) → o ≡ Some (n, qs) → Nested (place whole n qs) low high) → Holds t ps low high
target_nested whole star None t ps low high e h = absurd (none_some (t, ps) e)
target_nested whole star (Some (n, qs)) t ps low high e h =
    subst (λ (x : Target × List Step). Holds x.0 x.1 low high) (some_one (record { span = whole; star = star; name = n }, qs) (t, ps) e) (h n qs refl)

starred_nested : SpansAgree → (s : Span) (o : PrefixOp) (x : Exp) (t : Target) (ps : List Step) (low high : ℕ) → starred s o x ≡ Some (t, ps) → Nested (one (exp_node (layer.Prefix s o x))) low high → Holds t ps low high
starred_nested agree s prefix.Read x t ps low high e (a, b, c, d) =
    target_nested s true (steps_in x) t ps low high e (λ n qs i.
    let p = steps_nested agree x n qs s.start s.end i d in
    (a, b, c, wide (join (name n) (all (map node_of_step qs))) (span_of_exp x).start (span_of_exp x).end s.start s.end p.0 p.2 p.3))
starred_nested agree s prefix.Negate x t ps low high e q = absurd (none_some (t, ps) e)
starred_nested agree s prefix.Not x t ps low high e q = absurd (none_some (t, ps) e)

place_out : SpansAgree → (whole : Exp) (y : E) (t : Target) (ps : List Step) (low high : ℕ) → place_layer whole y ≡ Some (t, ps) → Nested (one (exp_node y)) low high → Nested (one (node_of_exp whole)) low high → Holds t ps low high
place_out agree whole (layer.Prefix s o x) t ps low high e p q = starred_nested agree s o x t ps low high e p
place_out agree whole _ t ps low high e p q = target_nested (span_of_exp whole) false (steps_in whole) t ps low high e (λ n qs i. steps_nested agree whole n qs low high i q)

pub place_nested : SpansAgree → (x : Exp) (t : Target) (ps : List Step) (low high : ℕ) → place_in x ≡ Some (t, ps) → Nested (one (node_of_exp x)) low high → Nested (one (wrap t.span (join (name t.name) (all (map node_of_step ps))))) low high
unfolding place_in
place_nested agree x t ps low high e p = place_out agree x (out-Exp x) t ps low high e (off (exp_out x) p) p

-- ---- what stands alone as a statement

bare_out : (y : S) (x : Exp) (low high : ℕ) → bare_layer y ≡ Some x → Nested (one (stmt_node y)) low high → Nested (one (node_of_exp x)) low high
bare_out (layer.Bare z) x low high e (a, b, c, d) =
    subst (λ (x : Exp). Nested (one (node_of_exp x)) low high) (some_one z x e) (wide (one (node_of_exp z)) (node_of_exp z).at.start (node_of_exp z).at.end low high a c d)
bare_out _ x low high e p = absurd (none_some x e)

pub bare_nested : (s : Stmt) (x : Exp) (low high : ℕ) → bare_in s ≡ Some x → Nested (one (node_of_stmt s)) low high → Nested (one (node_of_exp x)) low high
unfolding bare_in
bare_nested s x low high e p = bare_out (out-Stmt s) x low high e (off (stmt_out s) p)
