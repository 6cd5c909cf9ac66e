-- What is seen of each form of a node, by its parts.
use Rattle.std.proofs.Common.{◌≡◌, ℕ, Bool, false, not, ◌&&◌, List, [], ◌∷◌, map, Option}
use Rattle.std.specs.Prelude.{is_none}
use Rattle.hs_words.specs.Word.{Integer}
use Rattle.hs_values.specs.declared.types.ValType.{ValType}
use Rattle.hs_tree.specs.Plain.{Name}
use Rattle.hs_tree.specs.Types.{copied}
use Rattle.hs_tree.specs.World.{operand_lent, none_lent}
use Rattle.hs_tree.specs.Source.{takes_part}
use Rattle.hs_tree.specs.declared.features.Src.{Src}
use Rattle.hs_tree.specs.declared.features.On.{On}
use Rattle.hs_tree.specs.declared.features.Off.{Off}
use Rattle.hs_tree.specs.declared.node.Span.{Span}
use Rattle.hs_tree.specs.declared.node.Note.{Note}
use Rattle.hs_tree.specs.declared.node.Pattern.{Pattern}
use Rattle.hs_tree.specs.declared.node.Pattern.TheVariants as pattern
use Rattle.hs_tree.specs.declared.node.Pattern.TheOpen.{Pattern-F}
use Rattle.hs_tree.specs.declared.node.Pattern.TheViews.{roll-Pattern}
use Rattle.hs_tree.specs.declared.node.Pattern.TheFolds.{fold-roll-Pattern}
use Rattle.hs_tree.specs.declared.node.Exp.{Exp}
use Rattle.hs_tree.specs.declared.node.Arg.{Arg}
use Rattle.hs_tree.specs.declared.node.Rhs.{Rhs}
use Rattle.hs_tree.specs.declared.node.Step.{Step}
use Rattle.hs_tree.specs.declared.node.Stmt.{Stmt}
use Rattle.hs_tree.specs.declared.node.Tail.{Tail}
use Rattle.hs_tree.specs.declared.node.Arm.{Arm}
use Rattle.hs_tree.specs.declared.node.Block.{Block}
use Rattle.hs_tree.specs.declared.node.Exp.TheVariants as exp
use Rattle.hs_tree.specs.declared.node.Arg.TheVariants as arg
use Rattle.hs_tree.specs.declared.node.Rhs.TheVariants as rhs
use Rattle.hs_tree.specs.declared.node.Step.TheVariants as step
use Rattle.hs_tree.specs.declared.node.Stmt.TheVariants as stmt
use Rattle.hs_tree.specs.declared.node.Tail.TheVariants as tail
use Rattle.hs_tree.specs.declared.node.Arg.TheOpen.{Exp-F, Arg-F, Rhs-F, Step-F, Stmt-F, Tail-F}
use Rattle.hs_tree.specs.declared.node.Arg.TheViews.{roll-Exp, roll-Arg, roll-Rhs, roll-Step, roll-Stmt, roll-Tail}
use Rattle.hs_tree.specs.declared.node.Arg.TheFolds.{fold-roll-Exp, fold-roll-Arg, fold-roll-Rhs, fold-roll-Step, fold-roll-Stmt, fold-roll-Tail, fold_out-Arm, fold_out-Block}
use Rattle.hs_linear.specs.Rules.{of_lent, of_operation, of_place}
use Rattle.hs_linear.specs.Seen.{Part, idle, nowhere, gives, asked, read, ◌&◌, each, in_row, either, one_of, turns}
use Rattle.hs_linear.specs.Nodes.{Known, bound, all, bound_layer, is_here, exp_layer, arg_layer, rhs_layer, carry_layer, arm_layer, step_layer, stmt_layer, tail_layer, block_layer, exp_seen, arg_seen, rhs_seen, arm_seen, step_seen, stmt_seen, tail_seen, block_seen}

pub bound_tuple : (ps : List Pattern) → bound (pattern.Tuple ps) ≡ all (map bound ps)
unfolding roll-Pattern denote.Hole.Carrier.roll
bound_tuple ps = fold-roll-Pattern (List ℕ) bound_layer (Pattern-F.Tuple ps)

pub bound_ctor : (t : ValType) (x : Name) (ps : List Pattern) → bound (pattern.Ctor t x ps) ≡ all (map bound ps)
unfolding roll-Pattern denote.Hole.Carrier.roll
bound_ctor t x ps = fold-roll-Pattern (List ℕ) bound_layer (Pattern-F.Ctor t x ps)

abbrev pub E : Type 0
E = Exp Src On On On On On On On Off Off Off

abbrev pub R : Type 0
R = Rhs Src On On On On On On On Off Off Off

abbrev pub B : Type 0
B = Block Src On On On On On On On Off Off Off

module _ (g : Known) where
  abbrev seen_exp : Exp Src On On On On On On On Off Off Off → Bool → Part
  seen_exp = exp_seen g

  abbrev seen_arg : Arg Src On On On On On On On Off Off Off → Bool → Part
  seen_arg = arg_seen g

  abbrev seen_rhs : Rhs Src On On On On On On On Off Off Off → Part
  seen_rhs = rhs_seen g

  abbrev seen_arm : Arm Src On On On On On On On Off Off Off → Part
  seen_arm = arm_seen g

  abbrev seen_step : Step Src On On On On On On On Off Off Off → Part
  seen_step = step_seen g

  abbrev seen_stmt : Stmt Src On On On On On On On Off Off Off → Part
  seen_stmt = stmt_seen g

  abbrev seen_tail : Tail Src On On On On On On On Off Off Off → Part
  seen_tail = tail_seen g

  abbrev seen_block : Block Src On On On On On On On Off Off Off → Part
  seen_block = block_seen g

  pub exp_var : (k : ℕ) (at : Span) → seen_exp (exp.Var k at) ≡ (λ lent. read (g.moves k && not lent) (g.moves k && not lent && g.reference k) k at)
  unfolding roll-Exp denote.Hole.Carrier.roll
  exp_var k at = fold-roll-Exp Src On On On On On On On Off Off Off (Bool → Part) (Bool → Part) Part Part Part Part Part Part Part (arg_layer g) (exp_layer g) (rhs_layer g) (step_layer g) (stmt_layer g) (tail_layer g) (arm_layer g) (block_layer g) (carry_layer g) (Exp-F.Var k at)

  pub exp_lit : (x : Integer) → seen_exp (exp.Lit x) ≡ (λ lent. idle)
  unfolding roll-Exp denote.Hole.Carrier.roll
  exp_lit x = fold-roll-Exp Src On On On On On On On Off Off Off (Bool → Part) (Bool → Part) Part Part Part Part Part Part Part (arg_layer g) (exp_layer g) (rhs_layer g) (step_layer g) (stmt_layer g) (tail_layer g) (arm_layer g) (block_layer g) (carry_layer g) (Exp-F.Lit x)

  pub exp_truth : (b : Bool) → seen_exp (exp.Truth b) ≡ (λ lent. idle)
  unfolding roll-Exp denote.Hole.Carrier.roll
  exp_truth b = fold-roll-Exp Src On On On On On On On Off Off Off (Bool → Part) (Bool → Part) Part Part Part Part Part Part Part (arg_layer g) (exp_layer g) (rhs_layer g) (step_layer g) (stmt_layer g) (tail_layer g) (arm_layer g) (block_layer g) (carry_layer g) (Exp-F.Truth b)

  pub exp_unit : seen_exp exp.Unit ≡ (λ lent. idle)
  unfolding roll-Exp denote.Hole.Carrier.roll
  exp_unit = fold-roll-Exp Src On On On On On On On Off Off Off (Bool → Part) (Bool → Part) Part Part Part Part Part Part Part (arg_layer g) (exp_layer g) (rhs_layer g) (step_layer g) (stmt_layer g) (tail_layer g) (arm_layer g) (block_layer g) (carry_layer g) Exp-F.Unit

  pub exp_const : (x : Name) → seen_exp (exp.Const x) ≡ (λ lent. idle)
  unfolding roll-Exp denote.Hole.Carrier.roll
  exp_const x = fold-roll-Exp Src On On On On On On On Off Off Off (Bool → Part) (Bool → Part) Part Part Part Part Part Part Part (arg_layer g) (exp_layer g) (rhs_layer g) (step_layer g) (stmt_layer g) (tail_layer g) (arm_layer g) (block_layer g) (carry_layer g) (Exp-F.Const x)

  pub exp_tuple : (es : List E) → seen_exp (exp.Tuple es) ≡ (λ lent. in_row none_lent (map seen_exp es))
  unfolding roll-Exp denote.Hole.Carrier.roll
  exp_tuple es = fold-roll-Exp Src On On On On On On On Off Off Off (Bool → Part) (Bool → Part) Part Part Part Part Part Part Part (arg_layer g) (exp_layer g) (rhs_layer g) (step_layer g) (stmt_layer g) (tail_layer g) (arm_layer g) (block_layer g) (carry_layer g) (Exp-F.Tuple es)

  pub exp_list : (es : List E) → seen_exp (exp.List es) ≡ (λ lent. in_row none_lent (map seen_exp es))
  unfolding roll-Exp denote.Hole.Carrier.roll
  exp_list es = fold-roll-Exp Src On On On On On On On Off Off Off (Bool → Part) (Bool → Part) Part Part Part Part Part Part Part (arg_layer g) (exp_layer g) (rhs_layer g) (step_layer g) (stmt_layer g) (tail_layer g) (arm_layer g) (block_layer g) (carry_layer g) (Exp-F.List es)

  pub exp_ctor : (t : ValType) (x : Name) (es : List E) → seen_exp (exp.Ctor t x es) ≡ (λ lent. in_row none_lent (map seen_exp es))
  unfolding roll-Exp denote.Hole.Carrier.roll
  exp_ctor t x es = fold-roll-Exp Src On On On On On On On Off Off Off (Bool → Part) (Bool → Part) Part Part Part Part Part Part Part (arg_layer g) (exp_layer g) (rhs_layer g) (step_layer g) (stmt_layer g) (tail_layer g) (arm_layer g) (block_layer g) (carry_layer g) (Exp-F.Ctor t x es)

  pub exp_op : (x : Name) (o : Note) (es : List E) → seen_exp (exp.Op x o es) ≡ (λ lent. in_row (operand_lent x) (map seen_exp es) & asked o.span (λ d. of_operation (takes_part x) lent (copied g.table o.ty)))
  unfolding roll-Exp denote.Hole.Carrier.roll
  exp_op x o es = fold-roll-Exp Src On On On On On On On Off Off Off (Bool → Part) (Bool → Part) Part Part Part Part Part Part Part (arg_layer g) (exp_layer g) (rhs_layer g) (step_layer g) (stmt_layer g) (tail_layer g) (arm_layer g) (block_layer g) (carry_layer g) (Exp-F.Op x o es)

  pub exp_call : (f : Name) (es : List E) → seen_exp (exp.Call f es) ≡ (λ lent. in_row (g.argument f) (map seen_exp es))
  unfolding roll-Exp denote.Hole.Carrier.roll
  exp_call f es = fold-roll-Exp Src On On On On On On On Off Off Off (Bool → Part) (Bool → Part) Part Part Part Part Part Part Part (arg_layer g) (exp_layer g) (rhs_layer g) (step_layer g) (stmt_layer g) (tail_layer g) (arm_layer g) (block_layer g) (carry_layer g) (Exp-F.Call f es)

  pub exp_and : (a b : E) → seen_exp (exp.And a b) ≡ (λ lent. seen_exp a false & either idle (seen_exp b false))
  unfolding roll-Exp denote.Hole.Carrier.roll
  exp_and a b = fold-roll-Exp Src On On On On On On On Off Off Off (Bool → Part) (Bool → Part) Part Part Part Part Part Part Part (arg_layer g) (exp_layer g) (rhs_layer g) (step_layer g) (stmt_layer g) (tail_layer g) (arm_layer g) (block_layer g) (carry_layer g) (Exp-F.And a b)

  pub exp_or : (a b : E) → seen_exp (exp.Or a b) ≡ (λ lent. seen_exp a false & either idle (seen_exp b false))
  unfolding roll-Exp denote.Hole.Carrier.roll
  exp_or a b = fold-roll-Exp Src On On On On On On On Off Off Off (Bool → Part) (Bool → Part) Part Part Part Part Part Part Part (arg_layer g) (exp_layer g) (rhs_layer g) (step_layer g) (stmt_layer g) (tail_layer g) (arm_layer g) (block_layer g) (carry_layer g) (Exp-F.Or a b)

  pub exp_in : (m : On) (r : R) → seen_exp (exp.In m r) ≡ (λ lent. seen_rhs r)
  unfolding roll-Exp denote.Hole.Carrier.roll
  exp_in m r = fold-roll-Exp Src On On On On On On On Off Off Off (Bool → Part) (Bool → Part) Part Part Part Part Part Part Part (arg_layer g) (exp_layer g) (rhs_layer g) (step_layer g) (stmt_layer g) (tail_layer g) (arm_layer g) (block_layer g) (carry_layer g) (Exp-F.In m r)

  pub arg_value : (e : E) → seen_arg (arg.Value e) ≡ (seen_exp e)
  unfolding roll-Arg denote.Hole.Carrier.roll
  arg_value e = fold-roll-Arg Src On On On On On On On Off Off Off (Bool → Part) (Bool → Part) Part Part Part Part Part Part Part (arg_layer g) (exp_layer g) (rhs_layer g) (step_layer g) (stmt_layer g) (tail_layer g) (arm_layer g) (block_layer g) (carry_layer g) (Arg-F.Value e)

  pub arg_lend : (k : ℕ) (at : Span) → seen_arg (arg.Lend k at) ≡ (λ lent. asked at (λ d. of_lent (d k)))
  unfolding roll-Arg denote.Hole.Carrier.roll
  arg_lend k at = fold-roll-Arg Src On On On On On On On Off Off Off (Bool → Part) (Bool → Part) Part Part Part Part Part Part Part (arg_layer g) (exp_layer g) (rhs_layer g) (step_layer g) (stmt_layer g) (tail_layer g) (arm_layer g) (block_layer g) (carry_layer g) (Arg-F.Lend k at)

  pub rhs_exp : (e : E) → seen_rhs (rhs.Exp e) ≡ (seen_exp e false)
  unfolding roll-Rhs denote.Hole.Carrier.roll
  rhs_exp e = fold-roll-Rhs Src On On On On On On On Off Off Off (Bool → Part) (Bool → Part) Part Part Part Part Part Part Part (arg_layer g) (exp_layer g) (rhs_layer g) (step_layer g) (stmt_layer g) (tail_layer g) (arm_layer g) (block_layer g) (carry_layer g) (Rhs-F.Exp e)

  pub rhs_if : (e : E) (a b : B) → seen_rhs (rhs.If e a b) ≡ (seen_exp e false & either (seen_block a) (seen_block b))
  unfolding roll-Rhs denote.Hole.Carrier.roll
  rhs_if e a b = fold-roll-Rhs Src On On On On On On On Off Off Off (Bool → Part) (Bool → Part) Part Part Part Part Part Part Part (arg_layer g) (exp_layer g) (rhs_layer g) (step_layer g) (stmt_layer g) (tail_layer g) (arm_layer g) (block_layer g) (carry_layer g) (Rhs-F.If e a b)

  pub rhs_match : (e : E) (xs : List (Arm Src On On On On On On On Off Off Off)) → seen_rhs (rhs.Match e xs) ≡ (seen_exp e false & one_of (map seen_arm xs))
  unfolding roll-Rhs denote.Hole.Carrier.roll
  rhs_match e xs = fold-roll-Rhs Src On On On On On On On Off Off Off (Bool → Part) (Bool → Part) Part Part Part Part Part Part Part (arg_layer g) (exp_layer g) (rhs_layer g) (step_layer g) (stmt_layer g) (tail_layer g) (arm_layer g) (block_layer g) (carry_layer g) (Rhs-F.Match e xs)

  pub rhs_block : (b : B) → seen_rhs (rhs.Block b) ≡ (seen_block b)
  unfolding roll-Rhs denote.Hole.Carrier.roll
  rhs_block b = fold-roll-Rhs Src On On On On On On On Off Off Off (Bool → Part) (Bool → Part) Part Part Part Part Part Part Part (arg_layer g) (exp_layer g) (rhs_layer g) (step_layer g) (stmt_layer g) (tail_layer g) (arm_layer g) (block_layer g) (carry_layer g) (Rhs-F.Block b)

  pub rhs_lendcall : (m : On) (f : Name) (es : List (Arg Src On On On On On On On Off Off Off)) → seen_rhs (rhs.LendCall m f es) ≡ (in_row (g.argument f) (map seen_arg es))
  unfolding roll-Rhs denote.Hole.Carrier.roll
  rhs_lendcall m f es = fold-roll-Rhs Src On On On On On On On Off Off Off (Bool → Part) (Bool → Part) Part Part Part Part Part Part Part (arg_layer g) (exp_layer g) (rhs_layer g) (step_layer g) (stmt_layer g) (tail_layer g) (arm_layer g) (block_layer g) (carry_layer g) (Rhs-F.LendCall m f es)

  pub rhs_quest : (m : On) (t : ValType) (e : E) → seen_rhs (rhs.Quest m t e) ≡ (seen_exp e false)
  unfolding roll-Rhs denote.Hole.Carrier.roll
  rhs_quest m t e = fold-roll-Rhs Src On On On On On On On Off Off Off (Bool → Part) (Bool → Part) Part Part Part Part Part Part Part (arg_layer g) (exp_layer g) (rhs_layer g) (step_layer g) (stmt_layer g) (tail_layer g) (arm_layer g) (block_layer g) (carry_layer g) (Rhs-F.Quest m t e)

  pub step_at : (e : E) → seen_step (step.At e) ≡ (seen_exp e false)
  unfolding roll-Step denote.Hole.Carrier.roll
  step_at e = fold-roll-Step Src On On On On On On On Off Off Off (Bool → Part) (Bool → Part) Part Part Part Part Part Part Part (arg_layer g) (exp_layer g) (rhs_layer g) (step_layer g) (stmt_layer g) (tail_layer g) (arm_layer g) (block_layer g) (carry_layer g) (Step-F.At e)

  pub step_part : (i : ℕ) → seen_step (step.Part i) ≡ (idle)
  unfolding roll-Step denote.Hole.Carrier.roll
  step_part i = fold-roll-Step Src On On On On On On On Off Off Off (Bool → Part) (Bool → Part) Part Part Part Part Part Part Part (arg_layer g) (exp_layer g) (rhs_layer g) (step_layer g) (stmt_layer g) (tail_layer g) (arm_layer g) (block_layer g) (carry_layer g) (Step-F.Part i)

  pub stmt_let : (p : Pattern) (r : R) → seen_stmt (stmt.Let p r) ≡ (seen_rhs r & gives (bound p))
  unfolding roll-Stmt denote.Hole.Carrier.roll
  stmt_let p r = fold-roll-Stmt Src On On On On On On On Off Off Off (Bool → Part) (Bool → Part) Part Part Part Part Part Part Part (arg_layer g) (exp_layer g) (rhs_layer g) (step_layer g) (stmt_layer g) (tail_layer g) (arm_layer g) (block_layer g) (carry_layer g) (Stmt-F.Let p r)

  pub stmt_do : (r : R) → seen_stmt (stmt.Do r) ≡ (seen_rhs r)
  unfolding roll-Stmt denote.Hole.Carrier.roll
  stmt_do r = fold-roll-Stmt Src On On On On On On On Off Off Off (Bool → Part) (Bool → Part) Part Part Part Part Part Part Part (arg_layer g) (exp_layer g) (rhs_layer g) (step_layer g) (stmt_layer g) (tail_layer g) (arm_layer g) (block_layer g) (carry_layer g) (Stmt-F.Do r)

  pub stmt_place : (m : On) (at : Span) (o : Option Name) (k : ℕ) (ss : List (Step Src On On On On On On On Off Off Off)) (r : R) → seen_stmt (stmt.Place m at o k ss r) ≡ (seen_rhs r & each (map seen_step ss) & asked at (λ d. of_place (is_none o && is_here (map seen_step ss)) (d k)) & gives (k ∷ []))
  unfolding roll-Stmt denote.Hole.Carrier.roll
  stmt_place m at o k ss r = fold-roll-Stmt Src On On On On On On On Off Off Off (Bool → Part) (Bool → Part) Part Part Part Part Part Part Part (arg_layer g) (exp_layer g) (rhs_layer g) (step_layer g) (stmt_layer g) (tail_layer g) (arm_layer g) (block_layer g) (carry_layer g) (Stmt-F.Place m at o k ss r)

  pub stmt_set : (m : On) (k : ℕ) (r : R) → seen_stmt (stmt.Set m k r) ≡ (seen_rhs r & gives (k ∷ []))
  unfolding roll-Stmt denote.Hole.Carrier.roll
  stmt_set m k r = fold-roll-Stmt Src On On On On On On On Off Off Off (Bool → Part) (Bool → Part) Part Part Part Part Part Part Part (arg_layer g) (exp_layer g) (rhs_layer g) (step_layer g) (stmt_layer g) (tail_layer g) (arm_layer g) (block_layer g) (carry_layer g) (Stmt-F.Set m k r)

  pub stmt_for : (l m : On) (i : ℕ) (lo hi : E) (b : B) → seen_stmt (stmt.For l m i lo hi b) ≡ (seen_exp lo false & seen_exp hi false & turns i (seen_block b))
  unfolding roll-Stmt denote.Hole.Carrier.roll
  stmt_for l m i lo hi b = fold-roll-Stmt Src On On On On On On On Off Off Off (Bool → Part) (Bool → Part) Part Part Part Part Part Part Part (arg_layer g) (exp_layer g) (rhs_layer g) (step_layer g) (stmt_layer g) (tail_layer g) (arm_layer g) (block_layer g) (carry_layer g) (Stmt-F.For l m i lo hi b)

  pub tail_rhs : (r : R) → seen_tail (tail.Rhs r) ≡ (seen_rhs r)
  unfolding roll-Tail denote.Hole.Carrier.roll
  tail_rhs r = fold-roll-Tail Src On On On On On On On Off Off Off (Bool → Part) (Bool → Part) Part Part Part Part Part Part Part (arg_layer g) (exp_layer g) (rhs_layer g) (step_layer g) (stmt_layer g) (tail_layer g) (arm_layer g) (block_layer g) (carry_layer g) (Tail-F.Rhs r)

  pub tail_return : (m : On) (e : E) → seen_tail (tail.Return m e) ≡ (seen_exp e false & nowhere)
  unfolding roll-Tail denote.Hole.Carrier.roll
  tail_return m e = fold-roll-Tail Src On On On On On On On Off Off Off (Bool → Part) (Bool → Part) Part Part Part Part Part Part Part (arg_layer g) (exp_layer g) (rhs_layer g) (step_layer g) (stmt_layer g) (tail_layer g) (arm_layer g) (block_layer g) (carry_layer g) (Tail-F.Return m e)

  pub arm_of : (x : Arm Src On On On On On On On Off Off Off) → seen_arm x ≡ (gives (bound x.pattern) & seen_block x.block)
  arm_of x = fold_out-Arm Src On On On On On On On Off Off Off (Bool → Part) (Bool → Part) Part Part Part Part Part Part Part (arg_layer g) (exp_layer g) (rhs_layer g) (step_layer g) (stmt_layer g) (tail_layer g) (arm_layer g) (block_layer g) (carry_layer g) x

  pub block_of : (x : B) → seen_block x ≡ (each (map seen_stmt x.statements) & seen_tail x.tail)
  block_of x = fold_out-Block Src On On On On On On On Off Off Off (Bool → Part) (Bool → Part) Part Part Part Part Part Part Part (arg_layer g) (exp_layer g) (rhs_layer g) (step_layer g) (stmt_layer g) (tail_layer g) (arm_layer g) (block_layer g) (carry_layer g) x
