-- What is seen of each node of a source.
use Rattle.std.specs.Prelude.{ℕ, Bool, true, false, List, [], ◌∷◌, ◌++◌, is_none, not, ◌&&◌}
use Rattle.hs_values.specs.declared.types.TypeDef.{TypeDef}
use Rattle.hs_tree.specs.Plain.{Name}
use Rattle.hs_tree.specs.Types.{copied}
use Rattle.hs_tree.specs.World.{operand_lent, none_lent}
use Rattle.hs_tree.specs.Source.{takes_part}
use Rattle.hs_tree.specs.declared.node.Pattern.{Pattern}
use Rattle.hs_tree.specs.declared.node.Pattern.TheOpen.{Pattern-F}
use Rattle.hs_tree.specs.declared.node.Pattern.TheFolds.{fold-Pattern}
use Rattle.hs_tree.specs.declared.node.Exp.{Exp}
use Rattle.hs_tree.specs.declared.node.Arg.{Arg}
use Rattle.hs_tree.specs.declared.node.Rhs.{Rhs}
use Rattle.hs_tree.specs.declared.node.Arm.{Arm}
use Rattle.hs_tree.specs.declared.node.Step.{Step}
use Rattle.hs_tree.specs.declared.node.Stmt.{Stmt}
use Rattle.hs_tree.specs.declared.node.Tail.{Tail}
use Rattle.hs_tree.specs.declared.node.Block.{Block}
use Rattle.hs_tree.specs.declared.node.Arg.TheOpen.{Exp-F, Arg-F, Rhs-F, Carry-F, Arm-F, Step-F, Stmt-F, Tail-F, Block-F}
use Rattle.hs_tree.specs.declared.node.Arg.TheFolds.{fold-Exp, fold-Arg, fold-Rhs, fold-Arm, fold-Step, fold-Stmt, fold-Tail, fold-Block}
use Rattle.hs_linear.specs.Rules.{of_lent, of_operation, of_place}
use Rattle.hs_linear.specs.Seen.{Part, idle, nowhere, gives, asked, read, ◌&◌, each, in_row, either, one_of, turns}

-- what is known of the function whose nodes are seen: the types with names; whether a read by value of a local takes its value out;
-- which locals are parameters that are references; and which arguments of the function of a name are lent
pub record Known : Type 0 where
  pub table : List TypeDef
  pub moves : ℕ → Bool
  pub reference : ℕ → Bool
  pub argument : Name → ℕ → Bool

-- the numbers in lists
abbrev pub all : List (List ℕ) → List ℕ
all [] = []
all (ns ∷ rest) = ns ++ all rest

abbrev pub bound_layer : Pattern-F (List ℕ) → List ℕ
bound_layer (Pattern-F.Local k) = k ∷ []
bound_layer Pattern-F.Any = []
bound_layer (Pattern-F.Tuple ps) = all ps
bound_layer (Pattern-F.Ctor t name ps) = all ps

-- the locals that a pattern binds
abbrev pub bound : Pattern → List ℕ
bound = fold-Pattern (List ℕ) bound_layer

-- whether no step leads from a local to a part of it
abbrev pub is_here : List Part → Bool
is_here [] = true
is_here (p ∷ ps) = false

-- F is a set of features, with the types of its marks
module _ (g : Known) {F Place Nested Quest MutArg Exit Assign Loop Cf Acc Fold : Type 0} where
  -- an expression, by whether it is lent
  abbrev pub exp_layer : Exp-F F Place Nested Quest MutArg Exit Assign Loop Cf Acc Fold (Bool → Part) (Bool → Part) Part Part Part Part Part Part Part → Bool → Part
  exp_layer (Exp-F.Var k at) lent = read (g.moves k && not lent) (g.moves k && not lent && g.reference k) k at
  exp_layer (Exp-F.Lit n) lent = idle
  exp_layer (Exp-F.Truth b) lent = idle
  exp_layer Exp-F.Unit lent = idle
  exp_layer (Exp-F.Const name) lent = idle
  exp_layer (Exp-F.Tuple es) lent = in_row none_lent es
  exp_layer (Exp-F.List es) lent = in_row none_lent es
  exp_layer (Exp-F.Ctor t name es) lent = in_row none_lent es
  exp_layer (Exp-F.Op name note es) lent =
      in_row (operand_lent name) es & asked note.span (λ d. of_operation (takes_part name) lent (copied g.table note.ty))
  exp_layer (Exp-F.Call f es) lent = in_row (g.argument f) es
  -- the second operand is run or not
  exp_layer (Exp-F.And a b) lent = a false & either idle (b false)
  exp_layer (Exp-F.Or a b) lent = a false & either idle (b false)
  exp_layer (Exp-F.In nested r) lent = r
  exp_layer (Exp-F.Exit cf e) lent = e false
  exp_layer (Exp-F.Cont cf e) lent = e false

  -- an argument, by whether it is lent
  abbrev pub arg_layer : Arg-F F Place Nested Quest MutArg Exit Assign Loop Cf Acc Fold (Bool → Part) (Bool → Part) Part Part Part Part Part Part Part → Bool → Part
  arg_layer (Arg-F.Value e) lent = e lent
  arg_layer (Arg-F.Lend k at) lent = asked at (λ d. of_lent (d k))

  -- a right side; loops whose bodies give values, and folds, stand in no source
  abbrev pub rhs_layer : Rhs-F F Place Nested Quest MutArg Exit Assign Loop Cf Acc Fold (Bool → Part) (Bool → Part) Part Part Part Part Part Part Part → Part
  rhs_layer (Rhs-F.Exp e) = e false
  rhs_layer (Rhs-F.If e a b) = e false & either a b
  rhs_layer (Rhs-F.Match e xs) = e false & one_of xs
  rhs_layer (Rhs-F.Block b) = b
  rhs_layer (Rhs-F.LendCall lends f es) = in_row (g.argument f) es
  rhs_layer (Rhs-F.Quest quest t e) = e false
  rhs_layer (Rhs-F.ForCf loop assign cf i lo hi b) = nowhere
  rhs_layer (Rhs-F.Turns loop acc c) = c
  rhs_layer (Rhs-F.TurnsCf loop acc cf c) = c
  rhs_layer (Rhs-F.Fold fold c) = c
  rhs_layer (Rhs-F.FoldCf fold cf c) = c

  abbrev pub carry_layer : Carry-F F Place Nested Quest MutArg Exit Assign Loop Cf Acc Fold (Bool → Part) (Bool → Part) Part Part Part Part Part Part Part → Part
  carry_layer c = nowhere

  abbrev pub arm_layer : Arm-F F Place Nested Quest MutArg Exit Assign Loop Cf Acc Fold (Bool → Part) (Bool → Part) Part Part Part Part Part Part Part → Part
  arm_layer x = gives (bound x.pattern) & x.block

  abbrev pub step_layer : Step-F F Place Nested Quest MutArg Exit Assign Loop Cf Acc Fold (Bool → Part) (Bool → Part) Part Part Part Part Part Part Part → Part
  step_layer (Step-F.At e) = e false
  step_layer (Step-F.Part i) = idle

  -- a statement: the right side of an assignment runs before the indices of its place
  abbrev pub stmt_layer : Stmt-F F Place Nested Quest MutArg Exit Assign Loop Cf Acc Fold (Bool → Part) (Bool → Part) Part Part Part Part Part Part Part → Part
  stmt_layer (Stmt-F.Let p r) = r & gives (bound p)
  stmt_layer (Stmt-F.Do r) = r
  stmt_layer (Stmt-F.Place place at o k steps r) =
      r & each steps & asked at (λ d. of_place (is_none o && is_here steps) (d k)) & gives (k ∷ [])
  stmt_layer (Stmt-F.Set assign k r) = r & gives (k ∷ [])
  stmt_layer (Stmt-F.For loop assign i lo hi b) = lo false & hi false & turns i b

  -- the end of a block
  abbrev pub tail_layer : Tail-F F Place Nested Quest MutArg Exit Assign Loop Cf Acc Fold (Bool → Part) (Bool → Part) Part Part Part Part Part Part Part → Part
  tail_layer (Tail-F.Rhs r) = r
  tail_layer (Tail-F.Return exit e) = e false & nowhere
  tail_layer (Tail-F.Bind cf around p r b) = nowhere

  abbrev pub block_layer : Block-F F Place Nested Quest MutArg Exit Assign Loop Cf Acc Fold (Bool → Part) (Bool → Part) Part Part Part Part Part Part Part → Part
  block_layer b = each b.statements & b.tail

  abbrev pub exp_seen : Exp F Place Nested Quest MutArg Exit Assign Loop Cf Acc Fold → Bool → Part
  exp_seen = fold-Exp F Place Nested Quest MutArg Exit Assign Loop Cf Acc Fold (Bool → Part) (Bool → Part) Part Part Part Part Part Part Part arg_layer exp_layer rhs_layer step_layer stmt_layer tail_layer arm_layer block_layer carry_layer

  abbrev pub arg_seen : Arg F Place Nested Quest MutArg Exit Assign Loop Cf Acc Fold → Bool → Part
  arg_seen = fold-Arg F Place Nested Quest MutArg Exit Assign Loop Cf Acc Fold (Bool → Part) (Bool → Part) Part Part Part Part Part Part Part arg_layer exp_layer rhs_layer step_layer stmt_layer tail_layer arm_layer block_layer carry_layer

  abbrev pub rhs_seen : Rhs F Place Nested Quest MutArg Exit Assign Loop Cf Acc Fold → Part
  rhs_seen = fold-Rhs F Place Nested Quest MutArg Exit Assign Loop Cf Acc Fold (Bool → Part) (Bool → Part) Part Part Part Part Part Part Part arg_layer exp_layer rhs_layer step_layer stmt_layer tail_layer arm_layer block_layer carry_layer

  abbrev pub arm_seen : Arm F Place Nested Quest MutArg Exit Assign Loop Cf Acc Fold → Part
  arm_seen = fold-Arm F Place Nested Quest MutArg Exit Assign Loop Cf Acc Fold (Bool → Part) (Bool → Part) Part Part Part Part Part Part Part arg_layer exp_layer rhs_layer step_layer stmt_layer tail_layer arm_layer block_layer carry_layer

  abbrev pub step_seen : Step F Place Nested Quest MutArg Exit Assign Loop Cf Acc Fold → Part
  step_seen = fold-Step F Place Nested Quest MutArg Exit Assign Loop Cf Acc Fold (Bool → Part) (Bool → Part) Part Part Part Part Part Part Part arg_layer exp_layer rhs_layer step_layer stmt_layer tail_layer arm_layer block_layer carry_layer

  abbrev pub stmt_seen : Stmt F Place Nested Quest MutArg Exit Assign Loop Cf Acc Fold → Part
  stmt_seen = fold-Stmt F Place Nested Quest MutArg Exit Assign Loop Cf Acc Fold (Bool → Part) (Bool → Part) Part Part Part Part Part Part Part arg_layer exp_layer rhs_layer step_layer stmt_layer tail_layer arm_layer block_layer carry_layer

  abbrev pub tail_seen : Tail F Place Nested Quest MutArg Exit Assign Loop Cf Acc Fold → Part
  tail_seen = fold-Tail F Place Nested Quest MutArg Exit Assign Loop Cf Acc Fold (Bool → Part) (Bool → Part) Part Part Part Part Part Part Part arg_layer exp_layer rhs_layer step_layer stmt_layer tail_layer arm_layer block_layer carry_layer

  abbrev pub block_seen : Block F Place Nested Quest MutArg Exit Assign Loop Cf Acc Fold → Part
  block_seen = fold-Block F Place Nested Quest MutArg Exit Assign Loop Cf Acc Fold (Bool → Part) (Bool → Part) Part Part Part Part Part Part Part arg_layer exp_layer rhs_layer step_layer stmt_layer tail_layer arm_layer block_layer carry_layer
