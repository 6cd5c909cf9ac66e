-- The sets and conditions of sources against what is seen of their nodes, node by node.
use Rattle.std.proofs.Common.{◌≡◌, ◌↔◌, ℕ, suc, Bool, true, false, not, ◌&&◌, ◌||◌, List, [], ◌∷◌, ◌++◌, map, Option, Some, None, refl, sym, ap, subst, ◌∙◌}
use Rattle.std.specs.Prelude.{IsTrue, is_none}
use Rattle.std.specs.Bool.{⊤}
use Rattle.std.specs.List.{list_all}
use Rattle.hs_values.specs.declared.types.ValType.{ValType}
use Rattle.hs_values.specs.declared.types.ValType.TheVariants as type
use Rattle.hs_tree.specs.Plain as plain
use Rattle.hs_tree.specs.Types.{copied}
use Rattle.hs_tree.specs.Match as match
use Rattle.hs_tree.specs.World.{operand_lent, none_lent}
use Rattle.hs_tree.specs.Moves as m
use Rattle.hs_tree.specs.Moves.{Holding, Lent, also, every, joined, Kept, WholeOr, after_exp, after_exps, after_args, after_rhs, after_arms, after_steps, after_block, MovesExp, MovesExps, MovesArgs, MovesRhs, MovesArms, MovesSteps, MovesBlock}
use Rattle.hs_tree.specs.Typing as typing
use Rattle.hs_tree.specs.Typing.{NodeType, Value, exits_rhs, exits_arms, exits_block, ExpTyped, ExpsTyped, EachTyped, ArgsTyped, RhsTyped, ArmsTyped, StepsTyped, BlockTyped}
use Rattle.hs_tree.specs.Of.{exps_of, patterns_of, chained, local, pattern_of, pattern_step, exp_step, arg_step, rhs_step, carry_step, arm_step, step_step, stmt_step, tail_step, block_step, exp_of, arg_of, rhs_of, carry_of, arm_of, step_of, stmt_of, tail_of, block_of}
use Rattle.hs_tree.specs.Source.{takes_part, all_of, taken_exp, taken_arg, taken_rhs, taken_carry, taken_arm, taken_step, taken_stmt, taken_tail, taken_block}
use Rattle.hs_tree.specs.declared.node.Pattern.{Pattern}
use Rattle.hs_tree.specs.declared.node.Pattern.TheOpen.{Pattern-F}
use Rattle.hs_tree.specs.declared.node.Pattern.TheViews.{roll-Pattern}
use Rattle.hs_tree.specs.declared.node.Pattern.TheFolds.{map-Pattern, fold-roll-Pattern, ind-Pattern}
use Rattle.hs_tree.specs.declared.node.Arg.{Arg}
use Rattle.hs_tree.specs.declared.node.Exp.{Exp}
use Rattle.hs_tree.specs.declared.node.Rhs.{Rhs}
use Rattle.hs_tree.specs.declared.node.Step.{Step}
use Rattle.hs_tree.specs.declared.node.Stmt.{Stmt}
use Rattle.hs_tree.specs.declared.node.Tail.{Tail}
use Rattle.hs_tree.specs.declared.node.Arm.{Arm}
use Rattle.hs_tree.specs.declared.node.Block.{Block}
use Rattle.hs_tree.specs.declared.node.Carry.{Carry}
use Rattle.hs_tree.specs.declared.node.Arg.TheOpen.{Arg-F, Exp-F, Rhs-F, Step-F, Stmt-F, Tail-F, Arm-F, Block-F}
use Rattle.hs_tree.specs.declared.node.Arg.TheViews.{roll-Arg, roll-Exp, roll-Rhs, roll-Step, roll-Stmt, roll-Tail, roll-Arm, roll-Block}
use Rattle.hs_tree.specs.declared.node.Arg.TheFolds.{map-Arg, map-Exp, map-Rhs, map-Step, map-Stmt, map-Tail, map-Arm, map-Block, fold-Arg, fold-Exp, fold-Rhs, fold-Step, fold-Stmt, fold-Tail, fold-Arm, fold-Block, fold-Carry, fold-roll-Arg, fold-roll-Exp, fold-roll-Rhs, fold-roll-Step, fold-roll-Stmt, fold-roll-Tail, fold-roll-Arm, fold-roll-Block, ind-Block}
use Rattle.hs_linear.specs.Rules.{of_lent, of_operation, of_place}
use Rattle.hs_linear.specs.Seen.{Seen, Part, idle, nowhere, gives, asked, ◌&◌, each, in_row, either, one_of, turns}
use Rattle.hs_linear.specs.Nodes as n
use Rattle.hs_linear.specs.Nodes.{exp_layer, arg_layer, rhs_layer, carry_layer, arm_layer, step_layer, stmt_layer, tail_layer, block_layer}
use Rattle.hs_linear.proofs.Parts.{both_true, Ok, Ends, ends_ok, ok_ends, ok_as, ends_as, ok_idle, ok_gives, ok_asked, ok_then, ends_then, ends_nowhere, ends_either, ok_turns, ok_read, lent_clear, operation_clear, place_clear}

-- conditions on the tree, and that no part is taken out, in another order
regroup : (M N : Type 0) (a b : Bool) → ((M × IsTrue a) × (N × IsTrue b)) ↔ ((M × N) × IsTrue (a && b))
regroup M N a b = (λ h. ((h.0.0, h.1.0), (both_true a b).1 (h.0.1, h.1.1)), λ h. ((h.0.0, ((both_true a b).0 h.1).0), (h.0.1, ((both_true a b).0 h.1).1)))

swap : (M N O : Type 0) (a b : Bool) → (M ↔ (N × O)) → ((N × IsTrue a) × (O × IsTrue b)) ↔ (M × IsTrue (a && b))
swap M N O a b e = (λ h. (e.1 (h.0.0, h.1.0), (both_true a b).1 (h.0.1, h.1.1)), λ h. (((e.0 h.0).0, ((both_true a b).0 h.1).0), ((e.0 h.0).1, ((both_true a b).0 h.1).1)))

-- the locals of patterns
all_bound : (names : List plain.Name) (ps : List ((p : Pattern) × (match.bound (pattern_of names p) ≡ n.bound p))) → match.bound_all (patterns_of (map (pattern_of names) (map (λ x. x.0) ps))) ≡ n.all (map n.bound (map (λ x. x.0) ps))
all_bound names [] = refl
all_bound names (p ∷ ps) =
    ap (λ ks. ks ++ match.bound_all (patterns_of (map (pattern_of names) (map (λ x. x.0) ps)))) p.1
    ∙ ap (λ ks. n.bound p.0 ++ ks) (all_bound names ps)

bound_level : (names : List plain.Name) (y : Pattern-F ((p : Pattern) × (match.bound (pattern_of names p) ≡ n.bound p))) → match.bound (pattern_of names (roll-Pattern (map-Pattern _ _ (λ x. x.0) y))) ≡ n.bound (roll-Pattern (map-Pattern _ _ (λ x. x.0) y))
bound_level names (Pattern-F.Local k) =
    ap match.bound (fold-roll-Pattern plain.Pattern (pattern_step names) _) ∙ sym (fold-roll-Pattern (List ℕ) n.bound_layer _)
bound_level names Pattern-F.Any =
    ap match.bound (fold-roll-Pattern plain.Pattern (pattern_step names) _) ∙ sym (fold-roll-Pattern (List ℕ) n.bound_layer _)
bound_level names (Pattern-F.Tuple ps) =
    ap match.bound (fold-roll-Pattern plain.Pattern (pattern_step names) _) ∙ all_bound names ps ∙ sym (fold-roll-Pattern (List ℕ) n.bound_layer _)
bound_level names (Pattern-F.Ctor t name ps) =
    ap match.bound (fold-roll-Pattern plain.Pattern (pattern_step names) _) ∙ all_bound names ps ∙ sym (fold-roll-Pattern (List ℕ) n.bound_layer _)

same_bound : (names : List plain.Name) (p : Pattern) → match.bound (pattern_of names p) ≡ n.bound p
same_bound names =
    ind-Pattern (λ p. match.bound (pattern_of names p) ≡ n.bound p)
    (λ x y is. subst (λ z. match.bound (pattern_of names (roll-Pattern z)) ≡ n.bound (roll-Pattern z)) is (bound_level names y))

-- F is a set of features, with the types of its marks, of which those of no source have no value
module _ (F Place Nested Quest MutArg Exit Assign Loop Cf Acc Fold : Type 0) (cf : Cf → ⊥) (acc : Acc → ⊥) (fold : Fold → ⊥) (names : List plain.Name) (t : typing.Known) (lents : Lent) where
  -- what is known of the function
  abbrev g : n.Known
  g = record { table = t.table; moves = m.moved_by t; reference = lents.reference; argument = lents.argument }

  -- an expression, by what it is in the plain tree, what is seen of it, and whether no part is taken out in it
  abbrev IsExp : plain.Exp → (Bool → Part) → (Bool → Bool) → Type 0
  IsExp e s q = (lent : Bool) (d : Holding) (u : NodeType) → ExpTyped t e u → Ok (s lent d) d (after_exp t lents e lent d) (MovesExp t lents e lent d × IsTrue (q lent))

  -- an argument, before others
  abbrev IsArg : (plain.Args → plain.Args) → (Bool → Part) → (Bool → Bool) → Type 0
  IsArg c s q =
      (es : plain.Args) (lent : ℕ → Bool) (d : Holding)
      → (after_args t lents (c es) lent d ≡ after_args t lents es (λ i. lent (suc i)) (after_args t lents (c plain.no_args) lent d))
      × (MovesArgs t lents (c es) lent d ↔ (MovesArgs t lents (c plain.no_args) lent d × MovesArgs t lents es (λ i. lent (suc i)) (after_args t lents (c plain.no_args) lent d)))
      × ((ms : List plain.Mode) (us : List ValType) → ArgsTyped t (c es) ms us
      → ((ns : List plain.Mode) × (vs : List ValType) × ArgsTyped t es ns vs)
      × Ok (s (lent 0) d) d (after_args t lents (c plain.no_args) lent d) (MovesArgs t lents (c plain.no_args) lent d × IsTrue (q (lent 0))))

  abbrev IsRhs : plain.Rhs → Part → Bool → Type 0
  IsRhs r s q = (d : Holding) (u : NodeType) → RhsTyped t r u → Ends (s d) d (exits_rhs r) (after_rhs t lents r d) (MovesRhs t lents r d × IsTrue q)

  abbrev IsBlock : plain.Block → Part → Bool → Type 0
  IsBlock b s q = (d : Holding) (u : NodeType) → BlockTyped t b u → Ends (s d) d (exits_block b) (after_block t lents b d) (MovesBlock t lents b d × IsTrue q)

  -- an arm, before others
  abbrev IsArm : (plain.Arms → plain.Arms) → Part → Bool → Type 0
  IsArm c s q =
      (p : plain.Pattern) × (b : plain.Block) × ((xs : plain.Arms) → c xs ≡ plain.arm p b xs)
      × ((d : Holding) (u : NodeType) → BlockTyped t b u → Ends (s d) d (exits_block b) (after_block t lents b (also (match.bound p) d)) (MovesBlock t lents b (also (match.bound p) d) × IsTrue q))

  -- a step, before others
  abbrev IsStep : (plain.Steps → plain.Steps) → Part → Bool → Type 0
  IsStep c s q =
      (x : plain.Steps) (d : Holding)
      → (after_steps t lents (c x) d ≡ after_steps t lents x (after_steps t lents (c plain.here) d))
      × (MovesSteps t lents (c x) d ↔ (MovesSteps t lents (c plain.here) d × MovesSteps t lents x (after_steps t lents (c plain.here) d)))
      × ((o : Option plain.Name) (h : Bool) → WholeOr o (c x) h ↔ IsTrue h)
      × ((u v : ValType) → StepsTyped t (c x) u v
      → ((w : ValType) × StepsTyped t x w v)
      × Ok (s d) d (after_steps t lents (c plain.here) d) (MovesSteps t lents (c plain.here) d × IsTrue q))

  -- a block of nothing
  abbrev nothing : plain.Block
  nothing = plain.ends (plain.plain plain.unit)

  -- a statement, before the rest of its block
  abbrev IsStmt : (plain.Block → plain.Block) → Part → Bool → Type 0
  IsStmt c s q =
      (b : plain.Block) (d : Holding)
      → (after_block t lents (c b) d ≡ after_block t lents b (after_block t lents (c nothing) d))
      × (exits_block (c b) ≡ exits_block b)
      × (MovesBlock t lents (c b) d ↔ (MovesBlock t lents (c nothing) d × MovesBlock t lents b (after_block t lents (c nothing) d)))
      × ((u : NodeType) → BlockTyped t (c b) u
      → BlockTyped t b u
      × Ok (s d) d (after_block t lents (c nothing) d) (MovesBlock t lents (c nothing) d × IsTrue q))

  abbrev arg_keeps : Arg F Place Nested Quest MutArg Exit Assign Loop Cf Acc Fold → (Bool → Bool)
  arg_keeps = fold-Arg F Place Nested Quest MutArg Exit Assign Loop Cf Acc Fold (Bool → Bool) (Bool → Bool) Bool Bool Bool Bool Bool Bool Bool (taken_arg t.table lents.argument) (taken_exp t.table lents.argument) (taken_rhs t.table lents.argument) (taken_step t.table lents.argument) (taken_stmt t.table lents.argument) (taken_tail t.table lents.argument) (taken_arm t.table lents.argument) (taken_block t.table lents.argument) (taken_carry t.table lents.argument)

  abbrev Good_arg : Arg F Place Nested Quest MutArg Exit Assign Loop Cf Acc Fold → Type 0
  Good_arg x = IsArg (arg_of names x) (n.arg_seen g x) (arg_keeps x)

  abbrev exp_keeps : Exp F Place Nested Quest MutArg Exit Assign Loop Cf Acc Fold → (Bool → Bool)
  exp_keeps = fold-Exp F Place Nested Quest MutArg Exit Assign Loop Cf Acc Fold (Bool → Bool) (Bool → Bool) Bool Bool Bool Bool Bool Bool Bool (taken_arg t.table lents.argument) (taken_exp t.table lents.argument) (taken_rhs t.table lents.argument) (taken_step t.table lents.argument) (taken_stmt t.table lents.argument) (taken_tail t.table lents.argument) (taken_arm t.table lents.argument) (taken_block t.table lents.argument) (taken_carry t.table lents.argument)

  abbrev Good_exp : Exp F Place Nested Quest MutArg Exit Assign Loop Cf Acc Fold → Type 0
  Good_exp x = IsExp (exp_of names x) (n.exp_seen g x) (exp_keeps x)

  abbrev rhs_keeps : Rhs F Place Nested Quest MutArg Exit Assign Loop Cf Acc Fold → Bool
  rhs_keeps = fold-Rhs F Place Nested Quest MutArg Exit Assign Loop Cf Acc Fold (Bool → Bool) (Bool → Bool) Bool Bool Bool Bool Bool Bool Bool (taken_arg t.table lents.argument) (taken_exp t.table lents.argument) (taken_rhs t.table lents.argument) (taken_step t.table lents.argument) (taken_stmt t.table lents.argument) (taken_tail t.table lents.argument) (taken_arm t.table lents.argument) (taken_block t.table lents.argument) (taken_carry t.table lents.argument)

  abbrev Good_rhs : Rhs F Place Nested Quest MutArg Exit Assign Loop Cf Acc Fold → Type 0
  Good_rhs x = IsRhs (rhs_of names x) (n.rhs_seen g x) (rhs_keeps x)

  abbrev step_keeps : Step F Place Nested Quest MutArg Exit Assign Loop Cf Acc Fold → Bool
  step_keeps = fold-Step F Place Nested Quest MutArg Exit Assign Loop Cf Acc Fold (Bool → Bool) (Bool → Bool) Bool Bool Bool Bool Bool Bool Bool (taken_arg t.table lents.argument) (taken_exp t.table lents.argument) (taken_rhs t.table lents.argument) (taken_step t.table lents.argument) (taken_stmt t.table lents.argument) (taken_tail t.table lents.argument) (taken_arm t.table lents.argument) (taken_block t.table lents.argument) (taken_carry t.table lents.argument)

  abbrev Good_step : Step F Place Nested Quest MutArg Exit Assign Loop Cf Acc Fold → Type 0
  Good_step x = IsStep (step_of names x) (n.step_seen g x) (step_keeps x)

  abbrev stmt_keeps : Stmt F Place Nested Quest MutArg Exit Assign Loop Cf Acc Fold → Bool
  stmt_keeps = fold-Stmt F Place Nested Quest MutArg Exit Assign Loop Cf Acc Fold (Bool → Bool) (Bool → Bool) Bool Bool Bool Bool Bool Bool Bool (taken_arg t.table lents.argument) (taken_exp t.table lents.argument) (taken_rhs t.table lents.argument) (taken_step t.table lents.argument) (taken_stmt t.table lents.argument) (taken_tail t.table lents.argument) (taken_arm t.table lents.argument) (taken_block t.table lents.argument) (taken_carry t.table lents.argument)

  abbrev Good_stmt : Stmt F Place Nested Quest MutArg Exit Assign Loop Cf Acc Fold → Type 0
  Good_stmt x = IsStmt (stmt_of names x) (n.stmt_seen g x) (stmt_keeps x)

  abbrev tail_keeps : Tail F Place Nested Quest MutArg Exit Assign Loop Cf Acc Fold → Bool
  tail_keeps = fold-Tail F Place Nested Quest MutArg Exit Assign Loop Cf Acc Fold (Bool → Bool) (Bool → Bool) Bool Bool Bool Bool Bool Bool Bool (taken_arg t.table lents.argument) (taken_exp t.table lents.argument) (taken_rhs t.table lents.argument) (taken_step t.table lents.argument) (taken_stmt t.table lents.argument) (taken_tail t.table lents.argument) (taken_arm t.table lents.argument) (taken_block t.table lents.argument) (taken_carry t.table lents.argument)

  abbrev Good_tail : Tail F Place Nested Quest MutArg Exit Assign Loop Cf Acc Fold → Type 0
  Good_tail x = IsBlock (tail_of names x) (n.tail_seen g x) (tail_keeps x)

  abbrev arm_keeps : Arm F Place Nested Quest MutArg Exit Assign Loop Cf Acc Fold → Bool
  arm_keeps = fold-Arm F Place Nested Quest MutArg Exit Assign Loop Cf Acc Fold (Bool → Bool) (Bool → Bool) Bool Bool Bool Bool Bool Bool Bool (taken_arg t.table lents.argument) (taken_exp t.table lents.argument) (taken_rhs t.table lents.argument) (taken_step t.table lents.argument) (taken_stmt t.table lents.argument) (taken_tail t.table lents.argument) (taken_arm t.table lents.argument) (taken_block t.table lents.argument) (taken_carry t.table lents.argument)

  abbrev Good_arm : Arm F Place Nested Quest MutArg Exit Assign Loop Cf Acc Fold → Type 0
  Good_arm x = IsArm (arm_of names x) (n.arm_seen g x) (arm_keeps x)

  abbrev block_keeps : Block F Place Nested Quest MutArg Exit Assign Loop Cf Acc Fold → Bool
  block_keeps = fold-Block F Place Nested Quest MutArg Exit Assign Loop Cf Acc Fold (Bool → Bool) (Bool → Bool) Bool Bool Bool Bool Bool Bool Bool (taken_arg t.table lents.argument) (taken_exp t.table lents.argument) (taken_rhs t.table lents.argument) (taken_step t.table lents.argument) (taken_stmt t.table lents.argument) (taken_tail t.table lents.argument) (taken_arm t.table lents.argument) (taken_block t.table lents.argument) (taken_carry t.table lents.argument)

  abbrev Good_block : Block F Place Nested Quest MutArg Exit Assign Loop Cf Acc Fold → Type 0
  Good_block x = IsBlock (block_of names x) (n.block_seen g x) (block_keeps x)

  abbrev carry_seen : Carry F Place Nested Quest MutArg Exit Assign Loop Cf Acc Fold → Part
  carry_seen = fold-Carry F Place Nested Quest MutArg Exit Assign Loop Cf Acc Fold (Bool → Part) (Bool → Part) Part Part Part Part Part Part Part (arg_layer g) (exp_layer g) (rhs_layer g) (step_layer g) (stmt_layer g) (tail_layer g) (arm_layer g) (block_layer g) (carry_layer g)

  abbrev carry_keeps : Carry F Place Nested Quest MutArg Exit Assign Loop Cf Acc Fold → Bool
  carry_keeps = fold-Carry F Place Nested Quest MutArg Exit Assign Loop Cf Acc Fold (Bool → Bool) (Bool → Bool) Bool Bool Bool Bool Bool Bool Bool (taken_arg t.table lents.argument) (taken_exp t.table lents.argument) (taken_rhs t.table lents.argument) (taken_step t.table lents.argument) (taken_stmt t.table lents.argument) (taken_tail t.table lents.argument) (taken_arm t.table lents.argument) (taken_block t.table lents.argument) (taken_carry t.table lents.argument)

  abbrev Good_carry : Carry F Place Nested Quest MutArg Exit Assign Loop Cf Acc Fold → Type 0
  Good_carry x = ⊤

  abbrev Args : Type 0
  Args = (x : Arg F Place Nested Quest MutArg Exit Assign Loop Cf Acc Fold) × Good_arg x

  abbrev Exps : Type 0
  Exps = (x : Exp F Place Nested Quest MutArg Exit Assign Loop Cf Acc Fold) × Good_exp x

  abbrev Rhss : Type 0
  Rhss = (x : Rhs F Place Nested Quest MutArg Exit Assign Loop Cf Acc Fold) × Good_rhs x

  abbrev Steps : Type 0
  Steps = (x : Step F Place Nested Quest MutArg Exit Assign Loop Cf Acc Fold) × Good_step x

  abbrev Stmts : Type 0
  Stmts = (x : Stmt F Place Nested Quest MutArg Exit Assign Loop Cf Acc Fold) × Good_stmt x

  abbrev Tails : Type 0
  Tails = (x : Tail F Place Nested Quest MutArg Exit Assign Loop Cf Acc Fold) × Good_tail x

  abbrev Arms : Type 0
  Arms = (x : Arm F Place Nested Quest MutArg Exit Assign Loop Cf Acc Fold) × Good_arm x

  abbrev Blocks : Type 0
  Blocks = (x : Block F Place Nested Quest MutArg Exit Assign Loop Cf Acc Fold) × Good_block x

  abbrev Carrys : Type 0
  Carrys = (x : Carry F Place Nested Quest MutArg Exit Assign Loop Cf Acc Fold) × Good_carry x

  abbrev plain_arg_of : Arg-F F Place Nested Quest MutArg Exit Assign Loop Cf Acc Fold (Arg F Place Nested Quest MutArg Exit Assign Loop Cf Acc Fold) (Exp F Place Nested Quest MutArg Exit Assign Loop Cf Acc Fold) (Rhs F Place Nested Quest MutArg Exit Assign Loop Cf Acc Fold) (Step F Place Nested Quest MutArg Exit Assign Loop Cf Acc Fold) (Stmt F Place Nested Quest MutArg Exit Assign Loop Cf Acc Fold) (Tail F Place Nested Quest MutArg Exit Assign Loop Cf Acc Fold) (Arm F Place Nested Quest MutArg Exit Assign Loop Cf Acc Fold) (Block F Place Nested Quest MutArg Exit Assign Loop Cf Acc Fold) (Carry F Place Nested Quest MutArg Exit Assign Loop Cf Acc Fold) → (plain.Args → plain.Args)
  plain_arg_of z = arg_step names (map-Arg F Place Nested Quest MutArg Exit Assign Loop Cf Acc Fold (Arg F Place Nested Quest MutArg Exit Assign Loop Cf Acc Fold) (Exp F Place Nested Quest MutArg Exit Assign Loop Cf Acc Fold) (Rhs F Place Nested Quest MutArg Exit Assign Loop Cf Acc Fold) (Step F Place Nested Quest MutArg Exit Assign Loop Cf Acc Fold) (Stmt F Place Nested Quest MutArg Exit Assign Loop Cf Acc Fold) (Tail F Place Nested Quest MutArg Exit Assign Loop Cf Acc Fold) (Arm F Place Nested Quest MutArg Exit Assign Loop Cf Acc Fold) (Block F Place Nested Quest MutArg Exit Assign Loop Cf Acc Fold) (Carry F Place Nested Quest MutArg Exit Assign Loop Cf Acc Fold) (plain.Args → plain.Args) plain.Exp plain.Rhs (plain.Steps → plain.Steps) (plain.Block → plain.Block) plain.Block (plain.Arms → plain.Arms) plain.Block (plain.Carrying → plain.Rhs) (arg_of names) (exp_of names) (rhs_of names) (step_of names) (stmt_of names) (tail_of names) (arm_of names) (block_of names) (carry_of names) z)

  abbrev seen_arg_of : Arg-F F Place Nested Quest MutArg Exit Assign Loop Cf Acc Fold (Arg F Place Nested Quest MutArg Exit Assign Loop Cf Acc Fold) (Exp F Place Nested Quest MutArg Exit Assign Loop Cf Acc Fold) (Rhs F Place Nested Quest MutArg Exit Assign Loop Cf Acc Fold) (Step F Place Nested Quest MutArg Exit Assign Loop Cf Acc Fold) (Stmt F Place Nested Quest MutArg Exit Assign Loop Cf Acc Fold) (Tail F Place Nested Quest MutArg Exit Assign Loop Cf Acc Fold) (Arm F Place Nested Quest MutArg Exit Assign Loop Cf Acc Fold) (Block F Place Nested Quest MutArg Exit Assign Loop Cf Acc Fold) (Carry F Place Nested Quest MutArg Exit Assign Loop Cf Acc Fold) → (Bool → Part)
  seen_arg_of z = arg_layer g (map-Arg F Place Nested Quest MutArg Exit Assign Loop Cf Acc Fold (Arg F Place Nested Quest MutArg Exit Assign Loop Cf Acc Fold) (Exp F Place Nested Quest MutArg Exit Assign Loop Cf Acc Fold) (Rhs F Place Nested Quest MutArg Exit Assign Loop Cf Acc Fold) (Step F Place Nested Quest MutArg Exit Assign Loop Cf Acc Fold) (Stmt F Place Nested Quest MutArg Exit Assign Loop Cf Acc Fold) (Tail F Place Nested Quest MutArg Exit Assign Loop Cf Acc Fold) (Arm F Place Nested Quest MutArg Exit Assign Loop Cf Acc Fold) (Block F Place Nested Quest MutArg Exit Assign Loop Cf Acc Fold) (Carry F Place Nested Quest MutArg Exit Assign Loop Cf Acc Fold) (Bool → Part) (Bool → Part) Part Part Part Part Part Part Part (n.arg_seen g) (n.exp_seen g) (n.rhs_seen g) (n.step_seen g) (n.stmt_seen g) (n.tail_seen g) (n.arm_seen g) (n.block_seen g) carry_seen z)

  abbrev kept_arg_of : Arg-F F Place Nested Quest MutArg Exit Assign Loop Cf Acc Fold (Arg F Place Nested Quest MutArg Exit Assign Loop Cf Acc Fold) (Exp F Place Nested Quest MutArg Exit Assign Loop Cf Acc Fold) (Rhs F Place Nested Quest MutArg Exit Assign Loop Cf Acc Fold) (Step F Place Nested Quest MutArg Exit Assign Loop Cf Acc Fold) (Stmt F Place Nested Quest MutArg Exit Assign Loop Cf Acc Fold) (Tail F Place Nested Quest MutArg Exit Assign Loop Cf Acc Fold) (Arm F Place Nested Quest MutArg Exit Assign Loop Cf Acc Fold) (Block F Place Nested Quest MutArg Exit Assign Loop Cf Acc Fold) (Carry F Place Nested Quest MutArg Exit Assign Loop Cf Acc Fold) → (Bool → Bool)
  kept_arg_of z = taken_arg t.table lents.argument (map-Arg F Place Nested Quest MutArg Exit Assign Loop Cf Acc Fold (Arg F Place Nested Quest MutArg Exit Assign Loop Cf Acc Fold) (Exp F Place Nested Quest MutArg Exit Assign Loop Cf Acc Fold) (Rhs F Place Nested Quest MutArg Exit Assign Loop Cf Acc Fold) (Step F Place Nested Quest MutArg Exit Assign Loop Cf Acc Fold) (Stmt F Place Nested Quest MutArg Exit Assign Loop Cf Acc Fold) (Tail F Place Nested Quest MutArg Exit Assign Loop Cf Acc Fold) (Arm F Place Nested Quest MutArg Exit Assign Loop Cf Acc Fold) (Block F Place Nested Quest MutArg Exit Assign Loop Cf Acc Fold) (Carry F Place Nested Quest MutArg Exit Assign Loop Cf Acc Fold) (Bool → Bool) (Bool → Bool) Bool Bool Bool Bool Bool Bool Bool arg_keeps exp_keeps rhs_keeps step_keeps stmt_keeps tail_keeps arm_keeps block_keeps carry_keeps z)

  roll_arg : (z : Arg-F F Place Nested Quest MutArg Exit Assign Loop Cf Acc Fold (Arg F Place Nested Quest MutArg Exit Assign Loop Cf Acc Fold) (Exp F Place Nested Quest MutArg Exit Assign Loop Cf Acc Fold) (Rhs F Place Nested Quest MutArg Exit Assign Loop Cf Acc Fold) (Step F Place Nested Quest MutArg Exit Assign Loop Cf Acc Fold) (Stmt F Place Nested Quest MutArg Exit Assign Loop Cf Acc Fold) (Tail F Place Nested Quest MutArg Exit Assign Loop Cf Acc Fold) (Arm F Place Nested Quest MutArg Exit Assign Loop Cf Acc Fold) (Block F Place Nested Quest MutArg Exit Assign Loop Cf Acc Fold) (Carry F Place Nested Quest MutArg Exit Assign Loop Cf Acc Fold)) → IsArg (plain_arg_of z) (seen_arg_of z) (kept_arg_of z) → Good_arg (roll-Arg F Place Nested Quest MutArg Exit Assign Loop Cf Acc Fold z)
  roll_arg z h =
      subst (λ a. IsArg a (n.arg_seen g (roll-Arg F Place Nested Quest MutArg Exit Assign Loop Cf Acc Fold z)) (arg_keeps (roll-Arg F Place Nested Quest MutArg Exit Assign Loop Cf Acc Fold z))) (sym (fold-roll-Arg F Place Nested Quest MutArg Exit Assign Loop Cf Acc Fold (plain.Args → plain.Args) plain.Exp plain.Rhs (plain.Steps → plain.Steps) (plain.Block → plain.Block) plain.Block (plain.Arms → plain.Arms) plain.Block (plain.Carrying → plain.Rhs) (arg_step names) (exp_step names) (rhs_step names) (step_step names) (stmt_step names) (tail_step names) (arm_step names) (block_step names) (carry_step names) z))
      (subst (λ a. IsArg (plain_arg_of z) a (arg_keeps (roll-Arg F Place Nested Quest MutArg Exit Assign Loop Cf Acc Fold z))) (sym (fold-roll-Arg F Place Nested Quest MutArg Exit Assign Loop Cf Acc Fold (Bool → Part) (Bool → Part) Part Part Part Part Part Part Part (arg_layer g) (exp_layer g) (rhs_layer g) (step_layer g) (stmt_layer g) (tail_layer g) (arm_layer g) (block_layer g) (carry_layer g) z))
      (subst (λ a. IsArg (plain_arg_of z) (seen_arg_of z) a) (sym (fold-roll-Arg F Place Nested Quest MutArg Exit Assign Loop Cf Acc Fold (Bool → Bool) (Bool → Bool) Bool Bool Bool Bool Bool Bool Bool (taken_arg t.table lents.argument) (taken_exp t.table lents.argument) (taken_rhs t.table lents.argument) (taken_step t.table lents.argument) (taken_stmt t.table lents.argument) (taken_tail t.table lents.argument) (taken_arm t.table lents.argument) (taken_block t.table lents.argument) (taken_carry t.table lents.argument) z)) h))

  abbrev plain_exp_of : Exp-F F Place Nested Quest MutArg Exit Assign Loop Cf Acc Fold (Arg F Place Nested Quest MutArg Exit Assign Loop Cf Acc Fold) (Exp F Place Nested Quest MutArg Exit Assign Loop Cf Acc Fold) (Rhs F Place Nested Quest MutArg Exit Assign Loop Cf Acc Fold) (Step F Place Nested Quest MutArg Exit Assign Loop Cf Acc Fold) (Stmt F Place Nested Quest MutArg Exit Assign Loop Cf Acc Fold) (Tail F Place Nested Quest MutArg Exit Assign Loop Cf Acc Fold) (Arm F Place Nested Quest MutArg Exit Assign Loop Cf Acc Fold) (Block F Place Nested Quest MutArg Exit Assign Loop Cf Acc Fold) (Carry F Place Nested Quest MutArg Exit Assign Loop Cf Acc Fold) → plain.Exp
  plain_exp_of z = exp_step names (map-Exp F Place Nested Quest MutArg Exit Assign Loop Cf Acc Fold (Arg F Place Nested Quest MutArg Exit Assign Loop Cf Acc Fold) (Exp F Place Nested Quest MutArg Exit Assign Loop Cf Acc Fold) (Rhs F Place Nested Quest MutArg Exit Assign Loop Cf Acc Fold) (Step F Place Nested Quest MutArg Exit Assign Loop Cf Acc Fold) (Stmt F Place Nested Quest MutArg Exit Assign Loop Cf Acc Fold) (Tail F Place Nested Quest MutArg Exit Assign Loop Cf Acc Fold) (Arm F Place Nested Quest MutArg Exit Assign Loop Cf Acc Fold) (Block F Place Nested Quest MutArg Exit Assign Loop Cf Acc Fold) (Carry F Place Nested Quest MutArg Exit Assign Loop Cf Acc Fold) (plain.Args → plain.Args) plain.Exp plain.Rhs (plain.Steps → plain.Steps) (plain.Block → plain.Block) plain.Block (plain.Arms → plain.Arms) plain.Block (plain.Carrying → plain.Rhs) (arg_of names) (exp_of names) (rhs_of names) (step_of names) (stmt_of names) (tail_of names) (arm_of names) (block_of names) (carry_of names) z)

  abbrev seen_exp_of : Exp-F F Place Nested Quest MutArg Exit Assign Loop Cf Acc Fold (Arg F Place Nested Quest MutArg Exit Assign Loop Cf Acc Fold) (Exp F Place Nested Quest MutArg Exit Assign Loop Cf Acc Fold) (Rhs F Place Nested Quest MutArg Exit Assign Loop Cf Acc Fold) (Step F Place Nested Quest MutArg Exit Assign Loop Cf Acc Fold) (Stmt F Place Nested Quest MutArg Exit Assign Loop Cf Acc Fold) (Tail F Place Nested Quest MutArg Exit Assign Loop Cf Acc Fold) (Arm F Place Nested Quest MutArg Exit Assign Loop Cf Acc Fold) (Block F Place Nested Quest MutArg Exit Assign Loop Cf Acc Fold) (Carry F Place Nested Quest MutArg Exit Assign Loop Cf Acc Fold) → (Bool → Part)
  seen_exp_of z = exp_layer g (map-Exp F Place Nested Quest MutArg Exit Assign Loop Cf Acc Fold (Arg F Place Nested Quest MutArg Exit Assign Loop Cf Acc Fold) (Exp F Place Nested Quest MutArg Exit Assign Loop Cf Acc Fold) (Rhs F Place Nested Quest MutArg Exit Assign Loop Cf Acc Fold) (Step F Place Nested Quest MutArg Exit Assign Loop Cf Acc Fold) (Stmt F Place Nested Quest MutArg Exit Assign Loop Cf Acc Fold) (Tail F Place Nested Quest MutArg Exit Assign Loop Cf Acc Fold) (Arm F Place Nested Quest MutArg Exit Assign Loop Cf Acc Fold) (Block F Place Nested Quest MutArg Exit Assign Loop Cf Acc Fold) (Carry F Place Nested Quest MutArg Exit Assign Loop Cf Acc Fold) (Bool → Part) (Bool → Part) Part Part Part Part Part Part Part (n.arg_seen g) (n.exp_seen g) (n.rhs_seen g) (n.step_seen g) (n.stmt_seen g) (n.tail_seen g) (n.arm_seen g) (n.block_seen g) carry_seen z)

  abbrev kept_exp_of : Exp-F F Place Nested Quest MutArg Exit Assign Loop Cf Acc Fold (Arg F Place Nested Quest MutArg Exit Assign Loop Cf Acc Fold) (Exp F Place Nested Quest MutArg Exit Assign Loop Cf Acc Fold) (Rhs F Place Nested Quest MutArg Exit Assign Loop Cf Acc Fold) (Step F Place Nested Quest MutArg Exit Assign Loop Cf Acc Fold) (Stmt F Place Nested Quest MutArg Exit Assign Loop Cf Acc Fold) (Tail F Place Nested Quest MutArg Exit Assign Loop Cf Acc Fold) (Arm F Place Nested Quest MutArg Exit Assign Loop Cf Acc Fold) (Block F Place Nested Quest MutArg Exit Assign Loop Cf Acc Fold) (Carry F Place Nested Quest MutArg Exit Assign Loop Cf Acc Fold) → (Bool → Bool)
  kept_exp_of z = taken_exp t.table lents.argument (map-Exp F Place Nested Quest MutArg Exit Assign Loop Cf Acc Fold (Arg F Place Nested Quest MutArg Exit Assign Loop Cf Acc Fold) (Exp F Place Nested Quest MutArg Exit Assign Loop Cf Acc Fold) (Rhs F Place Nested Quest MutArg Exit Assign Loop Cf Acc Fold) (Step F Place Nested Quest MutArg Exit Assign Loop Cf Acc Fold) (Stmt F Place Nested Quest MutArg Exit Assign Loop Cf Acc Fold) (Tail F Place Nested Quest MutArg Exit Assign Loop Cf Acc Fold) (Arm F Place Nested Quest MutArg Exit Assign Loop Cf Acc Fold) (Block F Place Nested Quest MutArg Exit Assign Loop Cf Acc Fold) (Carry F Place Nested Quest MutArg Exit Assign Loop Cf Acc Fold) (Bool → Bool) (Bool → Bool) Bool Bool Bool Bool Bool Bool Bool arg_keeps exp_keeps rhs_keeps step_keeps stmt_keeps tail_keeps arm_keeps block_keeps carry_keeps z)

  roll_exp : (z : Exp-F F Place Nested Quest MutArg Exit Assign Loop Cf Acc Fold (Arg F Place Nested Quest MutArg Exit Assign Loop Cf Acc Fold) (Exp F Place Nested Quest MutArg Exit Assign Loop Cf Acc Fold) (Rhs F Place Nested Quest MutArg Exit Assign Loop Cf Acc Fold) (Step F Place Nested Quest MutArg Exit Assign Loop Cf Acc Fold) (Stmt F Place Nested Quest MutArg Exit Assign Loop Cf Acc Fold) (Tail F Place Nested Quest MutArg Exit Assign Loop Cf Acc Fold) (Arm F Place Nested Quest MutArg Exit Assign Loop Cf Acc Fold) (Block F Place Nested Quest MutArg Exit Assign Loop Cf Acc Fold) (Carry F Place Nested Quest MutArg Exit Assign Loop Cf Acc Fold)) → IsExp (plain_exp_of z) (seen_exp_of z) (kept_exp_of z) → Good_exp (roll-Exp F Place Nested Quest MutArg Exit Assign Loop Cf Acc Fold z)
  roll_exp z h =
      subst (λ a. IsExp a (n.exp_seen g (roll-Exp F Place Nested Quest MutArg Exit Assign Loop Cf Acc Fold z)) (exp_keeps (roll-Exp F Place Nested Quest MutArg Exit Assign Loop Cf Acc Fold z))) (sym (fold-roll-Exp F Place Nested Quest MutArg Exit Assign Loop Cf Acc Fold (plain.Args → plain.Args) plain.Exp plain.Rhs (plain.Steps → plain.Steps) (plain.Block → plain.Block) plain.Block (plain.Arms → plain.Arms) plain.Block (plain.Carrying → plain.Rhs) (arg_step names) (exp_step names) (rhs_step names) (step_step names) (stmt_step names) (tail_step names) (arm_step names) (block_step names) (carry_step names) z))
      (subst (λ a. IsExp (plain_exp_of z) a (exp_keeps (roll-Exp F Place Nested Quest MutArg Exit Assign Loop Cf Acc Fold z))) (sym (fold-roll-Exp F Place Nested Quest MutArg Exit Assign Loop Cf Acc Fold (Bool → Part) (Bool → Part) Part Part Part Part Part Part Part (arg_layer g) (exp_layer g) (rhs_layer g) (step_layer g) (stmt_layer g) (tail_layer g) (arm_layer g) (block_layer g) (carry_layer g) z))
      (subst (λ a. IsExp (plain_exp_of z) (seen_exp_of z) a) (sym (fold-roll-Exp F Place Nested Quest MutArg Exit Assign Loop Cf Acc Fold (Bool → Bool) (Bool → Bool) Bool Bool Bool Bool Bool Bool Bool (taken_arg t.table lents.argument) (taken_exp t.table lents.argument) (taken_rhs t.table lents.argument) (taken_step t.table lents.argument) (taken_stmt t.table lents.argument) (taken_tail t.table lents.argument) (taken_arm t.table lents.argument) (taken_block t.table lents.argument) (taken_carry t.table lents.argument) z)) h))

  abbrev plain_rhs_of : Rhs-F F Place Nested Quest MutArg Exit Assign Loop Cf Acc Fold (Arg F Place Nested Quest MutArg Exit Assign Loop Cf Acc Fold) (Exp F Place Nested Quest MutArg Exit Assign Loop Cf Acc Fold) (Rhs F Place Nested Quest MutArg Exit Assign Loop Cf Acc Fold) (Step F Place Nested Quest MutArg Exit Assign Loop Cf Acc Fold) (Stmt F Place Nested Quest MutArg Exit Assign Loop Cf Acc Fold) (Tail F Place Nested Quest MutArg Exit Assign Loop Cf Acc Fold) (Arm F Place Nested Quest MutArg Exit Assign Loop Cf Acc Fold) (Block F Place Nested Quest MutArg Exit Assign Loop Cf Acc Fold) (Carry F Place Nested Quest MutArg Exit Assign Loop Cf Acc Fold) → plain.Rhs
  plain_rhs_of z = rhs_step names (map-Rhs F Place Nested Quest MutArg Exit Assign Loop Cf Acc Fold (Arg F Place Nested Quest MutArg Exit Assign Loop Cf Acc Fold) (Exp F Place Nested Quest MutArg Exit Assign Loop Cf Acc Fold) (Rhs F Place Nested Quest MutArg Exit Assign Loop Cf Acc Fold) (Step F Place Nested Quest MutArg Exit Assign Loop Cf Acc Fold) (Stmt F Place Nested Quest MutArg Exit Assign Loop Cf Acc Fold) (Tail F Place Nested Quest MutArg Exit Assign Loop Cf Acc Fold) (Arm F Place Nested Quest MutArg Exit Assign Loop Cf Acc Fold) (Block F Place Nested Quest MutArg Exit Assign Loop Cf Acc Fold) (Carry F Place Nested Quest MutArg Exit Assign Loop Cf Acc Fold) (plain.Args → plain.Args) plain.Exp plain.Rhs (plain.Steps → plain.Steps) (plain.Block → plain.Block) plain.Block (plain.Arms → plain.Arms) plain.Block (plain.Carrying → plain.Rhs) (arg_of names) (exp_of names) (rhs_of names) (step_of names) (stmt_of names) (tail_of names) (arm_of names) (block_of names) (carry_of names) z)

  abbrev seen_rhs_of : Rhs-F F Place Nested Quest MutArg Exit Assign Loop Cf Acc Fold (Arg F Place Nested Quest MutArg Exit Assign Loop Cf Acc Fold) (Exp F Place Nested Quest MutArg Exit Assign Loop Cf Acc Fold) (Rhs F Place Nested Quest MutArg Exit Assign Loop Cf Acc Fold) (Step F Place Nested Quest MutArg Exit Assign Loop Cf Acc Fold) (Stmt F Place Nested Quest MutArg Exit Assign Loop Cf Acc Fold) (Tail F Place Nested Quest MutArg Exit Assign Loop Cf Acc Fold) (Arm F Place Nested Quest MutArg Exit Assign Loop Cf Acc Fold) (Block F Place Nested Quest MutArg Exit Assign Loop Cf Acc Fold) (Carry F Place Nested Quest MutArg Exit Assign Loop Cf Acc Fold) → Part
  seen_rhs_of z = rhs_layer g (map-Rhs F Place Nested Quest MutArg Exit Assign Loop Cf Acc Fold (Arg F Place Nested Quest MutArg Exit Assign Loop Cf Acc Fold) (Exp F Place Nested Quest MutArg Exit Assign Loop Cf Acc Fold) (Rhs F Place Nested Quest MutArg Exit Assign Loop Cf Acc Fold) (Step F Place Nested Quest MutArg Exit Assign Loop Cf Acc Fold) (Stmt F Place Nested Quest MutArg Exit Assign Loop Cf Acc Fold) (Tail F Place Nested Quest MutArg Exit Assign Loop Cf Acc Fold) (Arm F Place Nested Quest MutArg Exit Assign Loop Cf Acc Fold) (Block F Place Nested Quest MutArg Exit Assign Loop Cf Acc Fold) (Carry F Place Nested Quest MutArg Exit Assign Loop Cf Acc Fold) (Bool → Part) (Bool → Part) Part Part Part Part Part Part Part (n.arg_seen g) (n.exp_seen g) (n.rhs_seen g) (n.step_seen g) (n.stmt_seen g) (n.tail_seen g) (n.arm_seen g) (n.block_seen g) carry_seen z)

  abbrev kept_rhs_of : Rhs-F F Place Nested Quest MutArg Exit Assign Loop Cf Acc Fold (Arg F Place Nested Quest MutArg Exit Assign Loop Cf Acc Fold) (Exp F Place Nested Quest MutArg Exit Assign Loop Cf Acc Fold) (Rhs F Place Nested Quest MutArg Exit Assign Loop Cf Acc Fold) (Step F Place Nested Quest MutArg Exit Assign Loop Cf Acc Fold) (Stmt F Place Nested Quest MutArg Exit Assign Loop Cf Acc Fold) (Tail F Place Nested Quest MutArg Exit Assign Loop Cf Acc Fold) (Arm F Place Nested Quest MutArg Exit Assign Loop Cf Acc Fold) (Block F Place Nested Quest MutArg Exit Assign Loop Cf Acc Fold) (Carry F Place Nested Quest MutArg Exit Assign Loop Cf Acc Fold) → Bool
  kept_rhs_of z = taken_rhs t.table lents.argument (map-Rhs F Place Nested Quest MutArg Exit Assign Loop Cf Acc Fold (Arg F Place Nested Quest MutArg Exit Assign Loop Cf Acc Fold) (Exp F Place Nested Quest MutArg Exit Assign Loop Cf Acc Fold) (Rhs F Place Nested Quest MutArg Exit Assign Loop Cf Acc Fold) (Step F Place Nested Quest MutArg Exit Assign Loop Cf Acc Fold) (Stmt F Place Nested Quest MutArg Exit Assign Loop Cf Acc Fold) (Tail F Place Nested Quest MutArg Exit Assign Loop Cf Acc Fold) (Arm F Place Nested Quest MutArg Exit Assign Loop Cf Acc Fold) (Block F Place Nested Quest MutArg Exit Assign Loop Cf Acc Fold) (Carry F Place Nested Quest MutArg Exit Assign Loop Cf Acc Fold) (Bool → Bool) (Bool → Bool) Bool Bool Bool Bool Bool Bool Bool arg_keeps exp_keeps rhs_keeps step_keeps stmt_keeps tail_keeps arm_keeps block_keeps carry_keeps z)

  roll_rhs : (z : Rhs-F F Place Nested Quest MutArg Exit Assign Loop Cf Acc Fold (Arg F Place Nested Quest MutArg Exit Assign Loop Cf Acc Fold) (Exp F Place Nested Quest MutArg Exit Assign Loop Cf Acc Fold) (Rhs F Place Nested Quest MutArg Exit Assign Loop Cf Acc Fold) (Step F Place Nested Quest MutArg Exit Assign Loop Cf Acc Fold) (Stmt F Place Nested Quest MutArg Exit Assign Loop Cf Acc Fold) (Tail F Place Nested Quest MutArg Exit Assign Loop Cf Acc Fold) (Arm F Place Nested Quest MutArg Exit Assign Loop Cf Acc Fold) (Block F Place Nested Quest MutArg Exit Assign Loop Cf Acc Fold) (Carry F Place Nested Quest MutArg Exit Assign Loop Cf Acc Fold)) → IsRhs (plain_rhs_of z) (seen_rhs_of z) (kept_rhs_of z) → Good_rhs (roll-Rhs F Place Nested Quest MutArg Exit Assign Loop Cf Acc Fold z)
  roll_rhs z h =
      subst (λ a. IsRhs a (n.rhs_seen g (roll-Rhs F Place Nested Quest MutArg Exit Assign Loop Cf Acc Fold z)) (rhs_keeps (roll-Rhs F Place Nested Quest MutArg Exit Assign Loop Cf Acc Fold z))) (sym (fold-roll-Rhs F Place Nested Quest MutArg Exit Assign Loop Cf Acc Fold (plain.Args → plain.Args) plain.Exp plain.Rhs (plain.Steps → plain.Steps) (plain.Block → plain.Block) plain.Block (plain.Arms → plain.Arms) plain.Block (plain.Carrying → plain.Rhs) (arg_step names) (exp_step names) (rhs_step names) (step_step names) (stmt_step names) (tail_step names) (arm_step names) (block_step names) (carry_step names) z))
      (subst (λ a. IsRhs (plain_rhs_of z) a (rhs_keeps (roll-Rhs F Place Nested Quest MutArg Exit Assign Loop Cf Acc Fold z))) (sym (fold-roll-Rhs F Place Nested Quest MutArg Exit Assign Loop Cf Acc Fold (Bool → Part) (Bool → Part) Part Part Part Part Part Part Part (arg_layer g) (exp_layer g) (rhs_layer g) (step_layer g) (stmt_layer g) (tail_layer g) (arm_layer g) (block_layer g) (carry_layer g) z))
      (subst (λ a. IsRhs (plain_rhs_of z) (seen_rhs_of z) a) (sym (fold-roll-Rhs F Place Nested Quest MutArg Exit Assign Loop Cf Acc Fold (Bool → Bool) (Bool → Bool) Bool Bool Bool Bool Bool Bool Bool (taken_arg t.table lents.argument) (taken_exp t.table lents.argument) (taken_rhs t.table lents.argument) (taken_step t.table lents.argument) (taken_stmt t.table lents.argument) (taken_tail t.table lents.argument) (taken_arm t.table lents.argument) (taken_block t.table lents.argument) (taken_carry t.table lents.argument) z)) h))

  abbrev plain_step_of : Step-F F Place Nested Quest MutArg Exit Assign Loop Cf Acc Fold (Arg F Place Nested Quest MutArg Exit Assign Loop Cf Acc Fold) (Exp F Place Nested Quest MutArg Exit Assign Loop Cf Acc Fold) (Rhs F Place Nested Quest MutArg Exit Assign Loop Cf Acc Fold) (Step F Place Nested Quest MutArg Exit Assign Loop Cf Acc Fold) (Stmt F Place Nested Quest MutArg Exit Assign Loop Cf Acc Fold) (Tail F Place Nested Quest MutArg Exit Assign Loop Cf Acc Fold) (Arm F Place Nested Quest MutArg Exit Assign Loop Cf Acc Fold) (Block F Place Nested Quest MutArg Exit Assign Loop Cf Acc Fold) (Carry F Place Nested Quest MutArg Exit Assign Loop Cf Acc Fold) → (plain.Steps → plain.Steps)
  plain_step_of z = step_step names (map-Step F Place Nested Quest MutArg Exit Assign Loop Cf Acc Fold (Arg F Place Nested Quest MutArg Exit Assign Loop Cf Acc Fold) (Exp F Place Nested Quest MutArg Exit Assign Loop Cf Acc Fold) (Rhs F Place Nested Quest MutArg Exit Assign Loop Cf Acc Fold) (Step F Place Nested Quest MutArg Exit Assign Loop Cf Acc Fold) (Stmt F Place Nested Quest MutArg Exit Assign Loop Cf Acc Fold) (Tail F Place Nested Quest MutArg Exit Assign Loop Cf Acc Fold) (Arm F Place Nested Quest MutArg Exit Assign Loop Cf Acc Fold) (Block F Place Nested Quest MutArg Exit Assign Loop Cf Acc Fold) (Carry F Place Nested Quest MutArg Exit Assign Loop Cf Acc Fold) (plain.Args → plain.Args) plain.Exp plain.Rhs (plain.Steps → plain.Steps) (plain.Block → plain.Block) plain.Block (plain.Arms → plain.Arms) plain.Block (plain.Carrying → plain.Rhs) (arg_of names) (exp_of names) (rhs_of names) (step_of names) (stmt_of names) (tail_of names) (arm_of names) (block_of names) (carry_of names) z)

  abbrev seen_step_of : Step-F F Place Nested Quest MutArg Exit Assign Loop Cf Acc Fold (Arg F Place Nested Quest MutArg Exit Assign Loop Cf Acc Fold) (Exp F Place Nested Quest MutArg Exit Assign Loop Cf Acc Fold) (Rhs F Place Nested Quest MutArg Exit Assign Loop Cf Acc Fold) (Step F Place Nested Quest MutArg Exit Assign Loop Cf Acc Fold) (Stmt F Place Nested Quest MutArg Exit Assign Loop Cf Acc Fold) (Tail F Place Nested Quest MutArg Exit Assign Loop Cf Acc Fold) (Arm F Place Nested Quest MutArg Exit Assign Loop Cf Acc Fold) (Block F Place Nested Quest MutArg Exit Assign Loop Cf Acc Fold) (Carry F Place Nested Quest MutArg Exit Assign Loop Cf Acc Fold) → Part
  seen_step_of z = step_layer g (map-Step F Place Nested Quest MutArg Exit Assign Loop Cf Acc Fold (Arg F Place Nested Quest MutArg Exit Assign Loop Cf Acc Fold) (Exp F Place Nested Quest MutArg Exit Assign Loop Cf Acc Fold) (Rhs F Place Nested Quest MutArg Exit Assign Loop Cf Acc Fold) (Step F Place Nested Quest MutArg Exit Assign Loop Cf Acc Fold) (Stmt F Place Nested Quest MutArg Exit Assign Loop Cf Acc Fold) (Tail F Place Nested Quest MutArg Exit Assign Loop Cf Acc Fold) (Arm F Place Nested Quest MutArg Exit Assign Loop Cf Acc Fold) (Block F Place Nested Quest MutArg Exit Assign Loop Cf Acc Fold) (Carry F Place Nested Quest MutArg Exit Assign Loop Cf Acc Fold) (Bool → Part) (Bool → Part) Part Part Part Part Part Part Part (n.arg_seen g) (n.exp_seen g) (n.rhs_seen g) (n.step_seen g) (n.stmt_seen g) (n.tail_seen g) (n.arm_seen g) (n.block_seen g) carry_seen z)

  abbrev kept_step_of : Step-F F Place Nested Quest MutArg Exit Assign Loop Cf Acc Fold (Arg F Place Nested Quest MutArg Exit Assign Loop Cf Acc Fold) (Exp F Place Nested Quest MutArg Exit Assign Loop Cf Acc Fold) (Rhs F Place Nested Quest MutArg Exit Assign Loop Cf Acc Fold) (Step F Place Nested Quest MutArg Exit Assign Loop Cf Acc Fold) (Stmt F Place Nested Quest MutArg Exit Assign Loop Cf Acc Fold) (Tail F Place Nested Quest MutArg Exit Assign Loop Cf Acc Fold) (Arm F Place Nested Quest MutArg Exit Assign Loop Cf Acc Fold) (Block F Place Nested Quest MutArg Exit Assign Loop Cf Acc Fold) (Carry F Place Nested Quest MutArg Exit Assign Loop Cf Acc Fold) → Bool
  kept_step_of z = taken_step t.table lents.argument (map-Step F Place Nested Quest MutArg Exit Assign Loop Cf Acc Fold (Arg F Place Nested Quest MutArg Exit Assign Loop Cf Acc Fold) (Exp F Place Nested Quest MutArg Exit Assign Loop Cf Acc Fold) (Rhs F Place Nested Quest MutArg Exit Assign Loop Cf Acc Fold) (Step F Place Nested Quest MutArg Exit Assign Loop Cf Acc Fold) (Stmt F Place Nested Quest MutArg Exit Assign Loop Cf Acc Fold) (Tail F Place Nested Quest MutArg Exit Assign Loop Cf Acc Fold) (Arm F Place Nested Quest MutArg Exit Assign Loop Cf Acc Fold) (Block F Place Nested Quest MutArg Exit Assign Loop Cf Acc Fold) (Carry F Place Nested Quest MutArg Exit Assign Loop Cf Acc Fold) (Bool → Bool) (Bool → Bool) Bool Bool Bool Bool Bool Bool Bool arg_keeps exp_keeps rhs_keeps step_keeps stmt_keeps tail_keeps arm_keeps block_keeps carry_keeps z)

  roll_step : (z : Step-F F Place Nested Quest MutArg Exit Assign Loop Cf Acc Fold (Arg F Place Nested Quest MutArg Exit Assign Loop Cf Acc Fold) (Exp F Place Nested Quest MutArg Exit Assign Loop Cf Acc Fold) (Rhs F Place Nested Quest MutArg Exit Assign Loop Cf Acc Fold) (Step F Place Nested Quest MutArg Exit Assign Loop Cf Acc Fold) (Stmt F Place Nested Quest MutArg Exit Assign Loop Cf Acc Fold) (Tail F Place Nested Quest MutArg Exit Assign Loop Cf Acc Fold) (Arm F Place Nested Quest MutArg Exit Assign Loop Cf Acc Fold) (Block F Place Nested Quest MutArg Exit Assign Loop Cf Acc Fold) (Carry F Place Nested Quest MutArg Exit Assign Loop Cf Acc Fold)) → IsStep (plain_step_of z) (seen_step_of z) (kept_step_of z) → Good_step (roll-Step F Place Nested Quest MutArg Exit Assign Loop Cf Acc Fold z)
  roll_step z h =
      subst (λ a. IsStep a (n.step_seen g (roll-Step F Place Nested Quest MutArg Exit Assign Loop Cf Acc Fold z)) (step_keeps (roll-Step F Place Nested Quest MutArg Exit Assign Loop Cf Acc Fold z))) (sym (fold-roll-Step F Place Nested Quest MutArg Exit Assign Loop Cf Acc Fold (plain.Args → plain.Args) plain.Exp plain.Rhs (plain.Steps → plain.Steps) (plain.Block → plain.Block) plain.Block (plain.Arms → plain.Arms) plain.Block (plain.Carrying → plain.Rhs) (arg_step names) (exp_step names) (rhs_step names) (step_step names) (stmt_step names) (tail_step names) (arm_step names) (block_step names) (carry_step names) z))
      (subst (λ a. IsStep (plain_step_of z) a (step_keeps (roll-Step F Place Nested Quest MutArg Exit Assign Loop Cf Acc Fold z))) (sym (fold-roll-Step F Place Nested Quest MutArg Exit Assign Loop Cf Acc Fold (Bool → Part) (Bool → Part) Part Part Part Part Part Part Part (arg_layer g) (exp_layer g) (rhs_layer g) (step_layer g) (stmt_layer g) (tail_layer g) (arm_layer g) (block_layer g) (carry_layer g) z))
      (subst (λ a. IsStep (plain_step_of z) (seen_step_of z) a) (sym (fold-roll-Step F Place Nested Quest MutArg Exit Assign Loop Cf Acc Fold (Bool → Bool) (Bool → Bool) Bool Bool Bool Bool Bool Bool Bool (taken_arg t.table lents.argument) (taken_exp t.table lents.argument) (taken_rhs t.table lents.argument) (taken_step t.table lents.argument) (taken_stmt t.table lents.argument) (taken_tail t.table lents.argument) (taken_arm t.table lents.argument) (taken_block t.table lents.argument) (taken_carry t.table lents.argument) z)) h))

  abbrev plain_stmt_of : Stmt-F F Place Nested Quest MutArg Exit Assign Loop Cf Acc Fold (Arg F Place Nested Quest MutArg Exit Assign Loop Cf Acc Fold) (Exp F Place Nested Quest MutArg Exit Assign Loop Cf Acc Fold) (Rhs F Place Nested Quest MutArg Exit Assign Loop Cf Acc Fold) (Step F Place Nested Quest MutArg Exit Assign Loop Cf Acc Fold) (Stmt F Place Nested Quest MutArg Exit Assign Loop Cf Acc Fold) (Tail F Place Nested Quest MutArg Exit Assign Loop Cf Acc Fold) (Arm F Place Nested Quest MutArg Exit Assign Loop Cf Acc Fold) (Block F Place Nested Quest MutArg Exit Assign Loop Cf Acc Fold) (Carry F Place Nested Quest MutArg Exit Assign Loop Cf Acc Fold) → (plain.Block → plain.Block)
  plain_stmt_of z = stmt_step names (map-Stmt F Place Nested Quest MutArg Exit Assign Loop Cf Acc Fold (Arg F Place Nested Quest MutArg Exit Assign Loop Cf Acc Fold) (Exp F Place Nested Quest MutArg Exit Assign Loop Cf Acc Fold) (Rhs F Place Nested Quest MutArg Exit Assign Loop Cf Acc Fold) (Step F Place Nested Quest MutArg Exit Assign Loop Cf Acc Fold) (Stmt F Place Nested Quest MutArg Exit Assign Loop Cf Acc Fold) (Tail F Place Nested Quest MutArg Exit Assign Loop Cf Acc Fold) (Arm F Place Nested Quest MutArg Exit Assign Loop Cf Acc Fold) (Block F Place Nested Quest MutArg Exit Assign Loop Cf Acc Fold) (Carry F Place Nested Quest MutArg Exit Assign Loop Cf Acc Fold) (plain.Args → plain.Args) plain.Exp plain.Rhs (plain.Steps → plain.Steps) (plain.Block → plain.Block) plain.Block (plain.Arms → plain.Arms) plain.Block (plain.Carrying → plain.Rhs) (arg_of names) (exp_of names) (rhs_of names) (step_of names) (stmt_of names) (tail_of names) (arm_of names) (block_of names) (carry_of names) z)

  abbrev seen_stmt_of : Stmt-F F Place Nested Quest MutArg Exit Assign Loop Cf Acc Fold (Arg F Place Nested Quest MutArg Exit Assign Loop Cf Acc Fold) (Exp F Place Nested Quest MutArg Exit Assign Loop Cf Acc Fold) (Rhs F Place Nested Quest MutArg Exit Assign Loop Cf Acc Fold) (Step F Place Nested Quest MutArg Exit Assign Loop Cf Acc Fold) (Stmt F Place Nested Quest MutArg Exit Assign Loop Cf Acc Fold) (Tail F Place Nested Quest MutArg Exit Assign Loop Cf Acc Fold) (Arm F Place Nested Quest MutArg Exit Assign Loop Cf Acc Fold) (Block F Place Nested Quest MutArg Exit Assign Loop Cf Acc Fold) (Carry F Place Nested Quest MutArg Exit Assign Loop Cf Acc Fold) → Part
  seen_stmt_of z = stmt_layer g (map-Stmt F Place Nested Quest MutArg Exit Assign Loop Cf Acc Fold (Arg F Place Nested Quest MutArg Exit Assign Loop Cf Acc Fold) (Exp F Place Nested Quest MutArg Exit Assign Loop Cf Acc Fold) (Rhs F Place Nested Quest MutArg Exit Assign Loop Cf Acc Fold) (Step F Place Nested Quest MutArg Exit Assign Loop Cf Acc Fold) (Stmt F Place Nested Quest MutArg Exit Assign Loop Cf Acc Fold) (Tail F Place Nested Quest MutArg Exit Assign Loop Cf Acc Fold) (Arm F Place Nested Quest MutArg Exit Assign Loop Cf Acc Fold) (Block F Place Nested Quest MutArg Exit Assign Loop Cf Acc Fold) (Carry F Place Nested Quest MutArg Exit Assign Loop Cf Acc Fold) (Bool → Part) (Bool → Part) Part Part Part Part Part Part Part (n.arg_seen g) (n.exp_seen g) (n.rhs_seen g) (n.step_seen g) (n.stmt_seen g) (n.tail_seen g) (n.arm_seen g) (n.block_seen g) carry_seen z)

  abbrev kept_stmt_of : Stmt-F F Place Nested Quest MutArg Exit Assign Loop Cf Acc Fold (Arg F Place Nested Quest MutArg Exit Assign Loop Cf Acc Fold) (Exp F Place Nested Quest MutArg Exit Assign Loop Cf Acc Fold) (Rhs F Place Nested Quest MutArg Exit Assign Loop Cf Acc Fold) (Step F Place Nested Quest MutArg Exit Assign Loop Cf Acc Fold) (Stmt F Place Nested Quest MutArg Exit Assign Loop Cf Acc Fold) (Tail F Place Nested Quest MutArg Exit Assign Loop Cf Acc Fold) (Arm F Place Nested Quest MutArg Exit Assign Loop Cf Acc Fold) (Block F Place Nested Quest MutArg Exit Assign Loop Cf Acc Fold) (Carry F Place Nested Quest MutArg Exit Assign Loop Cf Acc Fold) → Bool
  kept_stmt_of z = taken_stmt t.table lents.argument (map-Stmt F Place Nested Quest MutArg Exit Assign Loop Cf Acc Fold (Arg F Place Nested Quest MutArg Exit Assign Loop Cf Acc Fold) (Exp F Place Nested Quest MutArg Exit Assign Loop Cf Acc Fold) (Rhs F Place Nested Quest MutArg Exit Assign Loop Cf Acc Fold) (Step F Place Nested Quest MutArg Exit Assign Loop Cf Acc Fold) (Stmt F Place Nested Quest MutArg Exit Assign Loop Cf Acc Fold) (Tail F Place Nested Quest MutArg Exit Assign Loop Cf Acc Fold) (Arm F Place Nested Quest MutArg Exit Assign Loop Cf Acc Fold) (Block F Place Nested Quest MutArg Exit Assign Loop Cf Acc Fold) (Carry F Place Nested Quest MutArg Exit Assign Loop Cf Acc Fold) (Bool → Bool) (Bool → Bool) Bool Bool Bool Bool Bool Bool Bool arg_keeps exp_keeps rhs_keeps step_keeps stmt_keeps tail_keeps arm_keeps block_keeps carry_keeps z)

  roll_stmt : (z : Stmt-F F Place Nested Quest MutArg Exit Assign Loop Cf Acc Fold (Arg F Place Nested Quest MutArg Exit Assign Loop Cf Acc Fold) (Exp F Place Nested Quest MutArg Exit Assign Loop Cf Acc Fold) (Rhs F Place Nested Quest MutArg Exit Assign Loop Cf Acc Fold) (Step F Place Nested Quest MutArg Exit Assign Loop Cf Acc Fold) (Stmt F Place Nested Quest MutArg Exit Assign Loop Cf Acc Fold) (Tail F Place Nested Quest MutArg Exit Assign Loop Cf Acc Fold) (Arm F Place Nested Quest MutArg Exit Assign Loop Cf Acc Fold) (Block F Place Nested Quest MutArg Exit Assign Loop Cf Acc Fold) (Carry F Place Nested Quest MutArg Exit Assign Loop Cf Acc Fold)) → IsStmt (plain_stmt_of z) (seen_stmt_of z) (kept_stmt_of z) → Good_stmt (roll-Stmt F Place Nested Quest MutArg Exit Assign Loop Cf Acc Fold z)
  roll_stmt z h =
      subst (λ a. IsStmt a (n.stmt_seen g (roll-Stmt F Place Nested Quest MutArg Exit Assign Loop Cf Acc Fold z)) (stmt_keeps (roll-Stmt F Place Nested Quest MutArg Exit Assign Loop Cf Acc Fold z))) (sym (fold-roll-Stmt F Place Nested Quest MutArg Exit Assign Loop Cf Acc Fold (plain.Args → plain.Args) plain.Exp plain.Rhs (plain.Steps → plain.Steps) (plain.Block → plain.Block) plain.Block (plain.Arms → plain.Arms) plain.Block (plain.Carrying → plain.Rhs) (arg_step names) (exp_step names) (rhs_step names) (step_step names) (stmt_step names) (tail_step names) (arm_step names) (block_step names) (carry_step names) z))
      (subst (λ a. IsStmt (plain_stmt_of z) a (stmt_keeps (roll-Stmt F Place Nested Quest MutArg Exit Assign Loop Cf Acc Fold z))) (sym (fold-roll-Stmt F Place Nested Quest MutArg Exit Assign Loop Cf Acc Fold (Bool → Part) (Bool → Part) Part Part Part Part Part Part Part (arg_layer g) (exp_layer g) (rhs_layer g) (step_layer g) (stmt_layer g) (tail_layer g) (arm_layer g) (block_layer g) (carry_layer g) z))
      (subst (λ a. IsStmt (plain_stmt_of z) (seen_stmt_of z) a) (sym (fold-roll-Stmt F Place Nested Quest MutArg Exit Assign Loop Cf Acc Fold (Bool → Bool) (Bool → Bool) Bool Bool Bool Bool Bool Bool Bool (taken_arg t.table lents.argument) (taken_exp t.table lents.argument) (taken_rhs t.table lents.argument) (taken_step t.table lents.argument) (taken_stmt t.table lents.argument) (taken_tail t.table lents.argument) (taken_arm t.table lents.argument) (taken_block t.table lents.argument) (taken_carry t.table lents.argument) z)) h))

  abbrev plain_tail_of : Tail-F F Place Nested Quest MutArg Exit Assign Loop Cf Acc Fold (Arg F Place Nested Quest MutArg Exit Assign Loop Cf Acc Fold) (Exp F Place Nested Quest MutArg Exit Assign Loop Cf Acc Fold) (Rhs F Place Nested Quest MutArg Exit Assign Loop Cf Acc Fold) (Step F Place Nested Quest MutArg Exit Assign Loop Cf Acc Fold) (Stmt F Place Nested Quest MutArg Exit Assign Loop Cf Acc Fold) (Tail F Place Nested Quest MutArg Exit Assign Loop Cf Acc Fold) (Arm F Place Nested Quest MutArg Exit Assign Loop Cf Acc Fold) (Block F Place Nested Quest MutArg Exit Assign Loop Cf Acc Fold) (Carry F Place Nested Quest MutArg Exit Assign Loop Cf Acc Fold) → plain.Block
  plain_tail_of z = tail_step names (map-Tail F Place Nested Quest MutArg Exit Assign Loop Cf Acc Fold (Arg F Place Nested Quest MutArg Exit Assign Loop Cf Acc Fold) (Exp F Place Nested Quest MutArg Exit Assign Loop Cf Acc Fold) (Rhs F Place Nested Quest MutArg Exit Assign Loop Cf Acc Fold) (Step F Place Nested Quest MutArg Exit Assign Loop Cf Acc Fold) (Stmt F Place Nested Quest MutArg Exit Assign Loop Cf Acc Fold) (Tail F Place Nested Quest MutArg Exit Assign Loop Cf Acc Fold) (Arm F Place Nested Quest MutArg Exit Assign Loop Cf Acc Fold) (Block F Place Nested Quest MutArg Exit Assign Loop Cf Acc Fold) (Carry F Place Nested Quest MutArg Exit Assign Loop Cf Acc Fold) (plain.Args → plain.Args) plain.Exp plain.Rhs (plain.Steps → plain.Steps) (plain.Block → plain.Block) plain.Block (plain.Arms → plain.Arms) plain.Block (plain.Carrying → plain.Rhs) (arg_of names) (exp_of names) (rhs_of names) (step_of names) (stmt_of names) (tail_of names) (arm_of names) (block_of names) (carry_of names) z)

  abbrev seen_tail_of : Tail-F F Place Nested Quest MutArg Exit Assign Loop Cf Acc Fold (Arg F Place Nested Quest MutArg Exit Assign Loop Cf Acc Fold) (Exp F Place Nested Quest MutArg Exit Assign Loop Cf Acc Fold) (Rhs F Place Nested Quest MutArg Exit Assign Loop Cf Acc Fold) (Step F Place Nested Quest MutArg Exit Assign Loop Cf Acc Fold) (Stmt F Place Nested Quest MutArg Exit Assign Loop Cf Acc Fold) (Tail F Place Nested Quest MutArg Exit Assign Loop Cf Acc Fold) (Arm F Place Nested Quest MutArg Exit Assign Loop Cf Acc Fold) (Block F Place Nested Quest MutArg Exit Assign Loop Cf Acc Fold) (Carry F Place Nested Quest MutArg Exit Assign Loop Cf Acc Fold) → Part
  seen_tail_of z = tail_layer g (map-Tail F Place Nested Quest MutArg Exit Assign Loop Cf Acc Fold (Arg F Place Nested Quest MutArg Exit Assign Loop Cf Acc Fold) (Exp F Place Nested Quest MutArg Exit Assign Loop Cf Acc Fold) (Rhs F Place Nested Quest MutArg Exit Assign Loop Cf Acc Fold) (Step F Place Nested Quest MutArg Exit Assign Loop Cf Acc Fold) (Stmt F Place Nested Quest MutArg Exit Assign Loop Cf Acc Fold) (Tail F Place Nested Quest MutArg Exit Assign Loop Cf Acc Fold) (Arm F Place Nested Quest MutArg Exit Assign Loop Cf Acc Fold) (Block F Place Nested Quest MutArg Exit Assign Loop Cf Acc Fold) (Carry F Place Nested Quest MutArg Exit Assign Loop Cf Acc Fold) (Bool → Part) (Bool → Part) Part Part Part Part Part Part Part (n.arg_seen g) (n.exp_seen g) (n.rhs_seen g) (n.step_seen g) (n.stmt_seen g) (n.tail_seen g) (n.arm_seen g) (n.block_seen g) carry_seen z)

  abbrev kept_tail_of : Tail-F F Place Nested Quest MutArg Exit Assign Loop Cf Acc Fold (Arg F Place Nested Quest MutArg Exit Assign Loop Cf Acc Fold) (Exp F Place Nested Quest MutArg Exit Assign Loop Cf Acc Fold) (Rhs F Place Nested Quest MutArg Exit Assign Loop Cf Acc Fold) (Step F Place Nested Quest MutArg Exit Assign Loop Cf Acc Fold) (Stmt F Place Nested Quest MutArg Exit Assign Loop Cf Acc Fold) (Tail F Place Nested Quest MutArg Exit Assign Loop Cf Acc Fold) (Arm F Place Nested Quest MutArg Exit Assign Loop Cf Acc Fold) (Block F Place Nested Quest MutArg Exit Assign Loop Cf Acc Fold) (Carry F Place Nested Quest MutArg Exit Assign Loop Cf Acc Fold) → Bool
  kept_tail_of z = taken_tail t.table lents.argument (map-Tail F Place Nested Quest MutArg Exit Assign Loop Cf Acc Fold (Arg F Place Nested Quest MutArg Exit Assign Loop Cf Acc Fold) (Exp F Place Nested Quest MutArg Exit Assign Loop Cf Acc Fold) (Rhs F Place Nested Quest MutArg Exit Assign Loop Cf Acc Fold) (Step F Place Nested Quest MutArg Exit Assign Loop Cf Acc Fold) (Stmt F Place Nested Quest MutArg Exit Assign Loop Cf Acc Fold) (Tail F Place Nested Quest MutArg Exit Assign Loop Cf Acc Fold) (Arm F Place Nested Quest MutArg Exit Assign Loop Cf Acc Fold) (Block F Place Nested Quest MutArg Exit Assign Loop Cf Acc Fold) (Carry F Place Nested Quest MutArg Exit Assign Loop Cf Acc Fold) (Bool → Bool) (Bool → Bool) Bool Bool Bool Bool Bool Bool Bool arg_keeps exp_keeps rhs_keeps step_keeps stmt_keeps tail_keeps arm_keeps block_keeps carry_keeps z)

  roll_tail : (z : Tail-F F Place Nested Quest MutArg Exit Assign Loop Cf Acc Fold (Arg F Place Nested Quest MutArg Exit Assign Loop Cf Acc Fold) (Exp F Place Nested Quest MutArg Exit Assign Loop Cf Acc Fold) (Rhs F Place Nested Quest MutArg Exit Assign Loop Cf Acc Fold) (Step F Place Nested Quest MutArg Exit Assign Loop Cf Acc Fold) (Stmt F Place Nested Quest MutArg Exit Assign Loop Cf Acc Fold) (Tail F Place Nested Quest MutArg Exit Assign Loop Cf Acc Fold) (Arm F Place Nested Quest MutArg Exit Assign Loop Cf Acc Fold) (Block F Place Nested Quest MutArg Exit Assign Loop Cf Acc Fold) (Carry F Place Nested Quest MutArg Exit Assign Loop Cf Acc Fold)) → IsBlock (plain_tail_of z) (seen_tail_of z) (kept_tail_of z) → Good_tail (roll-Tail F Place Nested Quest MutArg Exit Assign Loop Cf Acc Fold z)
  roll_tail z h =
      subst (λ a. IsBlock a (n.tail_seen g (roll-Tail F Place Nested Quest MutArg Exit Assign Loop Cf Acc Fold z)) (tail_keeps (roll-Tail F Place Nested Quest MutArg Exit Assign Loop Cf Acc Fold z))) (sym (fold-roll-Tail F Place Nested Quest MutArg Exit Assign Loop Cf Acc Fold (plain.Args → plain.Args) plain.Exp plain.Rhs (plain.Steps → plain.Steps) (plain.Block → plain.Block) plain.Block (plain.Arms → plain.Arms) plain.Block (plain.Carrying → plain.Rhs) (arg_step names) (exp_step names) (rhs_step names) (step_step names) (stmt_step names) (tail_step names) (arm_step names) (block_step names) (carry_step names) z))
      (subst (λ a. IsBlock (plain_tail_of z) a (tail_keeps (roll-Tail F Place Nested Quest MutArg Exit Assign Loop Cf Acc Fold z))) (sym (fold-roll-Tail F Place Nested Quest MutArg Exit Assign Loop Cf Acc Fold (Bool → Part) (Bool → Part) Part Part Part Part Part Part Part (arg_layer g) (exp_layer g) (rhs_layer g) (step_layer g) (stmt_layer g) (tail_layer g) (arm_layer g) (block_layer g) (carry_layer g) z))
      (subst (λ a. IsBlock (plain_tail_of z) (seen_tail_of z) a) (sym (fold-roll-Tail F Place Nested Quest MutArg Exit Assign Loop Cf Acc Fold (Bool → Bool) (Bool → Bool) Bool Bool Bool Bool Bool Bool Bool (taken_arg t.table lents.argument) (taken_exp t.table lents.argument) (taken_rhs t.table lents.argument) (taken_step t.table lents.argument) (taken_stmt t.table lents.argument) (taken_tail t.table lents.argument) (taken_arm t.table lents.argument) (taken_block t.table lents.argument) (taken_carry t.table lents.argument) z)) h))

  abbrev plain_arm_of : Arm-F F Place Nested Quest MutArg Exit Assign Loop Cf Acc Fold (Arg F Place Nested Quest MutArg Exit Assign Loop Cf Acc Fold) (Exp F Place Nested Quest MutArg Exit Assign Loop Cf Acc Fold) (Rhs F Place Nested Quest MutArg Exit Assign Loop Cf Acc Fold) (Step F Place Nested Quest MutArg Exit Assign Loop Cf Acc Fold) (Stmt F Place Nested Quest MutArg Exit Assign Loop Cf Acc Fold) (Tail F Place Nested Quest MutArg Exit Assign Loop Cf Acc Fold) (Arm F Place Nested Quest MutArg Exit Assign Loop Cf Acc Fold) (Block F Place Nested Quest MutArg Exit Assign Loop Cf Acc Fold) (Carry F Place Nested Quest MutArg Exit Assign Loop Cf Acc Fold) → (plain.Arms → plain.Arms)
  plain_arm_of z = arm_step names (map-Arm F Place Nested Quest MutArg Exit Assign Loop Cf Acc Fold (Arg F Place Nested Quest MutArg Exit Assign Loop Cf Acc Fold) (Exp F Place Nested Quest MutArg Exit Assign Loop Cf Acc Fold) (Rhs F Place Nested Quest MutArg Exit Assign Loop Cf Acc Fold) (Step F Place Nested Quest MutArg Exit Assign Loop Cf Acc Fold) (Stmt F Place Nested Quest MutArg Exit Assign Loop Cf Acc Fold) (Tail F Place Nested Quest MutArg Exit Assign Loop Cf Acc Fold) (Arm F Place Nested Quest MutArg Exit Assign Loop Cf Acc Fold) (Block F Place Nested Quest MutArg Exit Assign Loop Cf Acc Fold) (Carry F Place Nested Quest MutArg Exit Assign Loop Cf Acc Fold) (plain.Args → plain.Args) plain.Exp plain.Rhs (plain.Steps → plain.Steps) (plain.Block → plain.Block) plain.Block (plain.Arms → plain.Arms) plain.Block (plain.Carrying → plain.Rhs) (arg_of names) (exp_of names) (rhs_of names) (step_of names) (stmt_of names) (tail_of names) (arm_of names) (block_of names) (carry_of names) z)

  abbrev seen_arm_of : Arm-F F Place Nested Quest MutArg Exit Assign Loop Cf Acc Fold (Arg F Place Nested Quest MutArg Exit Assign Loop Cf Acc Fold) (Exp F Place Nested Quest MutArg Exit Assign Loop Cf Acc Fold) (Rhs F Place Nested Quest MutArg Exit Assign Loop Cf Acc Fold) (Step F Place Nested Quest MutArg Exit Assign Loop Cf Acc Fold) (Stmt F Place Nested Quest MutArg Exit Assign Loop Cf Acc Fold) (Tail F Place Nested Quest MutArg Exit Assign Loop Cf Acc Fold) (Arm F Place Nested Quest MutArg Exit Assign Loop Cf Acc Fold) (Block F Place Nested Quest MutArg Exit Assign Loop Cf Acc Fold) (Carry F Place Nested Quest MutArg Exit Assign Loop Cf Acc Fold) → Part
  seen_arm_of z = arm_layer g (map-Arm F Place Nested Quest MutArg Exit Assign Loop Cf Acc Fold (Arg F Place Nested Quest MutArg Exit Assign Loop Cf Acc Fold) (Exp F Place Nested Quest MutArg Exit Assign Loop Cf Acc Fold) (Rhs F Place Nested Quest MutArg Exit Assign Loop Cf Acc Fold) (Step F Place Nested Quest MutArg Exit Assign Loop Cf Acc Fold) (Stmt F Place Nested Quest MutArg Exit Assign Loop Cf Acc Fold) (Tail F Place Nested Quest MutArg Exit Assign Loop Cf Acc Fold) (Arm F Place Nested Quest MutArg Exit Assign Loop Cf Acc Fold) (Block F Place Nested Quest MutArg Exit Assign Loop Cf Acc Fold) (Carry F Place Nested Quest MutArg Exit Assign Loop Cf Acc Fold) (Bool → Part) (Bool → Part) Part Part Part Part Part Part Part (n.arg_seen g) (n.exp_seen g) (n.rhs_seen g) (n.step_seen g) (n.stmt_seen g) (n.tail_seen g) (n.arm_seen g) (n.block_seen g) carry_seen z)

  abbrev kept_arm_of : Arm-F F Place Nested Quest MutArg Exit Assign Loop Cf Acc Fold (Arg F Place Nested Quest MutArg Exit Assign Loop Cf Acc Fold) (Exp F Place Nested Quest MutArg Exit Assign Loop Cf Acc Fold) (Rhs F Place Nested Quest MutArg Exit Assign Loop Cf Acc Fold) (Step F Place Nested Quest MutArg Exit Assign Loop Cf Acc Fold) (Stmt F Place Nested Quest MutArg Exit Assign Loop Cf Acc Fold) (Tail F Place Nested Quest MutArg Exit Assign Loop Cf Acc Fold) (Arm F Place Nested Quest MutArg Exit Assign Loop Cf Acc Fold) (Block F Place Nested Quest MutArg Exit Assign Loop Cf Acc Fold) (Carry F Place Nested Quest MutArg Exit Assign Loop Cf Acc Fold) → Bool
  kept_arm_of z = taken_arm t.table lents.argument (map-Arm F Place Nested Quest MutArg Exit Assign Loop Cf Acc Fold (Arg F Place Nested Quest MutArg Exit Assign Loop Cf Acc Fold) (Exp F Place Nested Quest MutArg Exit Assign Loop Cf Acc Fold) (Rhs F Place Nested Quest MutArg Exit Assign Loop Cf Acc Fold) (Step F Place Nested Quest MutArg Exit Assign Loop Cf Acc Fold) (Stmt F Place Nested Quest MutArg Exit Assign Loop Cf Acc Fold) (Tail F Place Nested Quest MutArg Exit Assign Loop Cf Acc Fold) (Arm F Place Nested Quest MutArg Exit Assign Loop Cf Acc Fold) (Block F Place Nested Quest MutArg Exit Assign Loop Cf Acc Fold) (Carry F Place Nested Quest MutArg Exit Assign Loop Cf Acc Fold) (Bool → Bool) (Bool → Bool) Bool Bool Bool Bool Bool Bool Bool arg_keeps exp_keeps rhs_keeps step_keeps stmt_keeps tail_keeps arm_keeps block_keeps carry_keeps z)

  roll_arm : (z : Arm-F F Place Nested Quest MutArg Exit Assign Loop Cf Acc Fold (Arg F Place Nested Quest MutArg Exit Assign Loop Cf Acc Fold) (Exp F Place Nested Quest MutArg Exit Assign Loop Cf Acc Fold) (Rhs F Place Nested Quest MutArg Exit Assign Loop Cf Acc Fold) (Step F Place Nested Quest MutArg Exit Assign Loop Cf Acc Fold) (Stmt F Place Nested Quest MutArg Exit Assign Loop Cf Acc Fold) (Tail F Place Nested Quest MutArg Exit Assign Loop Cf Acc Fold) (Arm F Place Nested Quest MutArg Exit Assign Loop Cf Acc Fold) (Block F Place Nested Quest MutArg Exit Assign Loop Cf Acc Fold) (Carry F Place Nested Quest MutArg Exit Assign Loop Cf Acc Fold)) → IsArm (plain_arm_of z) (seen_arm_of z) (kept_arm_of z) → Good_arm (roll-Arm F Place Nested Quest MutArg Exit Assign Loop Cf Acc Fold z)
  roll_arm z h =
      subst (λ a. IsArm a (n.arm_seen g (roll-Arm F Place Nested Quest MutArg Exit Assign Loop Cf Acc Fold z)) (arm_keeps (roll-Arm F Place Nested Quest MutArg Exit Assign Loop Cf Acc Fold z))) (sym (fold-roll-Arm F Place Nested Quest MutArg Exit Assign Loop Cf Acc Fold (plain.Args → plain.Args) plain.Exp plain.Rhs (plain.Steps → plain.Steps) (plain.Block → plain.Block) plain.Block (plain.Arms → plain.Arms) plain.Block (plain.Carrying → plain.Rhs) (arg_step names) (exp_step names) (rhs_step names) (step_step names) (stmt_step names) (tail_step names) (arm_step names) (block_step names) (carry_step names) z))
      (subst (λ a. IsArm (plain_arm_of z) a (arm_keeps (roll-Arm F Place Nested Quest MutArg Exit Assign Loop Cf Acc Fold z))) (sym (fold-roll-Arm F Place Nested Quest MutArg Exit Assign Loop Cf Acc Fold (Bool → Part) (Bool → Part) Part Part Part Part Part Part Part (arg_layer g) (exp_layer g) (rhs_layer g) (step_layer g) (stmt_layer g) (tail_layer g) (arm_layer g) (block_layer g) (carry_layer g) z))
      (subst (λ a. IsArm (plain_arm_of z) (seen_arm_of z) a) (sym (fold-roll-Arm F Place Nested Quest MutArg Exit Assign Loop Cf Acc Fold (Bool → Bool) (Bool → Bool) Bool Bool Bool Bool Bool Bool Bool (taken_arg t.table lents.argument) (taken_exp t.table lents.argument) (taken_rhs t.table lents.argument) (taken_step t.table lents.argument) (taken_stmt t.table lents.argument) (taken_tail t.table lents.argument) (taken_arm t.table lents.argument) (taken_block t.table lents.argument) (taken_carry t.table lents.argument) z)) h))

  abbrev plain_block_of : Block-F F Place Nested Quest MutArg Exit Assign Loop Cf Acc Fold (Arg F Place Nested Quest MutArg Exit Assign Loop Cf Acc Fold) (Exp F Place Nested Quest MutArg Exit Assign Loop Cf Acc Fold) (Rhs F Place Nested Quest MutArg Exit Assign Loop Cf Acc Fold) (Step F Place Nested Quest MutArg Exit Assign Loop Cf Acc Fold) (Stmt F Place Nested Quest MutArg Exit Assign Loop Cf Acc Fold) (Tail F Place Nested Quest MutArg Exit Assign Loop Cf Acc Fold) (Arm F Place Nested Quest MutArg Exit Assign Loop Cf Acc Fold) (Block F Place Nested Quest MutArg Exit Assign Loop Cf Acc Fold) (Carry F Place Nested Quest MutArg Exit Assign Loop Cf Acc Fold) → plain.Block
  plain_block_of z = block_step names (map-Block F Place Nested Quest MutArg Exit Assign Loop Cf Acc Fold (Arg F Place Nested Quest MutArg Exit Assign Loop Cf Acc Fold) (Exp F Place Nested Quest MutArg Exit Assign Loop Cf Acc Fold) (Rhs F Place Nested Quest MutArg Exit Assign Loop Cf Acc Fold) (Step F Place Nested Quest MutArg Exit Assign Loop Cf Acc Fold) (Stmt F Place Nested Quest MutArg Exit Assign Loop Cf Acc Fold) (Tail F Place Nested Quest MutArg Exit Assign Loop Cf Acc Fold) (Arm F Place Nested Quest MutArg Exit Assign Loop Cf Acc Fold) (Block F Place Nested Quest MutArg Exit Assign Loop Cf Acc Fold) (Carry F Place Nested Quest MutArg Exit Assign Loop Cf Acc Fold) (plain.Args → plain.Args) plain.Exp plain.Rhs (plain.Steps → plain.Steps) (plain.Block → plain.Block) plain.Block (plain.Arms → plain.Arms) plain.Block (plain.Carrying → plain.Rhs) (arg_of names) (exp_of names) (rhs_of names) (step_of names) (stmt_of names) (tail_of names) (arm_of names) (block_of names) (carry_of names) z)

  abbrev seen_block_of : Block-F F Place Nested Quest MutArg Exit Assign Loop Cf Acc Fold (Arg F Place Nested Quest MutArg Exit Assign Loop Cf Acc Fold) (Exp F Place Nested Quest MutArg Exit Assign Loop Cf Acc Fold) (Rhs F Place Nested Quest MutArg Exit Assign Loop Cf Acc Fold) (Step F Place Nested Quest MutArg Exit Assign Loop Cf Acc Fold) (Stmt F Place Nested Quest MutArg Exit Assign Loop Cf Acc Fold) (Tail F Place Nested Quest MutArg Exit Assign Loop Cf Acc Fold) (Arm F Place Nested Quest MutArg Exit Assign Loop Cf Acc Fold) (Block F Place Nested Quest MutArg Exit Assign Loop Cf Acc Fold) (Carry F Place Nested Quest MutArg Exit Assign Loop Cf Acc Fold) → Part
  seen_block_of z = block_layer g (map-Block F Place Nested Quest MutArg Exit Assign Loop Cf Acc Fold (Arg F Place Nested Quest MutArg Exit Assign Loop Cf Acc Fold) (Exp F Place Nested Quest MutArg Exit Assign Loop Cf Acc Fold) (Rhs F Place Nested Quest MutArg Exit Assign Loop Cf Acc Fold) (Step F Place Nested Quest MutArg Exit Assign Loop Cf Acc Fold) (Stmt F Place Nested Quest MutArg Exit Assign Loop Cf Acc Fold) (Tail F Place Nested Quest MutArg Exit Assign Loop Cf Acc Fold) (Arm F Place Nested Quest MutArg Exit Assign Loop Cf Acc Fold) (Block F Place Nested Quest MutArg Exit Assign Loop Cf Acc Fold) (Carry F Place Nested Quest MutArg Exit Assign Loop Cf Acc Fold) (Bool → Part) (Bool → Part) Part Part Part Part Part Part Part (n.arg_seen g) (n.exp_seen g) (n.rhs_seen g) (n.step_seen g) (n.stmt_seen g) (n.tail_seen g) (n.arm_seen g) (n.block_seen g) carry_seen z)

  abbrev kept_block_of : Block-F F Place Nested Quest MutArg Exit Assign Loop Cf Acc Fold (Arg F Place Nested Quest MutArg Exit Assign Loop Cf Acc Fold) (Exp F Place Nested Quest MutArg Exit Assign Loop Cf Acc Fold) (Rhs F Place Nested Quest MutArg Exit Assign Loop Cf Acc Fold) (Step F Place Nested Quest MutArg Exit Assign Loop Cf Acc Fold) (Stmt F Place Nested Quest MutArg Exit Assign Loop Cf Acc Fold) (Tail F Place Nested Quest MutArg Exit Assign Loop Cf Acc Fold) (Arm F Place Nested Quest MutArg Exit Assign Loop Cf Acc Fold) (Block F Place Nested Quest MutArg Exit Assign Loop Cf Acc Fold) (Carry F Place Nested Quest MutArg Exit Assign Loop Cf Acc Fold) → Bool
  kept_block_of z = taken_block t.table lents.argument (map-Block F Place Nested Quest MutArg Exit Assign Loop Cf Acc Fold (Arg F Place Nested Quest MutArg Exit Assign Loop Cf Acc Fold) (Exp F Place Nested Quest MutArg Exit Assign Loop Cf Acc Fold) (Rhs F Place Nested Quest MutArg Exit Assign Loop Cf Acc Fold) (Step F Place Nested Quest MutArg Exit Assign Loop Cf Acc Fold) (Stmt F Place Nested Quest MutArg Exit Assign Loop Cf Acc Fold) (Tail F Place Nested Quest MutArg Exit Assign Loop Cf Acc Fold) (Arm F Place Nested Quest MutArg Exit Assign Loop Cf Acc Fold) (Block F Place Nested Quest MutArg Exit Assign Loop Cf Acc Fold) (Carry F Place Nested Quest MutArg Exit Assign Loop Cf Acc Fold) (Bool → Bool) (Bool → Bool) Bool Bool Bool Bool Bool Bool Bool arg_keeps exp_keeps rhs_keeps step_keeps stmt_keeps tail_keeps arm_keeps block_keeps carry_keeps z)

  roll_block : (z : Block-F F Place Nested Quest MutArg Exit Assign Loop Cf Acc Fold (Arg F Place Nested Quest MutArg Exit Assign Loop Cf Acc Fold) (Exp F Place Nested Quest MutArg Exit Assign Loop Cf Acc Fold) (Rhs F Place Nested Quest MutArg Exit Assign Loop Cf Acc Fold) (Step F Place Nested Quest MutArg Exit Assign Loop Cf Acc Fold) (Stmt F Place Nested Quest MutArg Exit Assign Loop Cf Acc Fold) (Tail F Place Nested Quest MutArg Exit Assign Loop Cf Acc Fold) (Arm F Place Nested Quest MutArg Exit Assign Loop Cf Acc Fold) (Block F Place Nested Quest MutArg Exit Assign Loop Cf Acc Fold) (Carry F Place Nested Quest MutArg Exit Assign Loop Cf Acc Fold)) → IsBlock (plain_block_of z) (seen_block_of z) (kept_block_of z) → Good_block (roll-Block F Place Nested Quest MutArg Exit Assign Loop Cf Acc Fold z)
  roll_block z h =
      subst (λ a. IsBlock a (n.block_seen g (roll-Block F Place Nested Quest MutArg Exit Assign Loop Cf Acc Fold z)) (block_keeps (roll-Block F Place Nested Quest MutArg Exit Assign Loop Cf Acc Fold z))) (sym (fold-roll-Block F Place Nested Quest MutArg Exit Assign Loop Cf Acc Fold (plain.Args → plain.Args) plain.Exp plain.Rhs (plain.Steps → plain.Steps) (plain.Block → plain.Block) plain.Block (plain.Arms → plain.Arms) plain.Block (plain.Carrying → plain.Rhs) (arg_step names) (exp_step names) (rhs_step names) (step_step names) (stmt_step names) (tail_step names) (arm_step names) (block_step names) (carry_step names) z))
      (subst (λ a. IsBlock (plain_block_of z) a (block_keeps (roll-Block F Place Nested Quest MutArg Exit Assign Loop Cf Acc Fold z))) (sym (fold-roll-Block F Place Nested Quest MutArg Exit Assign Loop Cf Acc Fold (Bool → Part) (Bool → Part) Part Part Part Part Part Part Part (arg_layer g) (exp_layer g) (rhs_layer g) (step_layer g) (stmt_layer g) (tail_layer g) (arm_layer g) (block_layer g) (carry_layer g) z))
      (subst (λ a. IsBlock (plain_block_of z) (seen_block_of z) a) (sym (fold-roll-Block F Place Nested Quest MutArg Exit Assign Loop Cf Acc Fold (Bool → Bool) (Bool → Bool) Bool Bool Bool Bool Bool Bool Bool (taken_arg t.table lents.argument) (taken_exp t.table lents.argument) (taken_rhs t.table lents.argument) (taken_step t.table lents.argument) (taken_stmt t.table lents.argument) (taken_tail t.table lents.argument) (taken_arm t.table lents.argument) (taken_block t.table lents.argument) (taken_carry t.table lents.argument) z)) h))

  -- ---- conditions in other words

  nothing_more : (M : Type 0) → M ↔ (M × IsTrue true)
  nothing_more M = (λ h. (h, refl), λ h. h.0)

  no_condition : ⊤ ↔ (⊤ × IsTrue true)
  no_condition = (λ h. (tt, refl), λ h. tt)

  last_of : (M : Type 0) (a b : Bool) → ((M × IsTrue a) × IsTrue b) ↔ (M × IsTrue (a && b))
  last_of M a b = (λ h. (h.0.0, (both_true a b).1 (h.0.1, h.1)), λ h. ((h.0, ((both_true a b).0 h.1).0), ((both_true a b).0 h.1).1))

  beside_of : (M N : Type 0) (a b : Bool) → ((M × IsTrue a) × (⊤ × (N × IsTrue b))) ↔ ((M × N) × IsTrue (a && b))
  beside_of M N a b = (λ h. ((h.0.0, h.1.1.0), (both_true a b).1 (h.0.1, h.1.1.1)), λ h. ((h.0.0, ((both_true a b).0 h.1).0), (tt, (h.0.1, ((both_true a b).0 h.1).1))))

  three_of : (M N O : Type 0) (a b c : Bool) → ((M × IsTrue a) × ((N × IsTrue b) × (O × IsTrue c))) ↔ ((M × N × O) × IsTrue (a && b && c))
  three_of M N O a b c = (
    λ h. ((h.0.0, h.1.0.0, h.1.1.0), (both_true (a && b) c).1 ((both_true a b).1 (h.0.1, h.1.0.1), h.1.1.1)),
    λ h.
        let ab = (both_true a b).0 ((both_true (a && b) c).0 h.1).0 in
        ((h.0.0, ab.0), ((h.0.1, ab.1), (h.0.2, ((both_true (a && b) c).0 h.1).1))),
  )

  alone_of : (M : Type 0) (a : Bool) → (M × IsTrue a) ↔ ((M × ⊤) × IsTrue a)
  alone_of M a = (λ h. ((h.0, tt), h.1), λ h. (h.0.0, h.1))

  given_of : (M : Type 0) (a : Bool) → ((M × IsTrue a) × ⊤) ↔ ((M × ⊤) × IsTrue a)
  given_of M a = (λ h. ((h.0.0, tt), h.0.1), λ h. ((h.0.0, h.1), tt))

  bound_before : (M : Type 0) (a : Bool) → (⊤ × (M × IsTrue a)) ↔ (M × IsTrue a)
  bound_before M a = (λ h. h.1, λ h. (tt, h))

  place_of : (M N O : Type 0) (a b : Bool) → ((M × IsTrue a) × ((N × IsTrue b) × (O × ⊤))) ↔ ((M × N × O × ⊤) × IsTrue (a && b))
  place_of M N O a b = (
    λ h. ((h.0.0, h.1.0.0, h.1.1.0, tt), (both_true a b).1 (h.0.1, h.1.0.1)),
    λ h. ((h.0.0, ((both_true a b).0 h.1).0), ((h.0.1, ((both_true a b).0 h.1).1), (h.0.2, tt))),
  )

  loop_of : (M N O K : Type 0) (a b c : Bool) → ((M × IsTrue a) × ((N × IsTrue b) × ((O × IsTrue c) × K))) ↔ ((M × N × O × K × ⊤) × IsTrue (a && b && c))
  loop_of M N O K a b c = (
    λ h. ((h.0.0, h.1.0.0, h.1.1.0.0, h.1.1.1, tt), (both_true (a && b) c).1 ((both_true a b).1 (h.0.1, h.1.0.1), h.1.1.0.1)),
    λ h.
        let ab = (both_true a b).0 ((both_true (a && b) c).0 h.1).0 in
        ((h.0.0, ab.0), ((h.0.1, ab.1), ((h.0.2, ((both_true (a && b) c).0 h.1).1), h.0.3))),
  )

  -- what is known of a part where it ends is known of one that says the same
  ok_at : (s : Seen) (d e f : Holding) (M : Type 0) → e ≡ f → Ok s d e M → Ok s d f M
  ok_at s d e f M h = subst (λ a. Ok s d a M) h

  -- ---- expressions in a row

  abbrev EachHas : plain.Exps → Type 0
  EachHas plain.no_exps = ⊤
  EachHas (plain.exp e es) = ((u : NodeType) × ExpTyped t e u) × EachHas es

  has_types : (es : plain.Exps) (us : List ValType) → ExpsTyped t es us → EachHas es
  has_types plain.no_exps [] h = tt
  has_types plain.no_exps (u ∷ us) h = absurd h
  has_types (plain.exp e es) [] h = absurd h
  has_types (plain.exp e es) (u ∷ us) h = ((Value u, h.0), has_types es us h.1)

  has_type : (es : plain.Exps) (u : ValType) → EachTyped t es u → EachHas es
  has_type plain.no_exps u h = tt
  has_type (plain.exp e es) u h = ((Value u, h.0), has_type es u h.1)

  exps_good : (xs : List Exps) (lent : ℕ → Bool) (d : Holding) → EachHas (exps_of (map (exp_of names) (map (λ x. x.0) xs)))
      → Ok (in_row lent (map (n.exp_seen g) (map (λ x. x.0) xs)) d) d (after_exps t lents (exps_of (map (exp_of names) (map (λ x. x.0) xs))) lent d)
      (MovesExps t lents (exps_of (map (exp_of names) (map (λ x. x.0) xs))) lent d × IsTrue (all_of lent (map exp_keeps (map (λ x. x.0) xs))))
  exps_good [] lent d h = ok_as _ d d ⊤ _ (ok_idle d) no_condition
  exps_good (x ∷ xs) lent d h =
      let e = after_exp t lents (exp_of names x.0) (lent 0) d in
      let rest = λ (i : ℕ). lent (suc i) in
      ok_as _ d _ _ _
      (ok_then (n.exp_seen g x.0 (lent 0)) (in_row rest (map (n.exp_seen g) (map (λ y. y.0) xs))) d e _ _ _ (x.1 (lent 0) d h.0.0 h.0.1) (exps_good xs rest e h.1))
      (regroup (MovesExp t lents (exp_of names x.0) (lent 0) d) (MovesExps t lents (exps_of (map (exp_of names) (map (λ y. y.0) xs))) rest e) (exp_keeps x.0 (lent 0)) (all_of rest (map exp_keeps (map (λ y. y.0) xs))))

  -- ---- arguments

  args_good : (xs : List Args) (lent : ℕ → Bool) (d : Holding) (ms : List plain.Mode) (us : List ValType) → ArgsTyped t (chained (map (arg_of names) (map (λ x. x.0) xs)) plain.no_args) ms us
      → Ok (in_row lent (map (n.arg_seen g) (map (λ x. x.0) xs)) d) d (after_args t lents (chained (map (arg_of names) (map (λ x. x.0) xs)) plain.no_args) lent d)
      (MovesArgs t lents (chained (map (arg_of names) (map (λ x. x.0) xs)) plain.no_args) lent d × IsTrue (all_of lent (map arg_keeps (map (λ x. x.0) xs))))
  args_good [] lent d ms us h = ok_as _ d d ⊤ _ (ok_idle d) no_condition
  args_good (x ∷ xs) lent d ms us h =
      let es = chained (map (arg_of names) (map (λ y. y.0) xs)) plain.no_args in
      let c = arg_of names x.0 in
      let e = after_args t lents (c plain.no_args) lent d in
      let rest = λ (i : ℕ). lent (suc i) in
      let p = x.1 es lent d in
      let q = p.2 ms us h in
      ok_at _ d _ _ _ (sym p.0) (ok_as _ d _ _ _
      (ok_then (n.arg_seen g x.0 (lent 0)) (in_row rest (map (n.arg_seen g) (map (λ y. y.0) xs))) d e _ _ _ q.1 (args_good xs rest e q.0.0 q.0.1 q.0.2))
      (swap (MovesArgs t lents (c es) lent d) (MovesArgs t lents (c plain.no_args) lent d) (MovesArgs t lents es rest e) (arg_keeps x.0 (lent 0)) (all_of rest (map arg_keeps (map (λ y. y.0) xs))) p.1))

  -- ---- arms

  arms_good : (xs : List Arms) (d : Holding) (v : ValType) (u : NodeType) → ArmsTyped t (chained (map (arm_of names) (map (λ x. x.0) xs)) plain.no_arms) v u
      → Ends (one_of (map (n.arm_seen g) (map (λ x. x.0) xs)) d) d (exits_arms (chained (map (arm_of names) (map (λ x. x.0) xs)) plain.no_arms))
      (after_arms t lents (chained (map (arm_of names) (map (λ x. x.0) xs)) plain.no_arms) d)
      (MovesArms t lents (chained (map (arm_of names) (map (λ x. x.0) xs)) plain.no_arms) d × IsTrue (list_all (λ x. x) (map arm_keeps (map (λ x. x.0) xs))))
  arms_good [] d v u h = ends_as _ d true every ⊤ _ (ends_nowhere d) no_condition
  arms_good (x ∷ xs) d v u h =
      let rest = chained (map (arm_of names) (map (λ y. y.0) xs)) plain.no_arms in
      let p = x.1.0 in
      let b = x.1.1 in
      let is = x.1.2 rest in
      let typed = subst (λ a. ArmsTyped t a v u) is h in
      subst (λ a. Ends (one_of (map (n.arm_seen g) (map (λ y. y.0) (x ∷ xs))) d) d (exits_arms a) (after_arms t lents a d) (MovesArms t lents a d × IsTrue (list_all (λ y. y) (map arm_keeps (map (λ y. y.0) (x ∷ xs)))))) (sym is)
      (ends_as _ d _ _ _ _
      (ends_either (n.arm_seen g x.0) (one_of (map (n.arm_seen g) (map (λ y. y.0) xs))) d (exits_block b) (exits_arms rest) _ _ _ _ (x.1.3 d u typed.1) (arms_good xs d v u typed.2))
      (regroup (MovesBlock t lents b (also (match.bound p) d)) (MovesArms t lents rest d) (arm_keeps x.0) (list_all (λ y. y) (map arm_keeps (map (λ y. y.0) xs)))))

  -- ---- steps

  steps_good : (xs : List Steps) (d : Holding) (u v : ValType) → StepsTyped t (chained (map (step_of names) (map (λ x. x.0) xs)) plain.here) u v
      → Ok (each (map (n.step_seen g) (map (λ x. x.0) xs)) d) d (after_steps t lents (chained (map (step_of names) (map (λ x. x.0) xs)) plain.here) d)
      (MovesSteps t lents (chained (map (step_of names) (map (λ x. x.0) xs)) plain.here) d × IsTrue (list_all (λ x. x) (map step_keeps (map (λ x. x.0) xs))))
  steps_good [] d u v h = ok_as _ d d ⊤ _ (ok_idle d) no_condition
  steps_good (x ∷ xs) d u v h =
      let rest = chained (map (step_of names) (map (λ y. y.0) xs)) plain.here in
      let c = step_of names x.0 in
      let e = after_steps t lents (c plain.here) d in
      let p = x.1 rest d in
      let q = p.3 u v h in
      ok_at _ d _ _ _ (sym p.0) (ok_as _ d _ _ _
      (ok_then (n.step_seen g x.0) (each (map (n.step_seen g) (map (λ y. y.0) xs))) d e _ _ _ q.1 (steps_good xs e q.0.0 v q.0.1))
      (swap (MovesSteps t lents (c rest) d) (MovesSteps t lents (c plain.here) d) (MovesSteps t lents rest e) (step_keeps x.0) (list_all (λ y. y) (map step_keeps (map (λ y. y.0) xs))) p.1))

  whole_some : (o : Option plain.Name) (h : Bool) (W : Type 0) → (W ↔ IsTrue h) → ((is_none o && false) ≡ false → IsTrue h) ↔ W
  whole_some None h W e = (λ i. e.1 (i refl), λ i j. e.0 i)
  whole_some (Some o) h W e = (λ i. e.1 (i refl), λ i j. e.0 i)

  whole_good : (o : Option plain.Name) (xs : List Steps) (h : Bool) → ((is_none o && n.is_here (map (n.step_seen g) (map (λ x. x.0) xs))) ≡ false → IsTrue h) ↔ WholeOr o (chained (map (step_of names) (map (λ x. x.0) xs)) plain.here) h
  whole_good None [] h = (λ i. tt, λ i j. absurd (cc))
  whole_good (Some o) [] h = (λ i. i refl, λ i j. i)
  whole_good o (x ∷ xs) h =
      let rest = chained (map (step_of names) (map (λ y. y.0) xs)) plain.here in
      whole_some o h (WholeOr o (step_of names x.0 rest) h) ((x.1 rest (λ k. h)).2 o h)

  -- ---- statements

  stmts_good : (xs : List Stmts) → IsStmt (chained (map (stmt_of names) (map (λ x. x.0) xs))) (each (map (n.stmt_seen g) (map (λ x. x.0) xs))) (list_all (λ x. x) (map stmt_keeps (map (λ x. x.0) xs)))
  stmts_good [] b d = (refl, refl, (λ h. (tt, h), λ h. h.1), λ u h. (h, ok_as _ d d ⊤ _ (ok_idle d) no_condition))
  stmts_good (x ∷ xs) b d =
      let c = stmt_of names x.0 in
      let r = λ (a : plain.Block). chained (map (stmt_of names) (map (λ y. y.0) xs)) a in
      let e = after_block t lents (c nothing) d in
      let first = x.1 (r b) d in
      let bare = x.1 (r nothing) d in
      let more = stmts_good xs b e in
      let f = after_block t lents (r nothing) e in (
        first.0 ∙ more.0 ∙ ap (after_block t lents b) (sym bare.0),
        first.1 ∙ more.1,
        (
          λ h. let m1 = first.2.0 h in let m2 = more.2.0 m1.1 in (bare.2.1 (m1.0, m2.0), subst (MovesBlock t lents b) (sym bare.0) m2.1),
          λ h. let m1 = bare.2.0 h.0 in first.2.1 (m1.0, more.2.1 (m1.1, subst (MovesBlock t lents b) bare.0 h.1)),
        ),
        λ u h.
            let q = first.3 u h in
            let s = more.3 u q.0 in (
              s.0,
              ok_at _ d _ _ _ (sym bare.0) (ok_as _ d _ _ _
                  (ok_then (n.stmt_seen g x.0) (each (map (n.stmt_seen g) (map (λ y. y.0) xs))) d e f _ _ q.1 s.1)
                  (swap (MovesBlock t lents (c (r nothing)) d) (MovesBlock t lents (c nothing) d) (MovesBlock t lents (r nothing) e) (stmt_keeps x.0) (list_all (λ y. y) (map stmt_keeps (map (λ y. y.0) xs))) bare.2)),
            ),
      )

  -- what a pattern binds
  binds : (p : Pattern) (s : Part) (d e : Holding) (M : Type 0) → Ok (s d) d e M → Ok ((s & gives (n.bound p)) d) d (also (match.bound (pattern_of names p)) e) (M × ⊤)
  binds p s d e M h =
      subst (λ ks. Ok ((s & gives (n.bound p)) d) d (also ks e) (M × ⊤)) (sym (same_bound names p)) (ok_then s (gives (n.bound p)) d e _ M ⊤ h (ok_gives (n.bound p) e))

  -- a right side that something follows
  goes_on : (r : plain.Rhs) (s : Part) (q : Bool) → IsRhs r s q → (d : Holding) (u : NodeType) → exits_rhs r ≡ false → RhsTyped t r u → Ok (s d) d (after_rhs t lents r d) (MovesRhs t lents r d × IsTrue q)
  goes_on r s q h d u e i = ends_ok (s d) d _ _ (subst (λ x. Ends (s d) d x (after_rhs t lents r d) (MovesRhs t lents r d × IsTrue q)) e (h d u i))

  -- ---- layers

  either_way : (a b : Exps) (d : Holding) → ExpTyped t (exp_of names a.0) (Value type.Bool) → ExpTyped t (exp_of names b.0) (Value type.Bool)
      → Ok ((n.exp_seen g a.0 false & either idle (n.exp_seen g b.0 false)) d) d
      (joined (after_exp t lents (exp_of names a.0) false d) (after_exp t lents (exp_of names b.0) false (after_exp t lents (exp_of names a.0) false d)))
      ((MovesExp t lents (exp_of names a.0) false d × MovesExp t lents (exp_of names b.0) false (after_exp t lents (exp_of names a.0) false d)) × IsTrue (exp_keeps a.0 false && exp_keeps b.0 false))
  either_way a b d h i =
      let e = after_exp t lents (exp_of names a.0) false d in
      let f = after_exp t lents (exp_of names b.0) false e in
      ok_as _ d _ _ _
      (ok_then (n.exp_seen g a.0 false) (either idle (n.exp_seen g b.0 false)) d e _ _ _ (a.1 false d (Value type.Bool) h)
      (ends_ok _ e _ _ (ends_either idle (n.exp_seen g b.0 false) e false false e f _ _ (ok_ends _ e e _ (ok_idle e)) (ok_ends _ e f _ (b.1 false e (Value type.Bool) i)))))
      (beside_of (MovesExp t lents (exp_of names a.0) false d) (MovesExp t lents (exp_of names b.0) false e) (exp_keeps a.0 false) (exp_keeps b.0 false))

  exp_core : (y : Exp-F F Place Nested Quest MutArg Exit Assign Loop Cf Acc Fold Args Exps Rhss Steps Stmts Tails Arms Blocks Carrys) → IsExp (plain_exp_of (map-Exp F Place Nested Quest MutArg Exit Assign Loop Cf Acc Fold Args Exps Rhss Steps Stmts Tails Arms Blocks Carrys (Arg F Place Nested Quest MutArg Exit Assign Loop Cf Acc Fold) (Exp F Place Nested Quest MutArg Exit Assign Loop Cf Acc Fold) (Rhs F Place Nested Quest MutArg Exit Assign Loop Cf Acc Fold) (Step F Place Nested Quest MutArg Exit Assign Loop Cf Acc Fold) (Stmt F Place Nested Quest MutArg Exit Assign Loop Cf Acc Fold) (Tail F Place Nested Quest MutArg Exit Assign Loop Cf Acc Fold) (Arm F Place Nested Quest MutArg Exit Assign Loop Cf Acc Fold) (Block F Place Nested Quest MutArg Exit Assign Loop Cf Acc Fold) (Carry F Place Nested Quest MutArg Exit Assign Loop Cf Acc Fold) (λ x. x.0) (λ x. x.0) (λ x. x.0) (λ x. x.0) (λ x. x.0) (λ x. x.0) (λ x. x.0) (λ x. x.0) (λ x. x.0) y)) (seen_exp_of (map-Exp F Place Nested Quest MutArg Exit Assign Loop Cf Acc Fold Args Exps Rhss Steps Stmts Tails Arms Blocks Carrys (Arg F Place Nested Quest MutArg Exit Assign Loop Cf Acc Fold) (Exp F Place Nested Quest MutArg Exit Assign Loop Cf Acc Fold) (Rhs F Place Nested Quest MutArg Exit Assign Loop Cf Acc Fold) (Step F Place Nested Quest MutArg Exit Assign Loop Cf Acc Fold) (Stmt F Place Nested Quest MutArg Exit Assign Loop Cf Acc Fold) (Tail F Place Nested Quest MutArg Exit Assign Loop Cf Acc Fold) (Arm F Place Nested Quest MutArg Exit Assign Loop Cf Acc Fold) (Block F Place Nested Quest MutArg Exit Assign Loop Cf Acc Fold) (Carry F Place Nested Quest MutArg Exit Assign Loop Cf Acc Fold) (λ x. x.0) (λ x. x.0) (λ x. x.0) (λ x. x.0) (λ x. x.0) (λ x. x.0) (λ x. x.0) (λ x. x.0) (λ x. x.0) y)) (kept_exp_of (map-Exp F Place Nested Quest MutArg Exit Assign Loop Cf Acc Fold Args Exps Rhss Steps Stmts Tails Arms Blocks Carrys (Arg F Place Nested Quest MutArg Exit Assign Loop Cf Acc Fold) (Exp F Place Nested Quest MutArg Exit Assign Loop Cf Acc Fold) (Rhs F Place Nested Quest MutArg Exit Assign Loop Cf Acc Fold) (Step F Place Nested Quest MutArg Exit Assign Loop Cf Acc Fold) (Stmt F Place Nested Quest MutArg Exit Assign Loop Cf Acc Fold) (Tail F Place Nested Quest MutArg Exit Assign Loop Cf Acc Fold) (Arm F Place Nested Quest MutArg Exit Assign Loop Cf Acc Fold) (Block F Place Nested Quest MutArg Exit Assign Loop Cf Acc Fold) (Carry F Place Nested Quest MutArg Exit Assign Loop Cf Acc Fold) (λ x. x.0) (λ x. x.0) (λ x. x.0) (λ x. x.0) (λ x. x.0) (λ x. x.0) (λ x. x.0) (λ x. x.0) (λ x. x.0) y))
  exp_core (Exp-F.Var k at) lent d u h = ok_as _ d _ _ _ (ok_read (m.moved_by t k && not lent) (lents.reference k) k at d) (nothing_more _)
  exp_core (Exp-F.Lit x) lent d u h = ok_as _ d d ⊤ _ (ok_idle d) no_condition
  exp_core (Exp-F.Truth x) lent d u h = ok_as _ d d ⊤ _ (ok_idle d) no_condition
  exp_core Exp-F.Unit lent d u h = ok_as _ d d ⊤ _ (ok_idle d) no_condition
  exp_core (Exp-F.Const name) lent d u h = ok_as _ d d ⊤ _ (ok_idle d) no_condition
  exp_core (Exp-F.Tuple es) lent d u h = exps_good es none_lent d (has_types _ h.0 h.2)
  exp_core (Exp-F.List es) lent d u h = exps_good es none_lent d (has_type _ h.1 h.4)
  exp_core (Exp-F.Ctor v name es) lent d u h = exps_good es none_lent d (has_types _ h.0 h.3)
  exp_core (Exp-F.Op name note es) lent d u h =
      let row = exps_of (map (exp_of names) (map (λ x. x.0) es)) in
      let e = after_exps t lents row (operand_lent name) d in
      let rules = λ (c : Holding). of_operation (takes_part name) lent (copied t.table note.ty) in
      ok_as _ d _ _ _
      (ok_then (in_row (operand_lent name) (map (n.exp_seen g) (map (λ x. x.0) es))) (asked note.span rules) d e e _ _
      (exps_good es (operand_lent name) d (has_types _ h.0 h.4)) (ok_asked note.span rules e _ (operation_clear note.span (takes_part name) lent (copied t.table note.ty))))
      (last_of (MovesExps t lents row (operand_lent name) d) (all_of (operand_lent name) (map exp_keeps (map (λ x. x.0) es))) (not (takes_part name) || lent || copied t.table note.ty))
  exp_core (Exp-F.Call f es) lent d u h = exps_good es (lents.argument f) d (has_types _ h.0.params h.4)
  exp_core (Exp-F.And a b) lent d u h = either_way a b d h.1 h.2
  exp_core (Exp-F.Or a b) lent d u h = either_way a b d h.1 h.2
  exp_core (Exp-F.In nested r) lent d u h = goes_on (rhs_of names r.0) (n.rhs_seen g r.0) (rhs_keeps r.0) r.1 d u h.0 h.1
  exp_core (Exp-F.Exit c e) lent d u h = absurd (cf c)
  exp_core (Exp-F.Cont c e) lent d u h = absurd (cf c)

  arg_core : (y : Arg-F F Place Nested Quest MutArg Exit Assign Loop Cf Acc Fold Args Exps Rhss Steps Stmts Tails Arms Blocks Carrys) → IsArg (plain_arg_of (map-Arg F Place Nested Quest MutArg Exit Assign Loop Cf Acc Fold Args Exps Rhss Steps Stmts Tails Arms Blocks Carrys (Arg F Place Nested Quest MutArg Exit Assign Loop Cf Acc Fold) (Exp F Place Nested Quest MutArg Exit Assign Loop Cf Acc Fold) (Rhs F Place Nested Quest MutArg Exit Assign Loop Cf Acc Fold) (Step F Place Nested Quest MutArg Exit Assign Loop Cf Acc Fold) (Stmt F Place Nested Quest MutArg Exit Assign Loop Cf Acc Fold) (Tail F Place Nested Quest MutArg Exit Assign Loop Cf Acc Fold) (Arm F Place Nested Quest MutArg Exit Assign Loop Cf Acc Fold) (Block F Place Nested Quest MutArg Exit Assign Loop Cf Acc Fold) (Carry F Place Nested Quest MutArg Exit Assign Loop Cf Acc Fold) (λ x. x.0) (λ x. x.0) (λ x. x.0) (λ x. x.0) (λ x. x.0) (λ x. x.0) (λ x. x.0) (λ x. x.0) (λ x. x.0) y)) (seen_arg_of (map-Arg F Place Nested Quest MutArg Exit Assign Loop Cf Acc Fold Args Exps Rhss Steps Stmts Tails Arms Blocks Carrys (Arg F Place Nested Quest MutArg Exit Assign Loop Cf Acc Fold) (Exp F Place Nested Quest MutArg Exit Assign Loop Cf Acc Fold) (Rhs F Place Nested Quest MutArg Exit Assign Loop Cf Acc Fold) (Step F Place Nested Quest MutArg Exit Assign Loop Cf Acc Fold) (Stmt F Place Nested Quest MutArg Exit Assign Loop Cf Acc Fold) (Tail F Place Nested Quest MutArg Exit Assign Loop Cf Acc Fold) (Arm F Place Nested Quest MutArg Exit Assign Loop Cf Acc Fold) (Block F Place Nested Quest MutArg Exit Assign Loop Cf Acc Fold) (Carry F Place Nested Quest MutArg Exit Assign Loop Cf Acc Fold) (λ x. x.0) (λ x. x.0) (λ x. x.0) (λ x. x.0) (λ x. x.0) (λ x. x.0) (λ x. x.0) (λ x. x.0) (λ x. x.0) y)) (kept_arg_of (map-Arg F Place Nested Quest MutArg Exit Assign Loop Cf Acc Fold Args Exps Rhss Steps Stmts Tails Arms Blocks Carrys (Arg F Place Nested Quest MutArg Exit Assign Loop Cf Acc Fold) (Exp F Place Nested Quest MutArg Exit Assign Loop Cf Acc Fold) (Rhs F Place Nested Quest MutArg Exit Assign Loop Cf Acc Fold) (Step F Place Nested Quest MutArg Exit Assign Loop Cf Acc Fold) (Stmt F Place Nested Quest MutArg Exit Assign Loop Cf Acc Fold) (Tail F Place Nested Quest MutArg Exit Assign Loop Cf Acc Fold) (Arm F Place Nested Quest MutArg Exit Assign Loop Cf Acc Fold) (Block F Place Nested Quest MutArg Exit Assign Loop Cf Acc Fold) (Carry F Place Nested Quest MutArg Exit Assign Loop Cf Acc Fold) (λ x. x.0) (λ x. x.0) (λ x. x.0) (λ x. x.0) (λ x. x.0) (λ x. x.0) (λ x. x.0) (λ x. x.0) (λ x. x.0) y))
  arg_core (Arg-F.Value e) es lent d = (
    refl,
    (λ h. ((h.0, tt), h.1), λ h. (h.0.0, h.1)),
    typed,
  )
    where
      typed : (ms : List plain.Mode) (us : List ValType) → ArgsTyped t (plain.arg (exp_of names e.0) es) ms us
          → ((ns : List plain.Mode) × (vs : List ValType) × ArgsTyped t es ns vs)
          × Ok (n.exp_seen g e.0 (lent 0) d) d (after_exp t lents (exp_of names e.0) (lent 0) d) ((MovesExp t lents (exp_of names e.0) (lent 0) d × ⊤) × IsTrue (exp_keeps e.0 (lent 0)))
      typed [] us h = absurd h
      typed (x ∷ xs) [] h = absurd h
      typed (x ∷ xs) (u ∷ us) h = ((xs, us, h.2), ok_as _ d _ _ _ (e.1 (lent 0) d (Value u) h.1) (alone_of _ _))
  arg_core (Arg-F.Lend k at) es lent d = (
    refl,
    (λ h. ((h.0, tt), h.1), λ h. (h.0.0, h.1)),
    typed,
  )
    where
      typed : (ms : List plain.Mode) (us : List ValType) → ArgsTyped t (plain.lend (local names k) es) ms us
          → ((ns : List plain.Mode) × (vs : List ValType) × ArgsTyped t es ns vs)
          × Ok (asked at (λ e. of_lent (e k)) d) d d ((IsTrue (d k) × ⊤) × IsTrue true)
      typed [] us h = absurd h
      typed (x ∷ xs) [] h = absurd h
      typed (x ∷ xs) (u ∷ us) h =
          ((xs, us, h.2), ok_as _ d d _ _ (ok_asked at (λ e. of_lent (e k)) d (IsTrue (d k)) (lent_clear at (d k))) (λ h. ((h, tt), refl), λ h. h.0.0))

  rhs_core : (y : Rhs-F F Place Nested Quest MutArg Exit Assign Loop Cf Acc Fold Args Exps Rhss Steps Stmts Tails Arms Blocks Carrys) → IsRhs (plain_rhs_of (map-Rhs F Place Nested Quest MutArg Exit Assign Loop Cf Acc Fold Args Exps Rhss Steps Stmts Tails Arms Blocks Carrys (Arg F Place Nested Quest MutArg Exit Assign Loop Cf Acc Fold) (Exp F Place Nested Quest MutArg Exit Assign Loop Cf Acc Fold) (Rhs F Place Nested Quest MutArg Exit Assign Loop Cf Acc Fold) (Step F Place Nested Quest MutArg Exit Assign Loop Cf Acc Fold) (Stmt F Place Nested Quest MutArg Exit Assign Loop Cf Acc Fold) (Tail F Place Nested Quest MutArg Exit Assign Loop Cf Acc Fold) (Arm F Place Nested Quest MutArg Exit Assign Loop Cf Acc Fold) (Block F Place Nested Quest MutArg Exit Assign Loop Cf Acc Fold) (Carry F Place Nested Quest MutArg Exit Assign Loop Cf Acc Fold) (λ x. x.0) (λ x. x.0) (λ x. x.0) (λ x. x.0) (λ x. x.0) (λ x. x.0) (λ x. x.0) (λ x. x.0) (λ x. x.0) y)) (seen_rhs_of (map-Rhs F Place Nested Quest MutArg Exit Assign Loop Cf Acc Fold Args Exps Rhss Steps Stmts Tails Arms Blocks Carrys (Arg F Place Nested Quest MutArg Exit Assign Loop Cf Acc Fold) (Exp F Place Nested Quest MutArg Exit Assign Loop Cf Acc Fold) (Rhs F Place Nested Quest MutArg Exit Assign Loop Cf Acc Fold) (Step F Place Nested Quest MutArg Exit Assign Loop Cf Acc Fold) (Stmt F Place Nested Quest MutArg Exit Assign Loop Cf Acc Fold) (Tail F Place Nested Quest MutArg Exit Assign Loop Cf Acc Fold) (Arm F Place Nested Quest MutArg Exit Assign Loop Cf Acc Fold) (Block F Place Nested Quest MutArg Exit Assign Loop Cf Acc Fold) (Carry F Place Nested Quest MutArg Exit Assign Loop Cf Acc Fold) (λ x. x.0) (λ x. x.0) (λ x. x.0) (λ x. x.0) (λ x. x.0) (λ x. x.0) (λ x. x.0) (λ x. x.0) (λ x. x.0) y)) (kept_rhs_of (map-Rhs F Place Nested Quest MutArg Exit Assign Loop Cf Acc Fold Args Exps Rhss Steps Stmts Tails Arms Blocks Carrys (Arg F Place Nested Quest MutArg Exit Assign Loop Cf Acc Fold) (Exp F Place Nested Quest MutArg Exit Assign Loop Cf Acc Fold) (Rhs F Place Nested Quest MutArg Exit Assign Loop Cf Acc Fold) (Step F Place Nested Quest MutArg Exit Assign Loop Cf Acc Fold) (Stmt F Place Nested Quest MutArg Exit Assign Loop Cf Acc Fold) (Tail F Place Nested Quest MutArg Exit Assign Loop Cf Acc Fold) (Arm F Place Nested Quest MutArg Exit Assign Loop Cf Acc Fold) (Block F Place Nested Quest MutArg Exit Assign Loop Cf Acc Fold) (Carry F Place Nested Quest MutArg Exit Assign Loop Cf Acc Fold) (λ x. x.0) (λ x. x.0) (λ x. x.0) (λ x. x.0) (λ x. x.0) (λ x. x.0) (λ x. x.0) (λ x. x.0) (λ x. x.0) y))
  rhs_core (Rhs-F.Exp e) d u h = ok_ends _ d _ _ (e.1 false d u h)
  rhs_core (Rhs-F.If e a b) d u h =
      let f = after_exp t lents (exp_of names e.0) false d in
      ends_as _ d _ _ _ _
      (ends_then (n.exp_seen g e.0 false) (either (n.block_seen g a.0) (n.block_seen g b.0)) d f (exits_block (block_of names a.0) && exits_block (block_of names b.0)) _ _ _ (e.1 false d _ h.0)
      (ends_either (n.block_seen g a.0) (n.block_seen g b.0) f (exits_block (block_of names a.0)) (exits_block (block_of names b.0)) _ _ _ _ (a.1 f u h.1) (b.1 f u h.2)))
      (three_of (MovesExp t lents (exp_of names e.0) false d) (MovesBlock t lents (block_of names a.0) f) (MovesBlock t lents (block_of names b.0) f) (exp_keeps e.0 false) (block_keeps a.0) (block_keeps b.0))
  rhs_core (Rhs-F.Match e xs) d u h =
      let f = after_exp t lents (exp_of names e.0) false d in
      let rest = chained (map (arm_of names) (map (λ x. x.0) xs)) plain.no_arms in
      ends_as _ d _ _ _ _
      (ends_then (n.exp_seen g e.0 false) (one_of (map (n.arm_seen g) (map (λ x. x.0) xs))) d f (exits_arms rest) _ _ _ (e.1 false d _ h.1) (arms_good xs f h.0 u h.2))
      (regroup (MovesExp t lents (exp_of names e.0) false d) (MovesArms t lents rest f) (exp_keeps e.0 false) (list_all (λ x. x) (map arm_keeps (map (λ x. x.0) xs))))
  rhs_core (Rhs-F.Block b) d u h = b.1 d u h
  rhs_core (Rhs-F.LendCall lends f es) d u h = ok_ends _ d _ _ (args_good es (lents.argument f) d h.0.modes h.0.params h.4)
  rhs_core (Rhs-F.Quest quest v e) d u h = ok_ends _ d _ _ (e.1 false d _ h.4)
  rhs_core (Rhs-F.ForCf loop assign c i lo hi b) d u h = absurd (cf c)
  rhs_core (Rhs-F.Turns loop a c) d u h = absurd (acc a)
  rhs_core (Rhs-F.TurnsCf loop a c b) d u h = absurd (acc a)
  rhs_core (Rhs-F.Fold f c) d u h = absurd (fold f)
  rhs_core (Rhs-F.FoldCf f c b) d u h = absurd (fold f)

  step_core : (y : Step-F F Place Nested Quest MutArg Exit Assign Loop Cf Acc Fold Args Exps Rhss Steps Stmts Tails Arms Blocks Carrys) → IsStep (plain_step_of (map-Step F Place Nested Quest MutArg Exit Assign Loop Cf Acc Fold Args Exps Rhss Steps Stmts Tails Arms Blocks Carrys (Arg F Place Nested Quest MutArg Exit Assign Loop Cf Acc Fold) (Exp F Place Nested Quest MutArg Exit Assign Loop Cf Acc Fold) (Rhs F Place Nested Quest MutArg Exit Assign Loop Cf Acc Fold) (Step F Place Nested Quest MutArg Exit Assign Loop Cf Acc Fold) (Stmt F Place Nested Quest MutArg Exit Assign Loop Cf Acc Fold) (Tail F Place Nested Quest MutArg Exit Assign Loop Cf Acc Fold) (Arm F Place Nested Quest MutArg Exit Assign Loop Cf Acc Fold) (Block F Place Nested Quest MutArg Exit Assign Loop Cf Acc Fold) (Carry F Place Nested Quest MutArg Exit Assign Loop Cf Acc Fold) (λ x. x.0) (λ x. x.0) (λ x. x.0) (λ x. x.0) (λ x. x.0) (λ x. x.0) (λ x. x.0) (λ x. x.0) (λ x. x.0) y)) (seen_step_of (map-Step F Place Nested Quest MutArg Exit Assign Loop Cf Acc Fold Args Exps Rhss Steps Stmts Tails Arms Blocks Carrys (Arg F Place Nested Quest MutArg Exit Assign Loop Cf Acc Fold) (Exp F Place Nested Quest MutArg Exit Assign Loop Cf Acc Fold) (Rhs F Place Nested Quest MutArg Exit Assign Loop Cf Acc Fold) (Step F Place Nested Quest MutArg Exit Assign Loop Cf Acc Fold) (Stmt F Place Nested Quest MutArg Exit Assign Loop Cf Acc Fold) (Tail F Place Nested Quest MutArg Exit Assign Loop Cf Acc Fold) (Arm F Place Nested Quest MutArg Exit Assign Loop Cf Acc Fold) (Block F Place Nested Quest MutArg Exit Assign Loop Cf Acc Fold) (Carry F Place Nested Quest MutArg Exit Assign Loop Cf Acc Fold) (λ x. x.0) (λ x. x.0) (λ x. x.0) (λ x. x.0) (λ x. x.0) (λ x. x.0) (λ x. x.0) (λ x. x.0) (λ x. x.0) y)) (kept_step_of (map-Step F Place Nested Quest MutArg Exit Assign Loop Cf Acc Fold Args Exps Rhss Steps Stmts Tails Arms Blocks Carrys (Arg F Place Nested Quest MutArg Exit Assign Loop Cf Acc Fold) (Exp F Place Nested Quest MutArg Exit Assign Loop Cf Acc Fold) (Rhs F Place Nested Quest MutArg Exit Assign Loop Cf Acc Fold) (Step F Place Nested Quest MutArg Exit Assign Loop Cf Acc Fold) (Stmt F Place Nested Quest MutArg Exit Assign Loop Cf Acc Fold) (Tail F Place Nested Quest MutArg Exit Assign Loop Cf Acc Fold) (Arm F Place Nested Quest MutArg Exit Assign Loop Cf Acc Fold) (Block F Place Nested Quest MutArg Exit Assign Loop Cf Acc Fold) (Carry F Place Nested Quest MutArg Exit Assign Loop Cf Acc Fold) (λ x. x.0) (λ x. x.0) (λ x. x.0) (λ x. x.0) (λ x. x.0) (λ x. x.0) (λ x. x.0) (λ x. x.0) (λ x. x.0) y))
  step_core (Step-F.At e) x d = (
    refl,
    (λ h. ((h.0, tt), h.1), λ h. (h.0.0, h.1)),
    whole,
    λ u v h. ((h.0, h.3), ok_as _ d _ _ _ (e.1 false d _ h.2) (alone_of _ _)),
  )
    where
      whole : (o : Option plain.Name) (b : Bool) → WholeOr o (plain.at (exp_of names e.0) x) b ↔ IsTrue b
      whole None b = (λ i. i, λ i. i)
      whole (Some o) b = (λ i. i, λ i. i)
  step_core (Step-F.Part i) x d = (
    refl,
    (λ h. (tt, h), λ h. h.1),
    whole,
    λ u v h. ((h.1, h.5), ok_as _ d d ⊤ _ (ok_idle d) no_condition),
  )
    where
      whole : (o : Option plain.Name) (b : Bool) → WholeOr o (plain.part i x) b ↔ IsTrue b
      whole None b = (λ i. i, λ i. i)
      whole (Some o) b = (λ i. i, λ i. i)

  stmt_core : (y : Stmt-F F Place Nested Quest MutArg Exit Assign Loop Cf Acc Fold Args Exps Rhss Steps Stmts Tails Arms Blocks Carrys) → IsStmt (plain_stmt_of (map-Stmt F Place Nested Quest MutArg Exit Assign Loop Cf Acc Fold Args Exps Rhss Steps Stmts Tails Arms Blocks Carrys (Arg F Place Nested Quest MutArg Exit Assign Loop Cf Acc Fold) (Exp F Place Nested Quest MutArg Exit Assign Loop Cf Acc Fold) (Rhs F Place Nested Quest MutArg Exit Assign Loop Cf Acc Fold) (Step F Place Nested Quest MutArg Exit Assign Loop Cf Acc Fold) (Stmt F Place Nested Quest MutArg Exit Assign Loop Cf Acc Fold) (Tail F Place Nested Quest MutArg Exit Assign Loop Cf Acc Fold) (Arm F Place Nested Quest MutArg Exit Assign Loop Cf Acc Fold) (Block F Place Nested Quest MutArg Exit Assign Loop Cf Acc Fold) (Carry F Place Nested Quest MutArg Exit Assign Loop Cf Acc Fold) (λ x. x.0) (λ x. x.0) (λ x. x.0) (λ x. x.0) (λ x. x.0) (λ x. x.0) (λ x. x.0) (λ x. x.0) (λ x. x.0) y)) (seen_stmt_of (map-Stmt F Place Nested Quest MutArg Exit Assign Loop Cf Acc Fold Args Exps Rhss Steps Stmts Tails Arms Blocks Carrys (Arg F Place Nested Quest MutArg Exit Assign Loop Cf Acc Fold) (Exp F Place Nested Quest MutArg Exit Assign Loop Cf Acc Fold) (Rhs F Place Nested Quest MutArg Exit Assign Loop Cf Acc Fold) (Step F Place Nested Quest MutArg Exit Assign Loop Cf Acc Fold) (Stmt F Place Nested Quest MutArg Exit Assign Loop Cf Acc Fold) (Tail F Place Nested Quest MutArg Exit Assign Loop Cf Acc Fold) (Arm F Place Nested Quest MutArg Exit Assign Loop Cf Acc Fold) (Block F Place Nested Quest MutArg Exit Assign Loop Cf Acc Fold) (Carry F Place Nested Quest MutArg Exit Assign Loop Cf Acc Fold) (λ x. x.0) (λ x. x.0) (λ x. x.0) (λ x. x.0) (λ x. x.0) (λ x. x.0) (λ x. x.0) (λ x. x.0) (λ x. x.0) y)) (kept_stmt_of (map-Stmt F Place Nested Quest MutArg Exit Assign Loop Cf Acc Fold Args Exps Rhss Steps Stmts Tails Arms Blocks Carrys (Arg F Place Nested Quest MutArg Exit Assign Loop Cf Acc Fold) (Exp F Place Nested Quest MutArg Exit Assign Loop Cf Acc Fold) (Rhs F Place Nested Quest MutArg Exit Assign Loop Cf Acc Fold) (Step F Place Nested Quest MutArg Exit Assign Loop Cf Acc Fold) (Stmt F Place Nested Quest MutArg Exit Assign Loop Cf Acc Fold) (Tail F Place Nested Quest MutArg Exit Assign Loop Cf Acc Fold) (Arm F Place Nested Quest MutArg Exit Assign Loop Cf Acc Fold) (Block F Place Nested Quest MutArg Exit Assign Loop Cf Acc Fold) (Carry F Place Nested Quest MutArg Exit Assign Loop Cf Acc Fold) (λ x. x.0) (λ x. x.0) (λ x. x.0) (λ x. x.0) (λ x. x.0) (λ x. x.0) (λ x. x.0) (λ x. x.0) (λ x. x.0) y))
  stmt_core (Stmt-F.Let p r) b d = (
    refl,
    refl,
    (λ h. ((h.0, tt), h.1), λ h. (h.0.0, h.1)),
    λ u h. (
      h.4,
      ok_as _ d _ _ _ (binds p (n.rhs_seen g r.0) d _ _ (goes_on (rhs_of names r.0) (n.rhs_seen g r.0) (rhs_keeps r.0) r.1 d _ h.1 h.2)) (given_of _ _),
    ),
  )
  stmt_core (Stmt-F.Do r) b d = (
    refl,
    refl,
    (λ h. ((h.0, tt), h.1), λ h. (h.0.0, h.1)),
    λ u h. (h.3, ok_as _ d _ _ _ (goes_on (rhs_of names r.0) (n.rhs_seen g r.0) (rhs_keeps r.0) r.1 d _ h.1 h.2) (alone_of _ _)),
  )
  stmt_core (Stmt-F.Set a k r) b d = (
    refl,
    refl,
    (λ h. ((h.0, tt), h.1), λ h. (h.0.0, h.1)),
    λ u h.
        let e = after_rhs t lents (rhs_of names r.0) d in (
          h.2,
          ok_as _ d _ _ _
              (ok_then (n.rhs_seen g r.0) (gives (k ∷ [])) d e _ _ ⊤ (goes_on (rhs_of names r.0) (n.rhs_seen g r.0) (rhs_keeps r.0) r.1 d _ h.0 h.1) (ok_gives (k ∷ []) e)) (given_of _ _),
        ),
  )
  stmt_core (Stmt-F.Place place at o k steps r) b d = (
    refl,
    refl,
    (λ h. ((h.0, h.1, h.2, tt), h.3), λ h. (h.0.0, h.0.1, h.0.2, h.1)),
    λ u h.
        let e = after_rhs t lents (rhs_of names r.0) d in
        let way = chained (map (step_of names) (map (λ x. x.0) steps)) plain.here in
        let f = after_steps t lents way e in
        let whole = is_none o && n.is_here (map (n.step_seen g) (map (λ x. x.0) steps)) in
        let question = asked at (λ (c : Holding). of_place whole (c k)) in (
          h.6,
          ok_as _ d _ _ _
              (ok_then (n.rhs_seen g r.0) (each (map (n.step_seen g) (map (λ x. x.0) steps)) & question & gives (k ∷ [])) d e _ _ _ (goes_on (rhs_of names r.0) (n.rhs_seen g r.0) (rhs_keeps r.0) r.1 d _ h.2 h.3)
              (ok_then (each (map (n.step_seen g) (map (λ x. x.0) steps))) (question & gives (k ∷ [])) e f _ _ _ (steps_good steps e _ _ h.4)
              (ok_then question (gives (k ∷ [])) f f _ _ ⊤
              (ok_as _ f f _ _ (ok_asked at (λ c. of_place whole (c k)) f _ (place_clear at whole (f k))) (whole_good o steps (f k)))
              (ok_gives (k ∷ []) f))))
              (place_of (MovesRhs t lents (rhs_of names r.0) d) (MovesSteps t lents way e) (WholeOr o way (f k)) (rhs_keeps r.0) (list_all (λ x. x) (map step_keeps (map (λ x. x.0) steps)))),
        ),
  )
  stmt_core (Stmt-F.For loop assign i lo hi body) b d = (
    refl,
    refl,
    (λ h. ((h.0, h.1, h.2, h.3, tt), h.4), λ h. (h.0.0, h.0.1, h.0.2, h.0.3, h.1)),
    λ u h.
        let e = after_exp t lents (exp_of names lo.0) false d in
        let f = after_exp t lents (exp_of names hi.0) false e in
        let inner = block_of names body.0 in
        let began = also (i ∷ []) f in (
          h.4,
          ok_as _ d _ _ _
              (ok_then (n.exp_seen g lo.0 false) (n.exp_seen g hi.0 false & turns i (n.block_seen g body.0)) d e _ _ _ (lo.1 false d _ h.1)
              (ok_then (n.exp_seen g hi.0 false) (turns i (n.block_seen g body.0)) e f _ _ _ (hi.1 false e _ h.2)
              (ok_turns i (n.block_seen g body.0) f (exits_block inner) (after_block t lents inner began) _ (body.1 began _ h.3))))
              (loop_of (MovesExp t lents (exp_of names lo.0) false d) (MovesExp t lents (exp_of names hi.0) false e) (MovesBlock t lents inner began) (Kept f (after_block t lents inner began)) (exp_keeps lo.0 false) (exp_keeps hi.0 false) (block_keeps body.0)),
        ),
  )

  tail_core : (y : Tail-F F Place Nested Quest MutArg Exit Assign Loop Cf Acc Fold Args Exps Rhss Steps Stmts Tails Arms Blocks Carrys) → IsBlock (plain_tail_of (map-Tail F Place Nested Quest MutArg Exit Assign Loop Cf Acc Fold Args Exps Rhss Steps Stmts Tails Arms Blocks Carrys (Arg F Place Nested Quest MutArg Exit Assign Loop Cf Acc Fold) (Exp F Place Nested Quest MutArg Exit Assign Loop Cf Acc Fold) (Rhs F Place Nested Quest MutArg Exit Assign Loop Cf Acc Fold) (Step F Place Nested Quest MutArg Exit Assign Loop Cf Acc Fold) (Stmt F Place Nested Quest MutArg Exit Assign Loop Cf Acc Fold) (Tail F Place Nested Quest MutArg Exit Assign Loop Cf Acc Fold) (Arm F Place Nested Quest MutArg Exit Assign Loop Cf Acc Fold) (Block F Place Nested Quest MutArg Exit Assign Loop Cf Acc Fold) (Carry F Place Nested Quest MutArg Exit Assign Loop Cf Acc Fold) (λ x. x.0) (λ x. x.0) (λ x. x.0) (λ x. x.0) (λ x. x.0) (λ x. x.0) (λ x. x.0) (λ x. x.0) (λ x. x.0) y)) (seen_tail_of (map-Tail F Place Nested Quest MutArg Exit Assign Loop Cf Acc Fold Args Exps Rhss Steps Stmts Tails Arms Blocks Carrys (Arg F Place Nested Quest MutArg Exit Assign Loop Cf Acc Fold) (Exp F Place Nested Quest MutArg Exit Assign Loop Cf Acc Fold) (Rhs F Place Nested Quest MutArg Exit Assign Loop Cf Acc Fold) (Step F Place Nested Quest MutArg Exit Assign Loop Cf Acc Fold) (Stmt F Place Nested Quest MutArg Exit Assign Loop Cf Acc Fold) (Tail F Place Nested Quest MutArg Exit Assign Loop Cf Acc Fold) (Arm F Place Nested Quest MutArg Exit Assign Loop Cf Acc Fold) (Block F Place Nested Quest MutArg Exit Assign Loop Cf Acc Fold) (Carry F Place Nested Quest MutArg Exit Assign Loop Cf Acc Fold) (λ x. x.0) (λ x. x.0) (λ x. x.0) (λ x. x.0) (λ x. x.0) (λ x. x.0) (λ x. x.0) (λ x. x.0) (λ x. x.0) y)) (kept_tail_of (map-Tail F Place Nested Quest MutArg Exit Assign Loop Cf Acc Fold Args Exps Rhss Steps Stmts Tails Arms Blocks Carrys (Arg F Place Nested Quest MutArg Exit Assign Loop Cf Acc Fold) (Exp F Place Nested Quest MutArg Exit Assign Loop Cf Acc Fold) (Rhs F Place Nested Quest MutArg Exit Assign Loop Cf Acc Fold) (Step F Place Nested Quest MutArg Exit Assign Loop Cf Acc Fold) (Stmt F Place Nested Quest MutArg Exit Assign Loop Cf Acc Fold) (Tail F Place Nested Quest MutArg Exit Assign Loop Cf Acc Fold) (Arm F Place Nested Quest MutArg Exit Assign Loop Cf Acc Fold) (Block F Place Nested Quest MutArg Exit Assign Loop Cf Acc Fold) (Carry F Place Nested Quest MutArg Exit Assign Loop Cf Acc Fold) (λ x. x.0) (λ x. x.0) (λ x. x.0) (λ x. x.0) (λ x. x.0) (λ x. x.0) (λ x. x.0) (λ x. x.0) (λ x. x.0) y))
  tail_core (Tail-F.Rhs r) d u h = r.1 d u h
  tail_core (Tail-F.Return exit e) d u h =
      let f = after_exp t lents (exp_of names e.0) false d in
      ends_as _ d true every _ _ (ends_then (n.exp_seen g e.0 false) nowhere d f true every _ ⊤ (e.1 false d _ h) (ends_nowhere f)) (λ h. h.0, λ h. (h, tt))
  tail_core (Tail-F.Bind c around p r b) d u h = absurd (cf c)

  arm_core : (y : Arm-F F Place Nested Quest MutArg Exit Assign Loop Cf Acc Fold Args Exps Rhss Steps Stmts Tails Arms Blocks Carrys) → IsArm (plain_arm_of (map-Arm F Place Nested Quest MutArg Exit Assign Loop Cf Acc Fold Args Exps Rhss Steps Stmts Tails Arms Blocks Carrys (Arg F Place Nested Quest MutArg Exit Assign Loop Cf Acc Fold) (Exp F Place Nested Quest MutArg Exit Assign Loop Cf Acc Fold) (Rhs F Place Nested Quest MutArg Exit Assign Loop Cf Acc Fold) (Step F Place Nested Quest MutArg Exit Assign Loop Cf Acc Fold) (Stmt F Place Nested Quest MutArg Exit Assign Loop Cf Acc Fold) (Tail F Place Nested Quest MutArg Exit Assign Loop Cf Acc Fold) (Arm F Place Nested Quest MutArg Exit Assign Loop Cf Acc Fold) (Block F Place Nested Quest MutArg Exit Assign Loop Cf Acc Fold) (Carry F Place Nested Quest MutArg Exit Assign Loop Cf Acc Fold) (λ x. x.0) (λ x. x.0) (λ x. x.0) (λ x. x.0) (λ x. x.0) (λ x. x.0) (λ x. x.0) (λ x. x.0) (λ x. x.0) y)) (seen_arm_of (map-Arm F Place Nested Quest MutArg Exit Assign Loop Cf Acc Fold Args Exps Rhss Steps Stmts Tails Arms Blocks Carrys (Arg F Place Nested Quest MutArg Exit Assign Loop Cf Acc Fold) (Exp F Place Nested Quest MutArg Exit Assign Loop Cf Acc Fold) (Rhs F Place Nested Quest MutArg Exit Assign Loop Cf Acc Fold) (Step F Place Nested Quest MutArg Exit Assign Loop Cf Acc Fold) (Stmt F Place Nested Quest MutArg Exit Assign Loop Cf Acc Fold) (Tail F Place Nested Quest MutArg Exit Assign Loop Cf Acc Fold) (Arm F Place Nested Quest MutArg Exit Assign Loop Cf Acc Fold) (Block F Place Nested Quest MutArg Exit Assign Loop Cf Acc Fold) (Carry F Place Nested Quest MutArg Exit Assign Loop Cf Acc Fold) (λ x. x.0) (λ x. x.0) (λ x. x.0) (λ x. x.0) (λ x. x.0) (λ x. x.0) (λ x. x.0) (λ x. x.0) (λ x. x.0) y)) (kept_arm_of (map-Arm F Place Nested Quest MutArg Exit Assign Loop Cf Acc Fold Args Exps Rhss Steps Stmts Tails Arms Blocks Carrys (Arg F Place Nested Quest MutArg Exit Assign Loop Cf Acc Fold) (Exp F Place Nested Quest MutArg Exit Assign Loop Cf Acc Fold) (Rhs F Place Nested Quest MutArg Exit Assign Loop Cf Acc Fold) (Step F Place Nested Quest MutArg Exit Assign Loop Cf Acc Fold) (Stmt F Place Nested Quest MutArg Exit Assign Loop Cf Acc Fold) (Tail F Place Nested Quest MutArg Exit Assign Loop Cf Acc Fold) (Arm F Place Nested Quest MutArg Exit Assign Loop Cf Acc Fold) (Block F Place Nested Quest MutArg Exit Assign Loop Cf Acc Fold) (Carry F Place Nested Quest MutArg Exit Assign Loop Cf Acc Fold) (λ x. x.0) (λ x. x.0) (λ x. x.0) (λ x. x.0) (λ x. x.0) (λ x. x.0) (λ x. x.0) (λ x. x.0) (λ x. x.0) y))
  arm_core x = (
    pattern_of names x.pattern,
    block_of names x.block.0,
    λ xs. refl,
    λ d u h.
        let b = block_of names x.block.0 in
        let p = n.bound x.pattern in
        ends_as _ d _ _ _ _
        (subst (λ ks. Ends ((gives p & n.block_seen g x.block.0) d) d (exits_block b) (after_block t lents b (also ks d)) (⊤ × (MovesBlock t lents b (also ks d) × IsTrue (block_keeps x.block.0)))) (sym (same_bound names x.pattern))
        (ends_then (gives p) (n.block_seen g x.block.0) d (also p d) (exits_block b) _ ⊤ _ (ok_gives p d) (x.block.1 (also p d) u h)))
        (bound_before _ _),
  )

  block_core : (y : Block-F F Place Nested Quest MutArg Exit Assign Loop Cf Acc Fold Args Exps Rhss Steps Stmts Tails Arms Blocks Carrys) → IsBlock (plain_block_of (map-Block F Place Nested Quest MutArg Exit Assign Loop Cf Acc Fold Args Exps Rhss Steps Stmts Tails Arms Blocks Carrys (Arg F Place Nested Quest MutArg Exit Assign Loop Cf Acc Fold) (Exp F Place Nested Quest MutArg Exit Assign Loop Cf Acc Fold) (Rhs F Place Nested Quest MutArg Exit Assign Loop Cf Acc Fold) (Step F Place Nested Quest MutArg Exit Assign Loop Cf Acc Fold) (Stmt F Place Nested Quest MutArg Exit Assign Loop Cf Acc Fold) (Tail F Place Nested Quest MutArg Exit Assign Loop Cf Acc Fold) (Arm F Place Nested Quest MutArg Exit Assign Loop Cf Acc Fold) (Block F Place Nested Quest MutArg Exit Assign Loop Cf Acc Fold) (Carry F Place Nested Quest MutArg Exit Assign Loop Cf Acc Fold) (λ x. x.0) (λ x. x.0) (λ x. x.0) (λ x. x.0) (λ x. x.0) (λ x. x.0) (λ x. x.0) (λ x. x.0) (λ x. x.0) y)) (seen_block_of (map-Block F Place Nested Quest MutArg Exit Assign Loop Cf Acc Fold Args Exps Rhss Steps Stmts Tails Arms Blocks Carrys (Arg F Place Nested Quest MutArg Exit Assign Loop Cf Acc Fold) (Exp F Place Nested Quest MutArg Exit Assign Loop Cf Acc Fold) (Rhs F Place Nested Quest MutArg Exit Assign Loop Cf Acc Fold) (Step F Place Nested Quest MutArg Exit Assign Loop Cf Acc Fold) (Stmt F Place Nested Quest MutArg Exit Assign Loop Cf Acc Fold) (Tail F Place Nested Quest MutArg Exit Assign Loop Cf Acc Fold) (Arm F Place Nested Quest MutArg Exit Assign Loop Cf Acc Fold) (Block F Place Nested Quest MutArg Exit Assign Loop Cf Acc Fold) (Carry F Place Nested Quest MutArg Exit Assign Loop Cf Acc Fold) (λ x. x.0) (λ x. x.0) (λ x. x.0) (λ x. x.0) (λ x. x.0) (λ x. x.0) (λ x. x.0) (λ x. x.0) (λ x. x.0) y)) (kept_block_of (map-Block F Place Nested Quest MutArg Exit Assign Loop Cf Acc Fold Args Exps Rhss Steps Stmts Tails Arms Blocks Carrys (Arg F Place Nested Quest MutArg Exit Assign Loop Cf Acc Fold) (Exp F Place Nested Quest MutArg Exit Assign Loop Cf Acc Fold) (Rhs F Place Nested Quest MutArg Exit Assign Loop Cf Acc Fold) (Step F Place Nested Quest MutArg Exit Assign Loop Cf Acc Fold) (Stmt F Place Nested Quest MutArg Exit Assign Loop Cf Acc Fold) (Tail F Place Nested Quest MutArg Exit Assign Loop Cf Acc Fold) (Arm F Place Nested Quest MutArg Exit Assign Loop Cf Acc Fold) (Block F Place Nested Quest MutArg Exit Assign Loop Cf Acc Fold) (Carry F Place Nested Quest MutArg Exit Assign Loop Cf Acc Fold) (λ x. x.0) (λ x. x.0) (λ x. x.0) (λ x. x.0) (λ x. x.0) (λ x. x.0) (λ x. x.0) (λ x. x.0) (λ x. x.0) y))
  block_core b d u h =
      let end = tail_of names b.tail.0 in
      let c = λ (a : plain.Block). chained (map (stmt_of names) (map (λ x. x.0) b.statements)) a in
      let s = stmts_good b.statements end d in
      let q = s.3 u h in
      let e = after_block t lents (c nothing) d in
      let seen = (each (map (n.stmt_seen g) (map (λ x. x.0) b.statements)) & n.tail_seen g b.tail.0) d in
      let kept = list_all (λ x. x) (map stmt_keeps (map (λ x. x.0) b.statements)) && tail_keeps b.tail.0 in
      subst (λ x. Ends seen d x (after_block t lents (c end) d) (MovesBlock t lents (c end) d × IsTrue kept)) (sym s.1)
      (subst (λ a. Ends seen d (exits_block end) a (MovesBlock t lents (c end) d × IsTrue kept)) (sym s.0)
      (ends_as _ d _ _ _ _
      (ends_then (each (map (n.stmt_seen g) (map (λ x. x.0) b.statements))) (n.tail_seen g b.tail.0) d e (exits_block end) _ _ _ q.1 (b.tail.1 e u q.0))
      (swap (MovesBlock t lents (c end) d) (MovesBlock t lents (c nothing) d) (MovesBlock t lents end e) (list_all (λ x. x) (map stmt_keeps (map (λ x. x.0) b.statements))) (tail_keeps b.tail.0) s.2)))

  -- a block's conditions hold exactly where nothing is broken in it
  pub block_good : (b : Block F Place Nested Quest MutArg Exit Assign Loop Cf Acc Fold) → Good_block b
  block_good =
      ind-Block F Place Nested Quest MutArg Exit Assign Loop Cf Acc Fold Good_arg Good_exp Good_rhs Good_step Good_stmt Good_tail Good_arm Good_block Good_carry
      (λ x y is. subst (λ z. Good_arg (roll-Arg F Place Nested Quest MutArg Exit Assign Loop Cf Acc Fold z)) is (roll_arg (map-Arg F Place Nested Quest MutArg Exit Assign Loop Cf Acc Fold Args Exps Rhss Steps Stmts Tails Arms Blocks Carrys (Arg F Place Nested Quest MutArg Exit Assign Loop Cf Acc Fold) (Exp F Place Nested Quest MutArg Exit Assign Loop Cf Acc Fold) (Rhs F Place Nested Quest MutArg Exit Assign Loop Cf Acc Fold) (Step F Place Nested Quest MutArg Exit Assign Loop Cf Acc Fold) (Stmt F Place Nested Quest MutArg Exit Assign Loop Cf Acc Fold) (Tail F Place Nested Quest MutArg Exit Assign Loop Cf Acc Fold) (Arm F Place Nested Quest MutArg Exit Assign Loop Cf Acc Fold) (Block F Place Nested Quest MutArg Exit Assign Loop Cf Acc Fold) (Carry F Place Nested Quest MutArg Exit Assign Loop Cf Acc Fold) (λ x. x.0) (λ x. x.0) (λ x. x.0) (λ x. x.0) (λ x. x.0) (λ x. x.0) (λ x. x.0) (λ x. x.0) (λ x. x.0) y) (arg_core y)))
      (λ x y is. subst (λ z. Good_exp (roll-Exp F Place Nested Quest MutArg Exit Assign Loop Cf Acc Fold z)) is (roll_exp (map-Exp F Place Nested Quest MutArg Exit Assign Loop Cf Acc Fold Args Exps Rhss Steps Stmts Tails Arms Blocks Carrys (Arg F Place Nested Quest MutArg Exit Assign Loop Cf Acc Fold) (Exp F Place Nested Quest MutArg Exit Assign Loop Cf Acc Fold) (Rhs F Place Nested Quest MutArg Exit Assign Loop Cf Acc Fold) (Step F Place Nested Quest MutArg Exit Assign Loop Cf Acc Fold) (Stmt F Place Nested Quest MutArg Exit Assign Loop Cf Acc Fold) (Tail F Place Nested Quest MutArg Exit Assign Loop Cf Acc Fold) (Arm F Place Nested Quest MutArg Exit Assign Loop Cf Acc Fold) (Block F Place Nested Quest MutArg Exit Assign Loop Cf Acc Fold) (Carry F Place Nested Quest MutArg Exit Assign Loop Cf Acc Fold) (λ x. x.0) (λ x. x.0) (λ x. x.0) (λ x. x.0) (λ x. x.0) (λ x. x.0) (λ x. x.0) (λ x. x.0) (λ x. x.0) y) (exp_core y)))
      (λ x y is. subst (λ z. Good_rhs (roll-Rhs F Place Nested Quest MutArg Exit Assign Loop Cf Acc Fold z)) is (roll_rhs (map-Rhs F Place Nested Quest MutArg Exit Assign Loop Cf Acc Fold Args Exps Rhss Steps Stmts Tails Arms Blocks Carrys (Arg F Place Nested Quest MutArg Exit Assign Loop Cf Acc Fold) (Exp F Place Nested Quest MutArg Exit Assign Loop Cf Acc Fold) (Rhs F Place Nested Quest MutArg Exit Assign Loop Cf Acc Fold) (Step F Place Nested Quest MutArg Exit Assign Loop Cf Acc Fold) (Stmt F Place Nested Quest MutArg Exit Assign Loop Cf Acc Fold) (Tail F Place Nested Quest MutArg Exit Assign Loop Cf Acc Fold) (Arm F Place Nested Quest MutArg Exit Assign Loop Cf Acc Fold) (Block F Place Nested Quest MutArg Exit Assign Loop Cf Acc Fold) (Carry F Place Nested Quest MutArg Exit Assign Loop Cf Acc Fold) (λ x. x.0) (λ x. x.0) (λ x. x.0) (λ x. x.0) (λ x. x.0) (λ x. x.0) (λ x. x.0) (λ x. x.0) (λ x. x.0) y) (rhs_core y)))
      (λ x y is. subst (λ z. Good_step (roll-Step F Place Nested Quest MutArg Exit Assign Loop Cf Acc Fold z)) is (roll_step (map-Step F Place Nested Quest MutArg Exit Assign Loop Cf Acc Fold Args Exps Rhss Steps Stmts Tails Arms Blocks Carrys (Arg F Place Nested Quest MutArg Exit Assign Loop Cf Acc Fold) (Exp F Place Nested Quest MutArg Exit Assign Loop Cf Acc Fold) (Rhs F Place Nested Quest MutArg Exit Assign Loop Cf Acc Fold) (Step F Place Nested Quest MutArg Exit Assign Loop Cf Acc Fold) (Stmt F Place Nested Quest MutArg Exit Assign Loop Cf Acc Fold) (Tail F Place Nested Quest MutArg Exit Assign Loop Cf Acc Fold) (Arm F Place Nested Quest MutArg Exit Assign Loop Cf Acc Fold) (Block F Place Nested Quest MutArg Exit Assign Loop Cf Acc Fold) (Carry F Place Nested Quest MutArg Exit Assign Loop Cf Acc Fold) (λ x. x.0) (λ x. x.0) (λ x. x.0) (λ x. x.0) (λ x. x.0) (λ x. x.0) (λ x. x.0) (λ x. x.0) (λ x. x.0) y) (step_core y)))
      (λ x y is. subst (λ z. Good_stmt (roll-Stmt F Place Nested Quest MutArg Exit Assign Loop Cf Acc Fold z)) is (roll_stmt (map-Stmt F Place Nested Quest MutArg Exit Assign Loop Cf Acc Fold Args Exps Rhss Steps Stmts Tails Arms Blocks Carrys (Arg F Place Nested Quest MutArg Exit Assign Loop Cf Acc Fold) (Exp F Place Nested Quest MutArg Exit Assign Loop Cf Acc Fold) (Rhs F Place Nested Quest MutArg Exit Assign Loop Cf Acc Fold) (Step F Place Nested Quest MutArg Exit Assign Loop Cf Acc Fold) (Stmt F Place Nested Quest MutArg Exit Assign Loop Cf Acc Fold) (Tail F Place Nested Quest MutArg Exit Assign Loop Cf Acc Fold) (Arm F Place Nested Quest MutArg Exit Assign Loop Cf Acc Fold) (Block F Place Nested Quest MutArg Exit Assign Loop Cf Acc Fold) (Carry F Place Nested Quest MutArg Exit Assign Loop Cf Acc Fold) (λ x. x.0) (λ x. x.0) (λ x. x.0) (λ x. x.0) (λ x. x.0) (λ x. x.0) (λ x. x.0) (λ x. x.0) (λ x. x.0) y) (stmt_core y)))
      (λ x y is. subst (λ z. Good_tail (roll-Tail F Place Nested Quest MutArg Exit Assign Loop Cf Acc Fold z)) is (roll_tail (map-Tail F Place Nested Quest MutArg Exit Assign Loop Cf Acc Fold Args Exps Rhss Steps Stmts Tails Arms Blocks Carrys (Arg F Place Nested Quest MutArg Exit Assign Loop Cf Acc Fold) (Exp F Place Nested Quest MutArg Exit Assign Loop Cf Acc Fold) (Rhs F Place Nested Quest MutArg Exit Assign Loop Cf Acc Fold) (Step F Place Nested Quest MutArg Exit Assign Loop Cf Acc Fold) (Stmt F Place Nested Quest MutArg Exit Assign Loop Cf Acc Fold) (Tail F Place Nested Quest MutArg Exit Assign Loop Cf Acc Fold) (Arm F Place Nested Quest MutArg Exit Assign Loop Cf Acc Fold) (Block F Place Nested Quest MutArg Exit Assign Loop Cf Acc Fold) (Carry F Place Nested Quest MutArg Exit Assign Loop Cf Acc Fold) (λ x. x.0) (λ x. x.0) (λ x. x.0) (λ x. x.0) (λ x. x.0) (λ x. x.0) (λ x. x.0) (λ x. x.0) (λ x. x.0) y) (tail_core y)))
      (λ x y is. subst (λ z. Good_arm (roll-Arm F Place Nested Quest MutArg Exit Assign Loop Cf Acc Fold z)) is (roll_arm (map-Arm F Place Nested Quest MutArg Exit Assign Loop Cf Acc Fold Args Exps Rhss Steps Stmts Tails Arms Blocks Carrys (Arg F Place Nested Quest MutArg Exit Assign Loop Cf Acc Fold) (Exp F Place Nested Quest MutArg Exit Assign Loop Cf Acc Fold) (Rhs F Place Nested Quest MutArg Exit Assign Loop Cf Acc Fold) (Step F Place Nested Quest MutArg Exit Assign Loop Cf Acc Fold) (Stmt F Place Nested Quest MutArg Exit Assign Loop Cf Acc Fold) (Tail F Place Nested Quest MutArg Exit Assign Loop Cf Acc Fold) (Arm F Place Nested Quest MutArg Exit Assign Loop Cf Acc Fold) (Block F Place Nested Quest MutArg Exit Assign Loop Cf Acc Fold) (Carry F Place Nested Quest MutArg Exit Assign Loop Cf Acc Fold) (λ x. x.0) (λ x. x.0) (λ x. x.0) (λ x. x.0) (λ x. x.0) (λ x. x.0) (λ x. x.0) (λ x. x.0) (λ x. x.0) y) (arm_core y)))
      (λ x y is. subst (λ z. Good_block (roll-Block F Place Nested Quest MutArg Exit Assign Loop Cf Acc Fold z)) is (roll_block (map-Block F Place Nested Quest MutArg Exit Assign Loop Cf Acc Fold Args Exps Rhss Steps Stmts Tails Arms Blocks Carrys (Arg F Place Nested Quest MutArg Exit Assign Loop Cf Acc Fold) (Exp F Place Nested Quest MutArg Exit Assign Loop Cf Acc Fold) (Rhs F Place Nested Quest MutArg Exit Assign Loop Cf Acc Fold) (Step F Place Nested Quest MutArg Exit Assign Loop Cf Acc Fold) (Stmt F Place Nested Quest MutArg Exit Assign Loop Cf Acc Fold) (Tail F Place Nested Quest MutArg Exit Assign Loop Cf Acc Fold) (Arm F Place Nested Quest MutArg Exit Assign Loop Cf Acc Fold) (Block F Place Nested Quest MutArg Exit Assign Loop Cf Acc Fold) (Carry F Place Nested Quest MutArg Exit Assign Loop Cf Acc Fold) (λ x. x.0) (λ x. x.0) (λ x. x.0) (λ x. x.0) (λ x. x.0) (λ x. x.0) (λ x. x.0) (λ x. x.0) (λ x. x.0) y) (block_core y)))
      (λ x y is. tt)
