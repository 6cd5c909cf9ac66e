-- A feature whose marks have no value is used nowhere.
use Rattle.std.proofs.Common.{◌≡◌, ℕ, zero, suc, Bool, true, false, ◌||◌, List, [], ◌∷◌, map, refl, sym, ap, subst, ◌∙◌, arith}
use Rattle.std.proofs.lemmas.Bool.Decides.{Decides-eqb}
use Rattle.std.specs.List.{list_any}
use Rattle.hs_tree.specs.Features.{Feature, Stage, stage_of, number, same}
use Rattle.hs_tree.specs.Features as feature
use Rattle.hs_tree.specs.Plain as plain
use Rattle.hs_tree.specs.Count.{mark, having, features_carrying, features_mode, total_exp, total_exps, total_args, total_rhs, total_arms, total_steps, total_block, uses, uses_params, uses_functions, uses_constants}
use Rattle.hs_tree.specs.Of.{exps_of, chained, exp_step, arg_step, rhs_step, carry_step, arm_step, step_step, stmt_step, tail_step, block_step, exp_of, arg_of, rhs_of, carry_of, arm_of, step_of, stmt_of, tail_of, block_of, param_of, mode_of, function_of, constant_of, program_of}
use Rattle.hs_tree.specs.declared.node.Exp.{Exp}
use Rattle.hs_tree.specs.declared.node.Arg.{Arg}
use Rattle.hs_tree.specs.declared.node.Rhs.{Rhs}
use Rattle.hs_tree.specs.declared.node.Carry.{Carry}
use Rattle.hs_tree.specs.declared.node.Arm.{Arm}
use Rattle.hs_tree.specs.declared.node.Step.{Step}
use Rattle.hs_tree.specs.declared.node.Stmt.{Stmt}
use Rattle.hs_tree.specs.declared.node.Tail.{Tail}
use Rattle.hs_tree.specs.declared.node.Block.{Block}
use Rattle.hs_tree.specs.declared.node.Arg.TheOpen.{Exp-F, Arg-F, Rhs-F, Carry-F, Arm-F, Step-F, Stmt-F, Tail-F, Block-F}
use Rattle.hs_tree.specs.declared.node.Arg.TheViews.{roll-Exp, roll-Arg, roll-Rhs, roll-Carry, roll-Arm, roll-Step, roll-Stmt, roll-Tail, roll-Block}
use Rattle.hs_tree.specs.declared.node.Arg.TheFolds.{map-Exp, map-Arg, map-Rhs, map-Carry, map-Arm, map-Step, map-Stmt, map-Tail, map-Block, fold-roll-Exp, fold-roll-Arg, fold-roll-Rhs, fold-roll-Carry, fold-roll-Arm, fold-roll-Step, fold-roll-Stmt, fold-roll-Tail, fold-roll-Block, ind-Exp, ind-Block}
use Rattle.hs_tree.specs.declared.program.Mode.{Mode}
use Rattle.hs_tree.specs.declared.program.Mode.TheVariants as mode
use Rattle.hs_tree.specs.declared.program.Param.{Param}
use Rattle.hs_tree.specs.declared.program.Function.{Function}
use Rattle.hs_tree.specs.declared.program.Constant.{Constant}
use Rattle.hs_tree.specs.declared.program.Program.{Program}

one_off : (a : Bool) → a ≡ false → mark (a || false) ≡ 0
one_off true h = absurd (cc)
one_off false h = refl

two_off : (a b : Bool) → a ≡ false → b ≡ false → mark (a || (b || false)) ≡ 0
two_off true b h k = absurd (cc)
two_off false b h k = one_off b k

three_off : (a b c : Bool) → a ≡ false → b ≡ false → c ≡ false → mark (a || (b || (c || false))) ≡ 0
three_off true b c h k l = absurd (cc)
three_off false b c h k l = two_off b c k l

module _ (F Place Nested Quest MutArg Exit Assign Loop Cf Acc Fold : Type 0) (f : Feature)
    (place : Place → same f feature.Place ≡ false)
    (nested : Nested → same f feature.Nested ≡ false)
    (quest : Quest → same f feature.Quest ≡ false)
    (mut_arg : MutArg → same f feature.MutArg ≡ false)
    (exit : Exit → same f feature.Exit ≡ false)
    (assign : Assign → same f feature.Assign ≡ false)
    (loop : Loop → same f feature.Loop ≡ false)
    (cf : Cf → same f feature.Cf ≡ false)
    (acc : Acc → same f feature.Acc ≡ false)
    (fold : Fold → same f feature.Fold ≡ false)
  where
    module _ (names : List plain.Name) where
      abbrev No_exp : Exp F Place Nested Quest MutArg Exit Assign Loop Cf Acc Fold → Type 0
      No_exp e = total_exp (having f) (exp_of names e) ≡ 0

      abbrev No_arg : Arg F Place Nested Quest MutArg Exit Assign Loop Cf Acc Fold → Type 0
      No_arg a = (es : plain.Args) → total_args (having f) (arg_of names a es) ≡ total_args (having f) es

      abbrev No_rhs : Rhs F Place Nested Quest MutArg Exit Assign Loop Cf Acc Fold → Type 0
      No_rhs r = total_rhs (having f) (rhs_of names r) ≡ 0

      abbrev No_carry : Carry F Place Nested Quest MutArg Exit Assign Loop Cf Acc Fold → Type 0
      No_carry c = (how : plain.Carrying) → mark (list_any (same f) (features_carrying how)) ≡ 0 → total_rhs (having f) (carry_of names c how) ≡ 0

      abbrev No_arm : Arm F Place Nested Quest MutArg Exit Assign Loop Cf Acc Fold → Type 0
      No_arm x = (xs : plain.Arms) → total_arms (having f) (arm_of names x xs) ≡ total_arms (having f) xs

      abbrev No_step : Step F Place Nested Quest MutArg Exit Assign Loop Cf Acc Fold → Type 0
      No_step x = (xs : plain.Steps) → total_steps (having f) (step_of names x xs) ≡ total_steps (having f) xs

      abbrev No_stmt : Stmt F Place Nested Quest MutArg Exit Assign Loop Cf Acc Fold → Type 0
      No_stmt x = (b : plain.Block) → total_block (having f) (stmt_of names x b) ≡ total_block (having f) b

      abbrev No_tail : Tail F Place Nested Quest MutArg Exit Assign Loop Cf Acc Fold → Type 0
      No_tail x = total_block (having f) (tail_of names x) ≡ 0

      abbrev No_block : Block F Place Nested Quest MutArg Exit Assign Loop Cf Acc Fold → Type 0
      No_block b = total_block (having f) (block_of names b) ≡ 0

      abbrev Exps : Type 0
      Exps = (x : Exp F Place Nested Quest MutArg Exit Assign Loop Cf Acc Fold) × No_exp x

      abbrev Args : Type 0
      Args = (x : Arg F Place Nested Quest MutArg Exit Assign Loop Cf Acc Fold) × No_arg x

      abbrev Rhss : Type 0
      Rhss = (x : Rhs F Place Nested Quest MutArg Exit Assign Loop Cf Acc Fold) × No_rhs x

      abbrev Carrys : Type 0
      Carrys = (x : Carry F Place Nested Quest MutArg Exit Assign Loop Cf Acc Fold) × No_carry x

      abbrev Arms : Type 0
      Arms = (x : Arm F Place Nested Quest MutArg Exit Assign Loop Cf Acc Fold) × No_arm x

      abbrev Steps : Type 0
      Steps = (x : Step F Place Nested Quest MutArg Exit Assign Loop Cf Acc Fold) × No_step x

      abbrev Stmts : Type 0
      Stmts = (x : Stmt F Place Nested Quest MutArg Exit Assign Loop Cf Acc Fold) × No_stmt x

      abbrev Tails : Type 0
      Tails = (x : Tail F Place Nested Quest MutArg Exit Assign Loop Cf Acc Fold) × No_tail x

      abbrev Blocks : Type 0
      Blocks = (x : Block F Place Nested Quest MutArg Exit Assign Loop Cf Acc Fold) × No_block x

      all_exps : (es : List Exps) → total_exps (having f) (exps_of (map (exp_of names) (map (λ x. x.0) es))) ≡ 0
      all_exps [] = refl
      all_exps (e ∷ es) = omega (arith, e.1, all_exps es)

      all_args : (xs : List Args) (end : plain.Args) → total_args (having f) (chained (map (arg_of names) (map (λ x. x.0) xs)) end) ≡ total_args (having f) end
      all_args [] end = refl
      all_args (x ∷ xs) end = x.1 (chained (map (arg_of names) (map (λ y. y.0) xs)) end) ∙ all_args xs end

      all_arms : (xs : List Arms) (end : plain.Arms) → total_arms (having f) (chained (map (arm_of names) (map (λ x. x.0) xs)) end) ≡ total_arms (having f) end
      all_arms [] end = refl
      all_arms (x ∷ xs) end = x.1 (chained (map (arm_of names) (map (λ y. y.0) xs)) end) ∙ all_arms xs end

      all_steps : (xs : List Steps) (end : plain.Steps) → total_steps (having f) (chained (map (step_of names) (map (λ x. x.0) xs)) end) ≡ total_steps (having f) end
      all_steps [] end = refl
      all_steps (x ∷ xs) end = x.1 (chained (map (step_of names) (map (λ y. y.0) xs)) end) ∙ all_steps xs end

      all_stmts : (xs : List Stmts) (end : plain.Block) → total_block (having f) (chained (map (stmt_of names) (map (λ x. x.0) xs)) end) ≡ total_block (having f) end
      all_stmts [] end = refl
      all_stmts (x ∷ xs) end = x.1 (chained (map (stmt_of names) (map (λ y. y.0) xs)) end) ∙ all_stmts xs end

      exp_level : (y : Exp-F F Place Nested Quest MutArg Exit Assign Loop Cf Acc Fold Args Exps Rhss Steps Stmts Tails Arms Blocks Carrys) → No_exp (roll-Exp F Place Nested Quest MutArg Exit Assign Loop Cf Acc Fold (map-Exp F Place Nested Quest MutArg Exit Assign Loop Cf Acc Fold Args Exps Rhss Steps Stmts Tails Arms Blocks Carrys _ _ _ _ _ _ _ _ _ (λ x. x.0) (λ x. x.0) (λ x. x.0) (λ x. x.0) (λ x. x.0) (λ x. x.0) (λ x. x.0) (λ x. x.0) (λ x. x.0) y))
      exp_level (Exp-F.Var k at) = ap (total_exp (having f)) (fold-roll-Exp F Place Nested Quest MutArg Exit Assign Loop Cf Acc Fold (plain.Args → plain.Args) plain.Exp plain.Rhs (plain.Steps → plain.Steps) (plain.Block → plain.Block) plain.Block (plain.Arms → plain.Arms) plain.Block (plain.Carrying → plain.Rhs) (arg_step names) (exp_step names) (rhs_step names) (step_step names) (stmt_step names) (tail_step names) (arm_step names) (block_step names) (carry_step names) _)
      exp_level (Exp-F.Lit n) = ap (total_exp (having f)) (fold-roll-Exp F Place Nested Quest MutArg Exit Assign Loop Cf Acc Fold (plain.Args → plain.Args) plain.Exp plain.Rhs (plain.Steps → plain.Steps) (plain.Block → plain.Block) plain.Block (plain.Arms → plain.Arms) plain.Block (plain.Carrying → plain.Rhs) (arg_step names) (exp_step names) (rhs_step names) (step_step names) (stmt_step names) (tail_step names) (arm_step names) (block_step names) (carry_step names) _)
      exp_level (Exp-F.Truth b) = ap (total_exp (having f)) (fold-roll-Exp F Place Nested Quest MutArg Exit Assign Loop Cf Acc Fold (plain.Args → plain.Args) plain.Exp plain.Rhs (plain.Steps → plain.Steps) (plain.Block → plain.Block) plain.Block (plain.Arms → plain.Arms) plain.Block (plain.Carrying → plain.Rhs) (arg_step names) (exp_step names) (rhs_step names) (step_step names) (stmt_step names) (tail_step names) (arm_step names) (block_step names) (carry_step names) _)
      exp_level Exp-F.Unit = ap (total_exp (having f)) (fold-roll-Exp F Place Nested Quest MutArg Exit Assign Loop Cf Acc Fold (plain.Args → plain.Args) plain.Exp plain.Rhs (plain.Steps → plain.Steps) (plain.Block → plain.Block) plain.Block (plain.Arms → plain.Arms) plain.Block (plain.Carrying → plain.Rhs) (arg_step names) (exp_step names) (rhs_step names) (step_step names) (stmt_step names) (tail_step names) (arm_step names) (block_step names) (carry_step names) _)
      exp_level (Exp-F.Const name) = ap (total_exp (having f)) (fold-roll-Exp F Place Nested Quest MutArg Exit Assign Loop Cf Acc Fold (plain.Args → plain.Args) plain.Exp plain.Rhs (plain.Steps → plain.Steps) (plain.Block → plain.Block) plain.Block (plain.Arms → plain.Arms) plain.Block (plain.Carrying → plain.Rhs) (arg_step names) (exp_step names) (rhs_step names) (step_step names) (stmt_step names) (tail_step names) (arm_step names) (block_step names) (carry_step names) _)
      exp_level (Exp-F.Tuple es) = ap (total_exp (having f)) (fold-roll-Exp F Place Nested Quest MutArg Exit Assign Loop Cf Acc Fold (plain.Args → plain.Args) plain.Exp plain.Rhs (plain.Steps → plain.Steps) (plain.Block → plain.Block) plain.Block (plain.Arms → plain.Arms) plain.Block (plain.Carrying → plain.Rhs) (arg_step names) (exp_step names) (rhs_step names) (step_step names) (stmt_step names) (tail_step names) (arm_step names) (block_step names) (carry_step names) _) ∙ omega (arith, all_exps es)
      exp_level (Exp-F.List es) = ap (total_exp (having f)) (fold-roll-Exp F Place Nested Quest MutArg Exit Assign Loop Cf Acc Fold (plain.Args → plain.Args) plain.Exp plain.Rhs (plain.Steps → plain.Steps) (plain.Block → plain.Block) plain.Block (plain.Arms → plain.Arms) plain.Block (plain.Carrying → plain.Rhs) (arg_step names) (exp_step names) (rhs_step names) (step_step names) (stmt_step names) (tail_step names) (arm_step names) (block_step names) (carry_step names) _) ∙ omega (arith, all_exps es)
      exp_level (Exp-F.Ctor t name es) = ap (total_exp (having f)) (fold-roll-Exp F Place Nested Quest MutArg Exit Assign Loop Cf Acc Fold (plain.Args → plain.Args) plain.Exp plain.Rhs (plain.Steps → plain.Steps) (plain.Block → plain.Block) plain.Block (plain.Arms → plain.Arms) plain.Block (plain.Carrying → plain.Rhs) (arg_step names) (exp_step names) (rhs_step names) (step_step names) (stmt_step names) (tail_step names) (arm_step names) (block_step names) (carry_step names) _) ∙ omega (arith, all_exps es)
      exp_level (Exp-F.Op name note es) = ap (total_exp (having f)) (fold-roll-Exp F Place Nested Quest MutArg Exit Assign Loop Cf Acc Fold (plain.Args → plain.Args) plain.Exp plain.Rhs (plain.Steps → plain.Steps) (plain.Block → plain.Block) plain.Block (plain.Arms → plain.Arms) plain.Block (plain.Carrying → plain.Rhs) (arg_step names) (exp_step names) (rhs_step names) (step_step names) (stmt_step names) (tail_step names) (arm_step names) (block_step names) (carry_step names) _) ∙ omega (arith, all_exps es)
      exp_level (Exp-F.Call g es) = ap (total_exp (having f)) (fold-roll-Exp F Place Nested Quest MutArg Exit Assign Loop Cf Acc Fold (plain.Args → plain.Args) plain.Exp plain.Rhs (plain.Steps → plain.Steps) (plain.Block → plain.Block) plain.Block (plain.Arms → plain.Arms) plain.Block (plain.Carrying → plain.Rhs) (arg_step names) (exp_step names) (rhs_step names) (step_step names) (stmt_step names) (tail_step names) (arm_step names) (block_step names) (carry_step names) _) ∙ omega (arith, all_exps es)
      exp_level (Exp-F.And a b) = ap (total_exp (having f)) (fold-roll-Exp F Place Nested Quest MutArg Exit Assign Loop Cf Acc Fold (plain.Args → plain.Args) plain.Exp plain.Rhs (plain.Steps → plain.Steps) (plain.Block → plain.Block) plain.Block (plain.Arms → plain.Arms) plain.Block (plain.Carrying → plain.Rhs) (arg_step names) (exp_step names) (rhs_step names) (step_step names) (stmt_step names) (tail_step names) (arm_step names) (block_step names) (carry_step names) _) ∙ omega (arith, a.1, b.1)
      exp_level (Exp-F.Or a b) = ap (total_exp (having f)) (fold-roll-Exp F Place Nested Quest MutArg Exit Assign Loop Cf Acc Fold (plain.Args → plain.Args) plain.Exp plain.Rhs (plain.Steps → plain.Steps) (plain.Block → plain.Block) plain.Block (plain.Arms → plain.Arms) plain.Block (plain.Carrying → plain.Rhs) (arg_step names) (exp_step names) (rhs_step names) (step_step names) (stmt_step names) (tail_step names) (arm_step names) (block_step names) (carry_step names) _) ∙ omega (arith, a.1, b.1)
      exp_level (Exp-F.In n r) = ap (total_exp (having f)) (fold-roll-Exp F Place Nested Quest MutArg Exit Assign Loop Cf Acc Fold (plain.Args → plain.Args) plain.Exp plain.Rhs (plain.Steps → plain.Steps) (plain.Block → plain.Block) plain.Block (plain.Arms → plain.Arms) plain.Block (plain.Carrying → plain.Rhs) (arg_step names) (exp_step names) (rhs_step names) (step_step names) (stmt_step names) (tail_step names) (arm_step names) (block_step names) (carry_step names) _) ∙ omega (arith, one_off _ (nested n), r.1)
      exp_level (Exp-F.Exit c e) = ap (total_exp (having f)) (fold-roll-Exp F Place Nested Quest MutArg Exit Assign Loop Cf Acc Fold (plain.Args → plain.Args) plain.Exp plain.Rhs (plain.Steps → plain.Steps) (plain.Block → plain.Block) plain.Block (plain.Arms → plain.Arms) plain.Block (plain.Carrying → plain.Rhs) (arg_step names) (exp_step names) (rhs_step names) (step_step names) (stmt_step names) (tail_step names) (arm_step names) (block_step names) (carry_step names) _) ∙ omega (arith, one_off _ (cf c), e.1)
      exp_level (Exp-F.Cont c e) = ap (total_exp (having f)) (fold-roll-Exp F Place Nested Quest MutArg Exit Assign Loop Cf Acc Fold (plain.Args → plain.Args) plain.Exp plain.Rhs (plain.Steps → plain.Steps) (plain.Block → plain.Block) plain.Block (plain.Arms → plain.Arms) plain.Block (plain.Carrying → plain.Rhs) (arg_step names) (exp_step names) (rhs_step names) (step_step names) (stmt_step names) (tail_step names) (arm_step names) (block_step names) (carry_step names) _) ∙ omega (arith, one_off _ (cf c), e.1)

      arg_level : (y : Arg-F F Place Nested Quest MutArg Exit Assign Loop Cf Acc Fold Args Exps Rhss Steps Stmts Tails Arms Blocks Carrys) → No_arg (roll-Arg F Place Nested Quest MutArg Exit Assign Loop Cf Acc Fold (map-Arg F Place Nested Quest MutArg Exit Assign Loop Cf Acc Fold Args Exps Rhss Steps Stmts Tails Arms Blocks Carrys _ _ _ _ _ _ _ _ _ (λ x. x.0) (λ x. x.0) (λ x. x.0) (λ x. x.0) (λ x. x.0) (λ x. x.0) (λ x. x.0) (λ x. x.0) (λ x. x.0) y))
      arg_level (Arg-F.Value e) es = ap (λ (g : plain.Args → plain.Args). total_args (having f) (g es)) (fold-roll-Arg F Place Nested Quest MutArg Exit Assign Loop Cf Acc Fold (plain.Args → plain.Args) plain.Exp plain.Rhs (plain.Steps → plain.Steps) (plain.Block → plain.Block) plain.Block (plain.Arms → plain.Arms) plain.Block (plain.Carrying → plain.Rhs) (arg_step names) (exp_step names) (rhs_step names) (step_step names) (stmt_step names) (tail_step names) (arm_step names) (block_step names) (carry_step names) _) ∙ omega (arith, e.1)
      arg_level (Arg-F.Lend k at) es = ap (λ (g : plain.Args → plain.Args). total_args (having f) (g es)) (fold-roll-Arg F Place Nested Quest MutArg Exit Assign Loop Cf Acc Fold (plain.Args → plain.Args) plain.Exp plain.Rhs (plain.Steps → plain.Steps) (plain.Block → plain.Block) plain.Block (plain.Arms → plain.Arms) plain.Block (plain.Carrying → plain.Rhs) (arg_step names) (exp_step names) (rhs_step names) (step_step names) (stmt_step names) (tail_step names) (arm_step names) (block_step names) (carry_step names) _)

      rhs_level : (y : Rhs-F F Place Nested Quest MutArg Exit Assign Loop Cf Acc Fold Args Exps Rhss Steps Stmts Tails Arms Blocks Carrys) → No_rhs (roll-Rhs F Place Nested Quest MutArg Exit Assign Loop Cf Acc Fold (map-Rhs F Place Nested Quest MutArg Exit Assign Loop Cf Acc Fold Args Exps Rhss Steps Stmts Tails Arms Blocks Carrys _ _ _ _ _ _ _ _ _ (λ x. x.0) (λ x. x.0) (λ x. x.0) (λ x. x.0) (λ x. x.0) (λ x. x.0) (λ x. x.0) (λ x. x.0) (λ x. x.0) y))
      rhs_level (Rhs-F.Exp e) = ap (total_rhs (having f)) (fold-roll-Rhs F Place Nested Quest MutArg Exit Assign Loop Cf Acc Fold (plain.Args → plain.Args) plain.Exp plain.Rhs (plain.Steps → plain.Steps) (plain.Block → plain.Block) plain.Block (plain.Arms → plain.Arms) plain.Block (plain.Carrying → plain.Rhs) (arg_step names) (exp_step names) (rhs_step names) (step_step names) (stmt_step names) (tail_step names) (arm_step names) (block_step names) (carry_step names) _) ∙ omega (arith, e.1)
      rhs_level (Rhs-F.If e a b) = ap (total_rhs (having f)) (fold-roll-Rhs F Place Nested Quest MutArg Exit Assign Loop Cf Acc Fold (plain.Args → plain.Args) plain.Exp plain.Rhs (plain.Steps → plain.Steps) (plain.Block → plain.Block) plain.Block (plain.Arms → plain.Arms) plain.Block (plain.Carrying → plain.Rhs) (arg_step names) (exp_step names) (rhs_step names) (step_step names) (stmt_step names) (tail_step names) (arm_step names) (block_step names) (carry_step names) _) ∙ omega (arith, e.1, a.1, b.1)
      rhs_level (Rhs-F.Match e xs) = ap (total_rhs (having f)) (fold-roll-Rhs F Place Nested Quest MutArg Exit Assign Loop Cf Acc Fold (plain.Args → plain.Args) plain.Exp plain.Rhs (plain.Steps → plain.Steps) (plain.Block → plain.Block) plain.Block (plain.Arms → plain.Arms) plain.Block (plain.Carrying → plain.Rhs) (arg_step names) (exp_step names) (rhs_step names) (step_step names) (stmt_step names) (tail_step names) (arm_step names) (block_step names) (carry_step names) _) ∙ omega (arith, e.1, all_arms xs plain.no_arms)
      rhs_level (Rhs-F.Block b) = ap (total_rhs (having f)) (fold-roll-Rhs F Place Nested Quest MutArg Exit Assign Loop Cf Acc Fold (plain.Args → plain.Args) plain.Exp plain.Rhs (plain.Steps → plain.Steps) (plain.Block → plain.Block) plain.Block (plain.Arms → plain.Arms) plain.Block (plain.Carrying → plain.Rhs) (arg_step names) (exp_step names) (rhs_step names) (step_step names) (stmt_step names) (tail_step names) (arm_step names) (block_step names) (carry_step names) _) ∙ omega (arith, b.1)
      rhs_level (Rhs-F.LendCall m g es) = ap (total_rhs (having f)) (fold-roll-Rhs F Place Nested Quest MutArg Exit Assign Loop Cf Acc Fold (plain.Args → plain.Args) plain.Exp plain.Rhs (plain.Steps → plain.Steps) (plain.Block → plain.Block) plain.Block (plain.Arms → plain.Arms) plain.Block (plain.Carrying → plain.Rhs) (arg_step names) (exp_step names) (rhs_step names) (step_step names) (stmt_step names) (tail_step names) (arm_step names) (block_step names) (carry_step names) _) ∙ omega (arith, one_off _ (mut_arg m), all_args es plain.no_args)
      rhs_level (Rhs-F.Quest q t e) = ap (total_rhs (having f)) (fold-roll-Rhs F Place Nested Quest MutArg Exit Assign Loop Cf Acc Fold (plain.Args → plain.Args) plain.Exp plain.Rhs (plain.Steps → plain.Steps) (plain.Block → plain.Block) plain.Block (plain.Arms → plain.Arms) plain.Block (plain.Carrying → plain.Rhs) (arg_step names) (exp_step names) (rhs_step names) (step_step names) (stmt_step names) (tail_step names) (arm_step names) (block_step names) (carry_step names) _) ∙ omega (arith, one_off _ (quest q), e.1)
      rhs_level (Rhs-F.ForCf l a c i lo hi b) = ap (total_rhs (having f)) (fold-roll-Rhs F Place Nested Quest MutArg Exit Assign Loop Cf Acc Fold (plain.Args → plain.Args) plain.Exp plain.Rhs (plain.Steps → plain.Steps) (plain.Block → plain.Block) plain.Block (plain.Arms → plain.Arms) plain.Block (plain.Carrying → plain.Rhs) (arg_step names) (exp_step names) (rhs_step names) (step_step names) (stmt_step names) (tail_step names) (arm_step names) (block_step names) (carry_step names) _) ∙ omega (arith, three_off _ _ _ (loop l) (assign a) (cf c), lo.1, hi.1, b.1)
      rhs_level (Rhs-F.Turns l a c) = ap (total_rhs (having f)) (fold-roll-Rhs F Place Nested Quest MutArg Exit Assign Loop Cf Acc Fold (plain.Args → plain.Args) plain.Exp plain.Rhs (plain.Steps → plain.Steps) (plain.Block → plain.Block) plain.Block (plain.Arms → plain.Arms) plain.Block (plain.Carrying → plain.Rhs) (arg_step names) (exp_step names) (rhs_step names) (step_step names) (stmt_step names) (tail_step names) (arm_step names) (block_step names) (carry_step names) _) ∙ c.1 plain.turns (two_off _ _ (loop l) (acc a))
      rhs_level (Rhs-F.TurnsCf l a e c) = ap (total_rhs (having f)) (fold-roll-Rhs F Place Nested Quest MutArg Exit Assign Loop Cf Acc Fold (plain.Args → plain.Args) plain.Exp plain.Rhs (plain.Steps → plain.Steps) (plain.Block → plain.Block) plain.Block (plain.Arms → plain.Arms) plain.Block (plain.Carrying → plain.Rhs) (arg_step names) (exp_step names) (rhs_step names) (step_step names) (stmt_step names) (tail_step names) (arm_step names) (block_step names) (carry_step names) _) ∙ c.1 plain.turnscf (three_off _ _ _ (loop l) (acc a) (cf e))
      rhs_level (Rhs-F.Fold o c) = ap (total_rhs (having f)) (fold-roll-Rhs F Place Nested Quest MutArg Exit Assign Loop Cf Acc Fold (plain.Args → plain.Args) plain.Exp plain.Rhs (plain.Steps → plain.Steps) (plain.Block → plain.Block) plain.Block (plain.Arms → plain.Arms) plain.Block (plain.Carrying → plain.Rhs) (arg_step names) (exp_step names) (rhs_step names) (step_step names) (stmt_step names) (tail_step names) (arm_step names) (block_step names) (carry_step names) _) ∙ c.1 plain.fold (one_off _ (fold o))
      rhs_level (Rhs-F.FoldCf o e c) = ap (total_rhs (having f)) (fold-roll-Rhs F Place Nested Quest MutArg Exit Assign Loop Cf Acc Fold (plain.Args → plain.Args) plain.Exp plain.Rhs (plain.Steps → plain.Steps) (plain.Block → plain.Block) plain.Block (plain.Arms → plain.Arms) plain.Block (plain.Carrying → plain.Rhs) (arg_step names) (exp_step names) (rhs_step names) (step_step names) (stmt_step names) (tail_step names) (arm_step names) (block_step names) (carry_step names) _) ∙ c.1 plain.foldcf (two_off _ _ (fold o) (cf e))

      carry_level : (y : Carry-F F Place Nested Quest MutArg Exit Assign Loop Cf Acc Fold Args Exps Rhss Steps Stmts Tails Arms Blocks Carrys) → No_carry (roll-Carry F Place Nested Quest MutArg Exit Assign Loop Cf Acc Fold (map-Carry F Place Nested Quest MutArg Exit Assign Loop Cf Acc Fold Args Exps Rhss Steps Stmts Tails Arms Blocks Carrys _ _ _ _ _ _ _ _ _ (λ x. x.0) (λ x. x.0) (λ x. x.0) (λ x. x.0) (λ x. x.0) (λ x. x.0) (λ x. x.0) (λ x. x.0) (λ x. x.0) y))
      carry_level c how off = ap (λ (g : plain.Carrying → plain.Rhs). total_rhs (having f) (g how)) (fold-roll-Carry F Place Nested Quest MutArg Exit Assign Loop Cf Acc Fold (plain.Args → plain.Args) plain.Exp plain.Rhs (plain.Steps → plain.Steps) (plain.Block → plain.Block) plain.Block (plain.Arms → plain.Arms) plain.Block (plain.Carrying → plain.Rhs) (arg_step names) (exp_step names) (rhs_step names) (step_step names) (stmt_step names) (tail_step names) (arm_step names) (block_step names) (carry_step names) _) ∙ omega (arith, off, c.low.1, c.high.1, c.first.1, c.body.1)

      arm_level : (y : Arm-F F Place Nested Quest MutArg Exit Assign Loop Cf Acc Fold Args Exps Rhss Steps Stmts Tails Arms Blocks Carrys) → No_arm (roll-Arm F Place Nested Quest MutArg Exit Assign Loop Cf Acc Fold (map-Arm F Place Nested Quest MutArg Exit Assign Loop Cf Acc Fold Args Exps Rhss Steps Stmts Tails Arms Blocks Carrys _ _ _ _ _ _ _ _ _ (λ x. x.0) (λ x. x.0) (λ x. x.0) (λ x. x.0) (λ x. x.0) (λ x. x.0) (λ x. x.0) (λ x. x.0) (λ x. x.0) y))
      arm_level x xs = ap (λ (g : plain.Arms → plain.Arms). total_arms (having f) (g xs)) (fold-roll-Arm F Place Nested Quest MutArg Exit Assign Loop Cf Acc Fold (plain.Args → plain.Args) plain.Exp plain.Rhs (plain.Steps → plain.Steps) (plain.Block → plain.Block) plain.Block (plain.Arms → plain.Arms) plain.Block (plain.Carrying → plain.Rhs) (arg_step names) (exp_step names) (rhs_step names) (step_step names) (stmt_step names) (tail_step names) (arm_step names) (block_step names) (carry_step names) _) ∙ omega (arith, x.block.1)

      step_level : (y : Step-F F Place Nested Quest MutArg Exit Assign Loop Cf Acc Fold Args Exps Rhss Steps Stmts Tails Arms Blocks Carrys) → No_step (roll-Step F Place Nested Quest MutArg Exit Assign Loop Cf Acc Fold (map-Step F Place Nested Quest MutArg Exit Assign Loop Cf Acc Fold Args Exps Rhss Steps Stmts Tails Arms Blocks Carrys _ _ _ _ _ _ _ _ _ (λ x. x.0) (λ x. x.0) (λ x. x.0) (λ x. x.0) (λ x. x.0) (λ x. x.0) (λ x. x.0) (λ x. x.0) (λ x. x.0) y))
      step_level (Step-F.At e) xs = ap (λ (g : plain.Steps → plain.Steps). total_steps (having f) (g xs)) (fold-roll-Step F Place Nested Quest MutArg Exit Assign Loop Cf Acc Fold (plain.Args → plain.Args) plain.Exp plain.Rhs (plain.Steps → plain.Steps) (plain.Block → plain.Block) plain.Block (plain.Arms → plain.Arms) plain.Block (plain.Carrying → plain.Rhs) (arg_step names) (exp_step names) (rhs_step names) (step_step names) (stmt_step names) (tail_step names) (arm_step names) (block_step names) (carry_step names) _) ∙ omega (arith, e.1)
      step_level (Step-F.Part i) xs = ap (λ (g : plain.Steps → plain.Steps). total_steps (having f) (g xs)) (fold-roll-Step F Place Nested Quest MutArg Exit Assign Loop Cf Acc Fold (plain.Args → plain.Args) plain.Exp plain.Rhs (plain.Steps → plain.Steps) (plain.Block → plain.Block) plain.Block (plain.Arms → plain.Arms) plain.Block (plain.Carrying → plain.Rhs) (arg_step names) (exp_step names) (rhs_step names) (step_step names) (stmt_step names) (tail_step names) (arm_step names) (block_step names) (carry_step names) _)

      stmt_level : (y : Stmt-F F Place Nested Quest MutArg Exit Assign Loop Cf Acc Fold Args Exps Rhss Steps Stmts Tails Arms Blocks Carrys) → No_stmt (roll-Stmt F Place Nested Quest MutArg Exit Assign Loop Cf Acc Fold (map-Stmt F Place Nested Quest MutArg Exit Assign Loop Cf Acc Fold Args Exps Rhss Steps Stmts Tails Arms Blocks Carrys _ _ _ _ _ _ _ _ _ (λ x. x.0) (λ x. x.0) (λ x. x.0) (λ x. x.0) (λ x. x.0) (λ x. x.0) (λ x. x.0) (λ x. x.0) (λ x. x.0) y))
      stmt_level (Stmt-F.Let p r) b = ap (λ (g : plain.Block → plain.Block). total_block (having f) (g b)) (fold-roll-Stmt F Place Nested Quest MutArg Exit Assign Loop Cf Acc Fold (plain.Args → plain.Args) plain.Exp plain.Rhs (plain.Steps → plain.Steps) (plain.Block → plain.Block) plain.Block (plain.Arms → plain.Arms) plain.Block (plain.Carrying → plain.Rhs) (arg_step names) (exp_step names) (rhs_step names) (step_step names) (stmt_step names) (tail_step names) (arm_step names) (block_step names) (carry_step names) _) ∙ omega (arith, r.1)
      stmt_level (Stmt-F.Do r) b = ap (λ (g : plain.Block → plain.Block). total_block (having f) (g b)) (fold-roll-Stmt F Place Nested Quest MutArg Exit Assign Loop Cf Acc Fold (plain.Args → plain.Args) plain.Exp plain.Rhs (plain.Steps → plain.Steps) (plain.Block → plain.Block) plain.Block (plain.Arms → plain.Arms) plain.Block (plain.Carrying → plain.Rhs) (arg_step names) (exp_step names) (rhs_step names) (step_step names) (stmt_step names) (tail_step names) (arm_step names) (block_step names) (carry_step names) _) ∙ omega (arith, r.1)
      stmt_level (Stmt-F.Place m at o k steps r) b = ap (λ (g : plain.Block → plain.Block). total_block (having f) (g b)) (fold-roll-Stmt F Place Nested Quest MutArg Exit Assign Loop Cf Acc Fold (plain.Args → plain.Args) plain.Exp plain.Rhs (plain.Steps → plain.Steps) (plain.Block → plain.Block) plain.Block (plain.Arms → plain.Arms) plain.Block (plain.Carrying → plain.Rhs) (arg_step names) (exp_step names) (rhs_step names) (step_step names) (stmt_step names) (tail_step names) (arm_step names) (block_step names) (carry_step names) _) ∙ omega (arith, one_off _ (place m), r.1, all_steps steps plain.here)
      stmt_level (Stmt-F.Set a k r) b = ap (λ (g : plain.Block → plain.Block). total_block (having f) (g b)) (fold-roll-Stmt F Place Nested Quest MutArg Exit Assign Loop Cf Acc Fold (plain.Args → plain.Args) plain.Exp plain.Rhs (plain.Steps → plain.Steps) (plain.Block → plain.Block) plain.Block (plain.Arms → plain.Arms) plain.Block (plain.Carrying → plain.Rhs) (arg_step names) (exp_step names) (rhs_step names) (step_step names) (stmt_step names) (tail_step names) (arm_step names) (block_step names) (carry_step names) _) ∙ omega (arith, one_off _ (assign a), r.1)
      stmt_level (Stmt-F.For l a i lo hi body) b = ap (λ (g : plain.Block → plain.Block). total_block (having f) (g b)) (fold-roll-Stmt F Place Nested Quest MutArg Exit Assign Loop Cf Acc Fold (plain.Args → plain.Args) plain.Exp plain.Rhs (plain.Steps → plain.Steps) (plain.Block → plain.Block) plain.Block (plain.Arms → plain.Arms) plain.Block (plain.Carrying → plain.Rhs) (arg_step names) (exp_step names) (rhs_step names) (step_step names) (stmt_step names) (tail_step names) (arm_step names) (block_step names) (carry_step names) _) ∙ omega (arith, two_off _ _ (loop l) (assign a), lo.1, hi.1, body.1)

      tail_level : (y : Tail-F F Place Nested Quest MutArg Exit Assign Loop Cf Acc Fold Args Exps Rhss Steps Stmts Tails Arms Blocks Carrys) → No_tail (roll-Tail F Place Nested Quest MutArg Exit Assign Loop Cf Acc Fold (map-Tail F Place Nested Quest MutArg Exit Assign Loop Cf Acc Fold Args Exps Rhss Steps Stmts Tails Arms Blocks Carrys _ _ _ _ _ _ _ _ _ (λ x. x.0) (λ x. x.0) (λ x. x.0) (λ x. x.0) (λ x. x.0) (λ x. x.0) (λ x. x.0) (λ x. x.0) (λ x. x.0) y))
      tail_level (Tail-F.Rhs r) = ap (total_block (having f)) (fold-roll-Tail F Place Nested Quest MutArg Exit Assign Loop Cf Acc Fold (plain.Args → plain.Args) plain.Exp plain.Rhs (plain.Steps → plain.Steps) (plain.Block → plain.Block) plain.Block (plain.Arms → plain.Arms) plain.Block (plain.Carrying → plain.Rhs) (arg_step names) (exp_step names) (rhs_step names) (step_step names) (stmt_step names) (tail_step names) (arm_step names) (block_step names) (carry_step names) _) ∙ omega (arith, r.1)
      tail_level (Tail-F.Return x e) = ap (total_block (having f)) (fold-roll-Tail F Place Nested Quest MutArg Exit Assign Loop Cf Acc Fold (plain.Args → plain.Args) plain.Exp plain.Rhs (plain.Steps → plain.Steps) (plain.Block → plain.Block) plain.Block (plain.Arms → plain.Arms) plain.Block (plain.Carrying → plain.Rhs) (arg_step names) (exp_step names) (rhs_step names) (step_step names) (stmt_step names) (tail_step names) (arm_step names) (block_step names) (carry_step names) _) ∙ omega (arith, one_off _ (exit x), e.1)
      tail_level (Tail-F.Bind c around p r b) = ap (total_block (having f)) (fold-roll-Tail F Place Nested Quest MutArg Exit Assign Loop Cf Acc Fold (plain.Args → plain.Args) plain.Exp plain.Rhs (plain.Steps → plain.Steps) (plain.Block → plain.Block) plain.Block (plain.Arms → plain.Arms) plain.Block (plain.Carrying → plain.Rhs) (arg_step names) (exp_step names) (rhs_step names) (step_step names) (stmt_step names) (tail_step names) (arm_step names) (block_step names) (carry_step names) _) ∙ omega (arith, one_off _ (cf c), r.1, b.1)

      block_level : (y : Block-F F Place Nested Quest MutArg Exit Assign Loop Cf Acc Fold Args Exps Rhss Steps Stmts Tails Arms Blocks Carrys) → No_block (roll-Block F Place Nested Quest MutArg Exit Assign Loop Cf Acc Fold (map-Block F Place Nested Quest MutArg Exit Assign Loop Cf Acc Fold Args Exps Rhss Steps Stmts Tails Arms Blocks Carrys _ _ _ _ _ _ _ _ _ (λ x. x.0) (λ x. x.0) (λ x. x.0) (λ x. x.0) (λ x. x.0) (λ x. x.0) (λ x. x.0) (λ x. x.0) (λ x. x.0) y))
      block_level b = ap (total_block (having f)) (fold-roll-Block F Place Nested Quest MutArg Exit Assign Loop Cf Acc Fold (plain.Args → plain.Args) plain.Exp plain.Rhs (plain.Steps → plain.Steps) (plain.Block → plain.Block) plain.Block (plain.Arms → plain.Arms) plain.Block (plain.Carrying → plain.Rhs) (arg_step names) (exp_step names) (rhs_step names) (step_step names) (stmt_step names) (tail_step names) (arm_step names) (block_step names) (carry_step names) _) ∙ all_stmts b.statements (tail_of names b.tail.0) ∙ b.tail.1

      no_exp : (e : Exp F Place Nested Quest MutArg Exit Assign Loop Cf Acc Fold) → No_exp e
      no_exp =
          ind-Exp F Place Nested Quest MutArg Exit Assign Loop Cf Acc Fold No_arg No_exp No_rhs No_step No_stmt No_tail No_arm No_block No_carry
          (λ x y is. subst (λ z. No_arg (roll-Arg F Place Nested Quest MutArg Exit Assign Loop Cf Acc Fold z)) is (arg_level y))
          (λ x y is. subst (λ z. No_exp (roll-Exp F Place Nested Quest MutArg Exit Assign Loop Cf Acc Fold z)) is (exp_level y))
          (λ x y is. subst (λ z. No_rhs (roll-Rhs F Place Nested Quest MutArg Exit Assign Loop Cf Acc Fold z)) is (rhs_level y))
          (λ x y is. subst (λ z. No_step (roll-Step F Place Nested Quest MutArg Exit Assign Loop Cf Acc Fold z)) is (step_level y))
          (λ x y is. subst (λ z. No_stmt (roll-Stmt F Place Nested Quest MutArg Exit Assign Loop Cf Acc Fold z)) is (stmt_level y))
          (λ x y is. subst (λ z. No_tail (roll-Tail F Place Nested Quest MutArg Exit Assign Loop Cf Acc Fold z)) is (tail_level y))
          (λ x y is. subst (λ z. No_arm (roll-Arm F Place Nested Quest MutArg Exit Assign Loop Cf Acc Fold z)) is (arm_level y))
          (λ x y is. subst (λ z. No_block (roll-Block F Place Nested Quest MutArg Exit Assign Loop Cf Acc Fold z)) is (block_level y))
          (λ x y is. subst (λ z. No_carry (roll-Carry F Place Nested Quest MutArg Exit Assign Loop Cf Acc Fold z)) is (carry_level y))

      no_block : (b : Block F Place Nested Quest MutArg Exit Assign Loop Cf Acc Fold) → No_block b
      no_block =
          ind-Block F Place Nested Quest MutArg Exit Assign Loop Cf Acc Fold No_arg No_exp No_rhs No_step No_stmt No_tail No_arm No_block No_carry
          (λ x y is. subst (λ z. No_arg (roll-Arg F Place Nested Quest MutArg Exit Assign Loop Cf Acc Fold z)) is (arg_level y))
          (λ x y is. subst (λ z. No_exp (roll-Exp F Place Nested Quest MutArg Exit Assign Loop Cf Acc Fold z)) is (exp_level y))
          (λ x y is. subst (λ z. No_rhs (roll-Rhs F Place Nested Quest MutArg Exit Assign Loop Cf Acc Fold z)) is (rhs_level y))
          (λ x y is. subst (λ z. No_step (roll-Step F Place Nested Quest MutArg Exit Assign Loop Cf Acc Fold z)) is (step_level y))
          (λ x y is. subst (λ z. No_stmt (roll-Stmt F Place Nested Quest MutArg Exit Assign Loop Cf Acc Fold z)) is (stmt_level y))
          (λ x y is. subst (λ z. No_tail (roll-Tail F Place Nested Quest MutArg Exit Assign Loop Cf Acc Fold z)) is (tail_level y))
          (λ x y is. subst (λ z. No_arm (roll-Arm F Place Nested Quest MutArg Exit Assign Loop Cf Acc Fold z)) is (arm_level y))
          (λ x y is. subst (λ z. No_block (roll-Block F Place Nested Quest MutArg Exit Assign Loop Cf Acc Fold z)) is (block_level y))
          (λ x y is. subst (λ z. No_carry (roll-Carry F Place Nested Quest MutArg Exit Assign Loop Cf Acc Fold z)) is (carry_level y))

    no_params : (names : List plain.Name) (ps : List (Param F Place Nested Quest MutArg Exit Assign Loop Cf Acc Fold)) → uses_params f (map (param_of names) ps) ≡ 0
    no_params names [] = refl
    no_params names (p ∷ ps) = omega (arith, no_mode p.mode, no_params names ps)
      where
        no_mode : (m : Mode F Place Nested Quest MutArg Exit Assign Loop Cf Acc Fold) → mark (list_any (same f) (features_mode (mode_of m))) ≡ 0
        no_mode mode.Val = refl
        no_mode mode.Ref = refl
        no_mode (mode.Mut m) = one_off _ (mut_arg m)

    no_functions : (gs : List (Function F Place Nested Quest MutArg Exit Assign Loop Cf Acc Fold)) → uses_functions f (map function_of gs) ≡ 0
    no_functions [] = refl
    no_functions (g ∷ gs) = omega (arith, no_params g.body.locals g.params, no_block g.body.locals g.body.block, no_functions gs)

    no_constants : (cs : List (Constant F Place Nested Quest MutArg Exit Assign Loop Cf Acc Fold)) → uses_constants f (map constant_of cs) ≡ 0
    no_constants [] = refl
    no_constants (c ∷ cs) = omega (arith, no_exp [] c.value, no_constants cs)

    pub no_uses : (p : Program F Place Nested Quest MutArg Exit Assign Loop Cf Acc Fold) → uses f (program_of p) ≡ 0
    no_uses p = omega (arith, no_constants p.constants, no_functions p.functions)

-- the feature of a number
abbrev numbered : ℕ → Feature
numbered zero = feature.Place
numbered (suc zero) = feature.Nested
numbered (suc (suc zero)) = feature.Quest
numbered (suc (suc (suc zero))) = feature.MutArg
numbered (suc (suc (suc (suc zero)))) = feature.Exit
numbered (suc (suc (suc (suc (suc zero))))) = feature.Assign
numbered (suc (suc (suc (suc (suc (suc zero)))))) = feature.Loop
numbered (suc (suc (suc (suc (suc (suc (suc zero))))))) = feature.Cf
numbered (suc (suc (suc (suc (suc (suc (suc (suc zero)))))))) = feature.Acc
numbered (suc (suc (suc (suc (suc (suc (suc (suc (suc n))))))))) = feature.Fold

numbered_back : (f : Feature) → numbered (number f) ≡ f
numbered_back feature.Place = refl
numbered_back feature.Nested = refl
numbered_back feature.Quest = refl
numbered_back feature.MutArg = refl
numbered_back feature.Exit = refl
numbered_back feature.Assign = refl
numbered_back feature.Loop = refl
numbered_back feature.Cf = refl
numbered_back feature.Acc = refl
numbered_back feature.Fold = refl

-- a feature that is off is not one that is on
pub apart : (stage : Stage) (f g : Feature) → stage g ≡ true → stage f ≡ false → same f g ≡ false
apart stage f g on off = go (same f g) refl
  where
    go : (b : Bool) → same f g ≡ b → b ≡ false
    go false e = refl
    go true e =
        let n : number f ≡ number g = (Decides-eqb (number f) (number g)).0 e in
        let h : f ≡ g = sym (numbered_back f) ∙ ap numbered n ∙ numbered_back g in absurd (cc)
