-- The plain tree that a tree of any stage stands for.
use Rattle.std.specs.Prelude.{ℕ, List, [], ◌∷◌, map, Option, Some, None, slice_get}
use Rattle.hs_tree.specs.Plain as plain
use Rattle.hs_tree.specs.declared.node.Around.{Around}
use Rattle.hs_tree.specs.declared.node.Around.TheVariants as around
use Rattle.hs_tree.specs.declared.node.Pattern.{Pattern}
use Rattle.hs_tree.specs.declared.node.Pattern.TheOpen.{Pattern-F}
use Rattle.hs_tree.specs.declared.node.Pattern.TheFolds.{fold-Pattern}
use Rattle.hs_tree.specs.declared.node.Exp.{Exp}
use Rattle.hs_tree.specs.declared.node.Arg.{Arg}
use Rattle.hs_tree.specs.declared.node.Rhs.{Rhs}
use Rattle.hs_tree.specs.declared.node.Carry.{Carry}
use Rattle.hs_tree.specs.declared.node.Arm.{Arm}
use Rattle.hs_tree.specs.declared.node.Step.{Step}
use Rattle.hs_tree.specs.declared.node.Stmt.{Stmt}
use Rattle.hs_tree.specs.declared.node.Tail.{Tail}
use Rattle.hs_tree.specs.declared.node.Block.{Block}
use Rattle.hs_tree.specs.declared.node.Arg.TheOpen.{Exp-F, Arg-F, Rhs-F, Carry-F, Arm-F, Step-F, Stmt-F, Tail-F, Block-F}
use Rattle.hs_tree.specs.declared.node.Arg.TheFolds.{fold-Exp, fold-Arg, fold-Rhs, fold-Carry, fold-Arm, fold-Step, fold-Stmt, fold-Tail, fold-Block}
use Rattle.hs_tree.specs.declared.program.Mode.{Mode}
use Rattle.hs_tree.specs.declared.program.Mode.TheVariants as mode
use Rattle.hs_tree.specs.declared.program.Param.{Param}
use Rattle.hs_tree.specs.declared.program.Function.{Function}
use Rattle.hs_tree.specs.declared.program.Constant.{Constant}
use Rattle.hs_tree.specs.declared.program.Program.{Program}

-- expressions, from a list of them
abbrev pub exps_of : List plain.Exp → plain.Exps
exps_of [] = plain.no_exps
exps_of (e ∷ es) = plain.exp e (exps_of es)

-- patterns, from a list of them
abbrev pub patterns_of : List plain.Pattern → plain.Patterns
patterns_of [] = plain.no_patterns
patterns_of (p ∷ ps) = plain.pattern p (patterns_of ps)

-- each put before what follows, the last one before the end
abbrev pub chained : {A : Type 0} → List (A → A) → A → A
chained [] end = end
chained (f ∷ fs) end = f (chained fs end)

abbrev pub around_of : Around → plain.Around
around_of around.Top = plain.top
around_of around.Inside = plain.inside

-- a name at a place, or none
abbrev pub name_at : Option plain.Name → plain.Name
name_at None = []
name_at (Some name) = name

-- `names` are those of a function's locals
module _ (names : List plain.Name) where
  -- a local, with its name
  abbrev pub local : ℕ → plain.Local
  local k = record { name = name_at (slice_get names k); number = k }

  -- a pattern, whose parts are plain already
  abbrev pub pattern_step : Pattern-F plain.Pattern → plain.Pattern
  pattern_step (Pattern-F.Local k) = plain.binds (local k)
  pattern_step Pattern-F.Any = plain.anything
  pattern_step (Pattern-F.Tuple ps) = plain.parts (patterns_of ps)
  pattern_step (Pattern-F.Ctor t name ps) = plain.taken t name (patterns_of ps)

  abbrev pub pattern_of : Pattern → plain.Pattern
  pattern_of = fold-Pattern plain.Pattern pattern_step

  -- F is a set of features; the types of the marks of its nodes follow, in the order of the features
  module _ {F Place Nested Quest MutArg Exit Assign Loop Cf Acc Fold : Type 0} where
    -- an expression, whose parts are plain already
    abbrev pub exp_step : Exp-F F Place Nested Quest MutArg Exit Assign Loop Cf Acc Fold (plain.Args → plain.Args) plain.Exp plain.Rhs (plain.Steps → plain.Steps) (plain.Block → plain.Block) plain.Block (plain.Arms → plain.Arms) plain.Block (plain.Carrying → plain.Rhs) → plain.Exp
    exp_step (Exp-F.Var k at) = plain.var (local k)
    exp_step (Exp-F.Lit n) = plain.lit n
    exp_step (Exp-F.Truth b) = plain.truth b
    exp_step Exp-F.Unit = plain.unit
    exp_step (Exp-F.Const name) = plain.const name
    exp_step (Exp-F.Tuple es) = plain.tuple (exps_of es)
    exp_step (Exp-F.List es) = plain.list (exps_of es)
    exp_step (Exp-F.Ctor t name es) = plain.ctor t name (exps_of es)
    exp_step (Exp-F.Op name note es) = plain.op name (exps_of es)
    exp_step (Exp-F.Call f es) = plain.call f (exps_of es)
    exp_step (Exp-F.And a b) = plain.and a b
    exp_step (Exp-F.Or a b) = plain.or a b
    exp_step (Exp-F.In nested r) = plain.in_side r
    exp_step (Exp-F.Exit cf e) = plain.exit e
    exp_step (Exp-F.Cont cf e) = plain.cont e

    -- an argument, before others, whose parts are plain already
    abbrev pub arg_step : Arg-F F Place Nested Quest MutArg Exit Assign Loop Cf Acc Fold (plain.Args → plain.Args) plain.Exp plain.Rhs (plain.Steps → plain.Steps) (plain.Block → plain.Block) plain.Block (plain.Arms → plain.Arms) plain.Block (plain.Carrying → plain.Rhs) → plain.Args → plain.Args
    arg_step (Arg-F.Value e) = plain.arg e
    arg_step (Arg-F.Lend k at) = plain.lend (local k)

    -- a right side, whose parts are plain already
    abbrev pub rhs_step : Rhs-F F Place Nested Quest MutArg Exit Assign Loop Cf Acc Fold (plain.Args → plain.Args) plain.Exp plain.Rhs (plain.Steps → plain.Steps) (plain.Block → plain.Block) plain.Block (plain.Arms → plain.Arms) plain.Block (plain.Carrying → plain.Rhs) → plain.Rhs
    rhs_step (Rhs-F.Exp e) = plain.plain e
    rhs_step (Rhs-F.If e a b) = plain.if_else e a b
    rhs_step (Rhs-F.Match e xs) = plain.match_on e (chained xs plain.no_arms)
    rhs_step (Rhs-F.Block b) = plain.block b
    rhs_step (Rhs-F.LendCall lends f es) = plain.lendcall f (chained es plain.no_args)
    rhs_step (Rhs-F.Quest quest t e) = plain.quest e
    rhs_step (Rhs-F.ForCf loop assign cf i lo hi b) = plain.forcf (local i) lo hi b
    rhs_step (Rhs-F.Turns loop acc c) = c plain.turns
    rhs_step (Rhs-F.TurnsCf loop acc cf c) = c plain.turnscf
    rhs_step (Rhs-F.Fold fold c) = c plain.fold
    rhs_step (Rhs-F.FoldCf fold cf c) = c plain.foldcf

    -- what a loop that carries a value along has, by how it stands in the tree, whose parts are plain already
    abbrev pub carry_step : Carry-F F Place Nested Quest MutArg Exit Assign Loop Cf Acc Fold (plain.Args → plain.Args) plain.Exp plain.Rhs (plain.Steps → plain.Steps) (plain.Block → plain.Block) plain.Block (plain.Arms → plain.Arms) plain.Block (plain.Carrying → plain.Rhs) → plain.Carrying → plain.Rhs
    carry_step c how = plain.carry how (local c.variable) c.low c.high c.first (pattern_of c.pattern) c.body

    -- an arm, before others, whose parts are plain already
    abbrev pub arm_step : Arm-F F Place Nested Quest MutArg Exit Assign Loop Cf Acc Fold (plain.Args → plain.Args) plain.Exp plain.Rhs (plain.Steps → plain.Steps) (plain.Block → plain.Block) plain.Block (plain.Arms → plain.Arms) plain.Block (plain.Carrying → plain.Rhs) → plain.Arms → plain.Arms
    arm_step x = plain.arm (pattern_of x.pattern) x.block

    -- a step, before others, whose parts are plain already
    abbrev pub step_step : Step-F F Place Nested Quest MutArg Exit Assign Loop Cf Acc Fold (plain.Args → plain.Args) plain.Exp plain.Rhs (plain.Steps → plain.Steps) (plain.Block → plain.Block) plain.Block (plain.Arms → plain.Arms) plain.Block (plain.Carrying → plain.Rhs) → plain.Steps → plain.Steps
    step_step (Step-F.At e) = plain.at e
    step_step (Step-F.Part i) = plain.part i

    -- a statement, before the rest of its block, whose parts are plain already
    abbrev pub stmt_step : Stmt-F F Place Nested Quest MutArg Exit Assign Loop Cf Acc Fold (plain.Args → plain.Args) plain.Exp plain.Rhs (plain.Steps → plain.Steps) (plain.Block → plain.Block) plain.Block (plain.Arms → plain.Arms) plain.Block (plain.Carrying → plain.Rhs) → plain.Block → plain.Block
    stmt_step (Stmt-F.Let p r) = plain.let_in (pattern_of p) r
    stmt_step (Stmt-F.Do r) = plain.do_in r
    stmt_step (Stmt-F.Place place at o k steps r) = plain.place_in o (local k) (chained steps plain.here) r
    stmt_step (Stmt-F.Set assign k r) = plain.set_in (local k) r
    stmt_step (Stmt-F.For loop assign i lo hi b) = plain.for_in (local i) lo hi b

    -- the end of a block, whose parts are plain already
    abbrev pub tail_step : Tail-F F Place Nested Quest MutArg Exit Assign Loop Cf Acc Fold (plain.Args → plain.Args) plain.Exp plain.Rhs (plain.Steps → plain.Steps) (plain.Block → plain.Block) plain.Block (plain.Arms → plain.Arms) plain.Block (plain.Carrying → plain.Rhs) → plain.Block
    tail_step (Tail-F.Rhs r) = plain.ends r
    tail_step (Tail-F.Return exit e) = plain.returns e
    tail_step (Tail-F.Bind cf around p r b) = plain.bind (around_of around) (pattern_of p) r b

    -- a block, whose parts are plain already
    abbrev pub block_step : Block-F F Place Nested Quest MutArg Exit Assign Loop Cf Acc Fold (plain.Args → plain.Args) plain.Exp plain.Rhs (plain.Steps → plain.Steps) (plain.Block → plain.Block) plain.Block (plain.Arms → plain.Arms) plain.Block (plain.Carrying → plain.Rhs) → plain.Block
    block_step b = chained b.statements b.tail

    -- an expression
    abbrev pub exp_of : Exp F Place Nested Quest MutArg Exit Assign Loop Cf Acc Fold → plain.Exp
    exp_of = fold-Exp F Place Nested Quest MutArg Exit Assign Loop Cf Acc Fold (plain.Args → plain.Args) plain.Exp plain.Rhs (plain.Steps → plain.Steps) (plain.Block → plain.Block) plain.Block (plain.Arms → plain.Arms) plain.Block (plain.Carrying → plain.Rhs) arg_step exp_step rhs_step step_step stmt_step tail_step arm_step block_step carry_step

    -- an argument, before others
    abbrev pub arg_of : Arg F Place Nested Quest MutArg Exit Assign Loop Cf Acc Fold → plain.Args → plain.Args
    arg_of = fold-Arg F Place Nested Quest MutArg Exit Assign Loop Cf Acc Fold (plain.Args → plain.Args) plain.Exp plain.Rhs (plain.Steps → plain.Steps) (plain.Block → plain.Block) plain.Block (plain.Arms → plain.Arms) plain.Block (plain.Carrying → plain.Rhs) arg_step exp_step rhs_step step_step stmt_step tail_step arm_step block_step carry_step

    -- a right side
    abbrev pub rhs_of : Rhs F Place Nested Quest MutArg Exit Assign Loop Cf Acc Fold → plain.Rhs
    rhs_of = fold-Rhs F Place Nested Quest MutArg Exit Assign Loop Cf Acc Fold (plain.Args → plain.Args) plain.Exp plain.Rhs (plain.Steps → plain.Steps) (plain.Block → plain.Block) plain.Block (plain.Arms → plain.Arms) plain.Block (plain.Carrying → plain.Rhs) arg_step exp_step rhs_step step_step stmt_step tail_step arm_step block_step carry_step

    -- what a loop that carries a value along has, by how it stands in the tree
    abbrev pub carry_of : Carry F Place Nested Quest MutArg Exit Assign Loop Cf Acc Fold → plain.Carrying → plain.Rhs
    carry_of = fold-Carry F Place Nested Quest MutArg Exit Assign Loop Cf Acc Fold (plain.Args → plain.Args) plain.Exp plain.Rhs (plain.Steps → plain.Steps) (plain.Block → plain.Block) plain.Block (plain.Arms → plain.Arms) plain.Block (plain.Carrying → plain.Rhs) arg_step exp_step rhs_step step_step stmt_step tail_step arm_step block_step carry_step

    -- an arm, before others
    abbrev pub arm_of : Arm F Place Nested Quest MutArg Exit Assign Loop Cf Acc Fold → plain.Arms → plain.Arms
    arm_of = fold-Arm F Place Nested Quest MutArg Exit Assign Loop Cf Acc Fold (plain.Args → plain.Args) plain.Exp plain.Rhs (plain.Steps → plain.Steps) (plain.Block → plain.Block) plain.Block (plain.Arms → plain.Arms) plain.Block (plain.Carrying → plain.Rhs) arg_step exp_step rhs_step step_step stmt_step tail_step arm_step block_step carry_step

    -- a step, before others
    abbrev pub step_of : Step F Place Nested Quest MutArg Exit Assign Loop Cf Acc Fold → plain.Steps → plain.Steps
    step_of = fold-Step F Place Nested Quest MutArg Exit Assign Loop Cf Acc Fold (plain.Args → plain.Args) plain.Exp plain.Rhs (plain.Steps → plain.Steps) (plain.Block → plain.Block) plain.Block (plain.Arms → plain.Arms) plain.Block (plain.Carrying → plain.Rhs) arg_step exp_step rhs_step step_step stmt_step tail_step arm_step block_step carry_step

    -- a statement, before the rest of its block
    abbrev pub stmt_of : Stmt F Place Nested Quest MutArg Exit Assign Loop Cf Acc Fold → plain.Block → plain.Block
    stmt_of = fold-Stmt F Place Nested Quest MutArg Exit Assign Loop Cf Acc Fold (plain.Args → plain.Args) plain.Exp plain.Rhs (plain.Steps → plain.Steps) (plain.Block → plain.Block) plain.Block (plain.Arms → plain.Arms) plain.Block (plain.Carrying → plain.Rhs) arg_step exp_step rhs_step step_step stmt_step tail_step arm_step block_step carry_step

    -- the end of a block
    abbrev pub tail_of : Tail F Place Nested Quest MutArg Exit Assign Loop Cf Acc Fold → plain.Block
    tail_of = fold-Tail F Place Nested Quest MutArg Exit Assign Loop Cf Acc Fold (plain.Args → plain.Args) plain.Exp plain.Rhs (plain.Steps → plain.Steps) (plain.Block → plain.Block) plain.Block (plain.Arms → plain.Arms) plain.Block (plain.Carrying → plain.Rhs) arg_step exp_step rhs_step step_step stmt_step tail_step arm_step block_step carry_step

    -- a block
    abbrev pub block_of : Block F Place Nested Quest MutArg Exit Assign Loop Cf Acc Fold → plain.Block
    block_of = fold-Block F Place Nested Quest MutArg Exit Assign Loop Cf Acc Fold (plain.Args → plain.Args) plain.Exp plain.Rhs (plain.Steps → plain.Steps) (plain.Block → plain.Block) plain.Block (plain.Arms → plain.Arms) plain.Block (plain.Carrying → plain.Rhs) arg_step exp_step rhs_step step_step stmt_step tail_step arm_step block_step carry_step

-- F is a set of features, with the types of its marks
module _ {F Place Nested Quest MutArg Exit Assign Loop Cf Acc Fold : Type 0} where
  -- the mode of a parameter
  abbrev pub mode_of : Mode F Place Nested Quest MutArg Exit Assign Loop Cf Acc Fold → plain.Mode
  mode_of mode.Val = plain.val
  mode_of mode.Ref = plain.ref
  mode_of (mode.Mut mark) = plain.mut

  -- a parameter, by the names of its function's locals
  abbrev pub param_of : List plain.Name → Param F Place Nested Quest MutArg Exit Assign Loop Cf Acc Fold → plain.Param
  param_of names p = record { mode = mode_of p.mode; local = local names p.local; type = p.ty }

  -- a function
  abbrev pub function_of : Function F Place Nested Quest MutArg Exit Assign Loop Cf Acc Fold → plain.Function
  function_of f =
      record {
        name = f.name;
        params = map (param_of f.body.locals) f.params;
        type = f.ty;
        body = block_of f.body.locals f.body.block;
      }

  -- a constant, which has no locals
  abbrev pub constant_of : Constant F Place Nested Quest MutArg Exit Assign Loop Cf Acc Fold → plain.Constant
  constant_of c = record { name = c.name; type = c.ty; value = exp_of [] c.value }

  -- a program
  abbrev pub program_of : Program F Place Nested Quest MutArg Exit Assign Loop Cf Acc Fold → plain.Program
  program_of p = record { types = p.types; constants = map constant_of p.constants; functions = map function_of p.functions }

  -- the lists of its functions' locals
  abbrev pub locals_of : Program F Place Nested Quest MutArg Exit Assign Loop Cf Acc Fold → List (List plain.Name)
  locals_of p = map (λ f. f.body.locals) p.functions
