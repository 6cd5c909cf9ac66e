-- The plain tree that a tree of any stage stands for.
use Rattle.std.specs.Prelude.{List, [], ◌∷◌, map}
use Rattle.hs_first_tree.specs.Value as value
use Rattle.hs_first_tree.specs.Plain as plain
use Rattle.hs_first_tree.specs.declared.node.Exp.{Exp}
use Rattle.hs_first_tree.specs.declared.node.Exp.TheOpen.{Exp-F, Rhs-F}
use Rattle.hs_first_tree.specs.declared.node.Exp.TheFolds.{fold-Exp, fold-Rhs}
use Rattle.hs_first_tree.specs.declared.node.Rhs.{Rhs}
use Rattle.hs_first_tree.specs.declared.node.Stmt.{Stmt}
use Rattle.hs_first_tree.specs.declared.node.Stmt.TheVariants.{Let, Set}
use Rattle.hs_first_tree.specs.declared.node.Block.{Block}
use Rattle.hs_first_tree.specs.declared.program.ValType.{ValType}
use Rattle.hs_first_tree.specs.declared.program.ValType.TheVariants.{U32}
use Rattle.hs_first_tree.specs.declared.program.Parameter.{Parameter}
use Rattle.hs_first_tree.specs.declared.program.Function.{Function}
use Rattle.hs_first_tree.specs.declared.program.Program.{Program}

-- a type
abbrev pub type_of : ValType → value.ValType
type_of U32 = value.U32

-- a parameter
abbrev pub param_of : Parameter → plain.Param
param_of p = record { local = p.local; type = type_of p.ty }

-- operands, from a list of them
abbrev pub exps_of : List plain.Exp → plain.Exps
exps_of [] = plain.no_exps
exps_of (e ∷ es) = plain.exp e (exps_of es)

-- statements, from a list of them
abbrev pub stmts_of : List plain.Stmt → plain.Stmts
stmts_of [] = plain.no_stmts
stmts_of (x ∷ xs) = plain.stmt x (stmts_of xs)

-- F is a set of features; the types of the marks of its nodes follow, in the order of the features
module _ {F Place Nested Quest MutArg Exit Assign Loop Cf Acc Fold : Type 0} where
  -- an expression, whose parts are plain already
  abbrev pub exp_step : Exp-F F Place Nested Quest MutArg Exit Assign Loop Cf Acc Fold plain.Exp plain.Rhs → plain.Exp
  exp_step (Exp-F.Var local) = plain.var local
  exp_step (Exp-F.Lit number) = plain.lit number
  exp_step (Exp-F.Op name operands) = plain.op name (exps_of operands)
  exp_step (Exp-F.In nested none rhs) = elim none [ ]

  -- a right side, whose parts are plain already
  abbrev pub rhs_step : Rhs-F F Place Nested Quest MutArg Exit Assign Loop Cf Acc Fold plain.Exp plain.Rhs → plain.Rhs
  rhs_step (Rhs-F.Exp e) = plain.plain e

  -- an expression
  abbrev pub exp_of : Exp F Place Nested Quest MutArg Exit Assign Loop Cf Acc Fold → plain.Exp
  exp_of = fold-Exp F Place Nested Quest MutArg Exit Assign Loop Cf Acc Fold plain.Exp plain.Rhs exp_step rhs_step

  -- a right side
  abbrev pub rhs_of : Rhs F Place Nested Quest MutArg Exit Assign Loop Cf Acc Fold → plain.Rhs
  rhs_of = fold-Rhs F Place Nested Quest MutArg Exit Assign Loop Cf Acc Fold plain.Exp plain.Rhs exp_step rhs_step

  -- a statement
  abbrev pub stmt_of : Stmt F Place Nested Quest MutArg Exit Assign Loop Cf Acc Fold → plain.Stmt
  stmt_of (Let local rhs) = plain.bind local (rhs_of rhs)
  stmt_of (Set mark local rhs) = plain.set local (rhs_of rhs)

  -- a block
  abbrev pub block_of : Block F Place Nested Quest MutArg Exit Assign Loop Cf Acc Fold → plain.Block
  block_of b = plain.ends (stmts_of (map stmt_of b.statements)) (rhs_of b.tail)

  -- a function
  abbrev pub function_of : Function F Place Nested Quest MutArg Exit Assign Loop Cf Acc Fold → plain.Function
  function_of f =
      record {
        name = f.name;
        locals = f.body.locals;
        params = map param_of f.parameters;
        returns = type_of f.result;
        block = block_of f.body.block;
      }

  -- a program: its functions in order
  abbrev pub program_of : Program F Place Nested Quest MutArg Exit Assign Loop Cf Acc Fold → List plain.Function
  program_of p = map function_of p.functions
