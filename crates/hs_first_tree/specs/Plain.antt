-- The tree of every stage, without features: what runs and counts are defined on.
use Rattle.std.specs.Prelude.{ℕ, List}
use Rattle.hs_first_tree.specs.Value.{ValType}

mutual
  -- an expression: a local by its number, a number of u32, an operation by its name
  pub data Exp : Type 0 where
    var : ℕ → Exp
    lit : ℕ → Exp
    op : List ℕ → Exps → Exp

  -- operands, from left to right
  pub data Exps : Type 0 where
    no_exps : Exps
    exp : Exp → Exps → Exps

  -- a right side
  pub data Rhs : Type 0 where
    plain : Exp → Rhs

  -- a statement: a binding of a local, or an assignment to one
  pub data Stmt : Type 0 where
    bind : ℕ → Rhs → Stmt
    set : ℕ → Rhs → Stmt

  -- statements, from first to last
  pub data Stmts : Type 0 where
    no_stmts : Stmts
    stmt : Stmt → Stmts → Stmts

  -- statements and the block's value
  pub data Block : Type 0 where
    ends : Stmts → Rhs → Block

-- a parameter: the number of its local, and its type
pub record Param : Type 0 where
  pub local : ℕ
  pub type : ValType

-- a function: its name, the names of its locals by number, its parameters, its result's type and its block
pub record Function : Type 0 where
  pub name : List ℕ
  pub locals : List (List ℕ)
  pub params : List Param
  pub returns : ValType
  pub block : Block
