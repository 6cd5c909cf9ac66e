-- Emitted modules: trees in the manner of F*, the last form of a program.
use Rattle.std.specs.Prelude.{ℕ, List}
use Rattle.hs_first_tree.specs.Value.{ValType, Value}

-- a local, by its name and its number; both are printed
pub record EmVar : Type 0 where
  pub name : List ℕ
  pub number : ℕ

mutual
  -- an expression: a local, a number of u32, an operation by its name, an expression in which a local is bound to another's value;
  -- or a value in the place of a local, which no text has
  pub data Em : Type 0 where
    local : EmVar → Em
    number : ℕ → Em
    op : List ℕ → Ems → Em
    bind : EmVar → Em → Em → Em
    given : Value → Em

  -- operands, from left to right
  pub data Ems : Type 0 where
    no_ems : Ems
    em : Em → Ems → Ems

-- a parameter of a definition
pub record EmPar : Type 0 where
  pub var : EmVar
  pub type : ValType

-- a definition
pub record EmDef : Type 0 where
  pub name : List ℕ
  pub params : List EmPar
  pub returns : ValType
  pub body : Em

-- a module: its name, and its definitions in order
pub record Module : Type 0 where
  pub name : List ℕ
  pub defs : List EmDef
