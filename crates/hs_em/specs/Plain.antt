-- Emitted modules as plain data: what spelling, scoping, texts and meanings are defined on.
use Rattle.std.specs.Prelude.{ℕ, Bool, List, [], ◌∷◌}
use Rattle.hs_words.specs.Word.{Integer}
use Rattle.hs_words.specs.declared.kinds.IntTy.{IntTy}

-- a name, by its bytes, without the prefix with which it is printed
abbrev pub Name : Type 0
Name = List ℕ

-- a local, by its name and its number; both are printed
pub record Var : Type 0 where
  pub name : Name
  pub number : ℕ

mutual
  -- a type
  pub data Ty : Type 0 where
    unit_type : Ty
    bool_type : Ty
    int_type : IntTy → Ty
    seq_type : Ty → Ty
    option_type : Ty → Ty
    result_type : Ty → Ty → Ty
    tuple_type : Tys → Ty
    named_type : Name → Ty

  -- types, from left to right
  pub data Tys : Type 0 where
    no_types : Tys
    type : Ty → Tys → Tys

mutual
  -- a pattern: a local, `_`, the parts of a tuple, the parts of a constructor, by the name of its type and its own
  pub data Pat : Type 0 where
    binds : Var → Pat
    anything : Pat
    parts : Pats → Pat
    taken : Name → Name → Pats → Pat

  -- patterns, from left to right
  pub data Pats : Type 0 where
    no_patterns : Pats
    pattern : Pat → Pats → Pats

-- which constructor of an option or a result has a part
pub data Holder : Type 0 where
  some : Holder
  ok : Holder
  err : Holder

-- what an arm takes: a constructor without parts or with them, an option without a part, an option or a result with one, anything
pub data Arm : Type 0 where
  on_ctor : Name → Name → Arm
  on_parts : Name → Name → Pats → Arm
  on_none : Arm
  on_holder : Holder → Pat → Arm
  on_any : Arm

-- what is written round a value that it holds: an option or a result, or one of the two control values
pub data Wrap : Type 0 where
  holder : Holder → Wrap
  exit : Wrap
  cont : Wrap

-- what becomes of a value that an end holds: at a function's own binding it is the value, inside it stays in an end
pub data Around : Type 0 where
  top : Around
  inside : Around

-- whether control values end a fold
pub data Folding : Type 0 where
  whole : Folding
  control : Folding

mutual
  -- an expression. X says what stands where a local stands: in a module a local; where a definition runs, a local or the value in its place
  pub data Em (X : Type 0) : Type 0 where
    -- patterns bound to values, one after the other, for what follows
    lets : Lets X → Em X → Em X
    -- a local
    local : X → Em X
    -- the constant of the name
    const : Name → Em X
    -- a constructor without parts, by the name of its type and its own
    ctor : Name → Name → Em X
    -- the option without a part
    none : Em X
    -- a truth value
    truth : Bool → Em X
    -- unit
    unit : Em X
    -- a number of a kind
    lit : Integer → Em X
    -- a constructor with these parts
    build : Name → Name → Ems X → Em X
    -- an operation, by its name, on these operands
    op : Name → Ems X → Em X
    -- an option, a result or a control value that holds this
    wrap : Wrap → Em X → Em X
    -- a call of the definition of the name with these arguments
    call : Name → Ems X → Em X
    -- a tuple of these parts
    tuple : Ems X → Em X
    -- an array of these items
    list : Ems X → Em X
    -- the second where the first is true, else the third
    if_else : Em X → Em X → Em X → Em X
    -- the first case whose arm takes the value
    match_on : Em X → Cases X → Em X
    -- a control value decides: its end, or what it goes on with, which goes to the pattern
    bind : Around → Em X → Pat → Em X → Em X
    -- a fold from the first number up to the second, from the third value on; the local takes the number, the pattern the value so far
    fold : Folding → Em X → Em X → Em X → Var → Pat → Em X → Em X

  -- expressions, from left to right
  pub data Ems (X : Type 0) : Type 0 where
    no_ems : Ems X
    em : Em X → Ems X → Ems X

  -- the cases of a match, from first to last
  pub data Cases (X : Type 0) : Type 0 where
    no_cases : Cases X
    case : Arm → Em X → Cases X → Cases X

  -- patterns bound to values, from first to last
  pub data Lets (X : Type 0) : Type 0 where
    no_lets : Lets X
    bound : Pat → Em X → Lets X → Lets X

-- types, patterns and expressions from lists of them
abbrev pub tys_of : List Ty → Tys
tys_of [] = no_types
tys_of (t ∷ ts) = type t (tys_of ts)

abbrev pub pats_of : List Pat → Pats
pats_of [] = no_patterns
pats_of (p ∷ ps) = pattern p (pats_of ps)

abbrev pub ems_of : {X : Type 0} → List (Em X) → Ems X
ems_of [] = no_ems
ems_of (e ∷ es) = em e (ems_of es)

-- an expression of a module
abbrev pub Exp : Type 0
Exp = Em Var

-- a constructor of a type
pub record Ctor : Type 0 where
  pub name : Name
  pub parts : Tys

-- what a type with a name is: the arrays of so many items, or what the constructors make
pub data Kind : Type 0 where
  array : Ty → ℕ → Kind
  ctors : List Ctor → Kind

-- a type with a name
pub record TypeDef : Type 0 where
  pub name : Name
  pub kind : Kind

-- a constant
pub record Const : Type 0 where
  pub name : Name
  pub type : Ty
  pub body : Exp

-- a parameter of a definition
pub record Par : Type 0 where
  pub local : Var
  pub type : Ty

-- a definition
pub record Def : Type 0 where
  pub name : Name
  pub params : List Par
  pub result : Ty
  pub body : Exp

-- a module: its name, and its types, constants and definitions, each in order
pub record Module : Type 0 where
  pub name : Name
  pub types : List TypeDef
  pub consts : List Const
  pub defs : List Def
