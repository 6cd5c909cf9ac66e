-- The tree of every stage, without node types, places in the text, `mut` marks and lists of locals: what runs, counts, types and
-- texts are defined on.
use Rattle.std.specs.Prelude.{ℕ, Bool, true, false, List, Option}
use Rattle.hs_words.specs.Word.{Integer}
use Rattle.hs_values.specs.declared.types.ValType.{ValType}
use Rattle.hs_values.specs.declared.types.TypeDef.{TypeDef}

-- a name, by its bytes
abbrev pub Name : Type 0
Name = List ℕ

-- a local: its name and its number
pub record Local : Type 0 where
  pub name : Name
  pub number : ℕ

-- how a loop that carries a value along stands in the tree: as turns or as a fold, and whether control values end it
pub data Carrying : Type 0 where
  turns : Carrying
  turnscf : Carrying
  fold : Carrying
  foldcf : Carrying

-- whose block a binding of a control value stands in: the function's own, or one inside it
pub data Around : Type 0 where
  top : Around
  inside : Around

mutual
  -- a pattern: a local, `_`, the parts of a tuple, the parts of a constructor of a type
  pub data Pattern : Type 0 where
    binds : Local → Pattern
    anything : Pattern
    parts : Patterns → Pattern
    taken : ValType → Name → Patterns → Pattern

  -- patterns, from left to right
  pub data Patterns : Type 0 where
    no_patterns : Patterns
    pattern : Pattern → Patterns → Patterns

mutual
  -- an expression
  pub data Exp : Type 0 where
    -- a local
    var : Local → Exp
    -- a number of a kind
    lit : Integer → Exp
    -- a truth value
    truth : Bool → Exp
    -- unit
    unit : Exp
    -- the constant of the name
    const : Name → Exp
    -- a tuple of these parts
    tuple : Exps → Exp
    -- an array of these items
    list : Exps → Exp
    -- a constructor of a type, by its name, with these parts
    ctor : ValType → Name → Exps → Exp
    -- an operation, by its name, on these operands
    op : Name → Exps → Exp
    -- a call of the function of the name with these arguments
    call : Name → Exps → Exp
    -- the second is run only where the first is true
    and : Exp → Exp → Exp
    -- the second is run only where the first is false
    or : Exp → Exp → Exp
    -- a right side inside
    in_side : Rhs → Exp
    -- the control value that ends what takes it
    exit : Exp → Exp
    -- the control value that goes on
    cont : Exp → Exp

  -- expressions, from left to right
  pub data Exps : Type 0 where
    no_exps : Exps
    exp : Exp → Exps → Exps

  -- arguments, from left to right: an expression, or a local that is lent
  pub data Args : Type 0 where
    no_args : Args
    arg : Exp → Args → Args
    lend : Local → Args → Args

  -- a right side
  pub data Rhs : Type 0 where
    plain : Exp → Rhs
    -- the first block where the condition is true, else the second
    if_else : Exp → Block → Block → Rhs
    -- the first arm that fits
    match_on : Exp → Arms → Rhs
    -- a block inside
    block : Block → Rhs
    -- a call that lends locals
    lendcall : Name → Args → Rhs
    -- `?`
    quest : Exp → Rhs
    -- a loop whose body gives control values
    forcf : Local → Exp → Exp → Block → Rhs
    -- a loop from the first bound up to the second, which carries a value along: the first one, and the pattern that takes it
    carry : Carrying → Local → Exp → Exp → Exp → Pattern → Block → Rhs

  -- the arms of a match, from first to last
  pub data Arms : Type 0 where
    no_arms : Arms
    arm : Pattern → Block → Arms → Arms

  -- the way from a local to the part of it that is assigned, from the outside in
  pub data Steps : Type 0 where
    here : Steps
    -- the item at the place that the expression gives
    at : Exp → Steps → Steps
    -- the part of this number
    part : ℕ → Steps → Steps

  -- a block: its first statement and the rest, or its end
  pub data Block : Type 0 where
    let_in : Pattern → Rhs → Block → Block
    do_in : Rhs → Block → Block
    set_in : Local → Rhs → Block → Block
    -- an assignment to a part of a local, or with the operator of this name
    place_in : Option Name → Local → Steps → Rhs → Block → Block
    for_in : Local → Exp → Exp → Block → Block → Block
    -- the block gives the value of the right side
    ends : Rhs → Block
    -- the function gives the value of the expression
    returns : Exp → Block
    -- a control value decides: its end is the block's value, or what it carries goes to the pattern
    bind : Around → Pattern → Rhs → Block → Block

-- how a parameter is taken: by its value, lent, or lent to be changed
pub data Mode : Type 0 where
  val : Mode
  ref : Mode
  mut : Mode

-- whether the final value of a parameter of the mode goes back to the lent local
abbrev pub is_mut : Mode → Bool
is_mut val = false
is_mut ref = false
is_mut mut = true

-- whether an argument for a parameter of the mode is lent, and not taken
abbrev pub is_lent : Mode → Bool
is_lent val = false
is_lent ref = true
is_lent mut = true

-- a parameter
pub record Param : Type 0 where
  pub mode : Mode
  pub local : Local
  pub type : ValType

-- a function, which gives a value of the type
pub record Function : Type 0 where
  pub name : Name
  pub params : List Param
  pub type : ValType
  pub body : Block

-- a constant
pub record Constant : Type 0 where
  pub name : Name
  pub type : ValType
  pub value : Exp

-- a program: its types, constants and functions, each in the order of items
pub record Program : Type 0 where
  pub types : List TypeDef
  pub constants : List Constant
  pub functions : List Function
