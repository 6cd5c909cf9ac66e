-- What a run knows beside its tree: the types, the constants, which arguments are lent, and which locals a read by value empties.
-- A source's run and a later stage's are one definition; they differ in `moves` alone.
use Rattle.std.specs.Prelude.{ℕ, Bool, true, false, not, eqb, List, [], ◌∷◌, Option, Some, None, bytes_eq, if◌then◌else◌}
use Rattle.hs_values.specs.declared.types.TypeDef.{TypeDef}
use Rattle.hs_ops.specs.declared.operation.SingleOp.TheVariants.{OptUnwrap, ResUnwrap, ListOf, Make, Set}
use Rattle.hs_ops.specs.declared.operation.Operation.{Operation}
use Rattle.hs_ops.specs.declared.operation.Operation.TheVariants.{SetPart, Single}
use Rattle.hs_ops.specs.Standard.{standard_table}
use Rattle.hs_ops.specs.Table.{operation_named}
use Rattle.hs_tree.specs.Plain.{Name, Exp, var, lit, truth, unit, const, tuple, list, ctor, op, call, and, or, in_side, exit, cont, Exps, no_exps, exp, Constant}
use Rattle.hs_control.specs.Control.{Val, Nothing, Truth, Number, Row, Tuple, Ctor, vals_of, Reply, Is, Fails, NoReply, applied}
use Rattle.hs_tree.specs.Match.{ctor_named}
use Rattle.hs_values.specs.declared.value.Sort.{Sort}

pub record World : Type 0 where
  -- the types that have names
  pub types : List TypeDef
  -- the value of the constant of a name
  pub constants : Name → Option Val
  -- whether the argument at a place of a call of the function of a name is lent: it is read and not taken
  pub lent : Name → ℕ → Bool
  -- whether a read by value of the local of a number leaves it moved: in a source, where its type is not copied; later, never
  pub moves : ℕ → Bool

-- whether an operation takes the operand at a place by value: what is unwrapped, and what becomes an item or a part. All others
-- are read alone, or are copied
abbrev pub by_value : Option Operation → ℕ → Bool
by_value (Some (Single OptUnwrap)) i = true
by_value (Some (Single ResUnwrap)) i = true
by_value (Some (Single ListOf)) i = true
by_value (Some (Single Make)) i = eqb i 0
by_value (Some (Single Set)) i = eqb i 2
by_value (Some (SetPart n j)) i = eqb i 1
by_value _ i = false

-- whether an operand of the operation of a name is lent
abbrev pub operand_lent : Name → ℕ → Bool
operand_lent name i = not (by_value (operation_named standard_table name) i)

-- no part of a tuple, a list or a constructor is lent
abbrev pub none_lent : ℕ → Bool
none_lent i = false

-- the constructor's value with these parts, where there is such a constructor
abbrev pub built : Option (Sort × ℕ) → List Val → Option Val
built None vs = None
built (Some c) vs = Some (Ctor c.0 c.1 (vals_of vs))

-- the value of a reply
abbrev pub value_in : Reply → Option Val
value_in (Is v) = Some v
value_in (Fails p) = None
value_in NoReply = None

-- what follows a list of values, where there is one
abbrev pub when : Option (List Val) → (List Val → Option Val) → Option Val
when None f = None
when (Some vs) f = f vs

-- a value before values, where both are there
abbrev pub both : Option Val → Option (List Val) → Option (List Val)
both None vs = None
both (Some v) None = None
both (Some v) (Some vs) = Some (v ∷ vs)

module _ (table : List TypeDef) (known : Name → Option Val) where
  abbrev mutual
    -- the value of a constant's expression, by those of earlier constants
    pub value_of : Exp → Option Val
    value_of (lit n) = Some (Number n)
    value_of (truth b) = Some (Truth b)
    value_of unit = Some Nothing
    value_of (const name) = known name
    value_of (tuple es) = when (values_of es) (λ vs. Some (Tuple (vals_of vs)))
    value_of (list es) = when (values_of es) (λ vs. Some (Row (vals_of vs)))
    value_of (ctor t name es) = when (values_of es) (built (ctor_named table t name))
    value_of (op name es) = when (values_of es) (λ vs. value_in (applied name vs))
    value_of (var k) = None
    value_of (call f es) = None
    value_of (and a b) = None
    value_of (or a b) = None
    value_of (in_side r) = None
    value_of (exit e) = None
    value_of (cont e) = None

    -- the same of expressions
    pub values_of : Exps → Option (List Val)
    values_of no_exps = Some []
    values_of (exp e es) = both (value_of e) (values_of es)

-- the values of constants, the last one first
abbrev pub constants_of : List TypeDef → List Constant → Name → Option Val
constants_of table [] name = None
constants_of table (c ∷ earlier) name =
    if bytes_eq c.name name then value_of table (constants_of table earlier) c.value else constants_of table earlier name
