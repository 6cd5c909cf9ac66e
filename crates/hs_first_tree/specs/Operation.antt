-- Operations by their names: what each gives for its arguments, or why it gives nothing.
use Rattle.std.specs.Prelude.{ℕ, ◌+◌, ◌^◌, List, [], ◌∷◌, ltb, bytes_eq, codes, Option, Some, None, if◌then◌else◌}
use Rattle.hs_first_tree.specs.Value.{ValType, U32, Value, Number, Panic, Overflow}

-- a value, a panic, or that the name or the arguments are no operation's
pub data Applied : Type 0 where
  Is : Value → Applied
  Fails : Panic → Applied
  Kind : Applied

-- the number as a value of u32, which panics where it does not fit
abbrev pub checked_u32 : ℕ → Applied
checked_u32 n = if ltb n (2 ^ 32) then Is (Number n) else Fails Overflow

-- the sum of two numbers of u32
abbrev pub u32_add : List Value → Applied
u32_add (Number a ∷ Number b ∷ []) = checked_u32 (a + b)
u32_add _ = Kind

-- the operation of this name on these arguments
abbrev pub applied : List ℕ → List Value → Applied
applied name arguments = if bytes_eq name (codes "u32_add") then u32_add arguments else Kind

-- the types of an operation's arguments, and of what it gives; none where the name is no operation's
abbrev pub row_types : List ℕ → Option (List ValType × ValType)
row_types name = if bytes_eq name (codes "u32_add") then Some (U32 ∷ U32 ∷ [], U32) else None
