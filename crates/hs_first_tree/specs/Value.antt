-- Types and values. The language has one type yet, so a value is a number of that type.
use Rattle.std.specs.Prelude.{ℕ, ◌^◌, ◌<◌, List, [], ◌∷◌}

-- the types
pub data ValType : Type 0 where
  U32 : ValType

-- the values; a number without bound, which its type then bounds
pub data Value : Type 0 where
  Number : ℕ → Value

-- the causes of a panic
pub data Panic : Type 0 where
  Overflow : Panic
  Division : Panic
  Shift : Panic
  Index : Panic
  Length : Panic
  Unwrap : Panic

-- the value is of the type, and its number is in the type's range
abbrev pub Fits : Value → ValType → Type 0
Fits (Number n) U32 = n < 2 ^ 32

-- as many values as types, each of which fits the type at its place
abbrev pub FitsAll : List Value → List ValType → Type 0
FitsAll [] [] = Unit {0}
FitsAll [] (t ∷ ts) = ⊥
FitsAll (v ∷ vs) [] = ⊥
FitsAll (v ∷ vs) (t ∷ ts) = Fits v t × FitsAll vs ts
