-- Stores and outcomes of runs.
use Rattle.std.specs.Prelude.{ℕ, cond, eqb}
use Rattle.hs_first_tree.specs.Value.{Value, Panic}

-- what a local holds: it is not bound, its value was moved out, or a value
pub data Slot : Type 0 where
  Empty : Slot
  Moved : Slot
  Has : Value → Slot

-- what each local holds, by its number
abbrev pub Store : Type 0
Store = ℕ → Slot

-- no local is bound
abbrev pub empty : Store
empty = λ j. Empty

-- the store with one slot written
abbrev pub put : Store → ℕ → Slot → Store
put s k x = λ j. cond (eqb j k) x (s j)

-- how a run ends: with a value, by leaving its function with a value, or by a panic
pub data Outcome : Type 0 where
  Gives : Value → Outcome
  Exits : Value → Outcome
  Panics : Panic → Outcome
