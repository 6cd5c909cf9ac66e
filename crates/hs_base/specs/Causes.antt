-- Counts of faults, and what an answer says of them.
use Rattle.std.specs.Prelude.{ℕ, ◌+◌, ◌-◌, ◌^◌, ◌≤◌, min, List, take, OnErr, Result}
use Rattle.std.specs.declared.option.Option.{Option}
use Rattle.std.specs.Io.KnownBytes.{Appends}

-- one more, in a count that stands still at the greatest number of a u64
abbrev pub next_of : ℕ → ℕ
next_of count = min (count + 1) (2 ^ 64 - 1)

-- the count went up, or stands at the greatest number of a u64
abbrev pub Rose : ℕ → ℕ → Type 0
Rose before now = next_of before ≤ now

-- the count never falls, and an error comes only where it rose
pub record HasCause {T E : Type 0} (before now : ℕ) (result : Result T E) : Type 0 where
  pub later : before ≤ now
  pub failed : OnErr result (Rose before now)

-- known bytes grew by some bytes at the front of bs
abbrev pub TookPrefix : Option (List ℕ) → Option (List ℕ) → List ℕ → Type 0
TookPrefix old new bs = (n : ℕ) × Appends old new (take n bs)
