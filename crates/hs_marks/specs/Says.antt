-- What a walk through a tree gives: what is broken first, or a value where nothing is.
use Rattle.std.specs.Prelude.{◌≡◌, Option, Some, None, Result, Ok, Err}
use Rattle.hs_marks.specs.declared.breach.Breach.{Breach}
use Rattle.hs_marks.specs.declared.halt.Halt.{Halt}
use Rattle.hs_marks.specs.declared.halt.Halt.TheVariants as halt

-- no value, or one of which nothing is said
abbrev pub SaysNone : {A : Type 0} → Option Breach → Result A Breach → Type 0
SaysNone first (Ok a) = first ≡ None
SaysNone first (Err b) = first ≡ Some b

-- a value of which this holds
abbrev pub Says : {A : Type 0} → Option Breach → (A → Type 0) → Result A Breach → Type 0
Says first P (Ok a) = (first ≡ None) × P a
Says first P (Err b) = first ≡ Some b

-- a value that takes memory, of which there may be too little
abbrev pub Makes : {A : Type 0} → Option Breach → (A → Type 0) → Result A Halt → Type 0
Makes first P (Ok a) = (first ≡ None) × P a
Makes first P (Err (halt.Breach b)) = first ≡ Some b
Makes first P (Err halt.NoMemory) = Unit {0}
