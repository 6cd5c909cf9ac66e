-- Stores, outcomes of runs, and results of calls.
use Rattle.std.specs.Prelude.{ℕ, Bool, false, ◌||◌, List, [], ◌∷◌, cond, eqb}
use Rattle.hs_words.specs.declared.kinds.Panic.{Panic}
use Rattle.hs_tree.specs.Plain.{Name}
use Rattle.hs_control.specs.Control.{Val}

-- what a local holds: it is not bound, its value was moved out, or a value
pub data Slot : Type 0 where
  Empty : Slot
  Moved : Slot
  Has : Val → Slot

-- what each local holds, by its number
abbrev pub Store : Type 0
Store = ℕ → Slot

-- no local is bound
abbrev pub empty : Store
empty = λ j. Empty

-- the store with one slot written
abbrev pub put : Store → ℕ → Slot → Store
put s k x = λ j. cond (eqb j k) x (s j)

-- whether a number is in the list
abbrev pub among : ℕ → List ℕ → Bool
among j [] = false
among j (k ∷ ks) = eqb j k || among j ks

-- the second store, with the locals of the list as the first has them
abbrev pub back : List ℕ → Store → Store → Store
back ks s s' = λ j. cond (among j ks) (s j) (s' j)

-- why a run stops before it gives a value: the function returns a value, or there is a panic
pub data Why : Type 0 where
  Returned : Val → Why
  Panicked : Panic → Why

-- how a run ends
pub data Outcome : Type 0 where
  Gives : Val → Outcome
  Stops : Why → Outcome

-- no run, or how it ends, the store after it, and its turns
pub data Out : Type 0 where
  Stuck : Out
  Ran : Outcome → Store → ℕ → Out

-- how a call ends
pub data Result : Type 0 where
  value : Val → Result
  panic : Panic → Result

-- no call, or its result and its turns
pub data Back : Type 0 where
  NoCall : Back
  Ended : Result → ℕ → Back

-- what each function gives for arguments
abbrev pub Calls : Type 0
Calls = Name → List Val → Back

-- the same as a relation
abbrev pub CallRel : Type 1
CallRel = Name → List Val → Result → ℕ → Type 0
