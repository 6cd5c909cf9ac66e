-- Calls of a program's functions: what a function gives for its arguments, and in how many turns.
use Rattle.std.specs.Prelude.{◌≡◌, ℕ, ◌+◌, List, [], ◌∷◌, ◌↔◌, map, Some, slice_get}
use Rattle.hs_first_tree.specs.Value.{ValType, Value, Panic}
use Rattle.hs_first_tree.specs.Plain.{Param, Function}
use Rattle.hs_first_tree.specs.Store.{Has, Store, empty, put, Outcome, Gives, Exits, Panics}
use Rattle.hs_first_tree.specs.Run.{RunsBlock}

-- how a call ends
pub data Result : Type 0 where
  value : Value → Result
  panic : Panic → Result

-- the store of the parameters, where the arguments are as many
abbrev pub Entered : List Param → List Value → Store → Type 0
Entered [] [] s = s ≡ empty
Entered [] (v ∷ vs) s = ⊥
Entered (p ∷ ps) [] s = ⊥
Entered (p ∷ ps) (v ∷ vs) s = (m : Store) × Entered ps vs m × (s ≡ put m p.local (Has v))

-- the call's result, by how its block ends
abbrev pub Returned : Outcome → Result → Type 0
Returned (Gives v) r = r ≡ value v
Returned (Exits v) r = r ≡ value v
Returned (Panics p) r = r ≡ panic p

-- a call of this function: one turn, and those of its block
abbrev pub Called : Function → List Value → Result → ℕ → Type 0
Called f vs r n =
    (s : Store) × (o : Outcome) × (s' : Store) × (m : ℕ)
    × Entered f.params vs s × RunsBlock f.block s o s' m × Returned o r × (n ≡ 1 + m)

-- a call of the function at this place of the program
abbrev pub Calls : List Function → ℕ → List Value → Result → ℕ → Type 0
Calls p i vs r n = (f : Function) × (slice_get p i ≡ Some f) × Called f vs r n

-- for each function, all arguments, each result and each number of turns: the one holds of p exactly when it holds of q
abbrev pub SameResults : List Function → List Function → Type 0
SameResults p q = (i : ℕ) (vs : List Value) (r : Result) (n : ℕ) → Calls p i vs r n ↔ Calls q i vs r n

-- what is known of a function without its body
pub record Header : Type 0 where
  pub name : List ℕ
  pub params : List ValType
  pub returns : ValType

-- the header of a function
abbrev pub header_of : Function → Header
header_of f = record { name = f.name; params = map (λ p. p.type) f.params; returns = f.returns }
