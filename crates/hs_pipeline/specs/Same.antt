-- What a module keeps of its program: results, turns, names, headers and counts.
use Rattle.std.specs.Prelude.{◌≡◌, ◌↔◌, ℕ, List, [], ◌∷◌, map, Some, slice_get}
use Rattle.hs_first_tree.specs.Value.{ValType, Value, Panic, FitsAll}
use Rattle.hs_first_tree.specs.Plain as tree
use Rattle.hs_first_tree.specs.Call as call
use Rattle.hs_first_tree.specs.Call.{Calls}
use Rattle.hs_first_em.specs.Plain.{EmPar, EmDef, Module}
use Rattle.hs_first_em.specs.Means.{value, panic, means}

-- the types of a function's parameters
abbrev pub types_of : tree.Function → List ValType
types_of f = map (λ (p : tree.Param). p.type) f.params

-- for every function and all arguments of its types, the module gives a value in some turns exactly when a call of the program
-- gives it in as many, and panics exactly when it panics
abbrev pub Same : List tree.Function → Module → Type 0
Same p m =
    (i : ℕ) (f : tree.Function) (vs : List Value) → slice_get p i ≡ Some f → FitsAll vs (types_of f)
    → ((v : Value) (n : ℕ) → Calls p i vs (call.value v) n ↔ (means m i vs ≡ value v n))
    × ((k : Panic) (n : ℕ) → Calls p i vs (call.panic k) n ↔ (means m i vs ≡ panic k n))

-- the definition has the function's name, its parameters' types and its result's type
pub record SameHeader (f : tree.Function) (d : EmDef) : Type 0 where
  pub name : d.name ≡ f.name
  pub params : map (λ (p : EmPar). p.type) d.params ≡ types_of f
  pub returns : d.returns ≡ f.returns

-- one definition for each function, in order, with its header; this language has neither loops nor calls
abbrev pub Shape : List tree.Function → List EmDef → Type 0
Shape [] [] = Unit {0}
Shape [] (d ∷ ds) = ⊥
Shape (f ∷ fs) [] = ⊥
Shape (f ∷ fs) (d ∷ ds) = SameHeader f d × Shape fs ds
