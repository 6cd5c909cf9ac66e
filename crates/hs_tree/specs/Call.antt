-- Calls: what each function of a program gives for its arguments, and in how many turns, by recursion on the list of functions.
use Rattle.std.specs.Prelude.{◌≡◌, ◌⊎◌, ◌↔◌, ℕ, ◌+◌, Bool, true, false, not, List, [], ◌∷◌, ◌++◌, map, reverse, Option, Some, None, option_map, slice_get, bytes_eq, ⊤, if◌then◌else◌}
use Rattle.std.specs.List.{filter}
use Rattle.hs_values.specs.Fits.{Fits}
use Rattle.hs_values.specs.declared.types.ValType.{ValType}
use Rattle.hs_values.specs.declared.types.ValType.TheVariants as type
use Rattle.hs_values.specs.declared.types.TypeDef.{TypeDef}
use Rattle.hs_values.specs.declared.value.Value.{Value}
use Rattle.hs_tree.specs.Plain.{Name, Mode, is_mut, is_lent, Param, Function, Program}
use Rattle.hs_tree.specs.Types.{copied}
use Rattle.hs_control.specs.Control.{Val, Tuple, vals_of, val_of}
use Rattle.hs_tree.specs.Store.{Slot, Empty, Moved, Has, Store, empty, put, Returned, Panicked, Outcome, Gives, Stops, Out, Stuck, Ran, Result, value, panic, Back, NoCall, Ended, Calls, CallRel}
use Rattle.hs_tree.specs.World.{World, constants_of}
use Rattle.hs_tree.specs.Run.{run_block}
use Rattle.hs_tree.specs.Meaning.{RunsBlock}

-- the store of the parameters, where the arguments are as many
abbrev pub entered : List Param → List Val → Option Store
entered [] [] = Some empty
entered [] (v ∷ vs) = None
entered (p ∷ ps) [] = None
entered (p ∷ ps) (v ∷ vs) = option_map (λ m. put m p.local.number (Has v)) (entered ps vs)

-- the mutable parameters' locals, in order
abbrev pub lent_locals : List Param → List ℕ
lent_locals ps = map (λ p. p.local.number) (filter (λ p. is_mut p.mode) ps)

-- the value in a slot, before other values
abbrev pub final_of : Slot → Option (List Val) → Option (List Val)
final_of (Has v) vs = option_map (λ xs. v ∷ xs) vs
final_of Empty vs = None
final_of Moved vs = None

-- the values of locals and behind them the function's
abbrev pub finals : Store → List ℕ → Val → Option (List Val)
finals s [] v = Some (v ∷ [])
finals s (k ∷ ks) v = final_of (s k) (finals s ks v)

-- what a function gives: its value, or with mutable parameters the tuple of their final values and then its value
abbrev pub given_by : List ℕ → Val → Store → Option Val
given_by [] v s = Some v
given_by (k ∷ ks) v s = option_map (λ vs. Tuple (vals_of vs)) (finals s (k ∷ ks) v)

-- the result of a function whose body ends so
abbrev pub result_of : List ℕ → Outcome → Store → Option Result
result_of ks (Gives v) s = option_map value (given_by ks v s)
result_of ks (Stops (Returned v)) s = option_map value (given_by ks v s)
result_of ks (Stops (Panicked p)) s = Some (panic p)

-- a call's result with its turns: one more than the body's
abbrev pub ended : Option Result → ℕ → Back
ended None n = NoCall
ended (Some r) n = Ended r (1 + n)

abbrev pub back_of : List ℕ → Out → Back
back_of ks Stuck = NoCall
back_of ks (Ran o s n) = ended (result_of ks o s) n

abbrev pub back_at : List ℕ → Option Store → (Store → Out) → Back
back_at ks None f = NoCall
back_at ks (Some s) f = back_of ks (f s)

-- what is known of a program beside the body that runs: which locals of each function a read by value leaves moved
abbrev pub Moves : Type 0
Moves = Name → ℕ → Bool

-- the types of each function's locals, by their numbers: of a source, those of its nodes
abbrev pub LocalTypes : Type 0
LocalTypes = Name → ℕ → ValType

-- in a source a read by value moves where the local's type is not copied
abbrev pub moves_of : Program → LocalTypes → Moves
moves_of p types f k = not (copied p.types (types f k))

-- after the sources' stage nothing moves
abbrev pub no_moves : Moves
no_moves f k = false

-- the modes of the parameters of the function of a name
abbrev pub modes : List Function → Name → List Mode
modes [] f = []
modes (g ∷ gs) f = if bytes_eq g.name f then map (λ p. p.mode) g.params else modes gs f

abbrev pub lent_at : Option Mode → Bool
lent_at None = false
lent_at (Some m) = is_lent m

-- what the body of the function of a name knows
abbrev pub world_of : Program → Moves → Name → World
world_of p moves f =
    record {
      types = p.types;
      constants = constants_of p.types (reverse p.constants);
      lent = λ g i. lent_at (slice_get (modes p.functions g) i);
      moves = moves f;
    }

module _ (world : Name → World) where
  -- a call of a function, by the calls of those before it
  abbrev pub call_function : Function → Calls → List Val → Back
  call_function g c vs = back_at (lent_locals g.params) (entered g.params vs) (run_block (world g.name) c g.body)

  -- calls of functions, the last one first
  abbrev pub calls : List Function → Calls
  calls [] f vs = NoCall
  calls (g ∷ before) f vs = if bytes_eq g.name f then call_function g (calls before) vs else calls before f vs

  -- the same as a relation
  abbrev pub CallsFunction : Function → CallRel → List Val → Result → ℕ → Type 0
  CallsFunction g C vs r n =
      (s : Store) × (o : Outcome) × (s' : Store) × (m : ℕ)
      × (entered g.params vs ≡ Some s) × RunsBlock (world g.name) C g.body s o s' m
      × (result_of (lent_locals g.params) o s' ≡ Some r) × (n ≡ 1 + m)

  abbrev pub CallsOf : List Function → CallRel
  CallsOf [] f vs r n = ⊥
  CallsOf (g ∷ before) f vs r n =
      ((bytes_eq g.name f ≡ true) × CallsFunction g (CallsOf before) vs r n)
      ⊎ ((bytes_eq g.name f ≡ false) × CallsOf before f vs r n)

-- what the function of a name gives for arguments, and in how many turns: for a source with the moves of its locals' types and no
-- others, later with none
abbrev pub Results : Program → Moves → CallRel
Results p moves = CallsOf (world_of p moves) (reverse p.functions)

-- the same as a function
abbrev pub results : Program → Moves → Calls
results p moves = calls (world_of p moves) (reverse p.functions)

-- as many values as parameters, each of its parameter's type
abbrev pub FitParams : List TypeDef → List Value → List Param → Type 0
FitParams table [] [] = ⊤
FitParams table [] (p ∷ ps) = ⊥
FitParams table (v ∷ vs) [] = ⊥
FitParams table (v ∷ vs) (p ∷ ps) = Fits v p.type table × FitParams table vs ps

-- the function of a name
abbrev pub function_named : List Function → Name → Option Function
function_named [] name = None
function_named (g ∷ gs) name = if bytes_eq g.name name then Some g else function_named gs name

-- for each function, all fitting arguments, each result and each number of turns: the one holds of p exactly when it holds of q
abbrev pub SameResults : Program → Moves → Program → Moves → Type 0
SameResults p moves q moves' =
    (f : Name) (g : Function) (vs : List Value) (r : Result) (n : ℕ)
    → function_named p.functions f ≡ Some g → FitParams p.types vs g.params
    → Results p moves f (map val_of vs) r n ↔ Results q moves' f (map val_of vs) r n

-- what is known of a function without its body; with mutable parameters it gives the tuple of their types and then its own
pub record Header : Type 0 where
  pub name : Name
  pub params : List ValType
  pub type : ValType

-- the types of mutable parameters, in order
abbrev pub mut_types : List Param → List ValType
mut_types ps = map (λ p. p.type) (filter (λ p. is_mut p.mode) ps)

abbrev pub type_behind : List ValType → ValType → ValType
type_behind [] t = t
type_behind (u ∷ us) t = type.Tuple ((u ∷ us) ++ t ∷ [])

abbrev pub header_of : Function → Header
header_of f = record { name = f.name; params = map (λ p. p.type) f.params; type = type_behind (mut_types f.params) f.type }
