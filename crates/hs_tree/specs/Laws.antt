-- Laws of runs and calls on which rewritings stand, and the law of texts.
use Rattle.std.specs.Prelude.{◌≡◌, ◌↔◌, ℕ, List, [], ◌∷◌, reverse, ⊤}
use Rattle.hs_tree.specs.Plain.{Name, Function, Program}
use Rattle.hs_control.specs.Control.{Val}
use Rattle.hs_tree.specs.Store.{Store, Out, Result, Calls}
use Rattle.hs_tree.specs.World.{World}
use Rattle.hs_tree.specs.Steps.{follow, give}
use Rattle.hs_tree.specs.Features.{Stage}
use Rattle.hs_tree.specs.Call.{Moves, LocalTypes, world_of, call_function, Results}
use Rattle.hs_tree.specs.Scopes.{Locals}
use Rattle.hs_tree.specs.Sound.{Sound}
use Rattle.hs_tree.specs.Text.{text}

-- what follows what follows a run follows it
abbrev pub FollowsOn : Type 0
FollowsOn =
    (y : Out) (f g : Val → Store → Out) → follow (follow y f) g ≡ follow y (λ v s. follow (f v s) g)

-- what follows a value that is given without a turn is what there is
abbrev pub FollowsGiven : Type 0
FollowsGiven = (v : Val) (s : Store) (f : Val → Store → Out) → follow (give v s) f ≡ f v s

-- functions, one by one, have the same names and give the same in each world, whatever the functions before them give
abbrev pub SameFunctions : (Name → World) → (Name → World) → List Function → List Function → Type 0
SameFunctions world other [] [] = ⊤
SameFunctions world other [] (g ∷ gs) = ⊥
SameFunctions world other (f ∷ fs) [] = ⊥
SameFunctions world other (f ∷ fs) (g ∷ gs) =
    (f.name ≡ g.name) × ((c : Calls) (vs : List Val) → call_function world f c vs ≡ call_function other g c vs)
    × SameFunctions world other fs gs

-- programs whose functions give the same, one by one, have the same results
abbrev pub SameByFunctions : Type 0
SameByFunctions =
    (p q : Program) (moves others : Moves)
    → SameFunctions (world_of p moves) (world_of q others) (reverse p.functions) (reverse q.functions)
    → (f : Name) (vs : List Val) (r : Result) (n : ℕ) → Results p moves f vs r n ↔ Results q others f vs r n

-- programs with the same types, constants and texts, each sound for a stage, are the same
abbrev pub TextsTell : Type 0
TextsTell =
    (s t : Stage) (p q : Program) (lists others : List Locals) (types kinds : LocalTypes)
    → Sound s p lists types → Sound t q others kinds → p.types ≡ q.types → p.constants ≡ q.constants → text p ≡ text q → p ≡ q
