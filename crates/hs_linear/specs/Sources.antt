-- That nothing is told of moves exactly where the conditions of sound sources hold.
use Rattle.std.specs.Prelude.{◌≡◌, ◌↔◌, false, List, [], ◌∷◌, ◌++◌, map, bytes_eq, IsTrue, ⊤}
use Rattle.std.specs.List.{IsDistinct}
use Rattle.hs_tree.specs.Plain as plain
use Rattle.hs_tree.specs.Of.{function_of, program_of}
use Rattle.hs_tree.specs.Moves.{MovesBlock, also}
use Rattle.hs_tree.specs.Typing.{Known, Value, BlockTyped}
use Rattle.hs_tree.specs.Sound.{function_known, lent_in}
use Rattle.hs_tree.specs.Source.{types_of, keeps_parts}
use Rattle.hs_tree.specs.declared.program.Function.{Function}
use Rattle.hs_tree.specs.declared.program.Program.{Program}
use Rattle.hs_linear.specs.Programs.{broken}

module _ {F Place Nested Quest MutArg Exit Assign Loop Cf Acc Fold : Type 0} (p : Program F Place Nested Quest MutArg Exit Assign Loop Cf Acc Fold) where
  -- what a function's body knows, behind functions before it
  abbrev pub known_to : List plain.Function → Function F Place Nested Quest MutArg Exit Assign Loop Cf Acc Fold → Known
  known_to before f = function_known (program_of p) before (types_of p f.name) (function_of f)

  -- each body has the type of its function
  abbrev pub EachTyped : List plain.Function → List (Function F Place Nested Quest MutArg Exit Assign Loop Cf Acc Fold) → Type 0
  EachTyped before [] = ⊤
  EachTyped before (f ∷ fs) = BlockTyped (known_to before f) (function_of f).body (Value f.ty) × EachTyped (before ++ function_of f ∷ []) fs

  -- each meets the conditions on moves of a sound source
  abbrev pub EachMoves : List plain.Function → List (Function F Place Nested Quest MutArg Exit Assign Loop Cf Acc Fold) → Type 0
  EachMoves before [] = ⊤
  EachMoves before (f ∷ fs) =
      MovesBlock (known_to before f) (lent_in (program_of p) (function_of f)) (function_of f).body (also (map (λ x. x.local.number) (function_of f).params) (λ k. false))
      × EachMoves (before ++ function_of f ∷ []) fs

  -- where no two functions share a name and each body has a type, nothing is broken exactly where these conditions are met and no item
  -- or part of a type that is not copied is taken out
  abbrev pub Agree : Type 0
  Agree =
      IsDistinct bytes_eq (map (λ f. f.name) p.functions) → EachTyped [] p.functions
      → (broken p ≡ []) ↔ (EachMoves [] p.functions × IsTrue (keeps_parts p))
