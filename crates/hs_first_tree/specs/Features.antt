-- Features of trees, and the stages: which features a tree of each stage may have.
use Rattle.std.specs.Prelude.{ℕ, Bool, true, false, eqb, List, [], ◌∷◌}

-- the features
pub data Feature : Type 0 where
  Place : Feature
  Nested : Feature
  Quest : Feature
  MutArg : Feature
  Exit : Feature
  Assign : Feature
  Loop : Feature
  Cf : Feature
  Acc : Feature
  Fold : Feature

-- which features are on
abbrev pub Stage : Type 0
Stage = Feature → Bool

-- the stage with these switches, in the order of the features
abbrev pub stage_of : Bool → Bool → Bool → Bool → Bool → Bool → Bool → Bool → Bool → Bool → Stage
stage_of place nested quest mut_arg exit assign loop cf acc fold Place = place
stage_of place nested quest mut_arg exit assign loop cf acc fold Nested = nested
stage_of place nested quest mut_arg exit assign loop cf acc fold Quest = quest
stage_of place nested quest mut_arg exit assign loop cf acc fold MutArg = mut_arg
stage_of place nested quest mut_arg exit assign loop cf acc fold Exit = exit
stage_of place nested quest mut_arg exit assign loop cf acc fold Assign = assign
stage_of place nested quest mut_arg exit assign loop cf acc fold Loop = loop
stage_of place nested quest mut_arg exit assign loop cf acc fold Cf = cf
stage_of place nested quest mut_arg exit assign loop cf acc fold Acc = acc
stage_of place nested quest mut_arg exit assign loop cf acc fold Fold = fold

-- a source
abbrev pub src : Stage
src = stage_of true true true true true true true false false false

-- no part of a local is assigned
abbrev pub no_place : Stage
no_place = stage_of false true true true true true true false false false

-- no right side is inside an expression
abbrev pub flat : Stage
flat = stage_of false false true true true true true false false false

-- there is no `?`
abbrev pub no_quest : Stage
no_quest = stage_of false false false true true true true false false false

-- there are no mutable parameters
abbrev pub no_mut_arg : Stage
no_mut_arg = stage_of false false false false true true true false false false

-- there is no `return`, but control values
abbrev pub no_exit : Stage
no_exit = stage_of false false false false false true true true false false

-- nothing is assigned, and loops carry values along
abbrev pub no_assign : Stage
no_assign = stage_of false false false false false false true true true false

-- there are no loops, but folds
abbrev pub no_loop : Stage
no_loop = stage_of false false false false false false false true false true

-- all stages, from the source on
abbrev pub stages : List Stage
stages = src ∷ no_place ∷ flat ∷ no_quest ∷ no_mut_arg ∷ no_exit ∷ no_assign ∷ no_loop ∷ []

-- whether each feature is on, in the order of the features
abbrev pub switches : Stage → List Bool
switches stage =
    stage Place ∷ stage Nested ∷ stage Quest ∷ stage MutArg ∷ stage Exit ∷ stage Assign ∷ stage Loop ∷ stage Cf ∷ stage Acc ∷ stage Fold ∷ []

-- the place of a feature among them, from 0
abbrev pub number : Feature → ℕ
number Place = 0
number Nested = 1
number Quest = 2
number MutArg = 3
number Exit = 4
number Assign = 5
number Loop = 6
number Cf = 7
number Acc = 8
number Fold = 9

-- whether two features are the same
abbrev pub same : Feature → Feature → Bool
same f g = eqb (number f) (number g)
