-- The functions that calls name.
use Rattle.std.specs.Prelude.{List, map}
use Rattle.hs_tree.specs.Plain as plain
use Rattle.hs_tree.specs.Of.{mode_of}
use Rattle.hs_tree.specs.declared.program.Param.{Param}
use Rattle.hs_tree.specs.declared.program.Function.{Function}

module _ {F Place Nested Quest MutArg Exit Assign Loop Cf Acc Fold : Type 0} where
  -- the names of functions
  abbrev pub names_of : List (Function F Place Nested Quest MutArg Exit Assign Loop Cf Acc Fold) → List plain.Name
  names_of fs = map (λ f. f.name) fs

  -- the modes of parameters
  abbrev pub modes_of : List (Param F Place Nested Quest MutArg Exit Assign Loop Cf Acc Fold) → List plain.Mode
  modes_of ps = map (λ p. mode_of p.mode) ps
