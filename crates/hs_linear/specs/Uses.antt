-- What operations do with their operands, by the kinds of their rows.
use Rattle.std.specs.Prelude.{ℕ, Bool, true, false, not, eqb, List, [], ◌∷◌}
use Rattle.hs_ops.specs.declared.row.Kind.{Kind}
use Rattle.hs_ops.specs.declared.row.Kind.TheVariants as kind
use Rattle.hs_linear.specs.declared.operations.Use.{Use}
use Rattle.hs_linear.specs.declared.operations.Use.TheVariants.{Reads, Parts, TakesAll, Takes}

abbrev pub lends : Use → ℕ → Bool
lends Reads i = true
lends Parts i = true
lends TakesAll i = false
lends (Takes n) i = not (eqb i n)

abbrev pub is_part : Use → Bool
is_part Parts = true
is_part _ = false

-- what is taken becomes the result, an item or a part of it
abbrev pub use_of : List Kind → Kind → Use
use_of (kind.Each ∷ []) _ = TakesAll
use_of (kind.Option ∷ []) kind.Any = TakesAll
use_of (kind.Result ∷ []) kind.Any = TakesAll
use_of (kind.Any ∷ kind.Int k ∷ []) _ = Takes 0
use_of (kind.Tuple n ∷ kind.Any ∷ []) _ = Takes 1
use_of (kind.Row ∷ kind.Int k ∷ kind.Any ∷ []) _ = Takes 2
use_of (kind.Tuple n ∷ []) _ = Parts
use_of (kind.Row ∷ kind.Int k ∷ []) kind.Any = Parts
use_of _ _ = Reads
