-- Names that are numbered in their order, from 0.
use Rattle.std.specs.Prelude.{ℕ, List, bytes_eq, position, Option}

-- the number of the first of these names that is equal to this one
abbrev pub number_of : List ℕ → List (List ℕ) → Option ℕ
number_of name names = position (bytes_eq name) names
