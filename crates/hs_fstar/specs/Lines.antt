-- The pieces of a `let`'s text round what its local is bound to.
use Rattle.std.specs.Prelude.{ℕ, ◌+◌, Bool, true, false, List, ◌∷◌, ◌++◌, codes}
use Rattle.hs_first_em.specs.Plain.{EmVar}
use Rattle.hs_fstar.specs.Reads.{var_text}
use Rattle.hs_fstar.specs.Layout.{spaces}

-- the indent of what the local is bound to, where it is a `let` or not
abbrev pub indent_of_bound : Bool → ℕ → ℕ
indent_of_bound false n = n
indent_of_bound true n = n + 2

-- a space, or, next to a `let`, a new line
abbrev pub gap : Bool → ℕ → List ℕ
gap false n = codes " "
gap true n = 10 ∷ spaces n

-- up to what the local is bound to
abbrev pub let_text : EmVar → Bool → ℕ → List ℕ
let_text x q n = codes "let " ++ (var_text x ++ (codes " =" ++ gap q n))

-- behind it
abbrev pub in_text : Bool → ℕ → List ℕ
in_text q n = gap q n ++ (codes "in" ++ (10 ∷ spaces n))
