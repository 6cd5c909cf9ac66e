-- Small modules and what they mean, computed.
use Rattle.std.proofs.Common.{◌≡◌, ℕ, [], ◌∷◌, codes, refl}
use Rattle.hs_first_tree.specs.Value.{U32, Number, Overflow}
use Rattle.hs_first_em.specs.Plain.{EmVar, Em, local, number, op, bind, no_ems, em, EmPar, EmDef, Module}
use Rattle.hs_first_em.specs.Means.{value, panic, stuck, means}

-- a local `a` with this number
abbrev a : ℕ → EmVar
a k = record { name = codes "a"; number = k }

-- a local `b` with this number
abbrev b : ℕ → EmVar
b k = record { name = codes "b"; number = k }

-- a u32 parameter
abbrev par : EmVar → EmPar
par x = record { var = x; type = U32 }

-- the sum of two locals
abbrev add : EmDef
add = record { name = codes "add"; params = par (a 0) ∷ par (b 1) ∷ []; returns = U32; body = op (codes "u32_add") (em (local (a 0)) (em (local (b 1)) no_ems)) }

-- the number 7, from no parameters
abbrev seven : EmDef
seven = record { name = codes "seven"; params = []; returns = U32; body = number 7 }

-- the module of the two
abbrev sums : Module
sums = record { name = codes "Add"; defs = add ∷ seven ∷ [] }

-- a local `x`
abbrev x : ℕ → EmVar
x k = record { name = codes "x"; number = k }

-- the number 1 added to a local
abbrev one_more : EmVar → Em
one_more y = op (codes "u32_add") (em (local y) (em (number 1) no_ems))

-- a second `let` of a local hides the first
abbrev inc : EmDef
inc = record { name = codes "inc"; params = par (a 0) ∷ []; returns = U32; body = bind (x 1) (local (a 0)) (bind (x 1) (one_more (x 1)) (local (x 1))) }

-- its module
abbrev incs : Module
incs = record { name = codes "Inc"; defs = inc ∷ [] }

-- what they mean: a value in one turn
sums_mean : means sums 0 (Number 3 ∷ Number 4 ∷ []) ≡ value (Number 7) 1
sums_mean = refl

-- no parameters
seven_means : means sums 1 [] ≡ value (Number 7) 1
seven_means = refl

-- a sum that is no number of u32
sums_overflow : means sums 0 (Number 4294967295 ∷ Number 1 ∷ []) ≡ panic Overflow 1
sums_overflow = refl

-- the value of the hiding local
inc_means : means incs 0 (Number 6 ∷ []) ≡ value (Number 7) 1
inc_means = refl

-- fewer arguments than parameters
inc_stuck : means incs 0 [] ≡ stuck 1
inc_stuck = refl
