-- Scoping of modules: names are defined once and before their use, and operations have their number of operands.
use Rattle.std.specs.Prelude.{◌≡◌, ℕ, ◌+◌, List, [], ◌∷◌, map, Bool, true, false, ◌||◌, bytes_eq}
use Rattle.std.specs.List.{IsDistinct}
use Rattle.hs_first_em.specs.Plain.{EmVar, Em, local, number, op, bind, given, Ems, no_ems, em, EmPar, EmDef, Module}
use Rattle.hs_first_em.specs.Means.{same_var}

-- whether the list holds a local that is printed as this one
abbrev pub has_var : EmVar → List EmVar → Bool
has_var x [] = false
has_var x (y ∷ ys) = same_var x y || has_var x ys

-- no two of the locals are printed alike
abbrev pub DistinctVars : List EmVar → Type 0
DistinctVars [] = Unit {0}
DistinctVars (x ∷ xs) = (has_var x xs ≡ false) × DistinctVars xs

abbrev pub count : Ems → ℕ
count no_ems = 0
count (em e es) = 1 + count es

abbrev mutual
  -- the expression's locals are among these and those that a `let` around them binds, which may hide one of these; and the one operation has two operands
  pub ScopedEm : List EmVar → Em → Type 0
  ScopedEm xs (local x) = has_var x xs ≡ true
  ScopedEm xs (number n) = Unit {0}
  ScopedEm xs (op w es) = (count es ≡ 2) × ScopedEms xs es
  ScopedEm xs (bind x a b) = ScopedEm xs a × ScopedEm (x ∷ xs) b
  ScopedEm xs (given v) = Unit {0}

  pub ScopedEms : List EmVar → Ems → Type 0
  ScopedEms xs no_ems = Unit {0}
  ScopedEms xs (em e es) = ScopedEm xs e × ScopedEms xs es

-- the locals of the parameters
abbrev pub vars_of : List EmPar → List EmVar
vars_of ps = map (λ (p : EmPar). p.var) ps

abbrev pub ScopedDefs : List EmDef → Type 0
ScopedDefs [] = Unit {0}
ScopedDefs (d ∷ ds) = (DistinctVars (vars_of d.params) × ScopedEm (vars_of d.params) d.body) × ScopedDefs ds

-- the definitions' names are distinct, and each definition is scoped
pub record Scoped (m : Module) : Type 0 where
  pub once : IsDistinct bytes_eq (map (λ (d : EmDef). d.name) m.defs)
  pub defs : ScopedDefs m.defs
