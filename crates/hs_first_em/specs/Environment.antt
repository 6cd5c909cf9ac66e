-- What a module means where an environment holds the values of its locals.
use Rattle.std.specs.Prelude.{List, [], ◌∷◌, Option, Some, None, option_map, cond}
use Rattle.hs_first_tree.specs.Value.{Value, Number}
use Rattle.hs_first_tree.specs.Operation.{applied}
use Rattle.hs_first_em.specs.Plain.{EmVar, Em, local, number, op, bind, given, Ems, no_ems, em, EmPar, EmDef}
use Rattle.hs_first_em.specs.Means.{Meaning, value, stuck, more, and_then, operated, same_var, of_type}

-- the value of each local that has one
abbrev pub Env : Type 0
Env = EmVar → Option Value

-- no local has a value
abbrev pub unbound : Env
unbound = λ y. None

-- the environment with a local bound to a value, and with it all that are printed alike
abbrev pub bound : Env → EmVar → Value → Env
bound r x v = λ y. cond (same_var x y) (Some v) (r y)

-- what a local means
abbrev pub looked : Option Value → Meaning
looked None = stuck 0
looked (Some v) = value v 0

abbrev mutual
  -- what an expression means in an environment
  pub evaluated : Em → Env → Meaning
  evaluated (local x) r = looked (r x)
  evaluated (number n) r = value (Number n) 0
  evaluated (op w es) r = all_evaluated es r (λ vs. operated (applied w vs))
  evaluated (bind x a b) r = and_then (evaluated a r) (λ v. evaluated b (bound r x v))
  evaluated (given v) r = value v 0

  -- operands, from left to right
  pub all_evaluated : Ems → Env → (List Value → Meaning) → Meaning
  all_evaluated no_ems r f = f []
  all_evaluated (em e es) r f = and_then (evaluated e r) (λ v. all_evaluated es r (λ vs. f (v ∷ vs)))

-- the environment of a call; none where the numbers of parameters and arguments differ
abbrev pub env_of : List EmPar → List Value → Option Env
env_of [] [] = Some unbound
env_of [] (v ∷ vs) = None
env_of (p ∷ ps) [] = None
env_of (p ∷ ps) (v ∷ vs) = option_map (λ r. bound r p.var v) (env_of ps vs)

-- an expression in an environment, where there is one
abbrev pub evaluated_in : Em → Option Env → Meaning
evaluated_in e None = stuck 0
evaluated_in e (Some r) = evaluated e r

-- a call of the definition
abbrev pub called_in : Option EmDef → List Value → Meaning
called_in None vs = stuck 0
called_in (Some d) vs = of_type d.returns (more 1 (evaluated_in d.body (env_of d.params vs)))
