-- What a module means where an environment holds the values of its locals.
use Rattle.std.specs.Prelude.{ℕ, List, [], ◌∷◌, reverse, Option, Some, None, bytes_eq, codes, if◌then◌else◌}
use Rattle.hs_values.specs.declared.value.Sort.TheVariants as sort
use Rattle.hs_control.specs.Control.{Val, Nothing, Truth, Number, Tuple, Ctor, NoVals, vals_of, applied}
use Rattle.hs_em.specs.Plain.{Name, Var, Em, lets, local, const, ctor, none, truth, unit, lit, build, op, wrap, call, tuple, list, if_else, match_on, bind, fold, Ems, no_ems, em, Cases, no_cases, case, Lets, no_lets, bound, TypeDef, Const, Def, Module}
use Rattle.hs_em.specs.Headers.{member}
use Rattle.hs_em.specs.Match.{Env, unbound, only, over, matched, arm_matched}
use Rattle.hs_em.specs.Steps.{Meaning, Calls, gives, more, and_then, nothing, when, replied, choose, on_control, ended, wrapped, made, size, from_to, rounds}
use Rattle.hs_em.specs.Means.{taken_by, entered, no_calls, def_named, outermost}

-- the value of a local
abbrev pub looked : Env → Var → Option Val
looked r x = r x

-- `look` says which value stands at a place; `types` are the module's, `known` says what its constants mean, and `calls` what the
-- earlier definitions do
module _ {X : Type 0} (look : Env → X → Option Val) (types : List TypeDef) (known : Name → Meaning) (calls : Calls) where
  abbrev mutual
    -- what an expression means in an environment
    pub evaluated : Em X → Env → Meaning
    evaluated (lets ls e) r = lets_evaluated ls r (evaluated e)
    evaluated (local x) r = when (look r x) (λ v. gives v 0)
    evaluated (const name) r = known name
    evaluated (ctor t name) r = when (member types t name) (λ c. gives (made c []) 0)
    evaluated none r = gives (Ctor sort.Option 0 NoVals) 0
    evaluated (truth b) r = gives (Truth b) 0
    evaluated unit r = gives Nothing 0
    evaluated (lit n) r = gives (Number n) 0
    evaluated (build t name es) r = all_evaluated es r (λ vs. when (member types t name) (λ c. gives (made c vs) 0))
    evaluated (op name es) r = all_evaluated es r (λ vs. replied (applied name vs))
    evaluated (wrap w e) r = and_then (evaluated e r) (λ v. gives (wrapped w v) 0)
    evaluated (call name es) r = all_evaluated es r (calls name)
    evaluated (tuple es) r = all_evaluated es r (λ vs. gives (Tuple (vals_of vs)) 0)
    evaluated (list es) r = all_evaluated es r (λ vs. replied (applied (codes "q_list") vs))
    evaluated (if_else a b c) r = and_then (evaluated a r) (λ v. choose v (evaluated b r) (evaluated c r))
    evaluated (match_on e cs) r = and_then (evaluated e r) (cases_evaluated cs r)
    evaluated (bind z e p b) r =
        and_then (evaluated e r) (λ v. on_control v (λ x. gives (ended z x) 0)
        (λ x. when (matched types p x) (λ s. evaluated b (over s r))))
    evaluated (fold how low high first x p b) r =
        and_then (evaluated low r) (λ u. and_then (evaluated high r) (λ w. and_then (evaluated first r) (λ v. from_to u w (λ i n.
        rounds how (λ j y. when (matched types p y) (λ s. evaluated b (over (over s (only x (size j))) r))) i n v))))

    -- operands, from left to right, and what follows with their values
    pub all_evaluated : Ems X → Env → (List Val → Meaning) → Meaning
    all_evaluated no_ems r f = f []
    all_evaluated (em e es) r f = and_then (evaluated e r) (λ v. all_evaluated es r (λ vs. f (v ∷ vs)))

    -- the first case whose arm takes the value
    pub cases_evaluated : Cases X → Env → Val → Meaning
    cases_evaluated no_cases r v = nothing
    cases_evaluated (case a e cs) r v = taken_by (arm_matched types a v) (λ s. evaluated e (over s r)) (cases_evaluated cs r v)

    -- bindings, from first to last, and what follows in the environment that they make
    pub lets_evaluated : Lets X → Env → (Env → Meaning) → Meaning
    lets_evaluated no_lets r f = f r
    lets_evaluated (bound p a ls) r f =
        and_then (evaluated a r) (λ v. when (matched types p v) (λ s. lets_evaluated ls (over s r) f))

-- what a constant means, the last one first
abbrev pub consts_evaluated : List TypeDef → List Const → Name → Meaning
consts_evaluated types [] name = nothing
consts_evaluated types (c ∷ earlier) name =
    if bytes_eq c.name name then evaluated looked types (consts_evaluated types earlier) no_calls c.body unbound
    else consts_evaluated types earlier name

-- a call of a definition
abbrev pub entered_evaluated : List TypeDef → (Name → Meaning) → Calls → Def → List Val → Meaning
entered_evaluated types known calls d vs = more 1 (when (entered d.params vs) (evaluated looked types known calls d.body))

-- calls of definitions, the last one first
abbrev pub calls_evaluated : List TypeDef → (Name → Meaning) → List Def → Calls
calls_evaluated types known [] name vs = nothing
calls_evaluated types known (d ∷ earlier) name vs =
    if bytes_eq d.name name then entered_evaluated types known (calls_evaluated types known earlier) d vs
    else calls_evaluated types known earlier name vs

abbrev pub constants_evaluated : Module → Name → Meaning
constants_evaluated m = consts_evaluated m.types (reverse m.consts)

-- what the module's definition of the name means for arguments
abbrev pub means_evaluated : Module → Calls
means_evaluated m name vs =
    outermost m (def_named m.defs name) (calls_evaluated m.types (constants_evaluated m) (reverse m.defs) name vs)
