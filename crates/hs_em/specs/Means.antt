-- What a module means: its definitions as functions on values, by substitution.
use Rattle.std.specs.Prelude.{ℕ, zero, suc, max, Bool, true, false, cond, List, [], ◌∷◌, reverse, Option, Some, None, option_map, bytes_eq, codes, if◌then◌else◌}
use Rattle.hs_values.specs.declared.value.Sort.TheVariants as sort
use Rattle.hs_control.specs.Control.{Val, Nothing, Truth, Number, Tuple, Ctor, NoVals, vals_of, applied}
use Rattle.hs_em.specs.Plain.{Name, Var, Pat, Arm, Em, lets, local, const, ctor, none, truth, unit, lit, build, op, wrap, call, tuple, list, if_else, match_on, bind, fold, Ems, no_ems, em, Cases, no_cases, case, Lets, no_lets, bound, TypeDef, Const, Par, Def, Module}
use Rattle.hs_em.specs.Headers.{member, type_names, val_type, table_of}
use Rattle.hs_em.specs.Match.{has_var, vars_of, arm_vars, Env, unbound, only, over, matched, arm_matched}
use Rattle.hs_em.specs.Steps.{Meaning, gives, Calls, more, and_then, nothing, when, replied, choose, on_control, ended, wrapped, made, size, from_to, rounds, of_type}

-- what stands where a local stood: the local, or the value that took its place
pub data Held : Type 0 where
  open_local : Var → Held
  given : Val → Held

-- an expression with values in the place of locals, which no text has
abbrev pub Term : Type 0
Term = Em Held

-- a value in the place of a local, where there is one
abbrev pub in_place : Option Val → Var → Held
in_place None x = open_local x
in_place (Some v) x = given v

abbrev pub place_var : Env → Var → Held
place_var s x = in_place (s x) x

abbrev pub place_held : Env → Held → Held
place_held s (open_local x) = in_place (s x) x
place_held s (given v) = given v

-- what is left of an environment where these locals are bound again
abbrev pub without : List Var → Env → Env
without xs s = λ y. cond (has_var y xs) None (s y)

-- behind bindings
abbrev pub behind : {X : Type 0} → Lets X → Env → Env
behind no_lets s = s
behind (bound p a ls) s = behind ls (without (vars_of p) s)

-- `put` says what a place becomes where locals have values
module _ {X : Type 0} (put : Env → X → Held) where
  abbrev mutual
    -- the expression with the values of locals in their places, but where they are bound again
    pub substituted : Env → Em X → Term
    substituted s (lets ls e) = lets (lets_substituted s ls) (substituted (behind ls s) e)
    substituted s (local x) = local (put s x)
    substituted s (const name) = const name
    substituted s (ctor t name) = ctor t name
    substituted s none = none
    substituted s (truth b) = truth b
    substituted s unit = unit
    substituted s (lit n) = lit n
    substituted s (build t name es) = build t name (all_substituted s es)
    substituted s (op name es) = op name (all_substituted s es)
    substituted s (wrap w e) = wrap w (substituted s e)
    substituted s (call name es) = call name (all_substituted s es)
    substituted s (tuple es) = tuple (all_substituted s es)
    substituted s (list es) = list (all_substituted s es)
    substituted s (if_else a b c) = if_else (substituted s a) (substituted s b) (substituted s c)
    substituted s (match_on e cs) = match_on (substituted s e) (cases_substituted s cs)
    substituted s (bind z e p b) = bind z (substituted s e) p (substituted (without (vars_of p) s) b)
    substituted s (fold how low high first x p b) =
        fold how (substituted s low) (substituted s high) (substituted s first) x p
        (substituted (without (vars_of p) (without (x ∷ []) s)) b)

    pub all_substituted : Env → Ems X → Ems Held
    all_substituted s no_ems = no_ems
    all_substituted s (em e es) = em (substituted s e) (all_substituted s es)

    pub cases_substituted : Env → Cases X → Cases Held
    cases_substituted s no_cases = no_cases
    cases_substituted s (case a e cs) = case a (substituted (without (arm_vars a) s) e) (cases_substituted s cs)

    pub lets_substituted : Env → Lets X → Lets Held
    lets_substituted s no_lets = no_lets
    lets_substituted s (bound p a ls) = bound p (substituted s a) (lets_substituted (without (vars_of p) s) ls)

abbrev mutual
  -- how deep expressions stand within one another, where each of a run of bindings counts: no value in the place of a local changes it
  pub depth : {X : Type 0} → Em X → ℕ
  depth (lets ls e) = suc (lets_depth ls (depth e))
  depth (local x) = 1
  depth (const name) = 1
  depth (ctor t name) = 1
  depth none = 1
  depth (truth b) = 1
  depth unit = 1
  depth (lit n) = 1
  depth (build t name es) = suc (all_depth es)
  depth (op name es) = suc (all_depth es)
  depth (wrap w e) = suc (depth e)
  depth (call name es) = suc (all_depth es)
  depth (tuple es) = suc (all_depth es)
  depth (list es) = suc (all_depth es)
  depth (if_else a b c) = suc (max (depth a) (max (depth b) (depth c)))
  depth (match_on e cs) = suc (max (depth e) (cases_depth cs))
  depth (bind z e p b) = suc (max (depth e) (depth b))
  depth (fold how low high first x p b) = suc (max (depth low) (max (depth high) (max (depth first) (depth b))))

  pub all_depth : {X : Type 0} → Ems X → ℕ
  all_depth no_ems = 0
  all_depth (em e es) = max (depth e) (all_depth es)

  pub cases_depth : {X : Type 0} → Cases X → ℕ
  cases_depth no_cases = 0
  cases_depth (case a e cs) = max (depth e) (cases_depth cs)

  -- bindings, before what is so deep
  pub lets_depth : {X : Type 0} → Lets X → ℕ → ℕ
  lets_depth no_lets n = n
  lets_depth (bound p a ls) n = suc (max (depth a) (lets_depth ls n))

-- operands are taken from left to right; the first without a value decides
abbrev pub all_mean : (Term → Meaning) → Ems Held → (List Val → Meaning) → Meaning
all_mean m no_ems f = f []
all_mean m (em e es) f = and_then (m e) (λ v. all_mean m es (λ vs. f (v ∷ vs)))

-- a place where a local was left has no meaning
abbrev pub held : Held → Meaning
held (open_local x) = nothing
held (given v) = gives v 0

-- the case, where its arm takes the value, else what follows it
abbrev pub taken_by : Option Env → (Env → Meaning) → Meaning → Meaning
taken_by None f other = other
taken_by (Some s) f other = f s

-- the first case whose arm takes the value
abbrev pub chosen : List TypeDef → (Env → Term → Meaning) → Cases Held → Val → Meaning
chosen types m no_cases v = nothing
chosen types m (case a e cs) v = taken_by (arm_matched types a v) (λ s. m s e) (chosen types m cs v)

-- `types` are the module's; `known` says what its constants mean, and `calls` what the earlier definitions do
module _ (types : List TypeDef) (known : Name → Meaning) (calls : Calls) where
  -- what a term of at most this depth means
  abbrev pub within : ℕ → Term → Meaning
  within zero e = nothing
  within (suc k) (lets no_lets e) = within k e
  within (suc k) (lets (bound p a ls) e) =
      and_then (within k a) (λ v. when (matched types p v) (λ s. within k (substituted place_held s (lets ls e))))
  within (suc k) (local x) = held x
  within (suc k) (const name) = known name
  within (suc k) (ctor t name) = when (member types t name) (λ c. gives (made c []) 0)
  within (suc k) none = gives (Ctor sort.Option 0 NoVals) 0
  within (suc k) (truth b) = gives (Truth b) 0
  within (suc k) unit = gives Nothing 0
  within (suc k) (lit n) = gives (Number n) 0
  within (suc k) (build t name es) = all_mean (within k) es (λ vs. when (member types t name) (λ c. gives (made c vs) 0))
  within (suc k) (op name es) = all_mean (within k) es (λ vs. replied (applied name vs))
  within (suc k) (wrap w e) = and_then (within k e) (λ v. gives (wrapped w v) 0)
  within (suc k) (call name es) = all_mean (within k) es (calls name)
  within (suc k) (tuple es) = all_mean (within k) es (λ vs. gives (Tuple (vals_of vs)) 0)
  within (suc k) (list es) = all_mean (within k) es (λ vs. replied (applied (codes "q_list") vs))
  within (suc k) (if_else a b c) = and_then (within k a) (λ v. choose v (within k b) (within k c))
  within (suc k) (match_on e cs) = and_then (within k e) (chosen types (λ s b. within k (substituted place_held s b)) cs)
  within (suc k) (bind z e p b) =
      and_then (within k e) (λ v. on_control v (λ x. gives (ended z x) 0)
      (λ x. when (matched types p x) (λ s. within k (substituted place_held s b))))
  within (suc k) (fold how low high first x p b) =
      and_then (within k low) (λ u. and_then (within k high) (λ w. and_then (within k first) (λ v. from_to u w (λ i n.
      rounds how (λ j y. when (matched types p y) (λ s. within k (substituted place_held (over s (only x (size j))) b))) i n v))))

  -- what a term means
  abbrev pub meaning : Term → Meaning
  meaning e = within (depth e) e

-- the values of the parameters, where the arguments are as many
abbrev pub entered : List Par → List Val → Option Env
entered [] [] = Some unbound
entered [] (v ∷ vs) = None
entered (p ∷ ps) [] = None
entered (p ∷ ps) (v ∷ vs) = option_map (λ r. over (only p.local v) r) (entered ps vs)

-- a constant calls no definition
abbrev pub no_calls : Calls
no_calls name vs = nothing

-- what a constant means, the last one first: what its body means, by the earlier ones, at each read
abbrev pub consts_of : List TypeDef → List Const → Name → Meaning
consts_of types [] name = nothing
consts_of types (c ∷ earlier) name =
    if bytes_eq c.name name then meaning types (consts_of types earlier) no_calls (substituted place_var unbound c.body)
    else consts_of types earlier name

-- a call of a definition: one turn, and those of its body with the arguments in the place of the parameters
abbrev pub called : List TypeDef → (Name → Meaning) → Calls → Def → List Val → Meaning
called types known calls d vs =
    more 1 (when (entered d.params vs) (λ s. meaning types known calls (substituted place_var s d.body)))

-- calls of definitions, the last one first: each calls earlier ones
abbrev pub calls_of : List TypeDef → (Name → Meaning) → List Def → Calls
calls_of types known [] name vs = nothing
calls_of types known (d ∷ earlier) name vs =
    if bytes_eq d.name name then called types known (calls_of types known earlier) d vs else calls_of types known earlier name vs

-- the definition of the name
abbrev pub def_named : List Def → Name → Option Def
def_named [] name = None
def_named (d ∷ ds) name = if bytes_eq d.name name then Some d else def_named ds name

-- what a module's constants mean
abbrev pub constants : Module → Name → Meaning
constants m = consts_of m.types (reverse m.consts)

-- what a call inside a module means
abbrev pub inner : Module → Calls
inner m = calls_of m.types (constants m) (reverse m.defs)

-- a value that is not of the result's type is none; only the outermost call asks this
abbrev pub outermost : Module → Option Def → Meaning → Meaning
outermost m None r = r
outermost m (Some d) r = of_type (table_of m) (val_type (type_names m.types) d.result) r

-- what the module's definition of the name means for arguments
abbrev pub means : Module → Calls
means m name vs = outermost m (def_named m.defs name) (inner m name vs)
