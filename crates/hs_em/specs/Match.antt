-- Values of locals, and values against patterns.
use Rattle.std.specs.Prelude.{ℕ, Bool, false, ◌&&◌, ◌||◌, eqb, cond, List, [], ◌∷◌, ◌++◌, Option, Some, None, bytes_eq, if◌then◌else◌}
use Rattle.hs_values.specs.declared.value.Sort.{Sort}
use Rattle.hs_values.specs.declared.value.Sort.TheVariants as sort
use Rattle.hs_ops.specs.Parts.{same_sort}
use Rattle.hs_control.specs.Control.{Val, Nothing, Truth, Number, Row, Tuple, Ctor, Exit, Cont, Vals, NoVals, Also}
use Rattle.hs_em.specs.Plain.{Name, Var, Pat, binds, anything, parts, taken, Pats, no_patterns, pattern, Holder, some, ok, err, Arm, on_ctor, on_parts, on_none, on_holder, on_any, TypeDef}
use Rattle.hs_em.specs.Headers.{Member, member}

-- whether two locals are printed alike
abbrev pub same_var : Var → Var → Bool
same_var x y = bytes_eq x.name y.name && eqb x.number y.number

-- whether a list holds a local that is printed as this one
abbrev pub has_var : Var → List Var → Bool
has_var x [] = false
has_var x (y ∷ ys) = same_var y x || has_var x ys

abbrev mutual
  -- the locals that a pattern binds
  pub vars_of : Pat → List Var
  vars_of (binds x) = x ∷ []
  vars_of anything = []
  vars_of (parts ps) = all_vars ps
  vars_of (taken t name ps) = all_vars ps

  pub all_vars : Pats → List Var
  all_vars no_patterns = []
  all_vars (pattern p ps) = vars_of p ++ all_vars ps

-- those that an arm binds
abbrev pub arm_vars : Arm → List Var
arm_vars (on_ctor t name) = []
arm_vars (on_parts t name ps) = all_vars ps
arm_vars on_none = []
arm_vars (on_holder h p) = vars_of p
arm_vars on_any = []

-- the value of each local that has one
abbrev pub Env : Type 0
Env = Var → Option Val

-- no local has a value
abbrev pub unbound : Env
unbound = λ y. None

-- one local has a value, and with it all that are printed alike
abbrev pub only : Var → Val → Env
only x v = λ y. if same_var x y then Some v else None

-- the first value that is there
abbrev pub first_of_two : Option Val → Option Val → Option Val
first_of_two None b = b
first_of_two (Some v) b = Some v

-- the first environment hides the second
abbrev pub over : Env → Env → Env
over s r = λ y. first_of_two (s y) (r y)

-- both, where both are there
abbrev pub both : Option Env → Option Env → Option Env
both None r = None
both (Some s) None = None
both (Some s) (Some r) = Some (over s r)

-- what follows values that may not be there
abbrev pub with_parts : Option Vals → (Vals → Option Env) → Option Env
with_parts None f = None
with_parts (Some vs) f = f vs

-- the parts of a tuple
abbrev pub tuple_parts : Val → Option Vals
tuple_parts (Tuple vs) = Some vs
tuple_parts Nothing = None
tuple_parts (Truth b) = None
tuple_parts (Number n) = None
tuple_parts (Row vs) = None
tuple_parts (Ctor s n vs) = None
tuple_parts (Exit v) = None
tuple_parts (Cont v) = None

-- the parts of what the constructor of a sort and a number made
abbrev pub made_parts : Sort → ℕ → Val → Option Vals
made_parts s n (Ctor t m vs) = if same_sort s t && eqb n m then Some vs else None
made_parts s n Nothing = None
made_parts s n (Truth b) = None
made_parts s n (Number m) = None
made_parts s n (Row vs) = None
made_parts s n (Tuple vs) = None
made_parts s n (Exit v) = None
made_parts s n (Cont v) = None

-- the same of a declared type's constructor
abbrev pub member_parts : Option Member → Val → Option Vals
member_parts None v = None
member_parts (Some c) v = made_parts (sort.Named c.owner) c.number v

-- the sort and the number of what holds a part
abbrev pub holder_sort : Holder → Sort
holder_sort some = sort.Option
holder_sort ok = sort.Result
holder_sort err = sort.Result

abbrev pub holder_number : Holder → ℕ
holder_number some = 1
holder_number ok = 0
holder_number err = 1

-- `types` are those of the module
module _ (types : List TypeDef) where
  abbrev mutual
    -- the parts of a value for the names of a pattern, where the pattern fits the value
    pub matched : Pat → Val → Option Env
    matched (binds x) v = Some (only x v)
    matched anything v = Some unbound
    matched (parts ps) v = with_parts (tuple_parts v) (matched_all ps)
    matched (taken t name ps) v = with_parts (member_parts (member types t name) v) (matched_all ps)

    -- the same of patterns, as many as the values
    pub matched_all : Pats → Vals → Option Env
    matched_all no_patterns NoVals = Some unbound
    matched_all no_patterns (Also v vs) = None
    matched_all (pattern p ps) NoVals = None
    matched_all (pattern p ps) (Also v vs) = both (matched p v) (matched_all ps vs)

  -- the same of an arm
  abbrev pub arm_matched : Arm → Val → Option Env
  arm_matched (on_ctor t name) v = with_parts (member_parts (member types t name) v) (matched_all no_patterns)
  arm_matched (on_parts t name ps) v = with_parts (member_parts (member types t name) v) (matched_all ps)
  arm_matched on_none v = with_parts (made_parts sort.Option 0 v) (matched_all no_patterns)
  arm_matched (on_holder h p) v = with_parts (made_parts (holder_sort h) (holder_number h) v) (matched_all (pattern p no_patterns))
  arm_matched on_any v = Some unbound
