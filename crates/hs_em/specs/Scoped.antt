-- Scoping of modules: which of the three rules on names and numbers of parts each item breaks, and what is told of it.
use Rattle.std.specs.Prelude.{◌≡◌, ℕ, suc, Bool, true, false, not, ◌&&◌, ◌||◌, eqb, cond, List, [], ◌∷◌, ◌++◌, map, flat_map, length, Option, Some, None, option_map, bytes_eq, if◌then◌else◌}
use Rattle.std.specs.List.{list_any, list_all}
use Rattle.hs_values.specs.declared.value.Sort.{Sort}
use Rattle.hs_values.specs.declared.value.Sort.TheVariants as sort
use Rattle.hs_ops.specs.Parts.{same_sort}
use Rattle.hs_ops.specs.Row.{args_of}
use Rattle.hs_ops.specs.Standard.{standard_table}
use Rattle.hs_ops.specs.Table.{operation_named}
use Rattle.hs_ops.specs.declared.row.Kind as kinds
use Rattle.hs_ops.specs.declared.row.Kind.TheVariants.{Each}
use Rattle.hs_ops.specs.declared.operation.Operation.{Operation}
use Rattle.hs_em.specs.Plain.{Name, Var, Ty, unit_type, bool_type, int_type, seq_type, option_type, result_type, tuple_type, named_type, Tys, no_types, type, Pat, binds, anything, parts, taken, Pats, no_patterns, pattern, Holder, some, ok, err, Arm, on_ctor, on_parts, on_none, on_holder, on_any, Em, lets, local, const, ctor, none, truth, unit, lit, build, op, wrap, call, tuple, list, if_else, match_on, bind, fold, Ems, no_ems, em, Cases, no_cases, case, Lets, no_lets, bound, Exp, Ctor, Kind, array, ctors, TypeDef, Const, Par, Def, Module}
use Rattle.hs_em.specs.Printed.{type_word, const_word, def_word, ctor_word}
use Rattle.hs_em.specs.Headers.{Member, member, ctors_in}
use Rattle.hs_em.specs.Match.{has_var, vars_of, arm_vars, holder_sort, holder_number}
use Rattle.hs_em.specs.Spelled.{types_count, pats_count, count}

-- what an item breaks: a name is not defined before its use (M2), a name is defined twice (M3), a wrong number of arguments, parts or arms (M4)
pub data Fault : Type 0 where
  unknown : Fault
  again : Fault
  miscounted : Fault

-- what is defined before an item: types, the names of constants, the names of definitions with their numbers of parameters, and the
-- names of all of these and of constructors, as printed
pub record Before : Type 0 where
  pub types : List TypeDef
  pub consts : List Name
  pub defs : List (Name × ℕ)
  pub words : List (List ℕ)

-- the fault, unless there is none
abbrev pub unless : Bool → Fault → List Fault
unless true f = []
unless false f = f ∷ []

abbrev pub has_word : List ℕ → List (List ℕ) → Bool
has_word w ws = list_any (bytes_eq w) ws

-- whether no two locals of a list are printed alike
abbrev pub distinct_vars : List Var → Bool
distinct_vars [] = true
distinct_vars (x ∷ xs) = not (has_var x xs) && distinct_vars xs

-- whether no two words of a list are the same
abbrev pub distinct_words : List (List ℕ) → Bool
distinct_words [] = true
distinct_words (w ∷ ws) = not (has_word w ws) && distinct_words ws

-- a thing of a name has so many parts, where there is one of the name
abbrev pub counted : Option ℕ → ℕ → List Fault
counted None n = unknown ∷ []
counted (Some m) n = unless (eqb m n) miscounted

-- how many arguments an operation takes, given how many there are: `q_list` takes any
abbrev pub takes : ℕ → List kinds.Kind → ℕ
takes n (Each ∷ []) = n
takes n ks = length ks

abbrev pub op_takes : ℕ → Option Operation → Option ℕ
op_takes n None = None
op_takes n (Some o) = Some (takes n (args_of o))

-- how many parameters the definition of a name has
abbrev pub def_takes : List (Name × ℕ) → Name → Option ℕ
def_takes [] name = None
def_takes (d ∷ ds) name = if bytes_eq d.0 name then Some d.1 else def_takes ds name

-- how many parts a constructor has
abbrev pub member_takes : Option Member → Option ℕ
member_takes = option_map (λ (c : Member). types_count c.parts)

-- a constructor whose type has so many, by its sort and number; as an arm names it
abbrev pub NamedCtor : Type 0
NamedCtor = Sort × ℕ × ℕ

abbrev pub named_member : Option Member → List NamedCtor
named_member None = []
named_member (Some c) = (sort.Named c.owner, c.number, c.count) ∷ []

-- the constructor that an arm names, where it names one that there is
abbrev pub named_by : List TypeDef → Arm → List NamedCtor
named_by types (on_ctor t name) = named_member (member types t name)
named_by types (on_parts t name ps) = named_member (member types t name)
named_by types on_none = (sort.Option, 0, 2) ∷ []
named_by types (on_holder h p) = (holder_sort h, holder_number h, 2) ∷ []
named_by types on_any = []

abbrev pub all_named : {X : Type 0} → List TypeDef → Cases X → List NamedCtor
all_named types no_cases = []
all_named types (case a e cs) = named_by types a ++ all_named types cs

-- whether the last arm takes any value
abbrev pub takes_any : Arm → Bool
takes_any on_any = true
takes_any (on_ctor t name) = false
takes_any (on_parts t name ps) = false
takes_any on_none = false
takes_any (on_holder h p) = false

abbrev pub ends_open : {X : Type 0} → Cases X → Bool
ends_open no_cases = false
ends_open (case a e no_cases) = takes_any a
ends_open (case a e (case b f cs)) = ends_open (case b f cs)

-- whether constructors are of one type, and no two are the same
abbrev pub same_owner : NamedCtor → NamedCtor → Bool
same_owner a b = same_sort a.0 b.0

abbrev pub same_named : NamedCtor → NamedCtor → Bool
same_named a b = same_sort a.0 b.0 && eqb a.1 b.1

abbrev pub one_type_once : List NamedCtor → Bool
one_type_once [] = true
one_type_once (a ∷ as') = list_all (same_owner a) as' && not (list_any (same_named a) as') && one_type_once as'

-- whether constructors of one type, each named once, are all of them
abbrev pub are_all : List NamedCtor → Bool
are_all [] = false
are_all (a ∷ as') = eqb (length (a ∷ as')) a.2

-- a match names each constructor of one type at most once, and all of them or a last `_`
abbrev pub arms_count : {X : Type 0} → List TypeDef → Cases X → Bool
arms_count types cs = one_type_once (all_named types cs) && (are_all (all_named types cs) || ends_open cs)

-- `b` is what is defined before the item
module _ (b : Before) where
  abbrev mutual
    pub ty_faults : Ty → List Fault
    ty_faults unit_type = []
    ty_faults bool_type = []
    ty_faults (int_type k) = []
    ty_faults (seq_type t) = ty_faults t
    ty_faults (option_type t) = ty_faults t
    ty_faults (result_type good bad) = ty_faults good ++ ty_faults bad
    ty_faults (tuple_type ts) = tys_faults ts
    ty_faults (named_type name) = unless (list_any (λ (t : TypeDef). bytes_eq t.name name) b.types) unknown

    pub tys_faults : Tys → List Fault
    tys_faults no_types = []
    tys_faults (type t ts) = ty_faults t ++ tys_faults ts

  -- a constructor with so many parts
  abbrev pub ctor_faults : Name → Name → ℕ → List Fault
  ctor_faults t name n = counted (member_takes (member b.types t name)) n

  abbrev mutual
    pub part_faults : Pat → List Fault
    part_faults (binds x) = []
    part_faults anything = []
    part_faults (parts ps) = all_part_faults ps
    part_faults (taken t name ps) = ctor_faults t name (pats_count ps) ++ all_part_faults ps

    pub all_part_faults : Pats → List Fault
    all_part_faults no_patterns = []
    all_part_faults (pattern p ps) = part_faults p ++ all_part_faults ps

  -- a whole pattern, whose names are distinct
  abbrev pub pat_faults : Pat → List Fault
  pat_faults p = part_faults p ++ unless (distinct_vars (vars_of p)) again

  abbrev pub arm_part_faults : Arm → List Fault
  arm_part_faults (on_ctor t name) = ctor_faults t name 0
  arm_part_faults (on_parts t name ps) = ctor_faults t name (pats_count ps) ++ all_part_faults ps
  arm_part_faults on_none = []
  arm_part_faults (on_holder h p) = part_faults p
  arm_part_faults on_any = []

  abbrev pub arm_faults : Arm → List Fault
  arm_faults a = arm_part_faults a ++ unless (distinct_vars (arm_vars a)) again

  -- the locals in scope behind bindings
  abbrev pub scope_behind : Lets Var → List Var → List Var
  scope_behind no_lets xs = xs
  scope_behind (bound p a ls) xs = scope_behind ls (vars_of p ++ xs)

  abbrev mutual
    -- an expression, with the locals in scope
    pub faults : List Var → Exp → List Fault
    faults xs (lets ls e) = lets_faults xs ls ++ faults (scope_behind ls xs) e
    faults xs (local x) = unless (has_var x xs) unknown
    faults xs (const name) = unless (has_word name b.consts) unknown
    faults xs (ctor t name) = ctor_faults t name 0
    faults xs none = []
    faults xs (truth c) = []
    faults xs unit = []
    faults xs (lit n) = []
    faults xs (build t name es) = ctor_faults t name (count es) ++ all_faults xs es
    faults xs (op name es) = counted (op_takes (count es) (operation_named standard_table name)) (count es) ++ all_faults xs es
    faults xs (wrap w e) = faults xs e
    faults xs (call name es) = counted (def_takes b.defs name) (count es) ++ all_faults xs es
    faults xs (tuple es) = all_faults xs es
    faults xs (list es) = all_faults xs es
    faults xs (if_else a c d) = faults xs a ++ (faults xs c ++ faults xs d)
    faults xs (match_on e cs) = faults xs e ++ (cases_faults xs cs ++ unless (arms_count b.types cs) miscounted)
    faults xs (bind z e p c) = faults xs e ++ (pat_faults p ++ faults (vars_of p ++ xs) c)
    faults xs (fold how low high first x p c) =
        faults xs low ++ (faults xs high ++ (faults xs first ++ (pat_faults p ++ faults (vars_of p ++ (x ∷ xs)) c)))

    pub all_faults : List Var → Ems Var → List Fault
    all_faults xs no_ems = []
    all_faults xs (em e es) = faults xs e ++ all_faults xs es

    pub cases_faults : List Var → Cases Var → List Fault
    cases_faults xs no_cases = []
    cases_faults xs (case a e cs) = arm_faults a ++ (faults (arm_vars a ++ xs) e ++ cases_faults xs cs)

    pub lets_faults : List Var → Lets Var → List Fault
    lets_faults xs no_lets = []
    lets_faults xs (bound p a ls) = faults xs a ++ (pat_faults p ++ lets_faults (vars_of p ++ xs) ls)

  abbrev pub kind_faults : Kind → List Fault
  kind_faults (array t n) = ty_faults t
  kind_faults (ctors cs) = flat_map (λ (c : Ctor). tys_faults c.parts) cs

  -- the names that an item defines are new, and distinct
  abbrev pub new_words : List (List ℕ) → List Fault
  new_words ws = unless (distinct_words ws && not (list_any (λ w. has_word w b.words) ws)) again

-- an item of a module
pub data Item : Type 0 where
  a_type : TypeDef → Item
  a_const : Const → Item
  a_def : Def → Item

-- the items of a module, in order
abbrev pub items_of : Module → List Item
items_of m = map a_type m.types ++ (map a_const m.consts ++ map a_def m.defs)

-- the names that an item defines, as printed
abbrev pub words_of : Item → List (List ℕ)
words_of (a_type t) = type_word t.name ∷ map (λ (c : Ctor). ctor_word t.name c.name) (ctors_in t.kind)
words_of (a_const c) = const_word c.name ∷ []
words_of (a_def d) = def_word d.name ∷ []

-- the locals of parameters
abbrev pub par_vars : List Par → List Var
par_vars ps = map (λ (p : Par). p.local) ps

-- what an item breaks, but for the names that it defines
abbrev pub inner_faults : Before → Item → List Fault
inner_faults b (a_type t) = kind_faults b t.kind
inner_faults b (a_const c) = ty_faults b c.type ++ faults b [] c.body
inner_faults b (a_def d) =
    flat_map (λ (p : Par). ty_faults b p.type) d.params
    ++ (unless (distinct_vars (par_vars d.params)) again ++ (ty_faults b d.result ++ faults b (par_vars d.params) d.body))

-- what an item breaks
abbrev pub item_faults : Before → Item → List Fault
item_faults b i = inner_faults b i ++ new_words b (words_of i)

-- what is defined behind an item
abbrev pub defined : Before → Item → Before
defined b (a_type t) = record { types = b.types ++ t ∷ []; consts = b.consts; defs = b.defs; words = words_of (a_type t) ++ b.words }
defined b (a_const c) = record { types = b.types; consts = c.name ∷ b.consts; defs = b.defs; words = words_of (a_const c) ++ b.words }
defined b (a_def d) = record { types = b.types; consts = b.consts; defs = (d.name, length d.params) ∷ b.defs; words = words_of (a_def d) ++ b.words }

abbrev pub none_before : Before
none_before = record { types = []; consts = []; defs = []; words = [] }

-- what each item breaks, in order
abbrev pub breaks_from : Before → List Item → List (List Fault)
breaks_from b [] = []
breaks_from b (i ∷ is) = item_faults b i ∷ breaks_from (defined b i) is

abbrev pub breaks : Module → List (List Fault)
breaks m = breaks_from none_before (items_of m)

-- no item breaks a rule
abbrev pub AllEmpty : List (List Fault) → Type 0
AllEmpty [] = Unit {0}
AllEmpty (fs ∷ fss) = (fs ≡ []) × AllEmpty fss

abbrev pub Scoped : Module → Type 0
Scoped m = AllEmpty (breaks m)

-- the fault of the least number
abbrev pub lesser : Fault → Fault → Fault
lesser unknown g = unknown
lesser again unknown = unknown
lesser again again = again
lesser again miscounted = again
lesser miscounted g = g

abbrev pub least : List Fault → Option Fault
least [] = None
least (f ∷ []) = Some f
least (f ∷ g ∷ fs) = option_map (lesser f) (least (g ∷ fs))

abbrev pub or_else : Option Fault → Option Fault → Option Fault
or_else None b = b
or_else (Some f) b = Some f

-- the fault that is told: of the first item that has one, the least
abbrev pub told_of : List (List Fault) → Option Fault
told_of [] = None
told_of (fs ∷ fss) = or_else (least fs) (told_of fss)

abbrev pub told : Module → Option Fault
told m = told_of (breaks m)
