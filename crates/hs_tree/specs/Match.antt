-- Constructors by their names, and values against patterns.
use Rattle.std.specs.Prelude.{ℕ, suc, Bool, false, eqb, ◌&&◌, List, [], ◌∷◌, ◌++◌, map, Option, Some, None, option_map, bytes_eq, codes, if◌then◌else◌}
use Rattle.hs_values.specs.Fits.{kind_at}
use Rattle.hs_values.specs.declared.types.ValType.{ValType, out-ValType}
use Rattle.hs_values.specs.declared.types.ValType.TheOpen.{ValType-F}
use Rattle.hs_values.specs.declared.types.ValType.TheOpen as type
use Rattle.hs_values.specs.declared.types.TypeKind.{TypeKind}
use Rattle.hs_values.specs.declared.types.TypeKind.TheVariants.{Array, Ctors}
use Rattle.hs_values.specs.declared.types.TypeDef.{TypeDef}
use Rattle.hs_values.specs.declared.value.Sort.{Sort}
use Rattle.hs_values.specs.declared.value.Sort.TheVariants as sort
use Rattle.hs_ops.specs.Parts.{same_sort}
use Rattle.hs_tree.specs.Plain.{Name, Pattern, binds, anything, parts, taken, Patterns, no_patterns, pattern}
use Rattle.hs_control.specs.Control.{Val, Nothing, Truth, Number, Row, Tuple, Ctor, Exit, Cont, Vals, NoVals, Also}
use Rattle.hs_tree.specs.Store.{Has, Store, put}

-- one place later
abbrev pub later : Option ℕ → Option ℕ
later = option_map suc

-- the place of the first of these names that is the name
abbrev pub place_of : Name → List Name → Option ℕ
place_of name [] = None
place_of name (x ∷ xs) = if bytes_eq x name then Some 0 else later (place_of name xs)

-- the names of the constructors of a declared type
abbrev pub names_in : Option TypeKind → List Name
names_in None = []
names_in (Some (Array n t)) = []
names_in (Some (Ctors cs)) = map (λ c. c.0) cs

-- the sort of a type that has constructors, and their names in order
abbrev pub ctors_in : List TypeDef → ValType-F ValType → Option (Sort × List Name)
ctors_in table (type.Option t) = Some (sort.Option, codes "None" ∷ codes "Some" ∷ [])
ctors_in table (type.Result good bad) = Some (sort.Result, codes "Ok" ∷ codes "Err" ∷ [])
ctors_in table (type.Named n) = Some (sort.Named n, names_in (kind_at table n))
ctors_in table _ = None

abbrev pub ctors_of : List TypeDef → ValType → Option (Sort × List Name)
ctors_of table t = ctors_in table (out-ValType t)

-- the constructor of the name among those of a type
abbrev pub ctor_among : Name → Option (Sort × List Name) → Option (Sort × ℕ)
ctor_among name None = None
ctor_among name (Some cs) = option_map (λ i. (cs.0, i)) (place_of name cs.1)

-- the sort and the number of a type's constructor of the name
abbrev pub ctor_named : List TypeDef → ValType → Name → Option (Sort × ℕ)
ctor_named table t name = ctor_among name (ctors_of table t)

-- whether a constructor is the one of this sort and number
abbrev pub is_ctor : Option (Sort × ℕ) → Sort → ℕ → Bool
is_ctor None sort number = false
is_ctor (Some c) sort number = same_sort c.0 sort && eqb c.1 number

-- what follows a store, where there is one
abbrev pub and_then : Option Store → (Store → Option Store) → Option Store
and_then None f = None
and_then (Some s) f = f s

abbrev mutual
  -- the store with a pattern's locals bound to the parts of a value, where the pattern fits it
  pub matched : List TypeDef → Pattern → Val → Store → Option Store
  matched table (binds k) v s = Some (put s k.number (Has v))
  matched table anything v s = Some s
  matched table (parts ps) (Tuple vs) s = matched_all table ps vs s
  matched table (parts ps) Nothing s = None
  matched table (parts ps) (Truth b) s = None
  matched table (parts ps) (Number n) s = None
  matched table (parts ps) (Row vs) s = None
  matched table (parts ps) (Ctor sort number vs) s = None
  matched table (parts ps) (Exit v) s = None
  matched table (parts ps) (Cont v) s = None
  matched table (taken t name ps) (Ctor sort number vs) s =
      if is_ctor (ctor_named table t name) sort number then matched_all table ps vs s else None
  matched table (taken t name ps) Nothing s = None
  matched table (taken t name ps) (Truth b) s = None
  matched table (taken t name ps) (Number n) s = None
  matched table (taken t name ps) (Row vs) s = None
  matched table (taken t name ps) (Tuple vs) s = None
  matched table (taken t name ps) (Exit v) s = None
  matched table (taken t name ps) (Cont v) s = None

  -- the same of patterns, as many as the values
  pub matched_all : List TypeDef → Patterns → Vals → Store → Option Store
  matched_all table no_patterns NoVals s = Some s
  matched_all table no_patterns (Also v vs) s = None
  matched_all table (pattern p ps) NoVals s = None
  matched_all table (pattern p ps) (Also v vs) s = and_then (matched table p v s) (matched_all table ps vs)

abbrev mutual
  -- the locals that a pattern binds, by number
  pub bound : Pattern → List ℕ
  bound (binds k) = k.number ∷ []
  bound anything = []
  bound (parts ps) = bound_all ps
  bound (taken t name ps) = bound_all ps

  -- the same of patterns
  pub bound_all : Patterns → List ℕ
  bound_all no_patterns = []
  bound_all (pattern p ps) = bound p ++ bound_all ps
