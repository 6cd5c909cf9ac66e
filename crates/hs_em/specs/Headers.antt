-- The headers of a module: its types with names, and its definitions without their bodies.
use Rattle.std.specs.Prelude.{ℕ, suc, Bool, false, List, [], ◌∷◌, map, length, Option, Some, None, option_map, bytes_eq, if◌then◌else◌}
use Rattle.hs_values.specs.declared.types.ValType.{ValType}
use Rattle.hs_values.specs.declared.types.ValType.TheVariants as val
use Rattle.hs_values.specs.declared.types.TypeKind.{TypeKind}
use Rattle.hs_values.specs.declared.types.TypeKind.TheVariants.{Array, Ctors}
use Rattle.hs_values.specs.declared.types.TypeDef as table
use Rattle.hs_values.specs.declared.header.Header.{Header}
use Rattle.hs_em.specs.Plain.{Name, Ty, unit_type, bool_type, int_type, seq_type, option_type, result_type, tuple_type, named_type, Tys, no_types, type, Ctor, Kind, array, ctors, TypeDef, Par, Def, Module}

-- the place of the first of these names that is the name
abbrev pub place_of : Name → List Name → Option ℕ
place_of name [] = None
place_of name (x ∷ xs) = if bytes_eq x name then Some 0 else option_map suc (place_of name xs)

-- the same; where there is none, the number of names, which is the place of no type
abbrev pub place_or_end : ℕ → Option ℕ → ℕ
place_or_end n None = n
place_or_end n (Some i) = i

-- the names of a module's types, in order
abbrev pub type_names : List TypeDef → List Name
type_names ts = map (λ (t : TypeDef). t.name) ts

-- `names` are those of the module's types
module _ (names : List Name) where
  abbrev mutual
    -- the type of values that a type is
    pub val_type : Ty → ValType
    val_type unit_type = val.Unit
    val_type bool_type = val.Bool
    val_type (int_type k) = val.Int k
    val_type (seq_type t) = val.Seq (val_type t)
    val_type (option_type t) = val.Option (val_type t)
    val_type (result_type good bad) = val.Result (val_type good) (val_type bad)
    val_type (tuple_type ts) = val.Tuple (val_types ts)
    val_type (named_type name) = val.Named (place_or_end (length names) (place_of name names))

    -- the same of types
    pub val_types : Tys → List ValType
    val_types no_types = []
    val_types (type t ts) = val_type t ∷ val_types ts

  -- what a type with a name is
  abbrev pub val_kind : Kind → TypeKind
  val_kind (array t n) = Array n (val_type t)
  val_kind (ctors cs) = Ctors (map (λ (c : Ctor). (c.name, val_types c.parts)) cs)

  -- a type with a name; whether it is copied plays no part in a module
  abbrev pub val_def : TypeDef → table.TypeDef
  val_def t = record { name = t.name; copies = false; kind = val_kind t.kind }

  -- the header of a definition
  abbrev pub header_of : Def → Header
  header_of d = record { name = d.name; params = map (λ (p : Par). val_type p.type) d.params; result = val_type d.result }

-- the table of a module's types
abbrev pub table_of : Module → List table.TypeDef
table_of m = map (val_def (type_names m.types)) m.types

-- the headers of a module's definitions
abbrev pub headers_of : Module → List Header
headers_of m = map (header_of (type_names m.types)) m.defs

-- the constructors of a type; an array has none
abbrev pub ctors_in : Kind → List Ctor
ctors_in (array t n) = []
ctors_in (ctors cs) = cs

-- the constructor of the name among a type's: its place, and how many there are, and its parts
pub record Member : Type 0 where
  pub owner : ℕ
  pub number : ℕ
  pub count : ℕ
  pub parts : Tys

-- the constructor of a name, where it stands so far behind the first
abbrev pub member_from : ℕ → ℕ → ℕ → Name → List Ctor → Option Member
member_from owner number count name [] = None
member_from owner number count name (c ∷ cs) =
    if bytes_eq c.name name then Some (record { owner = owner; number = number; count = count; parts = c.parts })
    else member_from owner (suc number) count name cs

-- the constructor of a type's name and its own, where the type stands so far behind the first; the first type of the name counts
abbrev pub member_in : ℕ → Name → Name → List TypeDef → Option Member
member_in owner holder name [] = None
member_in owner holder name (t ∷ ts) =
    if bytes_eq t.name holder then member_from owner 0 (length (ctors_in t.kind)) name (ctors_in t.kind)
    else member_in (suc owner) holder name ts

-- the constructor of a type's name and its own
abbrev pub member : List TypeDef → Name → Name → Option Member
member ts holder name = member_in 0 holder name ts
