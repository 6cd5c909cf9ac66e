-- Which values are of a type. The recursion is on the value; a type with a name is looked up in the table at each level.
use Rattle.std.specs.Prelude.{ℕ, List, [], ◌∷◌, length, Bool, true, false, ◌&&◌, eqb, leb, Option, Some, None, option_map, slice_get, if◌then◌else◌, IsTrue}
use Rattle.std.specs.List.{list_all}
use Rattle.hs_words.specs.Arithmetic.{is_in_range}
use Rattle.hs_values.specs.Kinds.{is_kind}
use Rattle.hs_values.specs.declared.types.ValType.{ValType, out-ValType}
use Rattle.hs_values.specs.declared.types.ValType.TheOpen.{ValType-F}
use Rattle.hs_values.specs.declared.types.ValType.TheOpen as type
use Rattle.hs_values.specs.declared.types.TypeKind.{TypeKind}
use Rattle.hs_values.specs.declared.types.TypeKind.TheVariants.{Array, Ctors}
use Rattle.hs_values.specs.declared.types.TypeDef.{TypeDef}
use Rattle.hs_values.specs.declared.value.Sort.{Sort}
use Rattle.hs_values.specs.declared.value.Sort.TheVariants as sort
use Rattle.hs_values.specs.declared.value.Value.{Value}
use Rattle.hs_values.specs.declared.value.Value.TheOpen.{Value-F}
use Rattle.hs_values.specs.declared.value.Value.TheOpen as value
use Rattle.hs_values.specs.declared.value.Value.TheFolds.{fold-Value}

-- the greatest length of a sequence
abbrev pub max_length : ℕ
max_length = 16777216

-- whether each item, by its test of types, is of the type
abbrev pub all_fit : List (ValType → Bool) → ValType → Bool
all_fit items t = list_all (λ item. item t) items

-- whether the parts are as many as the types, and each is of the type at its place
abbrev pub each_fits : List (ValType → Bool) → List ValType → Bool
each_fits [] [] = true
each_fits [] (t ∷ ts) = false
each_fits (part ∷ parts) [] = false
each_fits (part ∷ parts) (t ∷ ts) = part t && each_fits parts ts

-- what the type of this number is, where the table has one
abbrev pub kind_at : List TypeDef → ℕ → Option TypeKind
kind_at table number = option_map (λ def. def.kind) (slice_get table number)

-- the length and the items' type of an array
abbrev pub array_in : Option TypeKind → Option (ℕ × ValType)
array_in None = None
array_in (Some (Array n t)) = Some (n, t)
array_in (Some (Ctors cs)) = None

-- the types of the parts of the constructor of this number
abbrev pub parts_in : Option TypeKind → ℕ → Option (List ValType)
parts_in None number = None
parts_in (Some (Array n t)) number = None
parts_in (Some (Ctors cs)) number = option_map (λ c. c.1) (slice_get cs number)

-- whether items are as many as an array's, and of its items' type
abbrev pub array_fits : List (ValType → Bool) → Option (ℕ × ValType) → Bool
array_fits items None = false
array_fits items (Some (n, t)) = eqb (length items) n && all_fit items t

-- whether items are those of a sequence or an array of the type
abbrev pub items_fit : List TypeDef → List (ValType → Bool) → ValType-F ValType → Bool
items_fit table items (type.Seq t) = leb (length items) max_length && all_fit items t
items_fit table items (type.Named number) = array_fits items (array_in (kind_at table number))
items_fit table items _ = false

-- the types of the parts of the constructor of this number of an option: none, or one of the option's type
abbrev pub option_parts : ValType → ℕ → Option (List ValType)
option_parts t number = if eqb number 0 then Some [] else (if eqb number 1 then Some (t ∷ []) else None)

-- the same of a result: one part, of the good type or of the bad one
abbrev pub result_parts : ValType → ValType → ℕ → Option (List ValType)
result_parts good bad number = if eqb number 0 then Some (good ∷ []) else (if eqb number 1 then Some (bad ∷ []) else None)

-- the types of the parts of a constructor of the type of this number
abbrev pub named_parts : List TypeDef → ℕ → ℕ → ℕ → Option (List ValType)
named_parts table named owner number = if eqb owner named then parts_in (kind_at table named) number else None

-- the types of the parts of the type's constructor of this sort and number, where the type has it
abbrev pub ctor_parts : List TypeDef → ValType-F ValType → Sort → ℕ → Option (List ValType)
ctor_parts table (type.Option t) sort.Option number = option_parts t number
ctor_parts table (type.Result good bad) sort.Result number = result_parts good bad number
ctor_parts table (type.Named named) (sort.Named owner) number = named_parts table named owner number
ctor_parts table _ _ number = None

-- whether parts are those of a constructor whose parts are of these types, where there is one
abbrev pub parts_fit : List (ValType → Bool) → Option (List ValType) → Bool
parts_fit parts None = false
parts_fit parts (Some ts) = each_fits parts ts

-- whether a value is of the type, by the tests of its parts
abbrev pub layer_fits : List TypeDef → Value-F (ValType → Bool) → ValType-F ValType → Bool
layer_fits table value.Unit type.Unit = true
layer_fits table (value.Bool b) type.Bool = true
layer_fits table (value.Int n) (type.Int kind) = is_kind n.kind kind && is_in_range kind n.number
layer_fits table (value.Seq items) t = items_fit table items t
layer_fits table (value.Tuple parts) (type.Tuple ts) = each_fits parts ts
layer_fits table (value.Ctor sort number parts) t = parts_fit parts (ctor_parts table t sort number)
layer_fits table _ _ = false

-- whether a value is of the type
abbrev pub fits : List TypeDef → Value → ValType → Bool
fits table = fold-Value (ValType → Bool) (λ layer t. layer_fits table layer (out-ValType t))

-- the value is of the type, whose names the table holds: of its shape, its numbers in the range of their kinds, an array of its
-- declared length, a sequence of at most 16,777,216 items, a constructor of its type with as many parts as it has, each of its type
abbrev pub Fits : Value → ValType → List TypeDef → Type 0
Fits v t table = IsTrue (fits table v t)
