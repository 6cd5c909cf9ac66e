-- The height of a type and whether it is copied, by a table whose entries need earlier ones alone; no name is expanded.
use Rattle.std.specs.Prelude.{ℕ, ◌≡◌, ◌≤◌, suc, max, leb, Bool, true, false, ◌&&◌, List, [], ◌∷◌, ◌++◌, map, length, Option, Some, None, slice_get}
use Rattle.std.specs.List.{list_all}
use Rattle.hs_values.specs.declared.types.ValType.{ValType, roll-ValType, fold-ValType}
use Rattle.hs_values.specs.declared.types.ValType.TheOpen.{ValType-F}
use Rattle.hs_values.specs.declared.types.ValType.TheOpen as type
use Rattle.hs_values.specs.declared.types.TypeKind.{TypeKind}
use Rattle.hs_values.specs.declared.types.TypeKind.TheVariants.{Array, Ctors}
use Rattle.hs_values.specs.declared.types.TypeDef.{TypeDef}
use Rattle.hs_items.specs.Whole.{entry, expand_def, expanded}
use Rattle.hs_items.specs.Whole as whole
use Rattle.hs_items.specs.Declares.{below, NamesEarlier}
use Rattle.hs_items.specs.Promises.{fits_limits, PartsFit}

-- the greatest of numbers
abbrev pub greatest : List ℕ → ℕ
greatest [] = 0
greatest (n ∷ ns) = max n (greatest ns)

-- a number at a place, or 0
abbrev pub number_at : Option ℕ → ℕ
number_at None = 0
number_at (Some n) = n

-- the height of one level of a type, by those of its parts and of the types that have names
abbrev pub height_level : List ℕ → ValType-F ℕ → ℕ
height_level named type.Unit = 1
height_level named type.Bool = 1
height_level named (type.Int k) = 1
height_level named (type.Seq t) = suc t
height_level named (type.Named n) = number_at (slice_get named n)
height_level named (type.Tuple ts) = suc (greatest ts)
height_level named (type.Option t) = suc t
height_level named (type.Result good bad) = suc (max good bad)

abbrev pub height_in : List ℕ → ValType → ℕ
height_in named = fold-ValType ℕ (height_level named)

-- the height of a type with a name: one more than the greatest of its items' or its constructors' parts
abbrev pub height_kind : List ℕ → TypeKind → ℕ
height_kind named (Array n t) = suc (height_in named t)
height_kind named (Ctors cs) = suc (greatest (map (λ c. greatest (map (height_in named) c.1)) cs))

-- the heights of types with names behind those of the ones before them
abbrev pub heights_from : List ℕ → List TypeDef → List ℕ
heights_from named [] = named
heights_from named (def ∷ defs) = heights_from (named ++ height_kind named def.kind ∷ []) defs

-- the height of a type
abbrev pub height : List TypeDef → ValType → ℕ
height table = height_in (heights_from [] table)

-- whether a type with a name is copied: an array is, and another one where its declaration says so
abbrev pub copies_kind : Bool → TypeKind → Bool
copies_kind said (Array n t) = true
copies_kind said (Ctors cs) = said

abbrev pub copies_named : Option TypeDef → Bool
copies_named None = false
copies_named (Some def) = copies_kind def.copies def.kind

-- whether one level of a type is copied, by whether its parts are
abbrev pub copies_level : List TypeDef → ValType-F Bool → Bool
copies_level table type.Unit = true
copies_level table type.Bool = true
copies_level table (type.Int k) = true
copies_level table (type.Seq t) = false
copies_level table (type.Named n) = copies_named (slice_get table n)
copies_level table (type.Tuple ts) = list_all (λ t. t) ts
copies_level table (type.Option t) = t
copies_level table (type.Result good bad) = good && bad

-- whether a type is copied
abbrev pub copied : List TypeDef → ValType → Bool
copied table = fold-ValType Bool (copies_level table)

-- a type's height is that of the type with all names expanded
abbrev pub HeightsAgree : Type 0
HeightsAgree = (table : List TypeDef) (t : ValType) → NamesEarlier table → below (length table) t ≡ true → height table t ≡ whole.height (expanded table t)

-- and it is copied where the type with all names expanded is
abbrev pub CopiesAgree : Type 0
CopiesAgree = (table : List TypeDef) (t : ValType) → below (length table) t ≡ true → copied table t ≡ whole.copied (expanded table t)

-- an entry of a table expands to what its definition says
abbrev pub EntriesExpand : Type 0
EntriesExpand = (table : List TypeDef) (n : ℕ) (d : TypeDef) → NamesEarlier table → slice_get table n ≡ Some d → entry table n ≡ expand_def (entry table) d

-- a type within the limits is no higher than 48
abbrev pub LimitsAgree : Type 0
LimitsAgree = (table : List TypeDef) (t : ValType) → NamesEarlier table → below (length table) t ≡ true → fits_limits table t ≡ true → leb (height table t) 48 ≡ true

-- where the parts of a table's types are within the limits, each of these types is no higher than 49
abbrev pub EntriesFit : Type 0
EntriesFit = (table : List TypeDef) (n : ℕ) (d : TypeDef) → NamesEarlier table → PartsFit table → slice_get table n ≡ Some d → height table (roll-ValType (type.Named n)) ≤ 49
