-- What is known of types: which are well made, how high they are, which are copied, and which have secret parts.
use Rattle.std.specs.Prelude.{ℕ, suc, max, Bool, true, false, not, ◌&&◌, ◌||◌, leb, ltb, List, [], ◌∷◌, ◌++◌, map, length, Option, Some, None, slice_get}
use Rattle.std.specs.List.{list_all, list_any}
use Rattle.hs_words.specs.Kind.{is_secret}
use Rattle.hs_values.specs.declared.types.ValType.{ValType}
use Rattle.hs_values.specs.declared.types.ValType.TheOpen.{ValType-F}
use Rattle.hs_values.specs.declared.types.ValType.TheOpen as type
use Rattle.hs_values.specs.declared.types.ValType.TheFolds.{fold-ValType}
use Rattle.hs_values.specs.declared.types.TypeKind.{TypeKind}
use Rattle.hs_values.specs.declared.types.TypeKind.TheVariants.{Array, Ctors}
use Rattle.hs_values.specs.declared.types.TypeDef.{TypeDef}

-- the greatest number of parts of a tuple: in a source 12, later any number
abbrev pub few_parts : Bool → ℕ → Bool
few_parts source n = leb 2 n && (not source || leb n 12)

-- whether one level of a type is well made: its names are of the first types, so many as is said, and a tuple has not too few parts
-- or too many
abbrev pub made_level : Bool → ℕ → ValType-F Bool → Bool
made_level source count type.Unit = true
made_level source count type.Bool = true
made_level source count (type.Int k) = true
made_level source count (type.Seq t) = t
made_level source count (type.Named n) = ltb n count
made_level source count (type.Tuple ts) = few_parts source (length ts) && list_all (λ t. t) ts
made_level source count (type.Option t) = t
made_level source count (type.Result good bad) = good && bad

abbrev pub well_made : Bool → ℕ → ValType → Bool
well_made source count = fold-ValType Bool (made_level source count)

-- the greatest of numbers
abbrev pub greatest : List ℕ → ℕ
greatest [] = 0
greatest (n ∷ ns) = max n (greatest ns)

-- a number at a place, or 0
abbrev pub number_at : Option ℕ → ℕ
number_at None = 0
number_at (Some n) = n

-- the height of one level of a type, by those of its parts and of the types that have names
abbrev pub height_level : List ℕ → ValType-F ℕ → ℕ
height_level named type.Unit = 1
height_level named type.Bool = 1
height_level named (type.Int k) = 1
height_level named (type.Seq t) = suc t
height_level named (type.Named n) = number_at (slice_get named n)
height_level named (type.Tuple ts) = suc (greatest ts)
height_level named (type.Option t) = suc t
height_level named (type.Result good bad) = suc (max good bad)

abbrev pub height_in : List ℕ → ValType → ℕ
height_in named = fold-ValType ℕ (height_level named)

-- the height of a declared type: one more than the greatest of its items' or its constructors' parts
abbrev pub height_kind : List ℕ → TypeKind → ℕ
height_kind named (Array n t) = suc (height_in named t)
height_kind named (Ctors cs) = suc (greatest (map (λ c. greatest (map (height_in named) c.1)) cs))

-- the heights of declared types behind those of the ones before them
abbrev pub heights_from : List ℕ → List TypeDef → List ℕ
heights_from named [] = named
heights_from named (def ∷ defs) = heights_from (named ++ height_kind named def.kind ∷ []) defs

-- the height of a type, with all names expanded
abbrev pub height : List TypeDef → ValType → ℕ
height table = height_in (heights_from [] table)

-- whether a declared type is copied: an array is, and another one where its declaration says so
abbrev pub copies_kind : Bool → TypeKind → Bool
copies_kind said (Array n t) = true
copies_kind said (Ctors cs) = said

abbrev pub copies_named : Option TypeDef → Bool
copies_named None = false
copies_named (Some def) = copies_kind def.copies def.kind

-- whether one level of a type is copied, by whether its parts are
abbrev pub copies_level : List TypeDef → ValType-F Bool → Bool
copies_level table type.Unit = true
copies_level table type.Bool = true
copies_level table (type.Int k) = true
copies_level table (type.Seq t) = false
copies_level table (type.Named n) = copies_named (slice_get table n)
copies_level table (type.Tuple ts) = list_all (λ t. t) ts
copies_level table (type.Option t) = t
copies_level table (type.Result good bad) = good && bad

-- whether a read by value of the type leaves what is read where it is
abbrev pub copied : List TypeDef → ValType → Bool
copied table = fold-ValType Bool (copies_level table)

-- whether it is so at a place; not where there is none
abbrev pub holds_at : Option Bool → Bool
holds_at None = false
holds_at (Some b) = b

-- whether one level of a type has secret parts, by whether its parts and the types that have names have
abbrev pub secret_level : List Bool → ValType-F Bool → Bool
secret_level named type.Unit = false
secret_level named type.Bool = false
secret_level named (type.Int k) = is_secret k
secret_level named (type.Seq t) = t
secret_level named (type.Named n) = holds_at (slice_get named n)
secret_level named (type.Tuple ts) = list_any (λ t. t) ts
secret_level named (type.Option t) = t
secret_level named (type.Result good bad) = good || bad

abbrev pub secret_in : List Bool → ValType → Bool
secret_in named = fold-ValType Bool (secret_level named)

-- whether a declared type has secret items or parts
abbrev pub secret_kind : List Bool → TypeKind → Bool
secret_kind named (Array n t) = secret_in named t
secret_kind named (Ctors cs) = list_any (λ c. list_any (secret_in named) c.1) cs

-- the same of declared types, behind that of the ones before them
abbrev pub secrets_from : List Bool → List TypeDef → List Bool
secrets_from named [] = named
secrets_from named (def ∷ defs) = secrets_from (named ++ secret_kind named def.kind ∷ []) defs

-- whether values of a type have secret parts
abbrev pub has_secrets : List TypeDef → ValType → Bool
has_secrets table = secret_in (secrets_from [] table)
