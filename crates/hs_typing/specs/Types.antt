-- What is asked of types.
use Rattle.std.specs.Prelude.{ℕ, ◌≡◌, Bool, true, false, ◌&&◌, eqb, List, slice_get, Option, Some, None, option_map}
use Rattle.hs_words.specs.declared.kinds.IntTy.{IntTy}
use Rattle.hs_words.specs.declared.kinds.IntTy.TheVariants.{PUsize}
use Rattle.hs_values.specs.Kinds.{is_kind}
use Rattle.hs_values.specs.Fits.{each_fits, kind_at, array_in}
use Rattle.hs_values.specs.declared.types.ValType.{ValType, roll-ValType, out-ValType, fold-ValType}
use Rattle.hs_values.specs.declared.types.ValType.TheOpen.{ValType-F}
use Rattle.hs_values.specs.declared.types.ValType.TheOpen as type
use Rattle.hs_values.specs.declared.types.TypeDef.{TypeDef}
use Rattle.hs_items.specs.declared.facts.Facts.{Facts}
use Rattle.hs_items.specs.Whole.{entry, expanded, facts_of}
use Rattle.hs_items.specs.Walk.{limited}

-- ---- types by their forms

abbrev pub unit : ValType
unit = roll-ValType type.Unit

abbrev pub bool : ValType
bool = roll-ValType type.Bool

abbrev pub int : IntTy → ValType
int k = roll-ValType (type.Int k)

-- the type of lengths, places and amounts
abbrev pub size : ValType
size = int PUsize

abbrev pub seq : ValType → ValType
seq t = roll-ValType (type.Seq t)

abbrev pub tuple : List ValType → ValType
tuple ts = roll-ValType (type.Tuple ts)

abbrev pub option : ValType → ValType
option t = roll-ValType (type.Option t)

abbrev pub result : ValType → ValType → ValType
result good bad = roll-ValType (type.Result good bad)

-- whether a type, by the tests of its parts, is this one
abbrev pub same_layer : ValType-F (ValType → Bool) → ValType-F ValType → Bool
same_layer type.Unit type.Unit = true
same_layer type.Bool type.Bool = true
same_layer (type.Int k) (type.Int l) = is_kind k l
same_layer (type.Seq is) (type.Seq t) = is t
same_layer (type.Named k) (type.Named l) = eqb k l
same_layer (type.Tuple parts) (type.Tuple ts) = each_fits parts ts
same_layer (type.Option is) (type.Option t) = is t
same_layer (type.Result is_good is_bad) (type.Result good bad) = is_good good && is_bad bad
same_layer _ _ = false

-- whether two types are one: two types with names are where their numbers are
abbrev pub same_type : ValType → ValType → Bool
same_type = fold-ValType (ValType → Bool) (λ layer t. same_layer layer (out-ValType t))

-- ---- what a type is made of

abbrev pub kind_layer : {T : Type 0} → ValType-F T → Option IntTy
kind_layer (type.Int k) = Some k
kind_layer _ = None

-- the kind of an integer type
abbrev pub kind_of : ValType → Option IntTy
kind_of t = kind_layer (out-ValType t)

abbrev pub parts_layer : {T : Type 0} → ValType-F T → Option (List T)
parts_layer (type.Tuple ts) = Some ts
parts_layer _ = None

-- the types of a tuple's parts
abbrev pub parts_of : ValType → Option (List ValType)
parts_of t = parts_layer (out-ValType t)

abbrev pub some_layer : {T : Type 0} → ValType-F T → Option T
some_layer (type.Option t) = Some t
some_layer _ = None

-- the type of an option's part
abbrev pub some_of : ValType → Option ValType
some_of t = some_layer (out-ValType t)

abbrev pub good_layer : {T : Type 0} → ValType-F T → Option T
good_layer (type.Result good bad) = Some good
good_layer _ = None

-- the good type of a result
abbrev pub good_of : ValType → Option ValType
good_of t = good_layer (out-ValType t)

abbrev pub bad_layer : {T : Type 0} → ValType-F T → Option T
bad_layer (type.Result good bad) = Some bad
bad_layer _ = None

-- the bad type of a result
abbrev pub bad_of : ValType → Option ValType
bad_of t = bad_layer (out-ValType t)

abbrev pub named_layer : {T : Type 0} → ValType-F T → Option ℕ
named_layer (type.Named k) = Some k
named_layer _ = None

-- the number of a type with a name
abbrev pub number_of : ValType → Option ℕ
number_of t = named_layer (out-ValType t)

module _ (table : List TypeDef) where
  -- the length and the item type of an array type
  abbrev pub array_layer : {T : Type 0} → ValType-F T → Option (ℕ × ValType)
  array_layer (type.Named k) = array_in (kind_at table k)
  array_layer _ = None

  abbrev pub array_of : ValType → Option (ℕ × ValType)
  array_of t = array_layer (out-ValType t)

  abbrev pub item_layer : ValType-F ValType → Option ValType
  item_layer (type.Seq t) = Some t
  item_layer layer = option_map (λ (a : ℕ × ValType). a.1) (array_layer layer)

  -- the item type of a sequence or an array
  abbrev pub item_of : ValType → Option ValType
  item_of t = item_layer (out-ValType t)

  -- whether there is a type, and it is this one
  abbrev pub is_type : ValType → Option ValType → Bool
  is_type t None = false
  is_type t (Some u) = same_type t u

  -- whether a type is a sequence or an array of items of the first
  abbrev pub is_row_of : ValType → ValType → Bool
  is_row_of item t = is_type item (item_of t)

  -- ---- what holds of a type with all names expanded

  -- its height, its nodes, whether it is copied, and whether it has a zero value
  abbrev pub asked_of : ValType → Facts
  asked_of t = facts_of (expanded table t)

-- this is what is asked of the types with names, by their numbers, as far as 32 bits hold it
abbrev pub FactsAgree : List TypeDef → List Facts → Type 0
FactsAgree table facts = (k : ℕ) → slice_get facts k ≡ option_map (λ (d : TypeDef). limited (facts_of (entry table k))) (slice_get table k)
