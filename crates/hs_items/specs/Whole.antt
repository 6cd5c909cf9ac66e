-- Types with all names expanded, and what the rules ask of them.
use Rattle.std.specs.Prelude.{ℕ, suc, ◌+◌, ◌*◌, max, Bool, true, false, ◌&&◌, nat_eq, List, [], ◌∷◌, length, map, reverse, if◌then◌else◌}
use Rattle.hs_values.specs.declared.types.ValType.{ValType, fold-ValType}
use Rattle.hs_values.specs.declared.types.ValType.TheOpen.{ValType-F}
use Rattle.hs_values.specs.declared.types.ValType.TheOpen as type
use Rattle.hs_values.specs.declared.types.TypeKind.{TypeKind}
use Rattle.hs_values.specs.declared.types.TypeKind.TheVariants as kind
use Rattle.hs_values.specs.declared.types.TypeDef.{TypeDef}
use Rattle.hs_items.specs.declared.facts.Facts.{Facts}
use Rattle.hs_items.specs.declared.shape.Shape.{Shape}
use Rattle.hs_items.specs.declared.shape.Shape.TheVariants as shape

-- types in a row with all names expanded: none, those of two rows, or one with its shape and the row of its parts
pub data Whole : Type 0 where
  none : Whole
  join : Whole → Whole → Whole
  node : Shape → Whole → Whole

abbrev pub row : List Whole → Whole
row [] = none
row (w ∷ ws) = join w (row ws)

-- a type without parts
abbrev pub single : Whole
single = node shape.Single none

-- ---- how names are expanded

module _ (named : ℕ → Whole) where
  abbrev pub expand_layer : ValType-F Whole → Whole
  expand_layer type.Unit = single
  expand_layer type.Bool = single
  expand_layer (type.Int k) = single
  expand_layer (type.Seq w) = node shape.Sequence w
  expand_layer (type.Named k) = named k
  expand_layer (type.Tuple ws) = node shape.Tuple (row ws)
  expand_layer (type.Option w) = node shape.Choice w
  expand_layer (type.Result v w) = node shape.Choice (join v w)

  -- a type, where the types with names are these
  abbrev pub expand : ValType → Whole
  expand = fold-ValType Whole expand_layer

  -- the parts of all constructors
  abbrev pub expand_ctors : List (List ℕ × List ValType) → Whole
  expand_ctors [] = none
  expand_ctors (c ∷ cs) = join (row (map expand c.1)) (expand_ctors cs)

  abbrev pub expand_kind : Bool → TypeKind → Whole
  expand_kind copies (kind.Array n t) = node (shape.Array n) (expand t)
  expand_kind copies (kind.Ctors cs) = node (shape.Declared copies) (expand_ctors cs)

  abbrev pub expand_def : TypeDef → Whole
  expand_def d = expand_kind d.copies d.kind

-- the type with this number, of types of which each has names of those before it alone; the last stands first
abbrev pub numbered : List TypeDef → ℕ → Whole
numbered [] k = none
numbered (d ∷ before) k = if nat_eq k (length before) then expand_def (numbered before) d else numbered before k

-- the type with this number in a table
abbrev pub entry : List TypeDef → ℕ → Whole
entry table k = numbered (reverse table) k

-- a type whose names are those of a table
abbrev pub expanded : List TypeDef → ValType → Whole
expanded table t = expand (entry table) t

-- ---- what is asked

-- the height: a type without parts has 1, any other one more than its highest part
abbrev pub height : Whole → ℕ
height none = 0
height (join v w) = max (height v) (height w)
height (node s parts) = suc (height parts)

-- the number of nodes: a type and the nodes of its parts, each part as often as it occurs
abbrev pub nodes : Whole → ℕ
nodes none = 0
nodes (join v w) = nodes v + nodes w
nodes (node s parts) = suc (nodes parts)

-- the items of a type among the items of an array: an array has as often those of its item as it has items, a tuple those of
-- its parts, and any other type is one
abbrev pub items_over : Shape → ℕ → ℕ
items_over (shape.Array n) i = n * i
items_over shape.Tuple i = i
items_over shape.Single i = 1
items_over shape.Sequence i = 1
items_over shape.Choice i = 1
items_over (shape.Declared d) i = 1

abbrev pub items : Whole → ℕ
items none = 0
items (join v w) = items v + items w
items (node s parts) = items_over s (items parts)

-- whether a type is copied, by whether its parts are
abbrev pub copied_over : Shape → Bool → Bool
copied_over shape.Single c = true
copied_over shape.Sequence c = false
copied_over (shape.Array n) c = true
copied_over shape.Tuple c = c
copied_over shape.Choice c = c
copied_over (shape.Declared d) c = d

-- whether all types of a row are copied
abbrev pub copied : Whole → Bool
copied none = true
copied (join v w) = copied v && copied w
copied (node s parts) = copied_over s (copied parts)

-- whether a type has a zero value, by whether its parts have one
abbrev pub zero_over : Shape → Bool → Bool
zero_over shape.Single z = true
zero_over shape.Sequence z = true
zero_over (shape.Array n) z = true
zero_over shape.Tuple z = z
zero_over shape.Choice z = false
zero_over (shape.Declared d) z = false

-- whether all types of a row have a zero value
abbrev pub has_zero : Whole → Bool
has_zero none = true
has_zero (join v w) = has_zero v && has_zero w
has_zero (node s parts) = zero_over s (has_zero parts)

-- what is asked of a type, or of the types of a row
abbrev pub facts_of : Whole → Facts
facts_of w = record { height = height w; nodes = nodes w; items = items w; copied = copied w; has_zero = has_zero w }
