-- The rules on declarations, each as a condition on one node: on what is asked of the types that are written there. In what
-- order nodes stand is said elsewhere.
use Rattle.std.specs.Prelude.{ℕ, Bool, not, ◌||◌, ◌&&◌, ltb, leb, true}
use Rattle.hs_items.specs.declared.facts.Facts.{Facts}

-- N8: an array has 1 to 65,536 items, inner items counted. An array with so many in all
abbrev pub wrong_count : ℕ → Bool
wrong_count items = not (leb 1 items && leb items 65536)

-- N9: a type that is copied has a part that is not. A struct or an enum, which may be copied, and whose parts all are or not
abbrev pub part_moves : Bool → Bool → Bool
part_moves copies parts_copied = copies && not parts_copied

-- N11: an array's items are of a copied type with a zero value. An array with items of this type
abbrev pub unfit : Facts → Bool
unfit item = not (item.copied && item.has_zero)

-- N12: this modulus is not read. None is
abbrev pub not_read : Bool
not_read = true

-- S2: a type has height at most 48 and at most 4,096 nodes, with all names expanded. A written type
abbrev pub too_great : Facts → Bool
too_great t = ltb 48 t.height || ltb 4096 t.nodes
