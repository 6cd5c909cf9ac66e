use Rattle.std.proofs.Common.{◌≡◌, ◌∷◌, ◌++◌, map, drop}
use Rattle.hs_tree.specs.Text.{first_bytes, starred, shown_type}
use Rattle.hs_tree.proofs.Pieces.{star_bytes}
use Rattle.hs_tree.proofs.text.+ty.Given as goal

-- with the text of the types that are left, the text is that of all parts
abbrev pub invariant-write_parts-loop-part : goal.invariant-write_parts-loop-part
invariant-write_parts-loop-part l =
    l.text.items ++ star_bytes (map (shown_type l.table) (drop l.part-index l.rest))
    ≡ l.fn.text.items ++ 40 ∷ first_bytes (starred (map (shown_type l.table) l.fn.parts))
