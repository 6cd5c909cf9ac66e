use Rattle.std.proofs.Common.{◌-◌, length, take, drop}
use Rattle.hs_tree.specs.Text.{shown_type}
use Rattle.hs_tree.proofs.Pieces.{parts_begin, parts_more}
use Rattle.hs_tree.proofs.text.+ty.Goals as goal

pub write_parts-loop-part-init : goal.write_parts-loop-part-init
write_parts-loop-part-init t c =
    parts_begin (shown_type c.args.table.now) c.args.parts.now c.first-item.result _ _ _ c.in-len1-up.len_at_least c.first-item.is
    c.in_ok-extend_from_slice.ensures.items c.in_ok-write_type.ensures

pub write_parts-loop-part-preserved : goal.write_parts-loop-part-preserved
write_parts-loop-part-preserved t c =
    parts_more (shown_type c.args.table.now) (take (length c.args.parts.now - 1) (drop 1 c.args.parts.now)) c.loop-part.part-index c.part-item.result _ _ _ _
    c.loop-part-test.true c.part-item.is c.in_ok-extend_from_slice-2.ensures.items c.in_ok-write_type-2.ensures c.loop-part.invariant
