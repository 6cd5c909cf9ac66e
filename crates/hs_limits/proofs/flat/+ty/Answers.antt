use Rattle.std.proofs.Common.{◌≡◌, Some, map, ◌∙◌, sym, arith, rules}
use Rattle.hs_limits.specs.Outline.{part}
use Rattle.hs_limits.specs.Nodes.{node_of_ty}
use Rattle.hs_limits.specs.Walk.{first_in, listed}
use Rattle.hs_limits.proofs.At.{ty_at}
use Rattle.hs_limits.proofs.Steps.{all_of, past_limit}
use Rattle.hs_limits.proofs.flat.+ty.Goals as goal

pub tys-loop-index-init : goal.tys-loop-index-init
tys-loop-index-init t c = all_of node_of_ty c.args.limit part c.as_slice-part-items.result.now

pub tys-returns-in_err-refuse_if : goal.tys-returns-in_err-refuse_if
tys-returns-in_err-refuse_if t c =
    let told : first_in (listed c.args.limit part (map node_of_ty c.args.tys.now)) ≡ Some c.in_err-refuse_if.field-0.0 =
    past_limit node_of_ty c.args.limit part c.loop-index.index c.as_slice-part-items.result.now c.part-item.result (first_in (listed c.args.limit part (map node_of_ty c.args.tys.now))) c.span.result c.is_past.result c.in_err-refuse_if.field-0.0
    (omega arith) c.part-item.is (search rules) (search rules) c.is_past.ensures (ty_at c.part-item.result ∙ sym c.span.ensures) (search rules) in
    grind (arith, told)
