use Rattle.std.proofs.Common.{◌≡◌, ◌∙◌, Err, rules}
use Rattle.hs_items.specs.Walk.{at}
use Rattle.hs_items.proofs.Layers.{breaks_itself, tuple_stops, tuple_goes, applied_stops, applied_goes}
use Rattle.hs_items.proofs.types.World.+check.Goals as goal

pub check-returns-in_err-refuse_if : goal.check-returns-in_err-refuse_if
check-returns-in_err-refuse_if t c =
    let e : c.from_residual-in_err-refuse_if.result ≡ Err c.in_err-refuse_if.field-0.0 = search rules in
    rw e
    (breaks_itself c.args.self.now.symbols.now (at c.args.self.now.facts.now) c.args.ty.now c.in_ok-facts.facts c.span.result c.is_too_great.result c.in_ok-facts.ensures c.span.ensures c.is_too_great.ensures
    ∙ c.in_err-refuse_if.ensures)

pub check_inside-returns-in_err-check_all-in-Tuple : goal.check_inside-returns-in_err-check_all-in-Tuple
check_inside-returns-in_err-check_all-in-Tuple t c =
    let e : c.from_residual.result ≡ Err c.in_err-check_all-in-Tuple.field-0.0 = search rules in
    rw e (tuple_stops c.args.self.now.symbols.now (at c.args.self.now.facts.now) c.args.ty.now c.in-Tuple.field-0 c.in-Tuple.parts c.in_err-check_all-in-Tuple.field-0.0 c.in-Tuple.is c.in_err-check_all-in-Tuple.ensures)

pub check_inside-returns-in_err-row-in-Applied : goal.check_inside-returns-in_err-row-in-Applied
check_inside-returns-in_err-row-in-Applied t c =
    let e : c.from_residual-in_err-row-in-Applied.result ≡ Err c.in_err-row-in-Applied.field-0.0 = search rules in
    rw e (applied_stops c.args.self.now.symbols.now (at c.args.self.now.facts.now) c.args.ty.now c.in-Applied.field-0 c.in-Applied.name c.in-Applied.parts c.in_err-row-in-Applied.field-0.0 c.in-Applied.is c.in_err-row-in-Applied.ensures)

pub check_inside-returns-in_ok-check_all-in-Tuple : goal.check_inside-returns-in_ok-check_all-in-Tuple
check_inside-returns-in_ok-check_all-in-Tuple t c =
    tuple_goes c.args.self.now.symbols.now (at c.args.self.now.facts.now) c.args.ty.now c.in-Tuple.field-0 c.in-Tuple.parts c.in_ok-check_all-in-Tuple.field-0 c.over.result c.in-Tuple.is c.in_ok-check_all-in-Tuple.ensures c.over.ensures

pub check_inside-returns-in_ok-row-in-Applied : goal.check_inside-returns-in_ok-row-in-Applied
check_inside-returns-in_ok-row-in-Applied t c =
    applied_goes c.args.self.now.symbols.now (at c.args.self.now.facts.now) c.args.ty.now c.in-Applied.field-0 c.in-Applied.name c.in-Applied.parts c.in_ok-row-in-Applied.row c.named-in-Applied.result c.len.result c.in-Applied.is c.in_ok-row-in-Applied.ensures
    c.len.ensures c.named-in-Applied.ensures
