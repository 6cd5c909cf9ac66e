use Rattle.std.proofs.Common.{◌≡◌, ◌∙◌, ap, Err, rules}
use Rattle.hs_items.specs.Meaning.{derives_copy}
use Rattle.hs_items.specs.Walk.{at}
use Rattle.hs_items.proofs.ByKind.{array_stops, struct_says, enum_says}
use Rattle.hs_items.proofs.checks.item.Goals as goal

pub returns-in_err-item_facts-in-Array-clause-first : goal.returns-in_err-item_facts-in-Array-clause-first
returns-in_err-item_facts-in-Array-clause-first c =
    let e : c.from_residual-in_err-item_facts-in-Array.result ≡ Err c.in_err-item_facts-in-Array.field-0.0 = search rules in
    rw e (array_stops c.args.world.now.symbols.now (at c.args.world.now.facts.now) c.args.item.now c.in-Array.field-0 c.in-Array.length c.in-Array.ty c.in_err-item_facts-in-Array.field-0.0 c.in-Array.is c.in_err-item_facts-in-Array.ensures)

pub returns-in_ok-parts-in-Struct-clause-first : goal.returns-in_ok-parts-in-Struct-clause-first
returns-in_ok-parts-in-Struct-clause-first c =
    struct_says c.args.world.now.symbols.now (at c.args.world.now.facts.now) c.args.item.now c.in-Struct.field-0 c.in-Struct.parts c.derives_copy-copies.result c.in_ok-parts-in-Struct.parts c.data_type.result c.in-Struct.is c.in_ok-parts-in-Struct.ensures
    (c.derives_copy-copies.ensures ∙ ap (derives_copy c.args.world.now.symbols.now) c.as_slice.ensures) c.data_type.ensures

pub returns-in_ok-parts-in-Enum-clause-first : goal.returns-in_ok-parts-in-Enum-clause-first
returns-in_ok-parts-in-Enum-clause-first c =
    enum_says c.args.world.now.symbols.now (at c.args.world.now.facts.now) c.args.item.now c.in-Enum.field-0 c.in-Enum.list c.derives_copy-copies-in-Enum.result c.in_ok-parts-in-Enum.parts c.data_type-in-Enum.result c.in-Enum.is c.in_ok-parts-in-Enum.ensures
    (c.derives_copy-copies-in-Enum.ensures ∙ ap (derives_copy c.args.world.now.symbols.now) c.as_slice-in-Enum.ensures) c.data_type-in-Enum.ensures
