use Rattle.hs_tree.specs.Of.{block_of, param_of}
use Rattle.hs_tree.proofs.Lines.{params_held, block_held, function_line}
use Rattle.hs_tree.proofs.show.write_function.Goals as goal

pub returns : goal.returns
returns g c =
    let table = c.args.table.now in
    let function = c.args.function.now in
    let held = c.as_slice-names.result.now in
    let name = rw c.bytes.ensures at c.in_ok-extend_from_slice-2.ensures.items in
    let params =
    params_held table param_of held function.body.locals c.as_slice.result.now function.params _ _ c.as_slice-names.ensures c.as_slice.ensures
    c.in_ok-write_params.ensures in
    let type = rw c.get.ensures at c.in_ok-write_type.ensures in
    let body = block_held table (λ ns. block_of ns function.body.block) held function.body.locals _ _ c.as_slice-names.ensures c.in_ok-write_block.ensures in
    function_line c.extend_from_slice-5.result _ _ _ _ _ _ _ _ _ _ _ _ c.extend_from_slice-5.new.self.items
    c.in_ok-extend_from_slice.ensures.items name c.in_ok-extend_from_slice-3.ensures.items params
    c.in_ok-extend_from_slice-4.ensures.items type body c.extend_from_slice-5.ensures.items
