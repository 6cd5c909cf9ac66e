use Rattle.std.proofs.Common.{◌≡◌, map, drop, Err, arith, rules}
use Rattle.hs_syntax.specs.declared.item.Param.{Param}
use Rattle.hs_marks.specs.First.{first}
use Rattle.hs_items.specs.Nodes.{row, in_param}
use Rattle.hs_items.specs.Walk.{at, nodes_of_ty}
use Rattle.hs_items.proofs.Rows.{row_stops, row_goes}
use Rattle.hs_items.proofs.checks.params.Goals as goal

pub returns-in_err-check : goal.returns-in_err-check
returns-in_err-check c =
    let e : c.from_residual.result ≡ Err c.in_err-check.field-0.0 = search rules in
    let from : first (row (map (in_param (nodes_of_ty c.args.world.now.symbols.now (at c.args.world.now.facts.now))) c.args.params.now)) ≡ first (row (map (in_param (nodes_of_ty c.args.world.now.symbols.now (at c.args.world.now.facts.now))) (drop c.loop-param.param-index c.as_slice-param-items.result.now))) = search rules in
    rw e (row_stops Param (in_param (nodes_of_ty c.args.world.now.symbols.now (at c.args.world.now.facts.now))) c.as_slice-param-items.result.now c.loop-param.param-index c.param-item.result (first (row (map (in_param (nodes_of_ty c.args.world.now.symbols.now (at c.args.world.now.facts.now))) c.args.params.now))) (omega arith) c.param-item.is from c.in_err-check.field-0.0 c.in_err-check.ensures)

pub loop-param-preserved : goal.loop-param-preserved
loop-param-preserved c =
    row_goes Param (in_param (nodes_of_ty c.args.world.now.symbols.now (at c.args.world.now.facts.now))) c.as_slice-param-items.result.now c.loop-param.param-index c.param-item.result (first (row (map (in_param (nodes_of_ty c.args.world.now.symbols.now (at c.args.world.now.facts.now))) c.as_slice-param-items.result.now))) (omega arith) c.param-item.is c.loop-param.invariant c.in_ok-check.ensures.0
