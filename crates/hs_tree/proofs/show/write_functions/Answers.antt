use Rattle.hs_tree.specs.Of.{function_of}
use Rattle.hs_tree.proofs.Lines.{functions_more, functions_end}
use Rattle.hs_tree.proofs.show.write_functions.Goals as goal

pub loop-function-preserved : goal.loop-function-preserved
loop-function-preserved g c =
    functions_more c.args.table.now function_of c.args.functions.now c.loop-function.function-index c.function-item.result _ _ _
    c.loop-function-test.true c.function-item.is c.in_ok-write_function.ensures c.loop-function.invariant

pub returns : goal.returns
returns g c =
    functions_end c.args.table.now function_of c.args.functions.now c.loop-function.function-index _ _ c.loop-function-test.false
    c.loop-function.invariant
