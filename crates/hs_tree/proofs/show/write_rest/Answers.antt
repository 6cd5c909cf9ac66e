use Rattle.hs_tree.specs.Of.{param_of}
use Rattle.hs_tree.proofs.Lines.{params_more, params_end}
use Rattle.hs_tree.proofs.show.write_rest.Goals as goal

pub loop-param-preserved : goal.loop-param-preserved
loop-param-preserved g c =
    params_more c.args.table.now (param_of c.args.names.now) c.args.params.now c.loop-param.param-index c.param-item.result _ _ _ _
    c.loop-param-test.true c.param-item.is c.in_ok-extend_from_slice.ensures.items c.in_ok-write_param.ensures c.loop-param.invariant

pub returns : goal.returns
returns g c =
    params_end c.args.table.now c.extend_from_slice-2.result (param_of c.args.names.now) c.args.params.now c.loop-param.param-index
    c.loop-param.text.items c.extend_from_slice-2.new.self.items _ c.loop-param-test.false c.extend_from_slice-2.ensures.items
    c.loop-param.invariant
