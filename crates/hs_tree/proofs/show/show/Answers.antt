use Rattle.std.proofs.Common.{◌∙◌}
use Rattle.hs_tree.specs.Of.{function_of}
use Rattle.hs_tree.proofs.Lines.{functions_whole}
use Rattle.hs_tree.proofs.show.show.Goals as goal

pub returns : goal.returns
returns g c =
    functions_whole c.args.program.now.types function_of c.get-2.result.now c.as_slice-functions.result.now c.args.program.now.functions _ _
    c.new-text.ensures.items c.get-2.ensures (c.as_slice-functions.ensures ∙ c.get.ensures) c.in_ok-write_functions.ensures
