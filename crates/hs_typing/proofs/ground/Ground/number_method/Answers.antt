use Rattle.std.proofs.Common.{◌≡◌, sym, subst, Some, option_map, IfOk}
use Rattle.hs_tree.specs.Plain.{Name}
use Rattle.hs_typing.specs.Called.{called_of}
use Rattle.hs_typing.specs.Operations.{row_named, number_methods}
use Rattle.hs_typing.proofs.Spellings.{number_spelled, number_unspelled}
use Rattle.hs_typing.proofs.ground.Ground.number_method.Goals as goal

pub returns-in-Some : goal.returns-in-Some
returns-in-Some c =
    subst (λ (name : Name). IfOk c.number_called.result (λ called. option_map called_of called ≡ row_named (number_methods (Some c.args.kind)) name))
    (sym (number_spelled c.args.name.now c.in-Some.word (sym c.in-Some.ensures))) c.number_called.ensures

pub returns-in-None : goal.returns-in-None
returns-in-None c = sym (number_unspelled c.args.kind c.args.name.now (sym c.in-None.ensures))
