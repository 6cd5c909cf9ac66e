use Rattle.std.proofs.Common.{◌≡◌, sym, subst, option_map, IfOk}
use Rattle.hs_tree.specs.Plain.{Name}
use Rattle.hs_typing.specs.Called.{called_of}
use Rattle.hs_typing.specs.Operations.{row_named}
use Rattle.hs_typing.specs.Views.{type_of}
use Rattle.hs_typing.proofs.Spellings.{methods_of_row, row_spelled, row_unspelled}
use Rattle.hs_typing.proofs.ground.Ground.row_method.Goals as goal

pub returns-in-Some : goal.returns-in-Some
returns-in-Some c =
    subst (λ (name : Name). IfOk c.row_called.result (λ called. option_map called_of called ≡ row_named (methods_of_row (type_of c.args.own.now) c.args.item.now c.args.pushes) name))
    (sym (row_spelled c.args.name.now c.in-Some.word (sym c.in-Some.ensures))) c.row_called.ensures

pub returns-in-None : goal.returns-in-None
returns-in-None c = sym (row_unspelled (type_of c.args.own.now) c.args.item.now c.args.pushes c.args.name.now (sym c.in-None.ensures))
