use Rattle.std.proofs.Common.{◌≡◌, sym, ◌∙◌, ap, subst, Some, ◌++◌, option_map, IfOk}
use Rattle.hs_values.specs.declared.types.ValType.{ValType}
use Rattle.hs_typing.specs.Types.{item_of}
use Rattle.hs_typing.specs.Called.{called_of}
use Rattle.hs_typing.specs.Operations.{Listing, row_named, row_methods, seq_methods}
use Rattle.hs_typing.specs.Views.{type_of}
use Rattle.hs_typing.proofs.ByForm.{own_seq, own_row}
use Rattle.hs_typing.proofs.ground.Ground.own_method.Goals as goal

pub returns-in-Seq : goal.returns-in-Seq
returns-in-Seq c =
    let own = type_of c.args.own.now in
    subst (λ (methods : Listing). IfOk c.row_method.result (λ called. option_map called_of called ≡ row_named methods c.args.name.now))
    (ap (λ (item : ValType). row_methods own (Some item) ++ seq_methods own (Some item)) c.get-in-Seq.ensures ∙ sym (own_seq c.args.self.now.table.types.now own c.in-Seq.item (sym c.get.ensures ∙ c.in-Seq.is)))
    c.row_method.ensures

pub returns-in-Some : goal.returns-in-Some
returns-in-Some c =
    let table = c.args.self.now.table.types.now in
    let own = type_of c.args.own.now in
    subst (λ (methods : Listing). IfOk c.row_method-in-Some.result (λ called. option_map called_of called ≡ row_named methods c.args.name.now))
    (sym
    (own_row table own c.in-Named.field-0 (Some c.in-Some.item.now) (sym c.get.ensures ∙ c.in-Named.is) (ap (item_of table) (sym c.get-in-Named.ensures) ∙ sym c.in-Some.ensures)))
    c.row_method-in-Some.ensures
