use Rattle.std.proofs.lemmas.Result.{err_from_is_err_and}
use Rattle.hs_front.proofs.Kept.{names_told, decls_told, none_told}
use Rattle.hs_front.proofs.stages.look_over.Goals as goal

pub returns-in_err-names-clause-only_told : goal.returns-in_err-names-clause-only_told
returns-in_err-names-clause-only_told c =
    let told = err_from_is_err_and c.from_residual.result c.from_residual.ensures.1 in
    rw (told.1, told.2) (names_told c.args.file.now c.names_exclude.ensures c.in_err-names.field-0.0 c.in_err-names.ensures.names c.in_err-names.ensures.only_told)

pub returns-in_err-items-clause-only_told : goal.returns-in_err-items-clause-only_told
returns-in_err-items-clause-only_told c =
    let told = err_from_is_err_and c.from_residual-in_err-items.result c.from_residual-in_err-items.ensures.1 in
    rw (told.1, told.2)
    (decls_told c.args.file.now c.names_exclude.ensures c.in_ok-names.names c.in_ok-names.ensures.names c.in_err-items.field-0.0 c.in_err-items.ensures.only_told)

pub returns-clause-only_told : goal.returns-clause-only_told
returns-clause-only_told c =
    none_told c.args.file.now c.names_exclude.ensures c.in_ok-names.names c.in_ok-names.ensures.names c.declarations_exclude.ensures c.in_ok-items.field-0 c.in_ok-items.ensures.exact _
