use Rattle.std.proofs.Common.{IfOk, sym, subst}
use Rattle.std.proofs.lemmas.Result.{err_from_is_err_and}
use Rattle.hs_first_tree.specs.Of.{program_of}
use Rattle.hs_front.specs.Answers.{OnBreak}
use Rattle.hs_front.specs.Told.{AcceptedBehind, ToldBehind}
use Rattle.hs_front.proofs.Whole.{whole_accepted, whole_told, none_only_break, kept_only_break, broken_told, broken_only, broken_only_break}
use Rattle.hs_front.proofs.check.behind_tokens.Goals as goal

pub returns-in_err-file-clause-only_break : goal.returns-in_err-file-clause-only_break
returns-in_err-file-clause-only_break c =
    let told = err_from_is_err_and c.from_residual.result c.from_residual.ensures.1 in
    rw (told.1, told.2)
    (none_only_break c.args.bytes.now c.args.tokens.now c.in_err-file.field-0.0 c.in_err-file.ensures.only_file c.in_err-file.ensures.only_told)

pub returns-in_err-look_over-clause-told : goal.returns-in_err-look_over-clause-told
returns-in_err-look_over-clause-told c =
    let told = err_from_is_err_and c.from_residual-in_err-look_over.result c.from_residual-in_err-look_over.ensures.1 in
    broken_told c.args.bytes.now c.args.tokens.now c.unambiguous.ensures.one c.unambiguous.ensures.read c.stages_exclude.ensures c.in_ok-file.file c.in_ok-file.ensures.answers
    c.in_err-look_over.field-0.0 told.0 told.2 c.in_err-look_over.ensures.keeps _ c.from_residual-in_err-look_over.result told.1

pub returns-in_err-look_over-clause-only_program : goal.returns-in_err-look_over-clause-only_program
returns-in_err-look_over-clause-only_program c =
    let told = err_from_is_err_and c.from_residual-in_err-look_over.result c.from_residual-in_err-look_over.ensures.1 in
    rw told.1
    (broken_only c.args.bytes.now c.args.tokens.now c.unambiguous.ensures.one c.unambiguous.ensures.read c.stages_exclude.ensures c.in_ok-file.file c.in_ok-file.ensures.answers
    c.in_err-look_over.field-0.0 told.0 told.2 c.in_err-look_over.ensures.keeps)

pub returns-in_err-look_over-clause-only_break : goal.returns-in_err-look_over-clause-only_break
returns-in_err-look_over-clause-only_break c =
    let told = err_from_is_err_and c.from_residual-in_err-look_over.result c.from_residual-in_err-look_over.ensures.1 in
    rw told.1
    (broken_only_break c.args.bytes.now c.args.tokens.now c.unambiguous.ensures.one c.unambiguous.ensures.read c.stages_exclude.ensures c.in_ok-file.file c.in_ok-file.ensures.answers
    c.in_err-look_over.field-0.0 told.0 told.2 c.in_err-look_over.ensures.keeps c.in_err-look_over.ensures.only_told)

pub returns-clause-accepted : goal.returns-clause-accepted
returns-clause-accepted c =
    whole_accepted c.args.bytes.now c.args.tokens.now program_of c.checked.result (c.in_ok-file.file, c.in_ok-file.ensures.answers, c.in_ok-look_over.ensures.keeps)
    (subst (λ ts. IfOk c.checked.result (λ p. AcceptedBehind c.args.bytes.now ts (program_of p))) c.as_slice.ensures c.checked.ensures.accepted)

pub returns-clause-told : goal.returns-clause-told
returns-clause-told c =
    whole_told c.args.bytes.now c.args.tokens.now c.checked.result (c.in_ok-file.file, c.in_ok-file.ensures.answers, c.in_ok-look_over.ensures.keeps)
    (subst (λ ts. OnBreak c.checked.result (ToldBehind c.args.bytes.now ts)) c.as_slice.ensures c.checked.ensures.told)

pub returns-clause-only_program : goal.returns-clause-only_program
returns-clause-only_program c = λ p a. c.checked.ensures.only_program p (subst (λ ts. AcceptedBehind c.args.bytes.now ts p) (sym c.as_slice.ensures) a.1)

pub returns-clause-only_break : goal.returns-clause-only_break
returns-clause-only_break c =
    kept_only_break c.args.bytes.now c.args.tokens.now c.unambiguous.ensures.one c.unambiguous.ensures.read c.stages_exclude.ensures c.in_ok-file.file c.in_ok-file.ensures.answers
    c.checked.result c.in_ok-look_over.ensures.keeps (λ b t. c.checked.ensures.only_break b (subst (λ ts. ToldBehind c.args.bytes.now ts b) (sym c.as_slice.ensures) t))
