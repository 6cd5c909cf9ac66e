use Rattle.std.proofs.Common.{inl}
use Rattle.hs_first_tree.specs.Of.{program_of}
use Rattle.hs_cli.specs.Command.{Print}
use Rattle.hs_cli.specs.Written.{written_of}
use Rattle.hs_cli.proofs.Outputs.{IfOk-map, stop_output}
use Rattle.hs_cli.proofs.answer.print_source.Goals as goal

pub returns-in-Ok : goal.returns-in-Ok
returns-in-Ok c =
    let kept = c.in-Ok.ensures in
    IfOk-map c.print_program.result _ _
    (λ answer w. inl (program_of c.in-Ok.program, kept.accepted, (λ b t. kept.apart (program_of c.in-Ok.program) b kept.accepted t), w.0, w.1, w.2))
    c.print_program.ensures

pub returns-in-Err : goal.returns-in-Err
returns-in-Err c =
    let form : Print = record { dialect = c.args.dialect; module_name = c.args.module_name.now; file = c.args.file.now } in
    IfOk-map c.stopped.result _ _
    (λ answer w. stop_output form c.args.source.now c.in-Err.stop (written_of answer) c.in-Err.ensures.told c.in-Err.ensures.only_break c.in-Err.ensures.apart w)
    c.stopped.ensures
