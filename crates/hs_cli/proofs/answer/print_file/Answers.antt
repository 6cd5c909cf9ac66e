use Rattle.std.proofs.Common.{rules, subst, ℕ, List}
use Rattle.hs_cli.specs.declared.command.Dialect.{Dialect}
use Rattle.hs_cli.specs.Command.{Print}
use Rattle.hs_cli.specs.Output.{CarriedOut}
use Rattle.hs_cli.specs.Written.{written_of}
use Rattle.hs_cli.proofs.Outputs.{IfOk-map, read_output, lacks_output, exceeds_output, holds_output}
use Rattle.hs_cli.proofs.answer.print_file.Goals as goal

abbrev asked : Dialect → List ℕ → List ℕ → Print
asked dialect name file = record { dialect = dialect; module_name = name; file = file }

pub returns-in-Ok-clause-output : goal.returns-in-Ok-clause-output
returns-in-Ok-clause-output g c =
    let form = asked c.args.dialect c.args.module_name.now c.args.file.now in
    IfOk-map c.print_source.result _ _
    (λ answer w. holds_output (g.F.Files.told c.args.files.now) form c.in-Ok.source.items (written_of answer) c.in-Ok.ensures.bytes c.in-Ok.ensures.within
    (subst (λ (bytes : List ℕ). CarriedOut form bytes (written_of answer)) c.deref.ensures.value w))
    c.print_source.ensures

pub returns-in-Err-NotThere-clause-output : goal.returns-in-Err-NotThere-clause-output
returns-in-Err-NotThere-clause-output g c =
    IfOk-map c.not_there.result _ _
    (λ answer w. lacks_output (g.F.Files.told c.args.files.now) (asked c.args.dialect c.args.module_name.now c.args.file.now) (written_of answer) (c.in-Err-NotThere.ensures.not_there (search rules)) w)
    c.not_there.ensures

pub returns-in-Err-TooLarge-clause-output : goal.returns-in-Err-TooLarge-clause-output
returns-in-Err-TooLarge-clause-output g c =
    IfOk-map c.too_large.result _ _
    (λ answer w. exceeds_output (g.F.Files.told c.args.files.now) (asked c.args.dialect c.args.module_name.now c.args.file.now) (written_of answer) (c.in-Err-TooLarge.ensures.too_large (search rules)) w)
    c.too_large.ensures

pub returns-in-Err-Failed-clause-output : goal.returns-in-Err-Failed-clause-output
returns-in-Err-Failed-clause-output g c =
    IfOk-map c.read_failed.result _ _
    (λ answer w. read_output (g.F.Files.told c.args.files.now) (asked c.args.dialect c.args.module_name.now c.args.file.now) (written_of answer) w)
    c.read_failed.ensures
