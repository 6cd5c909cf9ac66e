use Rattle.std.proofs.Common.{map, string_bytes}
use Rattle.hs_cli.specs.Asked.{asked_by}
use Rattle.hs_cli.specs.Written.{written_of}
use Rattle.hs_cli.proofs.Asks.{command_named}
use Rattle.hs_cli.proofs.Outputs.{IfOk-map, usage_output, asked_output}
use Rattle.hs_cli.proofs.answer.make_answer.Goals as goal

pub returns-in-None-clause-output : goal.returns-in-None-clause-output
returns-in-None-clause-output g c =
    IfOk-map c.usage.result _ _ (λ answer w. usage_output (map string_bytes c.args.words.now) (g.F.Files.told c.args.files.now) (written_of answer) c.in-None.ensures w) c.usage.ensures

pub carry_out-requires : goal.carry_out-requires
carry_out-requires g c = command_named (map string_bytes c.args.words.now) (asked_by c.in-Some.command) c.in-Some.ensures

pub returns-in-Some-clause-output : goal.returns-in-Some-clause-output
returns-in-Some-clause-output g c =
    IfOk-map c.carry_out.result _ _
    (λ answer w. asked_output (map string_bytes c.args.words.now) (g.F.Files.told c.args.files.now) (asked_by c.in-Some.command) (written_of answer) c.in-Some.ensures w)
    c.carry_out.ensures.output
