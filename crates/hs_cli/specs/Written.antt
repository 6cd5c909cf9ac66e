-- What is to be written, as the text of each sink.
use Rattle.hs_cli.specs.declared.answer.Answer.{Answer}
use Rattle.hs_cli.specs.Output.{Written}

abbrev pub written_of : Answer → Written
written_of answer = record { status = answer.status; out = answer.out.items; err = answer.err.items }
