use Rattle.std.proofs.Common.{subst}
use Rattle.hs_grammar.specs.Reads.{Reads}
use Rattle.hs_grammar.specs.Whole.{Finishes}
use Rattle.hs_front.specs.Written.{AFile}
use Rattle.hs_front.specs.Reading.{file_read, reads}
use Rattle.hs_front.proofs.Flat.{finish_not_deep}
use Rattle.hs_front.proofs.parse.read.Goals as goal

finished : (c : goal.After-finish) → Finishes (reads file_read c.args.tokens.now) c.args.tokens.now c.finish.result
finished c =
    c.finish.ensures.finishes (reads file_read c.args.tokens.now)
    (subst (λ w. Reads (reads file_read w) c.file-found.result c.file-found.new.tokens) c.new-rest.ensures c.file-found.ensures)

pub returns-clause-parses : goal.returns-clause-parses
returns-clause-parses c = c.exact.ensures.parses 1 AFile c.args.tokens.now c.finish.result (finished c)

pub returns-clause-flat : goal.returns-clause-flat
returns-clause-flat c = finish_not_deep c.args.tokens.now c.finish.result (finished c)
