use Rattle.hs_forms.specs.Reading.{RFile}
use Rattle.hs_forms.specs.Tokens.{tokens_of}
use Rattle.hs_parser.proofs.Answered.{one_file, one_break, file_breaks_not, read_tells_not}
use Rattle.hs_parser.proofs.parser.unambiguous.Goals as goal

pub returns-clause-one : goal.returns-clause-one
returns-clause-one c = λ text tokens. one_file (c.exact.ensures.unique RFile) (c.exact.ensures.apart RFile) text (tokens_of text tokens)

pub returns-clause-once : goal.returns-clause-once
returns-clause-once c = λ text tokens. one_break (c.exact.ensures.unique RFile) (c.exact.ensures.apart RFile) text (tokens_of text tokens)

pub returns-clause-apart : goal.returns-clause-apart
returns-clause-apart c = λ text tokens. file_breaks_not (c.exact.ensures.unique RFile) (c.exact.ensures.apart RFile) text (tokens_of text tokens)

pub returns-clause-read : goal.returns-clause-read
returns-clause-read c = λ text tokens x b r t. read_tells_not (c.exact.ensures.unique RFile) (c.exact.ensures.apart RFile) text (tokens_of text tokens) x b r.0 r.1 t
