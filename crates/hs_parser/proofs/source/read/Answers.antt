use Rattle.std.proofs.Common.{suc, ◌*◌, length, subst, arith}
use Rattle.hs_grammar.specs.Parser.{parse_by}
use Rattle.hs_grammar.specs.Reads.{Reads}
use Rattle.hs_forms.specs.Reading.{RFile, grammar, tables}
use Rattle.hs_parser.proofs.Ranks.{rank, ranked}
use Rattle.hs_parser.proofs.source.read.Goals as goal

pub returns : goal.returns
returns c =
    let depth = suc (2 * length c.args.tokens.now) in
    c.exact.ensures.parses_all rank 2 ranked depth RFile c.args.tokens.now c.finish.result (omega arith)
    (c.finish.ensures.finishes (parse_by tables grammar depth RFile c.args.tokens.now)
    (subst (λ w. Reads (parse_by tables grammar depth RFile w) c.file-found.result c.file-found.new.tokens) c.new-rest.ensures c.file-found.ensures))
