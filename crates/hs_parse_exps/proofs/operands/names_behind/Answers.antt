use Rattle.hs_grammar.specs.Until.{pushed}
use Rattle.hs_grammar.proofs.Reading.{reads_shorter, reads_star, advances}
use Rattle.hs_forms.specs.Lexis.{decides}
use Rattle.hs_forms.specs.Reading.{grammar, tables}
use Rattle.hs_forms.specs.Lookahead.{fits}
use Rattle.hs_parse_exps.specs.Parts.{as_name}
use Rattle.hs_parse_exps.proofs.Full.{as_name_full}
use Rattle.hs_parse_exps.proofs.operands.names_behind.Goals as goal

pub repeat-requires-clause-consumes : goal.repeat-requires-clause-consumes
repeat-requires-clause-consumes c = λ a b old new h.
    reads_shorter decides tables grammar fits 0 (pushed a) as_name as_name_full old.now new.now b h

pub returns : goal.returns
returns c =
    reads_star tables grammar 0 as_name c.new-start.result c.args.tokens.now c.repeat.new.tokens c.repeat.result c.new-start.ensures
    (c.repeat.ensures.reads _ (advances decides tables grammar fits 0 pushed as_name as_name_full) (λ a old new r h. h))
