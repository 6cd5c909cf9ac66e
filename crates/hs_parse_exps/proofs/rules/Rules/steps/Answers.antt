use Rattle.hs_grammar.specs.Until.{pushed}
use Rattle.hs_grammar.proofs.Reading.{reads_shorter, reads_star, advances}
use Rattle.hs_forms.specs.Lexis.{decides}
use Rattle.hs_forms.specs.Reading.{grammar, tables, postfix_form, index}
use Rattle.hs_forms.specs.Lookahead.{fits}
use Rattle.hs_parse_exps.proofs.Full.{postfix_full}
use Rattle.hs_parse_exps.proofs.rules.Rules.steps.Goals as goal

pub repeat-requires-clause-consumes : goal.repeat-requires-clause-consumes
repeat-requires-clause-consumes g c = λ a b old new h.
    reads_shorter decides tables grammar fits c.args.self.now.depth (pushed a) postfix_form postfix_full old.now new.now b h

pub returns : goal.returns
unfolding postfix_form index
returns g c =
    reads_star tables grammar c.args.self.now.depth postfix_form c.new-start.result c.args.tokens.now c.repeat.new.tokens c.repeat.result c.new-start.ensures
    (c.repeat.ensures.reads _ (advances decides tables grammar fits c.args.self.now.depth pushed postfix_form postfix_full) (λ a old new r h. h))
