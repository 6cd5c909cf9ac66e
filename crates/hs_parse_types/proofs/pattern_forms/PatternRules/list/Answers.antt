use Rattle.std.proofs.Common.{refl}
use Rattle.hs_grammar.specs.Until.{turn_of, pushed, kept}
use Rattle.hs_grammar.specs.Combinators.{list_turn}
use Rattle.hs_grammar.proofs.Reading.{reads_shorter, reads_list, turns_advance}
use Rattle.hs_forms.specs.Lexis.{decides}
use Rattle.hs_forms.specs.Reading.{comma, pattern, tables, grammar}
use Rattle.hs_forms.specs.Lookahead.{fits}
use Rattle.hs_parse_types.proofs.pattern_forms.PatternRules.list.Goals as goal

pub repeat_until-requires-clause-consumes : goal.repeat_until-requires-clause-consumes
repeat_until-requires-clause-consumes g c = λ a t old new h. reads_shorter decides tables grammar fits c.args.self.now.depth (turn_of pushed kept a) (list_turn comma pattern) refl old.now new.now t h

pub returns : goal.returns
returns g c =
    reads_list tables grammar c.args.self.now.depth comma pattern c.in_ok-pattern.field-0 c.in_ok-first.first c.args.tokens.now c.pattern.new.tokens c.repeat_until.new.tokens c.repeat_until.result c.in_ok-first.ensures c.in_ok-pattern.ensures
    (c.repeat_until.ensures.reads _ (turns_advance decides tables grammar fits c.args.self.now.depth pushed kept (list_turn comma pattern) refl) (λ a old new r h. h))
