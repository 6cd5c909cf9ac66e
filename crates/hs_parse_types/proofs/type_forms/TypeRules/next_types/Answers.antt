use Rattle.std.proofs.Common.{refl}
use Rattle.hs_grammar.specs.Until.{turn_of}
use Rattle.hs_grammar.proofs.Reading.{reads_shorter, turns_advance}
use Rattle.hs_forms.specs.Lexis.{decides}
use Rattle.hs_forms.specs.Reading.{next_type, tables, grammar}
use Rattle.hs_forms.specs.Lookahead.{fits}
use Rattle.hs_parse_types.specs.Lists.{one_more, last_one}
use Rattle.hs_parse_types.proofs.Lists.{type_turn, reads_types}
use Rattle.hs_parse_types.proofs.type_forms.TypeRules.next_types.Goals as goal

pub repeat_until-requires-clause-consumes : goal.repeat_until-requires-clause-consumes
unfolding next_type
repeat_until-requires-clause-consumes g c = λ a t old new h. reads_shorter decides tables grammar fits c.args.self.now.depth (turn_of one_more last_one a) type_turn refl old.now new.now t h

pub returns : goal.returns
unfolding next_type
returns g c =
    reads_types c.args.self.now.depth c.args.first _ c.args.tokens.now c.repeat_until.new.tokens c.repeat_until.result c.in_ok-types.ensures
    (c.repeat_until.ensures.reads _ (turns_advance decides tables grammar fits c.args.self.now.depth one_more last_one type_turn refl) (λ a old new r h. h))
