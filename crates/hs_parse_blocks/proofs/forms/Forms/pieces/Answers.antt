use Rattle.std.proofs.Common.{ap, None}
use Rattle.hs_grammar.specs.Until.{turn_of}
use Rattle.hs_grammar.proofs.Reading.{reads_shorter, turns_advance}
use Rattle.hs_forms.specs.Lexis.{decides}
use Rattle.hs_forms.specs.Reading.{grammar, tables}
use Rattle.hs_forms.specs.Lookahead.{fits}
use Rattle.hs_parse_blocks.specs.Body.{piece_turn, with_statement, with_value}
use Rattle.hs_parse_blocks.proofs.Bodies.{piece_turn_full, pieces_read}
use Rattle.hs_parse_blocks.proofs.forms.Forms.pieces.Goals as goal

pub repeat_until-requires-clause-consumes : goal.repeat_until-requires-clause-consumes
repeat_until-requires-clause-consumes g c = λ a t old new h.
    reads_shorter decides tables grammar fits c.args.self.now.rules.depth (turn_of with_statement with_value a) piece_turn piece_turn_full old.now new.now t h

pub returns : goal.returns
returns g c =
    pieces_read c.args.self.now.rules.depth (c.new.result, None) c.args.tokens.now c.repeat_until.new.tokens c.repeat_until.result (ap (λ l. (l, None)) c.new.ensures)
    (c.repeat_until.ensures.reads _ (turns_advance decides tables grammar fits c.args.self.now.rules.depth with_statement with_value piece_turn piece_turn_full) (λ a old new r h. h))
