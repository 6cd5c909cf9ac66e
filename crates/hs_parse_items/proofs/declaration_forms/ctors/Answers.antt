use Rattle.std.proofs.Common.{[], ◌∷◌, ◌++◌, refl, ap, ◌∙◌}
use Rattle.hs_grammar.specs.Until.{turn_of, pushed, kept}
use Rattle.hs_grammar.specs.Combinators.{list_turn}
use Rattle.hs_grammar.proofs.Reading.{reads_shorter, reads_list, turns_advance}
use Rattle.hs_forms.specs.Lexis.{decides}
use Rattle.hs_forms.specs.Reading.{tables, grammar, comma, ctor}
use Rattle.hs_forms.specs.Lookahead.{fits}
use Rattle.hs_parse_items.proofs.declaration_forms.ctors.Goals as goal

pub repeat_until-requires-clause-consumes : goal.repeat_until-requires-clause-consumes
repeat_until-requires-clause-consumes c = λ a t old new h. reads_shorter decides tables grammar fits c.args.depth (turn_of pushed kept a) (list_turn comma ctor) refl old.now new.now t h

pub returns : goal.returns
returns c =
    reads_list tables grammar c.args.depth comma ctor c.in_ok-ctor.field-0 c.push.new.self c.args.tokens.now c.ctor.new.tokens c.repeat_until.new.tokens c.repeat_until.result
    (c.in_ok-push.ensures.ok ∙ ap (λ l. l ++ c.in_ok-ctor.field-0 ∷ []) c.new-first.ensures) c.in_ok-ctor.ensures
    (c.repeat_until.ensures.reads _ (turns_advance decides tables grammar fits c.args.depth pushed kept (list_turn comma ctor) refl) (λ a old new r h. h))
