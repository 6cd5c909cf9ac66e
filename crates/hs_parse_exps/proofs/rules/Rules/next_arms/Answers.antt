use Rattle.std.proofs.Common.{ap, ◌∙◌, ◌++◌, ◌∷◌, []}
use Rattle.hs_grammar.specs.Form.{Map}
use Rattle.hs_grammar.specs.Until.{turn_of, pushed}
use Rattle.hs_grammar.proofs.Reading.{reads_shorter, turns_advance}
use Rattle.hs_forms.specs.Lexis.{decides}
use Rattle.hs_forms.specs.Blocks.{step_of}
use Rattle.hs_forms.specs.Reading.{grammar, tables, arm_form, arm_pattern, name}
use Rattle.hs_forms.specs.Lookahead.{fits}
use Rattle.hs_parse_exps.proofs.Arms.{reads_arms}
use Rattle.hs_parse_exps.proofs.Full.{arm_full}
use Rattle.hs_parse_exps.proofs.rules.Rules.next_arms.Goals as goal

pub repeat_until-requires-clause-consumes : goal.repeat_until-requires-clause-consumes
repeat_until-requires-clause-consumes g c = λ a t old new h.
    reads_shorter decides tables grammar fits c.args.self.now.depth (turn_of pushed pushed a) (Map step_of arm_form) arm_full old.now new.now t h

pub returns : goal.returns
unfolding arm_form arm_pattern name
returns g c =
    reads_arms c.args.self.now.depth c.args.first c.push.new.self c.args.tokens.now c.repeat_until.new.tokens c.repeat_until.result
    (c.in_ok-push.ensures.ok ∙ ap (λ l. l ++ c.args.first ∷ []) c.new-found.ensures)
    (c.repeat_until.ensures.reads _ (turns_advance decides tables grammar fits c.args.self.now.depth pushed pushed (Map step_of arm_form) arm_full) (λ a old new r h. h))
