use Rattle.std.proofs.Common.{sym, ap, ◌∙◌}
use Rattle.std.specs.List.{list_all}
use Rattle.std.specs.Option.{option_map}
use Rattle.hs_forms.specs.Blocks.{name_in, steps_in}
use Rattle.hs_parse_blocks.specs.Places.{is_step}
use Rattle.hs_parse_blocks.proofs.Steps.{steps_of_post, stepped_name, stepped_none}
use Rattle.hs_parse_blocks.proofs.places.stepped.Goals as goal

pub returns-then-are_steps : goal.returns-then-are_steps
returns-then-are_steps c =
    c.name_in-then-are_steps.ensures ∙ ap name_in c.get.ensures
    ∙ sym (stepped_name (name_in c.in-Post.first) c.in-Post.postfixes (ap (list_all is_step) (sym c.as_slice.ensures) ∙ sym c.are_steps.ensures ∙ c.if-are_steps.true))
    ∙ ap (option_map (λ p. p.0)) (sym (ap steps_in c.in-Post.is ∙ steps_of_post c.in-Post.field-0 c.in-Post.first c.in-Post.postfixes))

pub returns-else-are_steps : goal.returns-else-are_steps
returns-else-are_steps c =
    sym (stepped_none (name_in c.in-Post.first) c.in-Post.postfixes (ap (list_all is_step) (sym c.as_slice.ensures) ∙ sym c.are_steps.ensures ∙ c.if-are_steps.false))
    ∙ ap (option_map (λ p. p.0)) (sym (ap steps_in c.in-Post.is ∙ steps_of_post c.in-Post.field-0 c.in-Post.first c.in-Post.postfixes))
