use Rattle.std.proofs.Common.{sym, ap, false, ◌∙◌}
use Rattle.hs_forms.specs.Blocks.{name_in, steps_in, place_in}
use Rattle.hs_parse_blocks.proofs.Steps.{steps_of_post, place_of_post, place_of_prefix, post_steps, starred_steps}
use Rattle.hs_parse_blocks.proofs.places.steps_of.Goals as goal

pub returns-in-Post : goal.returns-in-Post
returns-in-Post c = λ t ts e.
    post_steps _ false (name_in c.in-Post.field-1) c.in-Post.postfixes c.steps_among.result t ts c.steps_among.ensures
    (sym (place_of_post c.in-Post.field-0 c.in-Post.field-1 c.in-Post.postfixes) ∙ sym (ap place_in c.in-Post.is) ∙ e)

pub returns-in-Post-into_inner : goal.returns-in-Post-into_inner
returns-in-Post-into_inner c = λ t ts e.
    starred_steps c.in-Prefix.field-0 c.in-Prefix.field-1 c.in-Prefix.inner (name_in c.in-Post-into_inner.field-1) c.in-Post-into_inner.postfixes c.steps_among-in-Post-into_inner.result t ts
    c.steps_among-in-Post-into_inner.ensures
    (ap steps_in (sym c.into_inner.ensures ∙ c.in-Post-into_inner.is) ∙ steps_of_post c.in-Post-into_inner.field-0 c.in-Post-into_inner.field-1 c.in-Post-into_inner.postfixes)
    (sym (place_of_prefix c.in-Prefix.field-0 c.in-Prefix.field-1 c.in-Prefix.inner) ∙ sym (ap place_in c.in-Prefix.is) ∙ e)
