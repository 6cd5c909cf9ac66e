use Rattle.std.proofs.Common.{inl, Err, sym, ap, ◌∙◌}
use Rattle.hs_base.specs.declared.place.Stop.TheVariants as stop
use Rattle.hs_base.specs.Positions.{told_at}
use Rattle.hs_linear.proofs.Functions.{same_one}
use Rattle.hs_linear.proofs.program.moves.Goals as goal

pub returns-in-Some-clause-only_told : goal.returns-in-Some-clause-only_told
returns-in-Some-clause-only_told c = λ told h.
    inl (ap (λ x. Err (stop.Broken x)) (sym (same_one c.args.program.now c.in-Some.breach told c.told_at.result (sym c.in-Some.is ∙ c.in_ok-told.ensures)
    (c.told_at.ensures ∙ ap (λ t. told_at t c.in-Some.breach.rule c.in-Some.breach.span.start) (c.deref.ensures.value ∙ ap (λ v. v.items) c.get.ensures)) h)))
