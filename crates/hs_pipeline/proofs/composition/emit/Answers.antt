use Rattle.std.proofs.Common.{Result, Ok, Err, IfOk, refl, sym, ap, ◌∙◌, subst, map, List}
use Rattle.hs_first_tree.specs.Plain as tree
use Rattle.hs_first_tree.specs.Of.{program_of}
use Rattle.hs_first_tree.specs.Call.{header_of, SameResults}
use Rattle.hs_first_tree.specs.Features.{src}
use Rattle.hs_first_tree.specs.Sound.{Sound}
use Rattle.hs_first_em.specs.Of.{module_of}
use Rattle.hs_pipeline.proofs.Kept.{Keeps, program_kept}
use Rattle.hs_pipeline.proofs.composition.emit.Goals as goal

pub drop_assigns-requires : goal.drop_assigns-requires
drop_assigns-requires c =
    let kept = subst (Sound src) (sym c.in_ok-flat.ensures) c.requires.sound in
    record { absent = c.absent_features_are_unused.ensures; names = kept.names; each = kept.each; once = λ e. kept.once refl }

on_ok : {T E : Type 0} (r : Result T E) (P Q : T → Type 0) → ((a : T) → P a → Q a) → IfOk r P → IfOk r Q
on_ok (Ok a) P Q step h = step a h
on_ok (Err e) P Q step h = tt

pub returns : goal.returns
returns c =
    let source = program_of c.args.program.now in
    let bound = program_of c.in_ok-bound.bound in
    let headers = c.in_ok-bound.ensures.headers ∙ ap (map header_of) c.in_ok-flat.ensures in
    let results = subst (λ (p : List tree.Function). SameResults p bound) c.in_ok-flat.ensures c.in_ok-bound.ensures.results in
    let kept : IfOk c.lower.result (λ made. Keeps c.args.name.now source (module_of made)) =
    on_ok c.lower.result _ _
    (λ made e. program_kept c.args.name.now source bound (module_of made) c.requires.named c.calls_are_computed.ensures c.environments_serve.ensures
    c.scoped_modules_end.ensures c.in_ok-bound.ensures.sound c.locals_are_numbered.ensures headers results e)
    c.lower.ensures in
    record {
      named = on_ok c.lower.result _ _ (λ made k. k.named) kept;
      spelled = on_ok c.lower.result _ _ (λ made k. k.spelled) kept;
      scoped = on_ok c.lower.result _ _ (λ made k. k.scoped) kept;
      same = on_ok c.lower.result _ _ (λ made k. k.same) kept;
      shape = on_ok c.lower.result _ _ (λ made k. k.shape) kept;
    }
