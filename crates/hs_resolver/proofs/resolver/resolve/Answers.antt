use Rattle.std.proofs.Common.{◌≡◌, inl, Some, None, Err}
use Rattle.hs_base.specs.declared.place.Stop.TheVariants as stop
use Rattle.hs_marks.specs.First.{first}
use Rattle.hs_marks.specs.Told.{Told}
use Rattle.hs_resolver.specs.Names.{marked}
use Rattle.hs_resolver.specs.Order.{broken}
use Rattle.hs_resolver.proofs.Needs.{told_where, none_where}
use Rattle.hs_resolver.proofs.Outlined.{marked_lies, marked_rises, answers_in_order}
use Rattle.hs_resolver.proofs.Excludes.{names_only}
use Rattle.hs_resolver.proofs.resolver.resolve.Goals as goal

pub ordered-requires : goal.ordered-requires
ordered-requires c =
    let file = c.args.file.now in
    let none : first (marked file) ≡ None = c.in-Ok.ensures.0 in
    record {
      items = c.in-Ok.ensures.1;
      unbroken = none_where (broken file) (first (marked file)) none (c.first_is_told.ensures.told (marked file) 0 c.requires.0 (marked_lies file c.requires) (marked_rises file));
    }

pub returns-in-Err-Breach-clause-names : goal.returns-in-Err-Breach-clause-names
returns-in-Err-Breach-clause-names c =
    let file = c.args.file.now in
    let seen : first (marked file) ≡ Some c.in-Err-Breach.breach = rw c.in-Err-Breach.field-0-is at c.in-Err-Breach.ensures in
    let told : Told (broken file) c.in-Err-Breach.breach =
    told_where (broken file) (first (marked file)) c.in-Err-Breach.breach seen (c.first_is_told.ensures.told (marked file) 0 c.requires.0 (marked_lies file c.requires) (marked_rises file)) in
    (c.in-Err-Breach.breach, inl told, rw c.in-Err-Breach.field-0-is at c.told.ensures)

pub returns-in-Ok-clause-only_told : goal.returns-in-Ok-clause-only_told
returns-in-Ok-clause-only_told c =
    let file = c.args.file.now in
    names_only file (c.first_is_told.ensures.alone (marked file) 0 c.requires.0 (marked_lies file c.requires) (marked_rises file)) c.ordered.result c.ordered.ensures.names

pub returns-in-Err-Breach-clause-only_told : goal.returns-in-Err-Breach-clause-only_told
returns-in-Err-Breach-clause-only_told c =
    let file = c.args.file.now in
    names_only file (c.first_is_told.ensures.alone (marked file) 0 c.requires.0 (marked_lies file c.requires) (marked_rises file)) (Err (stop.Broken c.told.result)) (returns-in-Err-Breach-clause-names c)

pub returns-in-Ok-clause-in_order : goal.returns-in-Ok-clause-in_order
returns-in-Ok-clause-in_order c = answers_in_order c.args.file.now c.requires c.ordered.result c.ordered.ensures.names
