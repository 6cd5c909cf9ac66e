use Rattle.std.proofs.Common.{◌≡◌, ◌≤◌, ◌<◌, ◌^◌, ℕ, List, length, Ok, Err, sym, subst}
use Rattle.hs_base.specs.declared.place.Stop.TheVariants as stop
use Rattle.hs_syntax.specs.declared.file.File.{File}
use Rattle.hs_syntax.specs.declared.item.Item.{Item}
use Rattle.hs_marks.specs.Told.{Told}
use Rattle.hs_items.specs.Marks.{marked, broken}
use Rattle.hs_items.specs.Walk.{EachOnce}
use Rattle.hs_items.proofs.Excludes.{decls_only}
use Rattle.hs_items.proofs.Outlined.{marked_lies, marked_rises}
use Rattle.hs_items.proofs.Surely.{of_file, sure, sure_whole, few_declared}
use Rattle.hs_items.proofs.Told.{earlier_of, entries_of, once_of, few_order}
use Rattle.hs_items.proofs.stage.items.Goals as goal

pub declared-requires-clause-once : goal.declared-requires-clause-once
declared-requires-clause-once c = subst EachOnce (sym c.as_slice.ensures) (once_of c.args.file.now c.args.names.now c.requires.resolved)

pub declared-requires-clause-few : goal.declared-requires-clause-few
declared-requires-clause-few c =
    let same : c.in_ok-symbols.symbols ≡ c.args.file.now = c.in_ok-symbols.ensures in
    subst (λ (os : List ℕ). length os ≤ length c.in_ok-symbols.symbols.items) (sym c.as_slice.ensures)
    (subst (λ (f : File). length c.args.names.now.order ≤ length f.items) (sym same) (few_order c.args.file.now c.args.names.now c.requires.resolved))

pub returns-in-Ok-clause-exact : goal.returns-in-Ok-clause-exact
returns-in-Ok-clause-exact c =
    of_file c.in_ok-symbols.symbols c.args.file.now c.as_slice.result.now c.args.names.now.order c.in-Ok.decls c.in_ok-symbols.ensures c.as_slice.ensures c.in-Ok.ensures

pub returns-in-Ok-clause-only_told : goal.returns-in-Ok-clause-only_told
returns-in-Ok-clause-only_told c =
    let file = c.args.file.now in
    let order = c.args.names.now.order in
    decls_only file c.args.names.now c.requires.resolved.1.order
    (c.first_is_told.ensures.alone (marked file order) 0 c.requires.nested.0 (marked_lies file order c.requires.nested) (marked_rises file order)) (Ok c.in-Ok.decls) (returns-in-Ok-clause-exact c)

pub returns-in-Ok-clause-earlier : goal.returns-in-Ok-clause-earlier
returns-in-Ok-clause-earlier c = earlier_of c.args.file.now c.args.names.now.order c.in-Ok.decls (returns-in-Ok-clause-exact c).1

pub returns-in-Ok-clause-entries : goal.returns-in-Ok-clause-entries
returns-in-Ok-clause-entries c = entries_of c.args.file.now c.args.names.now.order c.in-Ok.decls (returns-in-Ok-clause-exact c).1

pub returns-in-Ok-clause-few : goal.returns-in-Ok-clause-few
returns-in-Ok-clause-few c =
    few_declared c.args.file.now c.args.names.now c.in-Ok.decls c.requires.resolved (returns-in-Ok-clause-exact c)
    (subst (λ (is : List Item). length is < 2 ^ 32) c.as_slice-in-Ok.ensures c.are_few.ensures)

pub returns-in-Ok-clause-sure : goal.returns-in-Ok-clause-sure
returns-in-Ok-clause-sure c = sure c.args.file.now c.args.names.now c.in-Ok.decls c.requires.resolved (returns-in-Ok-clause-exact c)

pub returns-in-Ok-clause-whole : goal.returns-in-Ok-clause-whole
returns-in-Ok-clause-whole c = sure_whole c.args.file.now c.args.names.now c.in-Ok.decls c.requires.resolved (returns-in-Ok-clause-exact c)

pub returns-in-Err-Breach-clause-exact : goal.returns-in-Err-Breach-clause-exact
returns-in-Err-Breach-clause-exact c =
    let breach = c.in-Err-Breach.breach in
    let same : c.in_ok-symbols.symbols ≡ c.args.file.now = c.in_ok-symbols.ensures in
    let told : Told (broken c.in_ok-symbols.symbols c.as_slice.result.now) breach = rw c.in-Err-Breach.field-0-is at c.in-Err-Breach.ensures in
    let in_file : Told (broken c.args.file.now c.as_slice.result.now) breach = subst (λ (f : File). Told (broken f c.as_slice.result.now) breach) same told in
    (breach, subst (λ (os : List ℕ). Told (broken c.args.file.now os) breach) c.as_slice.ensures in_file, c.told.ensures)

pub returns-in-Err-Breach-clause-only_told : goal.returns-in-Err-Breach-clause-only_told
returns-in-Err-Breach-clause-only_told c =
    let file = c.args.file.now in
    let order = c.args.names.now.order in
    decls_only file c.args.names.now c.requires.resolved.1.order
    (c.first_is_told.ensures.alone (marked file order) 0 c.requires.nested.0 (marked_lies file order c.requires.nested) (marked_rises file order)) (Err (stop.Broken c.told.result)) (returns-in-Err-Breach-clause-exact c)
