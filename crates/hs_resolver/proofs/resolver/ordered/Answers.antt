use Rattle.std.proofs.Common.{◌≡◌, ◌∙◌, refl, inr, Some, None, [], map, length, rules}
use Rattle.hs_base.specs.declared.rule.Rule.TheVariants.{N7}
use Rattle.hs_order.specs.Order.{IsOrder, IsLeftOut, StandBehindNeeds}
use Rattle.hs_resolver.specs.declared.names.ItemNames.{ItemNames}
use Rattle.hs_resolver.specs.Order.{items_of, needs, NeedsItself}
use Rattle.hs_resolver.proofs.Needs.{needs_kept, ordered, each_behind, within, itself}
use Rattle.hs_resolver.proofs.resolver.ordered.Goals as goal

pub returns-in-None-clause-names : goal.returns-in-None-clause-names
returns-in-None-clause-names c =
    let n : c.in_ok-needs.needs ≡ map (λ (i : ItemNames). items_of i.uses) c.args.items = search rules in
    let e : c.in_ok-needs.needs ≡ needs c.args.file.now = n ∙ needs_kept c.args.file.now c.args.items c.requires.items in
    let o : IsOrder c.in_ok-needs.needs [] c.in_ok-order.order.listed = search rules in
    let l : IsLeftOut c.in_ok-order.order.listed (length c.in_ok-needs.needs) None = search rules in
    (c.requires.unbroken, record { items = c.requires.items; order = ordered c.args.file.now c.in_ok-needs.needs c.in_ok-order.order.listed e o l })

pub returns-in-None-clause-order : goal.returns-in-None-clause-order
returns-in-None-clause-order c =
    let n : c.in_ok-needs.needs ≡ map (λ (i : ItemNames). items_of i.uses) c.args.items = search rules in
    let e : c.in_ok-needs.needs ≡ needs c.args.file.now = n ∙ needs_kept c.args.file.now c.args.items c.requires.items in
    let s : StandBehindNeeds c.in_ok-needs.needs c.in_ok-order.order.listed = search rules in
    let l : IsLeftOut c.in_ok-order.order.listed (length c.in_ok-needs.needs) None = search rules in
    each_behind c.args.file.now c.in_ok-needs.needs c.in_ok-order.order.listed e l s

pub name_at-requires : goal.name_at-requires
name_at-requires c =
    let file = c.args.file.now in
    let n : c.in_ok-needs.needs ≡ map (λ (i : ItemNames). items_of i.uses) c.args.items = search rules in
    let e : c.in_ok-needs.needs ≡ needs file = n ∙ needs_kept file c.args.items c.requires.items in
    let l : IsLeftOut c.in_ok-order.order.listed (length c.in_ok-needs.needs) (Some c.in-Some.item) = search rules in
    within file c.in_ok-needs.needs c.in-Some.item e l.0

pub returns-in-Some-clause-names : goal.returns-in-Some-clause-names
returns-in-Some-clause-names c =
    let file = c.args.file.now in
    let n : c.in_ok-needs.needs ≡ map (λ (i : ItemNames). items_of i.uses) c.args.items = search rules in
    let e : c.in_ok-needs.needs ≡ needs file = n ∙ needs_kept file c.args.items c.requires.items in
    let o : IsOrder c.in_ok-needs.needs [] c.in_ok-order.order.listed = search rules in
    let l : IsLeftOut c.in_ok-order.order.listed (length c.in_ok-needs.needs) (Some c.in-Some.item) = search rules in
    let in_itself : NeedsItself file c.name_at.result = itself file c.in_ok-needs.needs c.in_ok-order.order.listed c.in-Some.item c.name_at.result e o l c.name_at.ensures in
    (record { rule = N7; span = c.name_at.result }, inr (c.requires.unbroken, refl, in_itself), c.told.ensures)
