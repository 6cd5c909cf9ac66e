use Rattle.std.proofs.Common.{◌<◌, ℕ, List, [], length, subst, sym, ◌∙◌}
use Rattle.std.specs.Ordering.{nat_cmp}
use Rattle.std.specs.BTreeSet.{contains}
use Rattle.std.specs.BTreeMap.{is_at}
use Rattle.std.proofs.lemmas.List.{with_items_is}
use Rattle.hs_order.proofs.Ready.{unlisted, one_order}
use Rattle.hs_order.proofs.Steps.{waiting_first, order_first, users_are, enough_open, unlisted_less, waiting_next, order_next, order_ends, none_in, left_out_is}
use Rattle.hs_order.proofs.Laws.{stand_behind, others_lack}
use Rattle.hs_order.proofs.order.Order.of.Goals as goal

pub loop-item-init : goal.loop-item-init
loop-item-init c =
    let needs = c.args.needs.now in
    let listed = c.new-listed.result in
    record {
      waiting = waiting_first needs listed c.in_ok-counts.counts.items (contains nat_cmp c.in_ok-ready.ready) c.new-listed.ensures c.in_ok-counts.ensures
          (λ item. rw c.deref.ensures.value at (c.in_ok-ready.ensures item));
      order = λ rest h. order_first needs listed rest c.new-listed.ensures h;
    }

pub settle-requires : goal.settle-requires
settle-requires c =
    let needs = c.args.needs.now in
    let listed = c.loop-item.listed in
    let counts = c.loop-item.counts.items in
    let set = contains nat_cmp c.loop-item.ready in
    let item = c.in-Some.item in
    let users = c.as_slice.result.now in
    let waiting = c.loop-item.invariant.waiting in
    let named = users_are needs c.in_ok-users.users.items listed counts set item users c.index.result.now waiting c.in-Some.ensures.member
    c.in_ok-users.ensures.users c.in_ok-users.ensures.length c.index.ensures c.as_slice.ensures in
    enough_open needs listed counts c.deref_mut.result.now set item users waiting c.in-Some.ensures.member named c.deref_mut.ensures.value

pub loop-item-smaller : goal.loop-item-smaller
loop-item-smaller c =
    let needs = c.args.needs.now in
    let listed = c.loop-item.listed in
    let less = unlisted_less needs listed c.loop-item.counts.items (contains nat_cmp c.loop-item.ready) c.in-Some.item c.loop-item.invariant.waiting c.in-Some.ensures.member in
    subst (λ (ns : List ℕ). unlisted ns (length needs) < unlisted listed (length needs)) (sym c.in_ok-push.ensures.ok) less

pub loop-item-preserved : goal.loop-item-preserved
loop-item-preserved c =
    let needs = c.args.needs.now in
    let listed = c.loop-item.listed in
    let counts = c.loop-item.counts.items in
    let set = contains nat_cmp c.loop-item.ready in
    let item = c.in-Some.item in
    let users = c.as_slice.result.now in
    let waiting = c.loop-item.invariant.waiting in
    let named = users_are needs c.in_ok-users.users.items listed counts set item users c.index.result.now waiting c.in-Some.ensures.member
    c.in_ok-users.ensures.users c.in_ok-users.ensures.length c.index.ensures c.as_slice.ensures in
    record {
      waiting = waiting_next needs listed c.push.new.self counts c.deref_mut.result.now c.settle.new.counts _ users
          set (contains nat_cmp c.pop_first.new.self) (contains nat_cmp c.settle.new.ready) item waiting c.in-Some.ensures.member named
          c.in_ok-push.ensures.ok c.in-Some.ensures.updates.0 c.deref_mut.ensures.value c.settle.auto.counts c.in_ok-settle.ensures.taken c.in_ok-settle.ensures.ready
          (with_items_is c.loop-item.counts c.settle.new.counts (c.settle.auto.counts ∙ c.deref_mut.ensures.len));
      order = order_next needs listed c.push.new.self counts set item waiting c.in-Some.ensures.member c.in-Some.ensures.least c.in_ok-push.ensures.ok c.loop-item.invariant.order;
    }

pub returns-clause-order : goal.returns-clause-order
returns-clause-order c =
    order_ends c.args.needs.now c.loop-item.listed c.loop-item.counts.items (contains nat_cmp c.loop-item.ready) c.loop-item.invariant.waiting
    (λ j. none_in c.loop-item.ready.keys (is_at (nat_cmp j)) c.in_default.ensures.variant.1) c.loop-item.invariant.order

pub returns-clause-only : goal.returns-clause-only
returns-clause-only c = λ listed h. one_order c.args.needs.now [] c.loop-item.listed listed (returns-clause-order c) h

pub returns-clause-left_out : goal.returns-clause-left_out
returns-clause-left_out c =
    left_out_is c.args.needs.now c.loop-item.listed c.loop-item.counts.items (contains nat_cmp c.loop-item.ready) c.first_open-left_out.result c.loop-item.invariant.waiting
    (λ j. none_in c.loop-item.ready.keys (is_at (nat_cmp j)) c.in_default.ensures.variant.1) (rw c.deref-2.ensures.value at c.first_open-left_out.ensures)

pub returns-clause-behind : goal.returns-clause-behind
returns-clause-behind c = stand_behind c.args.needs.now c.loop-item.listed (returns-clause-order c)

pub returns-clause-others : goal.returns-clause-others
returns-clause-others c = others_lack c.args.needs.now c.loop-item.listed (returns-clause-order c)
