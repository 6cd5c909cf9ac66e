use Rattle.std.proofs.Common.{get_or, arith}
use Rattle.hs_order.proofs.Counting.{times_more, times_next, has_more, ready_step}
use Rattle.hs_order.proofs.waits.settle.Goals as goal

pub settle_one-requires : goal.settle_one-requires
settle_one-requires c =
    let user = get_or c.args.users.now c.loop-user.user-index 0 in
    omega (arith, c.loop-user.invariant.taken user, c.requires user, times_next c.args.users.now c.loop-user.user-index c.loop-user-test.true)

pub loop-user-preserved : goal.loop-user-preserved
loop-user-preserved c =
    let users = c.args.users.now in
    let at = c.loop-user.user-index in
    let user = get_or users at 0 in
    record {
      taken = λ item. omega (arith, c.loop-user.invariant.taken item, c.in_ok-settle_one.ensures.taken item, times_more item users at c.loop-user-test.true);
      ready = λ item. rw (has_more users at item c.loop-user-test.true) (ready_step _ _ _ _ _ _ _ (c.in_ok-settle_one.ensures.ready item) (c.loop-user.invariant.ready item) (c.in_ok-settle_one.ensures.taken item));
    }
