use Rattle.std.proofs.Common.{get_or, arith}
use Rattle.std.proofs.lemmas.Bool.Decides.{nat_tests}
use Rattle.hs_order.proofs.Counting.{times_more, user_added, user_counted, user_same}
use Rattle.hs_order.proofs.waits.add_user.Goals as goal
use Rattle.hs_order.proofs.waits.add_user.Goals.{then-need-users+in_ok-push, else-need-users}

pub loop-need-preserved : goal.loop-need-preserved
loop-need-preserved c = λ item other within.
    let needs = c.args.needs.now in
    let at = c.loop-need.need-index in
    let need = get_or needs at 0 in
    let more = times_more item needs at c.loop-need-test.true in
    elim c.if-need-users.branch [
      | then-need-users+in_ok-push w ↦ rw w.users-is (user_counted _ _ _ _ _ _ _ (c.loop-need.invariant item other within) (user_added c.loop-need.users need c.args.user item other w.push.new.self w.index-users-need.result (omega arith) w.in_ok-push.ensures.ok) more)
      | else-need-users w ↦ rw w.users-is (user_same _ _ _ _ _ _ (c.loop-need.invariant item other within) (grind (arith, nat_tests)) more)
    ]
