use Rattle.std.proofs.Common.{◌≡◌, ◌<◌, ◌+◌, reverse, length, take, sym, subst}
use Rattle.hs_parser.specs.Nesting as n
use Rattle.hs_parser.proofs.Unfinished.{one_more, nests_so}
use Rattle.hs_parser.proofs.nesting.too_deep.Goals as goal

pub returns-then-len-gt-LEAST_DEPTH-clause-nests : goal.returns-then-len-gt-LEAST_DEPTH-clause-nests
returns-then-len-gt-LEAST_DEPTH-clause-nests c =
    let so : n.nesting (take (c.loop-place.place + 1) c.args.tokens.now) ≡ length c.step.new.unfinished =
    nests_so c.step.new.unfinished c.eq-behind_brace.result (take (c.loop-place.place + 1) c.args.tokens.now)
    (one_more c.args.tokens.now c.loop-place.place _ (reverse c.loop-place.unfinished) (reverse c.step.new.unfinished) c.loop-place.behind_brace c.eq-behind_brace.result c.loop-place-test.true c.loop-place.invariant c.in_ok-step.ensures c.eq-behind_brace.ensures) in
    subst (λ m. 320 < m) (sym so) (subst (λ m. 320 < m) c.len.ensures c.if-len-gt-LEAST_DEPTH.true)

pub loop-place-preserved : goal.loop-place-preserved
loop-place-preserved c =
    one_more c.args.tokens.now c.loop-place.place _ (reverse c.loop-place.unfinished) (reverse c.step.new.unfinished) c.loop-place.behind_brace c.eq-behind_brace.result c.loop-place-test.true c.loop-place.invariant c.in_ok-step.ensures c.eq-behind_brace.ensures
