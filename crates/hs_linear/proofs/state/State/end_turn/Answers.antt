use Rattle.std.proofs.Common.{◌≡◌, Some, filter, drop, sym, ap, ◌∙◌, subst, arith}
use Rattle.hs_linear.specs.Seen.{lost, not_given_back}
use Rattle.hs_linear.specs.Told.{told_of}
use Rattle.hs_linear.specs.Sets.{set_of, IsAt}
use Rattle.hs_linear.specs.declared.held.Held.{Held}
use Rattle.hs_linear.specs.declared.told.Take.{Take}
use Rattle.hs_linear.proofs.Single.{told_back, told_reads, lost_of}
use Rattle.hs_linear.proofs.state.State.end_turn.Goals as goal

pub returns-clause-back : goal.returns-clause-back
returns-clause-back c = λ d before led is. subst (λ (h : Held). IsAt d before h) (sym c.loop-take.invariant.held) (c.in_ok-go_back.ensures d before led is)

pub returns-clause-told : goal.returns-clause-told
returns-clause-told c =
    let began = set_of c.go_back.new.self in
    let ended = set_of c.args.self.now.held in
    let reads = drop c.args.taken c.args.self.now.taken.items in
    let told : told_of c.args.self.now.told (told_back began c.deref-take-items.result.now) ≡ c.loop-take.self.told =
    told_reads began (told_of c.args.self.now.told (told_back began c.deref-take-items.result.now)) c.loop-take.self.told c.loop-take.take-index c.deref-take-items.result.now (omega arith) c.loop-take.invariant.told in
    sym told
    ∙ ap (λ ts. told_of c.args.self.now.told (not_given_back ts)) (ap (filter (λ (t : Take). began t.local)) (c.deref-take-items.ensures.value ∙ c.in_ok-ended.ensures) ∙ lost_of began ended reads)
    ∙ ap (λ (h : Held). told_of c.args.self.now.told (not_given_back (lost (set_of h) (Some ended) reads))) (sym c.loop-take.invariant.held)
