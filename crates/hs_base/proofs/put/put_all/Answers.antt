use Rattle.std.proofs.Common.{arith, ◌≡◌, ◌+◌, ◌≤◌, length, take, drop, sym, subst, length-drop}
use Rattle.std.proofs.Math.Seq.{take-add}
use Rattle.std.proofs.lemmas.List.{take_rest}
use Rattle.std.specs.Io.KnownBytes.{Appends}
use Rattle.std.proofs.KnownBytes.{Appends-trans}
use Rattle.hs_base.proofs.put.put_all.Goals as goal

pub loop-done-preserved : goal.loop-done-preserved
loop-done-preserved g c =
    let (le, took, later, room) = c.loop-done.invariant in
    let n = c.in_ok-done.field-0 in
    let done = c.loop-done.done in
    let bytes = c.args.bytes.now in
    let e = c.in_ok-done.ensures in
    let bound : n ≤ length (drop done bytes) = subst (λ p. n ≤ length p) (take_rest bytes done) e.bound in
    let took_now : Appends (g.S.Sink.taken c.loop-done.sink) (g.S.Sink.taken c.put.new.self) (take n (drop done bytes))
    = subst (λ p. Appends (g.S.Sink.taken c.loop-done.sink) (g.S.Sink.taken c.put.new.self) (take n p)) (take_rest bytes done) e.bytes in
    let later_now : g.S.Sink.faults c.loop-done.sink ≤ g.S.Sink.faults c.put.new.self = e.cause.later in (
      omega (arith, bound, le, length-drop done bytes),
      subst (Appends _ _) (sym (take-add done n bytes)) (Appends-trans _ _ _ _ _ took took_now),
      omega (arith, later, later_now),
      λ len h. e.room len (room (len + n) (subst (g.S.Sink.accepts _) (let p : len + (done + n) ≡ len + n + done = omega arith in p) h)),
    )
