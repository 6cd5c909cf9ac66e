use Rattle.std.proofs.Common.{length, ◌-◌, ℕ, ◌+◌, ◌≤◌, take}
use Rattle.std.specs.Io.KnownBytes.{Appends}
use Rattle.hs_base.proofs.put.put_all.Given as goal

-- so many bytes are taken, the count has not fallen, and the sink has the room that this leaves
abbrev pub invariant-loop-done : goal.invariant-loop-done
invariant-loop-done g l =
    (l.done ≤ length l.bytes)
    × Appends (g.S.Sink.taken l.initial.sink) (g.S.Sink.taken l.sink) (take l.done l.bytes)
    × (g.S.Sink.faults l.initial.sink ≤ g.S.Sink.faults l.sink)
    × ((len : ℕ) → g.S.Sink.accepts l.initial.sink (len + l.done) → g.S.Sink.accepts l.sink len)

abbrev pub decreases-loop-done : goal.decreases-loop-done
decreases-loop-done g l = length l.bytes - l.done
