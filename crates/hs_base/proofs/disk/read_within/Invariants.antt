use Rattle.std.proofs.Common.{◌+◌, ◌-◌, ◌≤◌, length}
use Rattle.std.specs.Io.KnownBytes.{Consumes}
use Rattle.hs_base.proofs.disk.read_within.Given as goal

-- what was read so far, which is no more than is asked for
abbrev pub invariant-loop-buf : goal.invariant-loop-buf
invariant-loop-buf g l =
    Consumes (g.R.Read.remaining l.initial.reader) (g.R.Read.remaining l.reader) l.bytes.items × (length l.bytes.items ≤ l.most)

-- the bytes that are still asked for, and the repeats that are left
abbrev pub decreases-loop-buf : goal.decreases-loop-buf
decreases-loop-buf g l = (l.most - length l.bytes.items) + l.repeats
