use Rattle.std.specs.Io.KnownBytes.{Keeps}
use Rattle.hs_base.proofs.stream.write_again.Given as goal

-- a failed write took nothing
abbrev pub invariant-loop-count : goal.invariant-loop-count
invariant-loop-count g l = Keeps (g.W.Write.contents l.initial.writer) (g.W.Write.contents l.writer)

-- the repeats that are left
abbrev pub decreases-loop-count : goal.decreases-loop-count
decreases-loop-count g l = l.repeats
