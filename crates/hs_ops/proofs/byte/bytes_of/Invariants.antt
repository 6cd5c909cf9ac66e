use Rattle.std.proofs.Common.{◌≡◌, ℕ, ◌+◌, ◌++◌}
use Rattle.hs_ops.specs.Numbers as numbers
use Rattle.hs_ops.proofs.byte.bytes_of.Given as goal

abbrev pub invariant-loop-done : goal.invariant-loop-done
invariant-loop-done l = (m : ℕ) → m + l._done ≡ l.count → l.bytes.items ++ numbers.bytes_of m l.left ≡ numbers.bytes_of l.count l.bits
