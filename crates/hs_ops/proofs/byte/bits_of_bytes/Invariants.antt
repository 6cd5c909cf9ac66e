use Rattle.std.proofs.Common.{◌≡◌, ◌<◌, ◌^◌, reverse, take}
use Rattle.hs_ops.specs.Numbers as numbers
use Rattle.hs_ops.proofs.byte.bits_of_bytes.Given as goal

abbrev pub invariant-loop-byte : goal.invariant-loop-byte
invariant-loop-byte l = (l.bits ≡ numbers.bits_from (reverse (take l.byte-index l.bytes))) × (l.bits < 256 ^ l.byte-index)
