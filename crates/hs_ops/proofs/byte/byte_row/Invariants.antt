use Rattle.std.proofs.Common.{◌≡◌, map, take}
use Rattle.hs_words.specs.Word.{from_bits}
use Rattle.hs_values.specs.declared.value.Value.TheVariants as value
use Rattle.hs_ops.proofs.byte.byte_row.Given as goal

abbrev pub invariant-loop-byte : goal.invariant-loop-byte
invariant-loop-byte l = l.row ≡ map (λ b. value.Int (from_bits l.kind b)) (take l.byte-index l.bytes)
