use Rattle.std.proofs.Common.{arith, slice_index_or}
use Rattle.hs_ops.proofs.Bytes.{byte_fits}
use Rattle.hs_ops.proofs.byte.bits_of_bytes.Goals as goal

pub overflow_mul-bits : goal.overflow_mul-bits
overflow_mul-bits c =
    omega (arith, byte_fits c.loop-byte.bits 0 c.loop-byte.byte-index c.loop-byte.invariant.1 (omega arith) (omega arith))

pub overflow_add-bits : goal.overflow_add-bits
overflow_add-bits c =
    let byte = slice_index_or c.args.bytes.now c.loop-byte.byte-index 0 in
    omega (arith, byte_fits c.loop-byte.bits byte c.loop-byte.byte-index c.loop-byte.invariant.1 (omega (arith, c.type_inv.bytes c.loop-byte.byte-index)) (omega arith))
