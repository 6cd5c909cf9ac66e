-- Bits made of bytes fit.
use Rattle.std.proofs.Common.{ℕ, ◌+◌, ◌*◌, ◌<◌, ◌≤◌, ◌^◌, arith, lit<}
use Rattle.std.proofs.Math.Nat.{pow-le-pow_right}

-- one more byte below the sixteenth
pub byte_fits : (bits byte i : ℕ) → bits < 256 ^ i → byte < 256 → i < 16 → bits * 256 + byte < 2 ^ 128
byte_fits bits byte i h b l =
    let p : 256 ^ i ≤ 256 ^ 15 = pow-le-pow_right (lit< tt) {i = i} {j = 15} (omega arith) in omega arith
