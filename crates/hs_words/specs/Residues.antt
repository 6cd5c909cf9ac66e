-- Numbers modulo a power of two, and the numbers that bits mean.
use Rattle.std.proofs.Common.{◌≡◌, ℕ, suc, ◌-◌, ◌<◌, ◌^◌, Bool, true, false, ltb, refl, ap, ◌∙◌, cond, arith}
use Rattle.std.proofs.Math.Nat.{mod-eq_of_lt}
use Rattle.std.specs.Prelude.{pos, negsuc}
use Rattle.hs_words.specs.declared.kinds.IntTy.{IntTy}
use Rattle.hs_words.specs.Kind.{width_of, is_signed}
use Rattle.hs_words.specs.Word.{residue, meaning, bits_of, from_bits}

-- bits are those of the number that they mean
pub residue-meaning : (signed : Bool) (width bits : ℕ) → bits < 2 ^ width → residue width (meaning signed width bits) ≡ bits
residue-meaning false width bits h = mod-eq_of_lt h
residue-meaning true width bits h = by (ltb bits (2 ^ (width - 1))) refl
  where
    by : (t : Bool) → ltb bits (2 ^ (width - 1)) ≡ t → residue width (cond t (pos bits) (negsuc (2 ^ width - suc bits))) ≡ bits
    by true e = mod-eq_of_lt h
    by false e = let small : 2 ^ width - suc bits < 2 ^ width = omega arith in ap (λ r. 2 ^ width - 1 - r) (mod-eq_of_lt small) ∙ omega arith

-- the same at a kind
pub bits_of-from_bits : (kind : IntTy) (bits : ℕ) → bits < 2 ^ width_of kind → bits_of kind (from_bits kind bits).number ≡ bits
bits_of-from_bits kind bits h = residue-meaning (is_signed kind) (width_of kind) bits h
