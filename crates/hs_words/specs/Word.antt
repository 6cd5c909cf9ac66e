-- A machine integer by its kind and its number, and how numbers and bits go together.
use Rattle.std.specs.Prelude.{ℕ, ◌-◌, ◌^◌, Bool, true, false, ℤ, pos, negsuc, suc, nat_lt, if◌then◌else◌, unsigned_abs}
use Rattle.std.specs.Int.{int_rem_euclid}
use Rattle.hs_words.specs.declared.kinds.IntTy.{IntTy}
use Rattle.hs_words.specs.Kind.{width_of, is_signed}

-- a machine integer: its kind, and its number, which may be negative where the kind is signed
pub record Integer : Type 0 where
  pub kind : IntTy
  pub number : ℤ

-- the number modulo 2 ^ width
abbrev pub residue : ℕ → ℤ → ℕ
residue width number = unsigned_abs (int_rem_euclid number (pos (2 ^ width)))

-- the number that these bits mean: themselves, and at a signed kind from 2 ^ (width - 1) on themselves less 2 ^ width
abbrev pub meaning : Bool → ℕ → ℕ → ℤ
meaning false width bits = pos bits
meaning true width bits = if nat_lt bits (2 ^ (width - 1)) then pos bits else negsuc (2 ^ width - suc bits)

-- the bits of a number of the kind
abbrev pub bits_of : IntTy → ℤ → ℕ
bits_of kind number = residue (width_of kind) number

-- the integer of the kind with these bits
abbrev pub from_bits : IntTy → ℕ → Integer
from_bits kind bits = record { kind = kind; number = meaning (is_signed kind) (width_of kind) bits }

-- the integer of the kind that is the number modulo 2 ^ width
abbrev pub wrapped : IntTy → ℤ → Integer
wrapped kind number = from_bits kind (bits_of kind number)
