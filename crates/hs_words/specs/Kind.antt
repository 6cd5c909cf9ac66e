-- The sixteen kinds of machine integers.
use Rattle.std.specs.Prelude.{ℕ, Bool, true, false}
use Rattle.hs_words.specs.declared.kinds.IntTy.{IntTy}
use Rattle.hs_words.specs.declared.kinds.IntTy.TheVariants.{PU8, PU16, PU32, PU64, PU128, PUsize, PI8, PI16, PI32, PI64, PI128, SU8, SU16, SU32, SU64, SU128}

-- how many bits a number of the kind has
abbrev pub width_of : IntTy → ℕ
width_of PU8 = 8
width_of PU16 = 16
width_of PU32 = 32
width_of PU64 = 64
width_of PU128 = 128
width_of PUsize = 64
width_of PI8 = 8
width_of PI16 = 16
width_of PI32 = 32
width_of PI64 = 64
width_of PI128 = 128
width_of SU8 = 8
width_of SU16 = 16
width_of SU32 = 32
width_of SU64 = 64
width_of SU128 = 128

-- whether the kind has negative numbers; those that have are public
abbrev pub is_signed : IntTy → Bool
is_signed PI8 = true
is_signed PI16 = true
is_signed PI32 = true
is_signed PI64 = true
is_signed PI128 = true
is_signed _ = false

-- whether numbers of the kind are secret: their arithmetic is modulo 2 ^ width, and nothing branches on them
abbrev pub is_secret : IntTy → Bool
is_secret SU8 = true
is_secret SU16 = true
is_secret SU32 = true
is_secret SU64 = true
is_secret SU128 = true
is_secret _ = false
