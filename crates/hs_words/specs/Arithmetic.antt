-- What the operations on machine integers give, over whole numbers without bound.
use Rattle.std.specs.Prelude.{ℕ, ◌-◌, ◌+◌, ◌*◌, ◌/◌, ◌%◌, ◌^◌, Bool, true, false, ◌&&◌, ℤ, pos, negsuc, ◌*ℤ◌, nat_lt, if◌then◌else◌, Result, Ok, Err, int_div, int_rem}
use Rattle.std.specs.Int.{int_shr}
use Rattle.std.specs.Ordering.{int_eq}
use Rattle.hs_words.specs.declared.kinds.IntTy.{IntTy}
use Rattle.hs_words.specs.declared.kinds.Panic.{Panic}
use Rattle.hs_words.specs.declared.kinds.Panic.TheVariants.{Overflow, Division, Shift}
use Rattle.hs_words.specs.Kind.{width_of, is_signed, is_secret}
use Rattle.hs_words.specs.Word.{Integer, bits_of, from_bits, wrapped}

-- whether a number lies from 0 to 2 ^ width - 1, or where signed from -2 ^ (width - 1) to 2 ^ (width - 1) - 1; `negsuc n` is -(n + 1)
abbrev pub is_within : Bool → ℕ → ℤ → Bool
is_within false width (pos n) = nat_lt n (2 ^ width)
is_within false width (negsuc n) = false
is_within true width (pos n) = nat_lt n (2 ^ (width - 1))
is_within true width (negsuc n) = nat_lt n (2 ^ (width - 1))

-- whether the kind has the number
abbrev pub is_in_range : IntTy → ℤ → Bool
is_in_range kind number = is_within (is_signed kind) (width_of kind) number

-- the integer of this number, or Overflow where the kind does not have it
abbrev pub exact : IntTy → ℤ → Result Integer Panic
exact kind number = if is_in_range kind number then Ok (record { kind = kind; number = number }) else Err Overflow

-- what a sum, a difference or a product of this number gives: exact at a public kind, modulo 2 ^ width at a secret one
abbrev pub settled : IntTy → ℤ → Result Integer Panic
settled kind number = if is_secret kind then Ok (wrapped kind number) else exact kind number

-- the least number of the kind
abbrev pub least_of : IntTy → ℤ
least_of kind = if is_signed kind then negsuc (2 ^ (width_of kind - 1) - 1) else pos 0

-- what a division of a by b with this value gives: Division where b is 0, then Overflow where a is least, below 0, and b is -1
abbrev pub divided : Integer → Integer → ℤ → Result Integer Panic
divided a b value =
    if int_eq b.number (pos 0) then Err Division
    else (if int_eq b.number (negsuc 0) && (is_signed a.kind && int_eq a.number (least_of a.kind)) then Err Overflow
    else Ok (record { kind = a.kind; number = value }))

-- the quotient, rounded toward zero
abbrev pub quotient : Integer → Integer → Result Integer Panic
quotient a b = divided a b (int_div a.number b.number)

-- the remainder of that quotient, which has the sign of a
abbrev pub remainder : Integer → Integer → Result Integer Panic
remainder a b = divided a b (int_rem a.number b.number)

-- what a shift by n gives: Shift where n is not below the width
abbrev pub shifted : IntTy → ℕ → Integer → Result Integer Panic
shifted kind n value = if nat_lt n (width_of kind) then Ok value else Err Shift

-- the low bits of a * 2 ^ n
abbrev pub left_shift : Integer → ℕ → Result Integer Panic
left_shift a n = shifted a.kind n (wrapped a.kind (a.number *ℤ pos (2 ^ n)))

-- a / 2 ^ n, rounded down
abbrev pub right_shift : Integer → ℕ → Result Integer Panic
right_shift a n = shifted a.kind n (record { kind = a.kind; number = int_shr a.number n })

-- the bits after the n highest of them have gone to the low end; a whole turn, of as many places as there are bits, changes nothing
abbrev pub turned : ℕ → ℕ → ℕ → ℕ
turned width bits n = (bits * 2 ^ n) % 2 ^ width + bits / 2 ^ (width - n)

-- the bits turned by n modulo the width toward the high end
abbrev pub left_turn : Integer → ℕ → Integer
left_turn a n = from_bits a.kind (turned (width_of a.kind) (bits_of a.kind a.number) (n % width_of a.kind))

-- the bits turned by n modulo the width toward the low end
abbrev pub right_turn : Integer → ℕ → Integer
right_turn a n = from_bits a.kind (turned (width_of a.kind) (bits_of a.kind a.number) (width_of a.kind - n % width_of a.kind))
