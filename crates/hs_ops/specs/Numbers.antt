-- Operations on numbers and truth values. Each is stated for a kind; which kinds have it stands in `Known`.
use Rattle.std.specs.Prelude.{ℕ, zero, suc, ◌+◌, ◌*◌, ◌/◌, ◌%◌, ◌^◌, ◌-◌, ◌+ℤ◌, ◌-ℤ◌, ◌*ℤ◌, neg_ℤ, not, eqb, List, [], ◌∷◌, length, map, reverse, if◌then◌else◌, bit_and, bit_or, bit_xor, int_lt, int_le}
use Rattle.hs_words.specs.Kind.{width_of}
use Rattle.hs_words.specs.Word.{Integer, bits_of, from_bits, wrapped}
use Rattle.hs_words.specs.Arithmetic.{settled, exact, quotient, remainder, left_shift, right_shift, left_turn, right_turn}
use Rattle.hs_words.specs.declared.kinds.IntTy.{IntTy}
use Rattle.hs_words.specs.declared.kinds.Panic.TheVariants.{Length}
use Rattle.hs_values.specs.declared.value.Value.{Value}
use Rattle.hs_values.specs.declared.value.Value.TheVariants as value
use Rattle.hs_ops.specs.Answer.{Answer, Fails, truth, number, settle, row, unary, binary}
use Rattle.hs_ops.specs.Views.{as_bool, as_int, as_size, as_bytes}

-- an operation on two numbers of the kind
abbrev pub of_two : IntTy → (Integer → Integer → Answer) → List Value → Answer
of_two kind f = binary (as_int kind) (as_int kind) f

-- sum, difference and product: exact at a public kind, modulo 2 ^ width at a secret one
abbrev pub add : IntTy → List Value → Answer
add kind = of_two kind (λ a b. settle (settled kind (a.number +ℤ b.number)))

abbrev pub sub : IntTy → List Value → Answer
sub kind = of_two kind (λ a b. settle (settled kind (a.number -ℤ b.number)))

abbrev pub mul : IntTy → List Value → Answer
mul kind = of_two kind (λ a b. settle (settled kind (a.number *ℤ b.number)))

-- the quotient rounded toward zero, and its remainder
abbrev pub div : IntTy → List Value → Answer
div kind = of_two kind (λ a b. settle (quotient a b))

abbrev pub rem : IntTy → List Value → Answer
rem kind = of_two kind (λ a b. settle (remainder a b))

-- the number with the other sign
abbrev pub neg : IntTy → List Value → Answer
neg kind = unary (as_int kind) (λ a. settle (exact kind (neg_ℤ a.number)))

-- an operation on the bits of two numbers
abbrev pub on_bits : IntTy → (ℕ → ℕ → ℕ) → List Value → Answer
on_bits kind f = of_two kind (λ a b. number (from_bits kind (f (bits_of kind a.number) (bits_of kind b.number))))

abbrev pub and : IntTy → List Value → Answer
and kind = on_bits kind bit_and

abbrev pub or : IntTy → List Value → Answer
or kind = on_bits kind bit_or

abbrev pub xor : IntTy → List Value → Answer
xor kind = on_bits kind bit_xor

-- the bits that the number does not have
abbrev pub complement : IntTy → List Value → Answer
complement kind = unary (as_int kind) (λ a. number (from_bits kind (2 ^ width_of kind - 1 - bits_of kind a.number)))

-- the other truth value
abbrev pub bool_not : List Value → Answer
bool_not = unary as_bool (λ b. truth (not b))

-- shifts by n, which panic where n is at least the width
abbrev pub shl : IntTy → List Value → Answer
shl kind = binary (as_int kind) as_size (λ a n. settle (left_shift a n))

abbrev pub shr : IntTy → List Value → Answer
shr kind = binary (as_int kind) as_size (λ a n. settle (right_shift a n))

-- rotations by n modulo the width
abbrev pub rotl : IntTy → List Value → Answer
rotl kind = binary (as_int kind) as_size (λ a n. number (left_turn a n))

abbrev pub rotr : IntTy → List Value → Answer
rotr kind = binary (as_int kind) as_size (λ a n. number (right_turn a n))

-- sum, difference and product modulo 2 ^ width
abbrev pub wadd : IntTy → List Value → Answer
wadd kind = of_two kind (λ a b. number (wrapped kind (a.number +ℤ b.number)))

abbrev pub wsub : IntTy → List Value → Answer
wsub kind = of_two kind (λ a b. number (wrapped kind (a.number -ℤ b.number)))

abbrev pub wmul : IntTy → List Value → Answer
wmul kind = of_two kind (λ a b. number (wrapped kind (a.number *ℤ b.number)))

-- comparisons of two numbers
abbrev pub lt : IntTy → List Value → Answer
lt kind = of_two kind (λ a b. truth (int_lt a.number b.number))

abbrev pub le : IntTy → List Value → Answer
le kind = of_two kind (λ a b. truth (int_le a.number b.number))

abbrev pub gt : IntTy → List Value → Answer
gt kind = of_two kind (λ a b. truth (int_lt b.number a.number))

abbrev pub ge : IntTy → List Value → Answer
ge kind = of_two kind (λ a b. truth (int_le b.number a.number))

-- the number modulo 2 ^ width of the kind `to`: low bits, with the sign of the source before them
abbrev pub cast : IntTy → IntTy → List Value → Answer
cast from to = unary (as_int from) (λ a. number (wrapped to a.number))

-- so many bytes of the bits, the lowest first
abbrev pub bytes_of : ℕ → ℕ → List ℕ
bytes_of zero bits = []
bytes_of (suc count) bits = bits % 256 ∷ bytes_of count (bits / 256)

-- the bits of which these are the bytes, the lowest first
abbrev pub bits_from : List ℕ → ℕ
bits_from [] = 0
bits_from (b ∷ bs) = b + 256 * bits_from bs

-- bytes as a sequence of numbers of the kind `byte`
abbrev pub byte_row : IntTy → List ℕ → Answer
byte_row byte bs = row (map (λ b. value.Int (from_bits byte b)) bs)

-- the bytes of a number, of the kind `byte`: the lowest first, or the highest first
abbrev pub to_le : IntTy → IntTy → List Value → Answer
to_le byte kind = unary (as_int kind) (λ a. byte_row byte (bytes_of (width_of kind / 8) (bits_of kind a.number)))

abbrev pub to_be : IntTy → IntTy → List Value → Answer
to_be byte kind = unary (as_int kind) (λ a. byte_row byte (reverse (bytes_of (width_of kind / 8) (bits_of kind a.number))))

-- the number of these bytes, the lowest first; Length where they are not as many as the kind has
abbrev pub from_bytes : IntTy → List ℕ → Answer
from_bytes kind bs = if eqb (length bs) (width_of kind / 8) then number (from_bits kind (bits_from bs)) else Fails Length

abbrev pub from_le : IntTy → IntTy → List Value → Answer
from_le byte kind = unary (as_bytes byte) (from_bytes kind)

abbrev pub from_be : IntTy → IntTy → List Value → Answer
from_be byte kind = unary (as_bytes byte) (λ bs. from_bytes kind (reverse bs))
