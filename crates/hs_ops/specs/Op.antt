-- What each operation gives for its arguments.
use Rattle.std.specs.Prelude.{List, if◌then◌else◌}
use Rattle.hs_words.specs.Kind.{is_secret}
use Rattle.hs_words.specs.declared.kinds.IntTy.{IntTy}
use Rattle.hs_words.specs.declared.kinds.IntTy.TheVariants.{PU8, PU16, PU32, PU64, PU128, SU8, SU16, SU32, SU64, SU128}
use Rattle.hs_values.specs.declared.value.Value.{Value}
use Rattle.hs_ops.specs.Answer.{Answer}
use Rattle.hs_ops.specs.Numbers as numbers
use Rattle.hs_ops.specs.Rows as rows
use Rattle.hs_ops.specs.Parts as parts
use Rattle.hs_ops.specs.declared.operation.NumberOp.{NumberOp}
use Rattle.hs_ops.specs.declared.operation.NumberOp.TheVariants.{Add, Sub, Mul, Div, Rem, Neg, And, Or, Xor, Not, Shl, Shr, Rotl, Rotr, Wadd, Wsub, Wmul, Lt, Le, Gt, Ge, Classify, Declassify, ToLe, ToBe, FromLe, FromBe}
use Rattle.hs_ops.specs.declared.operation.SingleOp.{SingleOp}
use Rattle.hs_ops.specs.declared.operation.SingleOp.TheVariants.{BoolNot, Same, Differ, Item, Set, Len, Make, ListOf, Concat, Push, Slice, Put, NumChunks, GetChunk, SetChunk, ToArray, ToSeq, OptUnwrap, ResUnwrap, OptIsSome, OptIsNone, ResIsOk, ResIsErr, Clone}
use Rattle.hs_ops.specs.declared.operation.Operation.{Operation}
use Rattle.hs_ops.specs.declared.operation.Operation.TheVariants.{Number, Cast, Part, SetPart, Single}

-- the public and the secret kind of a width
abbrev pub public_of : IntTy → IntTy
public_of SU8 = PU8
public_of SU16 = PU16
public_of SU32 = PU32
public_of SU64 = PU64
public_of SU128 = PU128
public_of kind = kind

abbrev pub secret_of : IntTy → IntTy
secret_of PU8 = SU8
secret_of PU16 = SU16
secret_of PU32 = SU32
secret_of PU64 = SU64
secret_of PU128 = SU128
secret_of kind = kind

-- the kind of the bytes of a number
abbrev pub byte_of : IntTy → IntTy
byte_of kind = if is_secret kind then SU8 else PU8

-- what an operation on numbers of a kind gives; `Classify` and `Declassify` are told by the secret kind
abbrev pub number_answer : NumberOp → IntTy → List Value → Answer
number_answer Add k = numbers.add k
number_answer Sub k = numbers.sub k
number_answer Mul k = numbers.mul k
number_answer Div k = numbers.div k
number_answer Rem k = numbers.rem k
number_answer Neg k = numbers.neg k
number_answer And k = numbers.and k
number_answer Or k = numbers.or k
number_answer Xor k = numbers.xor k
number_answer Not k = numbers.complement k
number_answer Shl k = numbers.shl k
number_answer Shr k = numbers.shr k
number_answer Rotl k = numbers.rotl k
number_answer Rotr k = numbers.rotr k
number_answer Wadd k = numbers.wadd k
number_answer Wsub k = numbers.wsub k
number_answer Wmul k = numbers.wmul k
number_answer Lt k = numbers.lt k
number_answer Le k = numbers.le k
number_answer Gt k = numbers.gt k
number_answer Ge k = numbers.ge k
number_answer Classify k = numbers.cast (public_of k) k
number_answer Declassify k = numbers.cast k (public_of k)
number_answer ToLe k = numbers.to_le (byte_of k) k
number_answer ToBe k = numbers.to_be (byte_of k) k
number_answer FromLe k = numbers.from_le (byte_of k) k
number_answer FromBe k = numbers.from_be (byte_of k) k

-- what an operation that there is once gives
abbrev pub single_answer : SingleOp → List Value → Answer
single_answer BoolNot = numbers.bool_not
single_answer Same = parts.same
single_answer Differ = parts.differ
single_answer Item = rows.item
single_answer Set = rows.set
single_answer Len = rows.len
single_answer Make = rows.make
single_answer ListOf = rows.list
single_answer Concat = rows.concat
single_answer Push = rows.push
single_answer Slice = rows.slice
single_answer Put = rows.put
single_answer NumChunks = rows.num_chunks
single_answer GetChunk = rows.get_chunk
single_answer SetChunk = rows.set_chunk
single_answer ToArray = rows.to_array
single_answer ToSeq = rows.to_seq
single_answer OptUnwrap = parts.opt_unwrap
single_answer ResUnwrap = parts.res_unwrap
single_answer OptIsSome = parts.opt_is_some
single_answer OptIsNone = parts.opt_is_none
single_answer ResIsOk = parts.res_is_ok
single_answer ResIsErr = parts.res_is_err
single_answer Clone = parts.clone

-- what an operation gives
abbrev pub answer : Operation → List Value → Answer
answer (Number o k) = number_answer o k
answer (Cast from to) = numbers.cast from to
answer (Part n i) = parts.part n i
answer (SetPart n i) = parts.set_part n i
answer (Single o) = single_answer o
