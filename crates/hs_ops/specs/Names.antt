-- How operations are called.
use Rattle.std.specs.Prelude.{ℕ, ◌+◌, ◌/◌, ◌%◌, nat_lt, List, [], ◌∷◌, ◌++◌, codes, if◌then◌else◌}
use Rattle.hs_words.specs.declared.kinds.IntTy.{IntTy}
use Rattle.hs_words.specs.declared.kinds.IntTy.TheVariants.{PU8, PU16, PU32, PU64, PU128, PUsize, PI8, PI16, PI32, PI64, PI128, SU8, SU16, SU32, SU64, SU128}
use Rattle.hs_ops.specs.declared.operation.NumberOp.{NumberOp}
use Rattle.hs_ops.specs.declared.operation.NumberOp.TheVariants.{Add, Sub, Mul, Div, Rem, Neg, And, Or, Xor, Not, Shl, Shr, Rotl, Rotr, Wadd, Wsub, Wmul, Lt, Le, Gt, Ge, Classify, Declassify, ToLe, ToBe, FromLe, FromBe}
use Rattle.hs_ops.specs.declared.operation.SingleOp.{SingleOp}
use Rattle.hs_ops.specs.declared.operation.SingleOp.TheVariants.{BoolNot, Same, Differ, Item, Set, Len, Make, ListOf, Concat, Push, Slice, Put, NumChunks, GetChunk, SetChunk, ToArray, ToSeq, OptUnwrap, ResUnwrap, OptIsSome, OptIsNone, ResIsOk, ResIsErr, Clone}
use Rattle.hs_ops.specs.declared.operation.Operation.{Operation}
use Rattle.hs_ops.specs.declared.operation.Operation.TheVariants.{Number, Cast, Part, SetPart, Single}

-- the printed name of a kind
abbrev pub kind_name : IntTy → List ℕ
kind_name PU8 = codes "u8"
kind_name PU16 = codes "u16"
kind_name PU32 = codes "u32"
kind_name PU64 = codes "u64"
kind_name PU128 = codes "u128"
kind_name PUsize = codes "usize"
kind_name PI8 = codes "i8"
kind_name PI16 = codes "i16"
kind_name PI32 = codes "i32"
kind_name PI64 = codes "i64"
kind_name PI128 = codes "i128"
kind_name SU8 = codes "s8"
kind_name SU16 = codes "s16"
kind_name SU32 = codes "s32"
kind_name SU64 = codes "s64"
kind_name SU128 = codes "s128"

-- the end of the name of an operation on a kind
abbrev pub ending : NumberOp → List ℕ
ending Add = codes "_add"
ending Sub = codes "_sub"
ending Mul = codes "_mul"
ending Div = codes "_div"
ending Rem = codes "_rem"
ending Neg = codes "_neg"
ending And = codes "_and"
ending Or = codes "_or"
ending Xor = codes "_xor"
ending Not = codes "_not"
ending Shl = codes "_shl"
ending Shr = codes "_shr"
ending Rotl = codes "_rotl"
ending Rotr = codes "_rotr"
ending Wadd = codes "_wadd"
ending Wsub = codes "_wsub"
ending Wmul = codes "_wmul"
ending Lt = codes "_lt"
ending Le = codes "_le"
ending Gt = codes "_gt"
ending Ge = codes "_ge"
ending Classify = codes "_classify"
ending Declassify = codes "_declassify"
ending ToLe = codes "_to_le"
ending ToBe = codes "_to_be"
ending FromLe = codes "_from_le"
ending FromBe = codes "_from_be"

-- the name of an operation that there is once
abbrev pub single_name : SingleOp → List ℕ
single_name BoolNot = codes "bool_not"
single_name Same = codes "same"
single_name Differ = codes "differ"
single_name Item = codes "q_item"
single_name Set = codes "q_set"
single_name Len = codes "q_len"
single_name Make = codes "q_make"
single_name ListOf = codes "q_list"
single_name Concat = codes "q_concat"
single_name Push = codes "q_push"
single_name Slice = codes "q_slice"
single_name Put = codes "q_put"
single_name NumChunks = codes "q_num_chunks"
single_name GetChunk = codes "q_get_chunk"
single_name SetChunk = codes "q_set_chunk"
single_name ToArray = codes "q_to_array"
single_name ToSeq = codes "q_to_seq"
single_name OptUnwrap = codes "opt_unwrap"
single_name ResUnwrap = codes "res_unwrap"
single_name OptIsSome = codes "opt_is_some"
single_name OptIsNone = codes "opt_is_none"
single_name ResIsOk = codes "res_is_ok"
single_name ResIsErr = codes "res_is_err"
single_name Clone = codes "clone"

-- a number below 100 in decimal digits
abbrev pub digits : ℕ → List ℕ
digits n = if nat_lt n 10 then (48 + n) ∷ [] else ((48 + n / 10) ∷ (48 + n % 10) ∷ [])

-- the printed name of an operation
abbrev pub name_of : Operation → List ℕ
name_of (Number o k) = kind_name k ++ ending o
name_of (Cast from to) = kind_name to ++ codes "_of_" ++ kind_name from
name_of (Part n i) = codes "tup" ++ digits n ++ codes "_" ++ digits i
name_of (SetPart n i) = codes "tup" ++ digits n ++ codes "_set_" ++ digits i
name_of (Single o) = single_name o
