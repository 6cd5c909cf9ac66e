-- The operations that there are, in the order of their names.
use Rattle.std.specs.Prelude.{ℕ, List, [], ◌∷◌, ◌++◌, map}
use Rattle.std.specs.List.{filter}
use Rattle.hs_words.specs.declared.kinds.IntTy.{IntTy}
use Rattle.hs_words.specs.declared.kinds.IntTy.TheVariants.{PU8, PU16, PU32, PU64, PU128, PUsize, PI8, PI16, PI32, PI64, PI128, SU8, SU16, SU32, SU64, SU128}
use Rattle.hs_ops.specs.declared.operation.NumberOp.TheVariants.{Add, Sub, Mul, Div, Rem, Neg, And, Or, Xor, Not, Shl, Shr, Rotl, Rotr, Wadd, Wsub, Wmul, Lt, Le, Gt, Ge, Classify, Declassify, ToLe, ToBe, FromLe, FromBe}
use Rattle.hs_ops.specs.declared.operation.SingleOp.TheVariants.{BoolNot, Same, Differ, Item, Set, Len, Make, ListOf, Concat, Push, Slice, Put, NumChunks, GetChunk, SetChunk, ToArray, ToSeq, OptUnwrap, ResUnwrap, OptIsSome, OptIsNone, ResIsOk, ResIsErr, Clone}
use Rattle.hs_ops.specs.declared.operation.Operation.{Operation}
use Rattle.hs_ops.specs.declared.operation.Operation.TheVariants.{Number, Cast, Part, SetPart, Single}
use Rattle.hs_ops.specs.declared.table.Entry.{Entry}
use Rattle.hs_ops.specs.Known.{is_known}
use Rattle.hs_ops.specs.Names.{name_of}
use Rattle.hs_ops.specs.Row.{row_of}
use Rattle.hs_ops.specs.Table.{Table}

-- the entry of an operation under its own name
abbrev pub entry_for : Operation → Entry
entry_for o = record { row = row_of (name_of o) o; operation = o }

-- the entries of those of these operations that there are
unfoldable pub rows_of : List Operation → List Entry
rows_of os = map entry_for (filter is_known os)

-- what there may be with results of a kind, or for a kind, in the order of names
unfoldable pub for_kind : IntTy → List Operation
for_kind k = Number Add k ∷ Number And k ∷ Number Classify k ∷ Number Declassify k ∷ Number Div k ∷ Number FromBe k ∷ Number FromLe k ∷ Number Ge k ∷ Number Gt k ∷ Number Le k ∷ Number Lt k ∷ Number Mul k ∷ Number Neg k ∷ Number Not k ∷ Cast PI128 k ∷ Cast PI16 k ∷ Cast PI32 k ∷ Cast PI64 k ∷ Cast PI8 k ∷ Cast SU128 k ∷ Cast SU16 k ∷ Cast SU32 k ∷ Cast SU64 k ∷ Cast SU8 k ∷ Cast PU128 k ∷ Cast PU16 k ∷ Cast PU32 k ∷ Cast PU64 k ∷ Cast PU8 k ∷ Cast PUsize k ∷ Number Or k ∷ Number Rem k ∷ Number Rotl k ∷ Number Rotr k ∷ Number Shl k ∷ Number Shr k ∷ Number Sub k ∷ Number ToBe k ∷ Number ToLe k ∷ Number Wadd k ∷ Number Wmul k ∷ Number Wsub k ∷ Number Xor k ∷ []

unfoldable pub for_kinds : List IntTy → List Operation
for_kinds [] = []
for_kinds (k ∷ ks) = for_kind k ++ for_kinds ks

-- numbers below 12 in the order of their digits
abbrev pub places : List ℕ
places = 0 ∷ 1 ∷ 10 ∷ 11 ∷ 2 ∷ 3 ∷ 4 ∷ 5 ∷ 6 ∷ 7 ∷ 8 ∷ 9 ∷ []

-- what there may be for a tuple of n parts, in the order of names
unfoldable pub for_tuple : ℕ → List Operation
for_tuple n = map (Part n) places ++ map (SetPart n) places

unfoldable pub for_tuples : List ℕ → List Operation
for_tuples [] = []
for_tuples (n ∷ ns) = for_tuple n ++ for_tuples ns

-- the operations that there are once, in three runs: before the signed kinds, before the secret kinds, before the tuples
abbrev pub first_singles : List Operation
first_singles = Single BoolNot ∷ Single Clone ∷ Single Differ ∷ []

abbrev pub middle_singles : List Operation
middle_singles = Single OptIsNone ∷ Single OptIsSome ∷ Single OptUnwrap ∷ Single Concat ∷ Single GetChunk ∷ Single Item ∷ Single Len ∷ Single ListOf ∷ Single Make ∷ Single NumChunks ∷ Single Push ∷ Single Put ∷ Single Set ∷ Single SetChunk ∷ Single Slice ∷ Single ToArray ∷ Single ToSeq ∷ Single ResIsErr ∷ Single ResIsOk ∷ Single ResUnwrap ∷ []

abbrev pub last_singles : List Operation
last_singles = Single Same ∷ []

-- kinds and numbers of parts, in the order of their names
abbrev pub signed_kinds : List IntTy
signed_kinds = PI128 ∷ PI16 ∷ PI32 ∷ PI64 ∷ PI8 ∷ []

abbrev pub secret_kinds : List IntTy
secret_kinds = SU128 ∷ SU16 ∷ SU32 ∷ SU64 ∷ SU8 ∷ []

abbrev pub unsigned_kinds : List IntTy
unsigned_kinds = PU128 ∷ PU16 ∷ PU32 ∷ PU64 ∷ PU8 ∷ PUsize ∷ []

abbrev pub counts : List ℕ
counts = 10 ∷ 11 ∷ 12 ∷ 2 ∷ 3 ∷ 4 ∷ 5 ∷ 6 ∷ 7 ∷ 8 ∷ 9 ∷ []

-- the operations that there are, in the order of their names
unfoldable pub standard_operations : List Operation
standard_operations = filter is_known (
    first_singles ++ for_kinds signed_kinds ++ middle_singles ++ for_kinds secret_kinds
    ++ last_singles ++ for_tuples counts ++ for_kinds unsigned_kinds)

-- the table of all operations, each under its own name
abbrev pub standard_table : Table
standard_table = record { prefix = []; operations = standard_operations }
