-- What operations take and give, and which values are of a kind.
use Rattle.std.specs.Prelude.{⊤, ℕ, Bool, true, false, ◌&&◌, IsTrue, IsFalse, List, [], ◌∷◌, eqb, is_some, Result, Ok, Err, if◌then◌else◌}
use Rattle.std.specs.List.{list_any}
use Rattle.hs_words.specs.Kind.{is_signed, is_secret}
use Rattle.hs_words.specs.declared.kinds.IntTy.{IntTy}
use Rattle.hs_words.specs.declared.kinds.IntTy.TheVariants.{PUsize}
use Rattle.hs_words.specs.declared.kinds.Panic.{Panic}
use Rattle.hs_words.specs.declared.kinds.Panic.TheVariants as panic
use Rattle.hs_values.specs.declared.value.Value.{Value, out-Value}
use Rattle.hs_values.specs.declared.value.Value.TheOpen.{Value-F}
use Rattle.hs_values.specs.declared.value.Value.TheOpen as layer
use Rattle.hs_ops.specs.Views.{as_bool, as_int, as_row, as_bytes, as_tuple, as_option, as_result}
use Rattle.hs_ops.specs.Op.{public_of, byte_of}
use Rattle.hs_ops.specs.declared.row.Kind.{Kind}
use Rattle.hs_ops.specs.declared.row.Kind.TheVariants as kind
use Rattle.hs_ops.specs.declared.row.OpRow.{OpRow}
use Rattle.hs_ops.specs.declared.row.OpStop.{OpStop}
use Rattle.hs_ops.specs.declared.row.OpStop.TheVariants as stop
use Rattle.hs_ops.specs.declared.operation.NumberOp.{NumberOp}
use Rattle.hs_ops.specs.declared.operation.NumberOp.TheVariants.{Add, Sub, Mul, Div, Rem, Neg, Not, Shl, Shr, Rotl, Rotr, Lt, Le, Gt, Ge, Classify, Declassify, ToLe, ToBe, FromLe, FromBe}
use Rattle.hs_ops.specs.declared.operation.SingleOp.{SingleOp}
use Rattle.hs_ops.specs.declared.operation.SingleOp.TheVariants.{BoolNot, Same, Differ, Item, Set, Len, Make, ListOf, Concat, Push, Slice, Put, NumChunks, GetChunk, SetChunk, ToArray, ToSeq, OptUnwrap, ResUnwrap, OptIsSome, OptIsNone, ResIsOk, ResIsErr, Clone}
use Rattle.hs_ops.specs.declared.operation.Operation.{Operation}
use Rattle.hs_ops.specs.declared.operation.Operation.TheVariants.{Number, Cast, Part, SetPart, Single}

-- whether a value is unit, at one level of a value
abbrev pub unit_in : Value-F Value → Bool
unit_in layer.Unit = true
unit_in _ = false

-- whether a value is of the kind
abbrev pub has_kind : Kind → Value → Bool
has_kind kind.Any v = true
has_kind kind.Unit v = unit_in (out-Value v)
has_kind kind.Bool v = is_some (as_bool v)
has_kind (kind.Int k) v = is_some (as_int k v)
has_kind kind.Row v = is_some (as_row v)
has_kind (kind.Bytes k) v = is_some (as_bytes k v)
has_kind (kind.Tuple n) v = is_some (as_tuple n v)
has_kind kind.Option v = is_some (as_option v)
has_kind kind.Result v = is_some (as_result v)
has_kind kind.Each v = true

-- whether values are as many as the kinds, each of the kind at its place
abbrev pub each_has : List Kind → List Value → Bool
each_has [] [] = true
each_has [] (v ∷ vs) = false
each_has (k ∷ ks) [] = false
each_has (k ∷ ks) (v ∷ vs) = has_kind k v && each_has ks vs

-- whether values have the kinds; `Each` alone is any count of values
abbrev pub have_kinds : List Kind → List Value → Bool
have_kinds (kind.Each ∷ []) vs = true
have_kinds ks vs = each_has ks vs

-- the kind of lengths, places and amounts
abbrev pub size_kind : Kind
size_kind = kind.Int PUsize

-- the kinds of the arguments of an operation on numbers
abbrev pub number_args : NumberOp → IntTy → List Kind
number_args Neg k = kind.Int k ∷ []
number_args Not k = kind.Int k ∷ []
number_args Shl k = kind.Int k ∷ size_kind ∷ []
number_args Shr k = kind.Int k ∷ size_kind ∷ []
number_args Rotl k = kind.Int k ∷ size_kind ∷ []
number_args Rotr k = kind.Int k ∷ size_kind ∷ []
number_args Classify k = kind.Int (public_of k) ∷ []
number_args Declassify k = kind.Int k ∷ []
number_args ToLe k = kind.Int k ∷ []
number_args ToBe k = kind.Int k ∷ []
number_args FromLe k = kind.Bytes (byte_of k) ∷ []
number_args FromBe k = kind.Bytes (byte_of k) ∷ []
number_args _ k = kind.Int k ∷ kind.Int k ∷ []

-- the kind of its value
abbrev pub number_result : NumberOp → IntTy → Kind
number_result Lt k = kind.Bool
number_result Le k = kind.Bool
number_result Gt k = kind.Bool
number_result Ge k = kind.Bool
number_result Declassify k = kind.Int (public_of k)
number_result ToLe k = kind.Bytes (byte_of k)
number_result ToBe k = kind.Bytes (byte_of k)
number_result _ k = kind.Int k

-- a sum, a difference or a product of secret numbers does not overflow
abbrev pub exact_panics : IntTy → List Panic
exact_panics k = if is_secret k then [] else panic.Overflow ∷ []

-- a quotient overflows at a signed kind alone
abbrev pub quotient_panics : IntTy → List Panic
quotient_panics k = if is_signed k then panic.Division ∷ panic.Overflow ∷ [] else panic.Division ∷ []

-- its panics, in the order in which their conditions are tried
abbrev pub number_panics : NumberOp → IntTy → List Panic
number_panics Add k = exact_panics k
number_panics Sub k = exact_panics k
number_panics Mul k = exact_panics k
number_panics Div k = quotient_panics k
number_panics Rem k = quotient_panics k
number_panics Neg k = panic.Overflow ∷ []
number_panics Shl k = panic.Shift ∷ []
number_panics Shr k = panic.Shift ∷ []
number_panics FromLe k = panic.Length ∷ []
number_panics FromBe k = panic.Length ∷ []
number_panics _ k = []

-- the same of an operation that there is once
abbrev pub single_args : SingleOp → List Kind
single_args BoolNot = kind.Bool ∷ []
single_args Same = kind.Any ∷ kind.Any ∷ []
single_args Differ = kind.Any ∷ kind.Any ∷ []
single_args Item = kind.Row ∷ size_kind ∷ []
single_args Set = kind.Row ∷ size_kind ∷ kind.Any ∷ []
single_args Len = kind.Row ∷ []
single_args Make = kind.Any ∷ size_kind ∷ []
single_args ListOf = kind.Each ∷ []
single_args Concat = kind.Row ∷ kind.Row ∷ []
single_args Push = kind.Row ∷ kind.Any ∷ []
single_args Slice = kind.Row ∷ size_kind ∷ size_kind ∷ []
single_args Put = kind.Row ∷ size_kind ∷ kind.Row ∷ []
single_args NumChunks = kind.Row ∷ size_kind ∷ []
single_args GetChunk = kind.Row ∷ size_kind ∷ size_kind ∷ []
single_args SetChunk = kind.Row ∷ size_kind ∷ size_kind ∷ kind.Row ∷ []
single_args ToArray = size_kind ∷ kind.Row ∷ []
single_args ToSeq = kind.Row ∷ []
single_args OptUnwrap = kind.Option ∷ []
single_args ResUnwrap = kind.Result ∷ []
single_args OptIsSome = kind.Option ∷ []
single_args OptIsNone = kind.Option ∷ []
single_args ResIsOk = kind.Result ∷ []
single_args ResIsErr = kind.Result ∷ []
single_args Clone = kind.Any ∷ []

abbrev pub single_result : SingleOp → Kind
single_result BoolNot = kind.Bool
single_result Same = kind.Bool
single_result Differ = kind.Bool
single_result Item = kind.Any
single_result Len = size_kind
single_result NumChunks = size_kind
single_result GetChunk = kind.Tuple 2
single_result OptUnwrap = kind.Any
single_result ResUnwrap = kind.Any
single_result OptIsSome = kind.Bool
single_result OptIsNone = kind.Bool
single_result ResIsOk = kind.Bool
single_result ResIsErr = kind.Bool
single_result Clone = kind.Any
single_result _ = kind.Row

abbrev pub single_panics : SingleOp → List Panic
single_panics Item = panic.Index ∷ []
single_panics Set = panic.Index ∷ []
single_panics Make = panic.Length ∷ []
single_panics Concat = panic.Length ∷ []
single_panics Push = panic.Length ∷ []
single_panics Slice = panic.Index ∷ []
single_panics Put = panic.Index ∷ []
single_panics NumChunks = panic.Division ∷ []
single_panics GetChunk = panic.Division ∷ panic.Index ∷ []
single_panics SetChunk = panic.Division ∷ panic.Index ∷ panic.Length ∷ []
single_panics ToArray = panic.Length ∷ []
single_panics OptUnwrap = panic.Unwrap ∷ []
single_panics ResUnwrap = panic.Unwrap ∷ []
single_panics _ = []

-- the kinds of the arguments of an operation
abbrev pub args_of : Operation → List Kind
args_of (Number o k) = number_args o k
args_of (Cast from to) = kind.Int from ∷ []
args_of (Part n i) = kind.Tuple n ∷ []
args_of (SetPart n i) = kind.Tuple n ∷ kind.Any ∷ []
args_of (Single o) = single_args o

-- the kind of its value
abbrev pub result_of : Operation → Kind
result_of (Number o k) = number_result o k
result_of (Cast from to) = kind.Int to
result_of (Part n i) = kind.Any
result_of (SetPart n i) = kind.Tuple n
result_of (Single o) = single_result o

-- its panics, in the order in which their conditions are tried
abbrev pub panics_of : Operation → List Panic
panics_of (Number o k) = number_panics o k
panics_of (Single o) = single_panics o
panics_of _ = []

-- the row of an operation that is called so
abbrev pub row_of : List ℕ → Operation → OpRow
row_of name o = record { name = name; args = args_of o; result = result_of o; panics = panics_of o }

-- whether arguments have the kinds tells for what a call can stop: for the kinds where they have not, and only there
abbrev pub ForKinds : Result Value OpStop → Bool → Type 0
ForKinds (Ok v) has = IsTrue has
ForKinds (Err (stop.Panic p)) has = IsTrue has
ForKinds (Err stop.Kind) has = IsFalse has
ForKinds (Err stop.NoMemory) has = ⊤

-- the place of a panic among the six
abbrev pub place_of_panic : Panic → ℕ
place_of_panic panic.Overflow = 0
place_of_panic panic.Division = 1
place_of_panic panic.Shift = 2
place_of_panic panic.Index = 3
place_of_panic panic.Length = 4
place_of_panic panic.Unwrap = 5

-- whether a panic is one of these
abbrev pub is_among : Panic → List Panic → Bool
is_among p ps = list_any (λ q. eqb (place_of_panic p) (place_of_panic q)) ps

-- what a row promises of a call: a value of its kind, or one of its panics
abbrev pub Promised : Result Value OpStop → OpRow → Type 0
Promised (Ok v) row = IsTrue (has_kind row.result v)
Promised (Err (stop.Panic p)) row = IsTrue (is_among p row.panics)
Promised (Err stop.Kind) row = ⊤
Promised (Err stop.NoMemory) row = ⊤
