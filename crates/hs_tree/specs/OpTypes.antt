-- The types that operations take and give.
use Rattle.std.specs.Prelude.{◌≡◌, ◌⊎◌, ℕ, false, List, [], ◌∷◌, length, replicate, Option, Some, slice_get, IsTrue, IsFalse, ⊤}
use Rattle.hs_words.specs.declared.kinds.IntTy.TheVariants.{PUsize}
use Rattle.hs_values.specs.Fits.{kind_at}
use Rattle.hs_values.specs.declared.types.ValType.{ValType}
use Rattle.hs_values.specs.declared.types.ValType.TheVariants as type
use Rattle.hs_values.specs.declared.types.TypeKind.TheVariants.{Array}
use Rattle.hs_values.specs.declared.types.TypeDef.{TypeDef}
use Rattle.hs_ops.specs.declared.row.Kind.{Kind}
use Rattle.hs_ops.specs.declared.row.Kind.TheVariants as kind
use Rattle.hs_ops.specs.declared.operation.SingleOp.{SingleOp}
use Rattle.hs_ops.specs.declared.operation.SingleOp.TheVariants.{BoolNot, Same, Differ, Item, Set, Len, Make, ListOf, Concat, Push, Slice, Put, NumChunks, GetChunk, SetChunk, ToArray, ToSeq, OptUnwrap, ResUnwrap, OptIsSome, OptIsNone, ResIsOk, ResIsErr, Clone}
use Rattle.hs_ops.specs.declared.operation.Operation.{Operation}
use Rattle.hs_ops.specs.declared.operation.Operation.TheVariants.{Number, Cast, Part, SetPart, Single}
use Rattle.hs_ops.specs.Row.{number_args, number_result}
use Rattle.hs_ops.specs.Standard.{standard_table}
use Rattle.hs_ops.specs.Table.{operation_named}
use Rattle.hs_tree.specs.Plain.{Name}
use Rattle.hs_tree.specs.Types.{well_made, has_secrets}

-- the type of lengths, places and amounts
abbrev pub size : ValType
size = type.Int PUsize

-- the type is an array of n items of a type
abbrev pub ArrayOf : List TypeDef → ValType → ℕ → ValType → Type 0
ArrayOf table t n item = (number : ℕ) × (t ≡ type.Named number) × (kind_at table number ≡ Some (Array n item))

-- the type is a sequence or an array of items of a type
abbrev pub RowOf : List TypeDef → ValType → ValType → Type 0
RowOf table t item = (t ≡ type.Seq item) ⊎ ((n : ℕ) × ArrayOf table t n item)

-- the type is of the kind, where the kind is one that operations on numbers take or give
abbrev pub OfKind : List TypeDef → Kind → ValType → Type 0
OfKind table kind.Unit t = t ≡ type.Unit
OfKind table kind.Bool t = t ≡ type.Bool
OfKind table (kind.Int k) t = t ≡ type.Int k
OfKind table (kind.Bytes k) t = RowOf table t (type.Int k)
OfKind table _ t = ⊥

-- as many types as kinds, each of the kind at its place
abbrev pub OfKinds : List TypeDef → List Kind → List ValType → Type 0
OfKinds table [] [] = ⊤
OfKinds table [] (t ∷ ts) = ⊥
OfKinds table (k ∷ ks) [] = ⊥
OfKinds table (k ∷ ks) (t ∷ ts) = OfKind table k t × OfKinds table ks ts

-- the type of what an operation on numbers gives; bytes are given as a sequence
abbrev pub GivesKind : Kind → ValType → Type 0
GivesKind kind.Bool t = t ≡ type.Bool
GivesKind (kind.Int k) t = t ≡ type.Int k
GivesKind (kind.Bytes k) t = t ≡ type.Seq (type.Int k)
GivesKind _ t = ⊥

-- the operands that are numbers of `usize` written out, by their places: what a length is read from
abbrev pub Sizes : Type 0
Sizes = List (Option ℕ)

-- the number at a place, where it is written out
abbrev pub SizeAt : Sizes → ℕ → ℕ → Type 0
SizeAt sizes i n = slice_get sizes i ≡ Some (Some n)

-- the types that an operation that there is once takes and gives
abbrev pub SingleTyped : List TypeDef → SingleOp → Sizes → List ValType → ValType → Type 0
SingleTyped table BoolNot sizes ts t = (ts ≡ type.Bool ∷ []) × (t ≡ type.Bool)
SingleTyped table Same sizes ts t = (a : ValType) × (ts ≡ a ∷ a ∷ []) × IsFalse (has_secrets table a) × (t ≡ type.Bool)
SingleTyped table Differ sizes ts t = (a : ValType) × (ts ≡ a ∷ a ∷ []) × IsFalse (has_secrets table a) × (t ≡ type.Bool)
SingleTyped table Item sizes ts t = (r : ValType) × (ts ≡ r ∷ size ∷ []) × RowOf table r t
SingleTyped table Set sizes ts t = (x : ValType) × (ts ≡ t ∷ size ∷ x ∷ []) × RowOf table t x
SingleTyped table Len sizes ts t = (r : ValType) × (x : ValType) × (ts ≡ r ∷ []) × RowOf table r x × (t ≡ size)
-- a sequence of any length, an array of the written length, or the empty sequence that stands as a zero value and has its place's type
SingleTyped table Make sizes ts t =
    (x : ValType) × (ts ≡ x ∷ size ∷ [])
    × ((t ≡ type.Seq x)
    ⊎ ((n : ℕ) × SizeAt sizes 1 n × ArrayOf table t n x)
    ⊎ ((x ≡ type.Unit) × SizeAt sizes 1 0 × ((item : ValType) × (t ≡ type.Seq item) × IsTrue (well_made false (length table) item))))
SingleTyped table ListOf sizes ts t = (x : ValType) × (n : ℕ) × (ts ≡ replicate n x) × ArrayOf table t n x
SingleTyped table Concat sizes ts t =
    (a : ValType) × (b : ValType) × (x : ValType) × (ts ≡ a ∷ b ∷ []) × RowOf table a x × RowOf table b x × (t ≡ type.Seq x)
SingleTyped table Push sizes ts t = (x : ValType) × (ts ≡ type.Seq x ∷ x ∷ []) × (t ≡ type.Seq x)
SingleTyped table Slice sizes ts t = (r : ValType) × (x : ValType) × (ts ≡ r ∷ size ∷ size ∷ []) × RowOf table r x × (t ≡ type.Seq x)
SingleTyped table Put sizes ts t =
    (b : ValType) × (x : ValType) × (ts ≡ t ∷ size ∷ b ∷ []) × RowOf table t x × RowOf table b x
SingleTyped table NumChunks sizes ts t = (r : ValType) × (x : ValType) × (ts ≡ r ∷ size ∷ []) × RowOf table r x × (t ≡ size)
SingleTyped table GetChunk sizes ts t =
    (r : ValType) × (x : ValType) × (ts ≡ r ∷ size ∷ size ∷ []) × RowOf table r x × (t ≡ type.Tuple (size ∷ type.Seq x ∷ []))
SingleTyped table SetChunk sizes ts t =
    (b : ValType) × (x : ValType) × (ts ≡ t ∷ size ∷ size ∷ b ∷ []) × RowOf table t x × RowOf table b x
SingleTyped table ToArray sizes ts t =
    (r : ValType) × (x : ValType) × (n : ℕ) × (ts ≡ size ∷ r ∷ []) × SizeAt sizes 0 n × RowOf table r x × ArrayOf table t n x
SingleTyped table ToSeq sizes ts t = (r : ValType) × (x : ValType) × (ts ≡ r ∷ []) × RowOf table r x × (t ≡ type.Seq x)
SingleTyped table OptUnwrap sizes ts t = ts ≡ type.Option t ∷ []
SingleTyped table ResUnwrap sizes ts t = (bad : ValType) × (ts ≡ type.Result t bad ∷ [])
SingleTyped table OptIsSome sizes ts t = (x : ValType) × (ts ≡ type.Option x ∷ []) × (t ≡ type.Bool)
SingleTyped table OptIsNone sizes ts t = (x : ValType) × (ts ≡ type.Option x ∷ []) × (t ≡ type.Bool)
SingleTyped table ResIsOk sizes ts t = (x : ValType) × (y : ValType) × (ts ≡ type.Result x y ∷ []) × (t ≡ type.Bool)
SingleTyped table ResIsErr sizes ts t = (x : ValType) × (y : ValType) × (ts ≡ type.Result x y ∷ []) × (t ≡ type.Bool)
SingleTyped table Clone sizes ts t = ts ≡ t ∷ []

-- the types that an operation takes and gives
abbrev pub OperationTyped : List TypeDef → Operation → Sizes → List ValType → ValType → Type 0
OperationTyped table (Number o k) sizes ts t = OfKinds table (number_args o k) ts × GivesKind (number_result o k) t
OperationTyped table (Cast from to) sizes ts t = (ts ≡ type.Int from ∷ []) × (t ≡ type.Int to)
OperationTyped table (Part n i) sizes ts t =
    (xs : List ValType) × (length xs ≡ n) × (ts ≡ type.Tuple xs ∷ []) × (slice_get xs i ≡ Some t)
OperationTyped table (SetPart n i) sizes ts t =
    (xs : List ValType) × (x : ValType) × (length xs ≡ n) × (slice_get xs i ≡ Some x) × (ts ≡ t ∷ x ∷ []) × (t ≡ type.Tuple xs)
OperationTyped table (Single o) sizes ts t = SingleTyped table o sizes ts t

-- the types that the operation of a name takes and gives
abbrev pub OpTyped : List TypeDef → Name → Sizes → List ValType → ValType → Type 0
OpTyped table name sizes ts t = (o : Operation) × (operation_named standard_table name ≡ Some o) × OperationTyped table o sizes ts t
