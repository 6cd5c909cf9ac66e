-- Which operation an operator, a method or a path of a type stands for: for which types it is there, and what it takes and gives.
use Rattle.std.specs.Prelude.{ℕ, Bool, true, false, bytes_eq, codes, List, [], ◌∷◌, ◌++◌, Option, Some, None, if◌then◌else◌}
use Rattle.hs_words.specs.declared.kinds.IntTy.{IntTy}
use Rattle.hs_syntax.specs.declared.exp.BinaryOp.{BinaryOp}
use Rattle.hs_syntax.specs.declared.exp.BinaryOp.TheVariants as op
use Rattle.hs_values.specs.declared.types.ValType.{ValType, out-ValType}
use Rattle.hs_values.specs.declared.types.ValType.TheOpen.{ValType-F}
use Rattle.hs_values.specs.declared.types.ValType.TheOpen as type
use Rattle.hs_values.specs.declared.types.TypeDef.{TypeDef}
use Rattle.hs_ops.specs.Known.{is_for}
use Rattle.hs_ops.specs.Op.{public_of, byte_of}
use Rattle.hs_ops.specs.declared.operation.NumberOp.{NumberOp}
use Rattle.hs_ops.specs.declared.operation.NumberOp.TheVariants as numeric
use Rattle.hs_ops.specs.declared.operation.SingleOp.TheVariants as special
use Rattle.hs_ops.specs.declared.operation.Operation.{Operation as KnownOperation}
use Rattle.hs_ops.specs.declared.operation.Operation.TheVariants.{Number, Cast, Single}
use Rattle.hs_tree.specs.Plain.{Name}
use Rattle.hs_typing.specs.Types.{bool, int, size, seq, tuple, kind_of, some_of, good_of, item_of, array_of, asked_of}
use Rattle.hs_typing.specs.Wishes.{Got, Is, Wish, Lost, Hint, Wants, Rows}

-- ---- operators

-- the operation on numbers of an operator; that of a comparison for sameness is on all values, and `||` and `&&` are none
abbrev pub number_op : BinaryOp → Option NumberOp
number_op op.Or = None
number_op op.And = None
number_op op.Equal = None
number_op op.Differ = None
number_op op.Less = Some numeric.Lt
number_op op.AtMost = Some numeric.Le
number_op op.Greater = Some numeric.Gt
number_op op.AtLeast = Some numeric.Ge
number_op op.BitOr = Some numeric.Or
number_op op.BitXor = Some numeric.Xor
number_op op.BitAnd = Some numeric.And
number_op op.ShiftLeft = Some numeric.Shl
number_op op.ShiftRight = Some numeric.Shr
number_op op.Add = Some numeric.Add
number_op op.Subtract = Some numeric.Sub
number_op op.Multiply = Some numeric.Mul
number_op op.Divide = Some numeric.Div
number_op op.Remainder = Some numeric.Rem

-- whether both operands are bools, of which the left one may decide
abbrev pub decides : BinaryOp → Bool
decides op.Or = true
decides op.And = true
decides _ = false

-- whether the right operand is an amount
abbrev pub shifts : BinaryOp → Bool
shifts op.ShiftLeft = true
shifts op.ShiftRight = true
shifts _ = false

-- whether two values are compared for sameness
abbrev pub equates : BinaryOp → Bool
equates op.Equal = true
equates op.Differ = true
equates _ = false

-- whether a bool is given of two values
abbrev pub compares : BinaryOp → Bool
compares op.Equal = true
compares op.Differ = true
compares op.Less = true
compares op.AtMost = true
compares op.Greater = true
compares op.AtLeast = true
compares _ = false

-- whether it is one of arithmetic or bits, and no shift
abbrev pub computes : BinaryOp → Bool
computes op.BitOr = true
computes op.BitXor = true
computes op.BitAnd = true
computes op.Add = true
computes op.Subtract = true
computes op.Multiply = true
computes op.Divide = true
computes op.Remainder = true
computes _ = false

abbrev pub is_for_kind : Option NumberOp → Option IntTy → Bool
is_for_kind None k = true
is_for_kind (Some o) None = false
is_for_kind (Some o) (Some k) = is_for o k

-- whether an operator is defined for a type: `==` and `!=` for every one, the others for kinds of integers. Whether the operands of
-- `||` and `&&` are bools is asked of each by itself
abbrev pub defined : BinaryOp → ValType → Bool
defined o t = is_for_kind (number_op o) (kind_of t)

-- what is asked of a bare operand, by what the other operand is: its type, and T1 is told here where the operator is defined for it
abbrev pub beside : BinaryOp → Option Got → Wish
beside o (Some (Is t)) = if defined o t then Wants t else Hint t
beside o _ = Lost

-- the operation on numbers of a kind, where there is one
abbrev pub operation_in : Option NumberOp → Option IntTy → Option KnownOperation
operation_in (Some o) (Some k) = Some (Number o k)
operation_in _ _ = None

-- the type of what an operator gives on values of a type
abbrev pub binary_type : BinaryOp → ValType → ValType
binary_type o t = if compares o then bool else t

-- ---- what arguments are asked

-- what the place of an argument asks
pub data Ask : Type 0 where
  -- a value
  Takes : Wish → Ask
  -- a value that is only read: `&e`, or the name of a reference parameter
  Reads : Wish → Ask
  -- a local that may be changed: `&mut x`, or the name of a `&mut` parameter
  Changes : ValType → Ask
  -- a list of so many items of a type
  Lists : ℕ → ValType → Ask
  -- another list of so many items beside that one
  Spare : ℕ → Ask
  -- it is not known what, since a node has no type
  Unasked : Ask

-- the operands of an operation before its receiver and its arguments
pub data Before : Type 0 where
  no_operand : Before
  -- the zero value of a type
  zero_of : ValType → Before
  -- the zero value of a type, and a length
  zeros_of : ValType → ℕ → Before
  -- a length
  length_of : ℕ → Before

-- an operation with arguments
pub record Operation : Type 0 where
  pub operation : KnownOperation
  pub asks : List Ask
  pub gives : ValType
  pub before : Before
  -- whether the type of the values that it makes has a zero value
  pub has_zero : Bool

-- one without operands of its own
abbrev pub plain : KnownOperation → List Ask → ValType → Operation
plain o asks gives = record { operation = o; asks = asks; gives = gives; before = no_operand; has_zero = true }

-- a value of this type
abbrev pub takes : ValType → Ask
takes t = Takes (Wants t)

-- a sequence or an array of items of this type, which is only read
abbrev pub reads_row : ValType → Ask
reads_row item = Reads (Rows item)

-- operations by the names that a source gives them; one that a type lacks is none
abbrev pub Listing : Type 0
Listing = List (Name × Option Operation)

-- the one of this name
unfoldable pub row_named : Listing → Name → Option Operation
row_named [] name = None
row_named (r ∷ rows) name = if bytes_eq name r.0 then r.1 else row_named rows name

-- an operation on numbers of a kind, where there is it
unfoldable pub when_for : NumberOp → IntTy → List Ask → ValType → Option Operation
when_for o k asks gives = if is_for o k then Some (plain (Number o k) asks gives) else None

-- the type of the bytes of a number: secret where it is
abbrev pub byte_type : IntTy → ValType
byte_type k = int (byte_of k)

-- ---- methods

abbrev pub number_methods : Option IntTy → Listing
number_methods None = []
number_methods (Some k) =
    (codes "rotate_left", when_for numeric.Rotl k (takes size ∷ []) (int k))
    ∷ (codes "rotate_right", when_for numeric.Rotr k (takes size ∷ []) (int k))
    ∷ (codes "wrapping_add", when_for numeric.Wadd k (takes (int k) ∷ []) (int k))
    ∷ (codes "wrapping_sub", when_for numeric.Wsub k (takes (int k) ∷ []) (int k))
    ∷ (codes "wrapping_mul", when_for numeric.Wmul k (takes (int k) ∷ []) (int k))
    ∷ (codes "declassify", when_for numeric.Declassify k [] (int (public_of k)))
    ∷ (codes "to_le_bytes", when_for numeric.ToLe k [] (seq (byte_type k)))
    ∷ (codes "to_be_bytes", when_for numeric.ToBe k [] (seq (byte_type k)))
    ∷ []

-- of a sequence or an array, with this item type, which is of the first type
abbrev pub row_methods : ValType → Option ValType → Listing
row_methods own None = []
row_methods own (Some item) =
    (codes "len", Some (plain (Single special.Len) [] size))
    ∷ (codes "concat", Some (plain (Single special.Concat) (reads_row item ∷ []) (seq item)))
    ∷ (codes "slice", Some (plain (Single special.Slice) (takes size ∷ takes size ∷ []) (seq item)))
    ∷ (codes "update", Some (plain (Single special.Put) (takes size ∷ reads_row item ∷ []) own))
    ∷ (codes "num_chunks", Some (plain (Single special.NumChunks) (takes size ∷ []) size))
    ∷ (codes "get_chunk", Some (plain (Single special.GetChunk) (takes size ∷ takes size ∷ []) (tuple (size ∷ seq item ∷ []))))
    ∷ (codes "set_chunk", Some (plain (Single special.SetChunk) (takes size ∷ takes size ∷ reads_row item ∷ []) own))
    ∷ []

-- of a sequence alone, by its type
abbrev pub seq_layer : {T : Type 0} → ValType-F T → Option T
seq_layer (type.Seq t) = Some t
seq_layer _ = None

abbrev pub seq_methods : ValType → Option ValType → Listing
seq_methods own None = []
seq_methods own (Some item) = (codes "push", Some (plain (Single special.Push) (Reads (Wants item) ∷ []) own)) ∷ []

abbrev pub option_methods : Option ValType → Listing
option_methods None = []
option_methods (Some t) =
    (codes "unwrap", Some (plain (Single special.OptUnwrap) [] t))
    ∷ (codes "is_some", Some (plain (Single special.OptIsSome) [] bool))
    ∷ (codes "is_none", Some (plain (Single special.OptIsNone) [] bool))
    ∷ []

abbrev pub result_methods : Option ValType → Listing
result_methods None = []
result_methods (Some good) =
    (codes "unwrap", Some (plain (Single special.ResUnwrap) [] good))
    ∷ (codes "is_ok", Some (plain (Single special.ResIsOk) [] bool))
    ∷ (codes "is_err", Some (plain (Single special.ResIsErr) [] bool))
    ∷ []

-- those that only some types have
abbrev pub own_methods : List TypeDef → ValType → Listing
own_methods table t =
    number_methods (kind_of t) ++ row_methods t (item_of table t) ++ seq_methods t (seq_layer (out-ValType t)) ++ option_methods (some_of t) ++ result_methods (good_of t)

abbrev pub methods : List TypeDef → ValType → Listing
methods table t = (codes "clone", Some (plain (Single special.Clone) [] t)) ∷ own_methods table t

-- the operation that a method of values of a type is
abbrev pub method : List TypeDef → ValType → Name → Option Operation
method table t name = row_named (methods table t) name

-- ---- paths of a type

abbrev pub number_paths : Option IntTy → Listing
number_paths None = []
number_paths (Some k) =
    (codes "from_le_bytes", when_for numeric.FromLe k (reads_row (byte_type k) ∷ []) (int k))
    ∷ (codes "from_be_bytes", when_for numeric.FromBe k (reads_row (byte_type k) ∷ []) (int k))
    ∷ []

-- `new` of an array takes nothing: an array's items have a zero value
abbrev pub array_paths : ValType → Option (ℕ × ValType) → Listing
array_paths own None = []
array_paths own (Some a) =
    (codes "new", Some (record { operation = Single special.Make; asks = []; gives = own; before = zeros_of a.1 a.0; has_zero = true }))
    ∷ (codes "from_seq", Some (record { operation = Single special.ToArray; asks = reads_row a.1 ∷ []; gives = own; before = length_of a.0; has_zero = true }))
    ∷ []

abbrev pub seq_paths : List TypeDef → ValType → Option ValType → Listing
seq_paths table own None = []
seq_paths table own (Some item) =
    (codes "new", Some (record { operation = Single special.Make; asks = takes size ∷ []; gives = own; before = zero_of item; has_zero = (asked_of table item).has_zero }))
    ∷ (codes "from_seq", Some (plain (Single special.ToSeq) (reads_row item ∷ []) own))
    ∷ []

abbrev pub paths : List TypeDef → ValType → Listing
paths table t = number_paths (kind_of t) ++ array_paths t (array_of table t) ++ seq_paths table t (seq_layer (out-ValType t))

-- the operation that a path of a type is, where it is called
abbrev pub path_operation : List TypeDef → ValType → Name → Option Operation
path_operation table t name = row_named (paths table t) name

-- a secret kind before `(` makes a secret number of a public one
abbrev pub classify : IntTy → Operation
classify k = plain (Number numeric.Classify k) (takes (int (public_of k)) ∷ []) (int k)

-- a conversion between secret kinds
abbrev pub convert : IntTy → IntTy → Operation
convert to from = plain (Cast from to) (takes (int from) ∷ []) (int to)
