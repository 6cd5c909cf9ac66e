-- Arguments seen as the kinds that operations take.
use Rattle.std.specs.Prelude.{ℕ, Bool, true, false, eqb, Option, Some, None, option_map, List, [], ◌∷◌, length, if◌then◌else◌, unsigned_abs}
use Rattle.hs_words.specs.Word.{Integer, bits_of}
use Rattle.hs_words.specs.declared.kinds.IntTy.{IntTy}
use Rattle.hs_words.specs.declared.kinds.IntTy.TheVariants.{PUsize}
use Rattle.hs_values.specs.Kinds.{is_kind}
use Rattle.hs_values.specs.declared.value.Sort.TheVariants as sort
use Rattle.hs_values.specs.declared.value.Value.{Value, out-Value}
use Rattle.hs_values.specs.declared.value.Value.TheOpen.{Value-F}
use Rattle.hs_values.specs.declared.value.Value.TheOpen as layer

-- any value
abbrev pub any : Value → Option Value
any v = Some v

-- a truth value, at one level of a value
abbrev pub bool_in : Value-F Value → Option Bool
bool_in (layer.Bool b) = Some b
bool_in _ = None

abbrev pub as_bool : Value → Option Bool
as_bool v = bool_in (out-Value v)

-- a number of the kind
abbrev pub int_in : IntTy → Value-F Value → Option Integer
int_in kind (layer.Int n) = if is_kind n.kind kind then Some n else None
int_in kind _ = None

abbrev pub as_int : IntTy → Value → Option Integer
as_int kind v = int_in kind (out-Value v)

-- a number of `usize`, which is never below 0
abbrev pub as_size : Value → Option ℕ
as_size v = option_map (λ n. unsigned_abs n.number) (as_int PUsize v)

-- the items of a sequence or an array
abbrev pub row_in : Value-F Value → Option (List Value)
row_in (layer.Seq items) = Some items
row_in _ = None

abbrev pub as_row : Value → Option (List Value)
as_row v = row_in (out-Value v)

-- one item before others
abbrev pub consed : {A : Type 0} → Option A → Option (List A) → Option (List A)
consed None xs = None
consed (Some x) None = None
consed (Some x) (Some xs) = Some (x ∷ xs)

-- numbers of the kind, by their bits
abbrev pub bits_in : IntTy → List Value → Option (List ℕ)
bits_in kind [] = Some []
bits_in kind (v ∷ vs) = consed (option_map (λ n. bits_of kind n.number) (as_int kind v)) (bits_in kind vs)

-- a row of numbers of the kind, by their bits
abbrev pub row_bits : IntTy → Option (List Value) → Option (List ℕ)
row_bits kind None = None
row_bits kind (Some vs) = bits_in kind vs

abbrev pub as_bytes : IntTy → Value → Option (List ℕ)
as_bytes kind v = row_bits kind (as_row v)

-- the parts of a tuple of so many
abbrev pub tuple_in : ℕ → Value-F Value → Option (List Value)
tuple_in count (layer.Tuple parts) = if eqb (length parts) count then Some parts else None
tuple_in count _ = None

abbrev pub as_tuple : ℕ → Value → Option (List Value)
as_tuple count v = tuple_in count (out-Value v)

-- an option: nothing, or its part
abbrev pub option_from : ℕ → List Value → Option (Option Value)
option_from number [] = if eqb number 0 then Some None else None
option_from number (v ∷ []) = if eqb number 1 then Some (Some v) else None
option_from number _ = None

abbrev pub option_in : Value-F Value → Option (Option Value)
option_in (layer.Ctor sort.Option number parts) = option_from number parts
option_in _ = None

abbrev pub as_option : Value → Option (Option Value)
as_option v = option_in (out-Value v)

-- a result: whether it is good, and its part
abbrev pub result_from : ℕ → List Value → Option (Bool × Value)
result_from number (v ∷ []) = if eqb number 0 then Some (true, v) else (if eqb number 1 then Some (false, v) else None)
result_from number _ = None

abbrev pub result_in : Value-F Value → Option (Bool × Value)
result_in (layer.Ctor sort.Result number parts) = result_from number parts
result_in _ = None

abbrev pub as_result : Value → Option (Bool × Value)
as_result v = result_in (out-Value v)
