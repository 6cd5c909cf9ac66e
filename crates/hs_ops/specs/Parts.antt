-- Operations on tuples, options and results, and those on any value.
use Rattle.std.specs.Prelude.{ℕ, Bool, true, false, not, ◌&&◌, Option, Some, None, eqb, List, [], ◌∷◌, slice_get, slice_set}
use Rattle.std.specs.Ordering.{int_eq}
use Rattle.hs_words.specs.declared.kinds.Panic.TheVariants.{Unwrap}
use Rattle.hs_values.specs.Kinds.{is_kind}
use Rattle.hs_values.specs.declared.value.Sort.{Sort}
use Rattle.hs_values.specs.declared.value.Sort.TheVariants as sort
use Rattle.hs_values.specs.declared.value.Value.{Value, out-Value}
use Rattle.hs_values.specs.declared.value.Value.TheOpen.{Value-F}
use Rattle.hs_values.specs.declared.value.Value.TheOpen as layer
use Rattle.hs_values.specs.declared.value.Value.TheFolds.{fold-Value}
use Rattle.hs_values.specs.declared.value.Value.TheVariants as value
use Rattle.hs_ops.specs.Answer.{Answer, Is, Fails, Misfit, truth, unary, binary}
use Rattle.hs_ops.specs.Views.{any, as_tuple, as_option, as_result}

-- a part that is there
abbrev pub part_at : Option Value → Answer
part_at None = Misfit
part_at (Some v) = Is v

-- part i of a tuple of n parts
abbrev pub part : ℕ → ℕ → List Value → Answer
part n i = unary (as_tuple n) (λ parts. part_at (slice_get parts i))

-- the tuple of n parts with part i replaced
abbrev pub set_part : ℕ → ℕ → List Value → Answer
set_part n i = binary (as_tuple n) any (λ parts x. Is (value.Tuple (slice_set parts i x)))

-- the part of an option, or Unwrap where it has none
abbrev pub opened : Option Value → Answer
opened None = Fails Unwrap
opened (Some v) = Is v

abbrev pub opt_unwrap : List Value → Answer
opt_unwrap = unary as_option opened

-- the part of a result where it is good, else Unwrap
abbrev pub good_part : Bool → Value → Answer
good_part true v = Is v
good_part false v = Fails Unwrap

abbrev pub res_unwrap : List Value → Answer
res_unwrap = unary as_result (λ r. good_part r.0 r.1)

-- whether an option has a part
abbrev pub has_part : Option Value → Bool
has_part None = false
has_part (Some v) = true

abbrev pub opt_is_some : List Value → Answer
opt_is_some = unary as_option (λ o. truth (has_part o))

abbrev pub opt_is_none : List Value → Answer
opt_is_none = unary as_option (λ o. truth (not (has_part o)))

-- whether a result is good
abbrev pub res_is_ok : List Value → Answer
res_is_ok = unary as_result (λ r. truth r.0)

abbrev pub res_is_err : List Value → Answer
res_is_err = unary as_result (λ r. truth (not r.0))

-- whether two sorts are the same
abbrev pub same_sort : Sort → Sort → Bool
same_sort sort.Option sort.Option = true
same_sort sort.Result sort.Result = true
same_sort (sort.Named m) (sort.Named n) = eqb m n
same_sort _ _ = false

-- whether two lists are as long, and each part, by its test of values, is the one at its place
abbrev pub same_each : List (Value → Bool) → List Value → Bool
same_each [] [] = true
same_each [] (v ∷ vs) = false
same_each (f ∷ fs) [] = false
same_each (f ∷ fs) (v ∷ vs) = f v && same_each fs vs

-- whether two truth values are the same
abbrev pub same_truth : Bool → Bool → Bool
same_truth true b = b
same_truth false b = not b

-- whether two values are the same, by the tests of the first one's parts
abbrev pub same_layer : Value-F (Value → Bool) → Value-F Value → Bool
same_layer layer.Unit layer.Unit = true
same_layer (layer.Bool a) (layer.Bool b) = same_truth a b
same_layer (layer.Int a) (layer.Int b) = is_kind a.kind b.kind && int_eq a.number b.number
same_layer (layer.Seq fs) (layer.Seq vs) = same_each fs vs
same_layer (layer.Tuple fs) (layer.Tuple vs) = same_each fs vs
same_layer (layer.Ctor s m fs) (layer.Ctor t n vs) = same_sort s t && (eqb m n && same_each fs vs)
same_layer _ _ = false

-- whether two values are one value
abbrev pub is_same : Value → Value → Bool
is_same = fold-Value (Value → Bool) (λ layer v. same_layer layer (out-Value v))

abbrev pub same : List Value → Answer
same = binary any any (λ a b. truth (is_same a b))

abbrev pub differ : List Value → Answer
differ = binary any any (λ a b. truth (not (is_same a b)))

-- the value itself
abbrev pub clone : List Value → Answer
clone = unary any Is
