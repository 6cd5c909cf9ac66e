-- What some operations give on values: the equations by which rows compute.
use Rattle.std.proofs.Common.{◌≡◌, ℕ, ◌+◌, ◌^◌, Bool, true, ◌&&◌, List, [], ◌∷◌, map, Some, pos, refl, ap, ◌∙◌, rules}
use Rattle.std.specs.Prelude.{codes, nat_lt}
use Rattle.std.specs.Ordering.{int_eq}
use Rattle.hs_words.specs.Word.{Integer}
use Rattle.hs_words.specs.declared.kinds.IntTy.TheVariants.{PU32, PUsize}
use Rattle.hs_words.specs.declared.kinds.Panic.TheVariants.{Division}
use Rattle.hs_values.specs.Kinds.{is_kind}
use Rattle.hs_values.specs.declared.types.ValType.{ValType, out-ValType}
use Rattle.hs_values.specs.declared.types.ValType as types
use Rattle.hs_values.specs.declared.types.ValType.TheVariants as type
use Rattle.hs_values.specs.declared.types.ValType.TheOpen as open_type
use Rattle.hs_values.specs.declared.types.TypeDef.{TypeDef}
use Rattle.hs_values.specs.declared.value.Sort.TheVariants as sort
use Rattle.hs_values.specs.declared.value.Value.{Value, out-Value, roll-Value, the_lemmas}
use Rattle.hs_values.specs.declared.value.Value.TheVariants as value
use Rattle.hs_values.specs.declared.value.Value.TheOpen.{Value-F}
use Rattle.hs_values.specs.declared.value.Value.TheOpen as layer
use Rattle.hs_values.specs.declared.value.Value.TheFolds.{fold-roll-Value}
use Rattle.hs_ops.specs.Parts.{is_same, same_layer}
use Rattle.hs_ops.specs.Standard.{standard_operations, standard_table, for_kinds, for_kind, for_tuples, for_tuple}
use Rattle.hs_ops.specs.Table.{operation_named}
use Rattle.hs_ops.specs.declared.operation.NumberOp.TheVariants.{Add, Div}
use Rattle.hs_ops.specs.declared.operation.SingleOp.TheVariants.{Same, Make, Push}
use Rattle.hs_ops.specs.declared.operation.Operation.TheVariants.{Number, Single}
use Rattle.hs_control.specs.Control as val
use Rattle.hs_control.specs.Control.{Val, Truth, Row, NoVals, Also, vals_of, level_of, val_of, Is, Fails, applied}
use Rattle.hs_tree.specs.Match.{ctors_of}
use Rattle.hs_tree.specs.Steps.{size}
use Rattle.hs_tree.specs.SmallPrograms.{byte, word, bytes}

-- numbers as values
out_int : (n : Integer) → out-Value (value.Int n) ≡ layer.Int n
out_int n = search (rules, the_lemmas)

val_int : (n : Integer) → val_of (value.Int n) ≡ val.Number n
unfolding roll-Value denote.Hole.Carrier.roll
val_int n = fold-roll-Value Val level_of (layer.Int n)

val_truth : (b : Bool) → val_of (value.Bool b) ≡ Truth b
unfolding roll-Value denote.Hole.Carrier.roll
val_truth b = fold-roll-Value Val level_of (layer.Bool b)

val_row : (vs : List Value) → val_of (value.Seq vs) ≡ Row (vals_of (map val_of vs))
unfolding roll-Value denote.Hole.Carrier.roll
val_row vs = fold-roll-Value Val level_of (layer.Seq vs)

abbrev step : Value-F (Value → Bool) → Value → Bool
step layer v = same_layer layer (out-Value v)

same_numbers : (a b : Integer) → is_same (value.Int a) (value.Int b) ≡ (is_kind a.kind b.kind && int_eq a.number b.number)
unfolding roll-Value denote.Hole.Carrier.roll
same_numbers a b =
    ap (λ (f : Value → Bool). f (value.Int b)) (fold-roll-Value (Value → Bool) step (layer.Int a))
    ∙ ap (same_layer (layer.Int a)) (out_int b)

named_add : operation_named standard_table (codes "usize_add") ≡ Some (Number Add PUsize)
unfolding standard_operations for_kinds for_kind for_tuples for_tuple
named_add = refl

named_div : operation_named standard_table (codes "usize_div") ≡ Some (Number Div PUsize)
unfolding standard_operations for_kinds for_kind for_tuples for_tuple
named_div = refl

named_word_div : operation_named standard_table (codes "u32_div") ≡ Some (Number Div PU32)
unfolding standard_operations for_kinds for_kind for_tuples for_tuple
named_word_div = refl

named_same : operation_named standard_table (codes "same") ≡ Some (Single Same)
unfolding standard_operations for_kinds for_kind for_tuples for_tuple
named_same = refl

named_make : operation_named standard_table (codes "q_make") ≡ Some (Single Make)
unfolding standard_operations for_kinds for_kind for_tuples for_tuple
named_make = refl

named_word_add : operation_named standard_table (codes "u32_add") ≡ Some (Number Add PU32)
unfolding standard_operations for_kinds for_kind for_tuples for_tuple
named_word_add = refl

named_push : operation_named standard_table (codes "q_push") ≡ Some (Single Push)
unfolding standard_operations for_kinds for_kind for_tuples for_tuple
named_push = refl

out_row : (vs : List Value) → out-Value (value.Seq vs) ≡ layer.Seq vs
out_row vs = search (rules, the_lemmas)

pub sum_sizes : (a b : ℕ) → nat_lt (a + b) (2 ^ 64) ≡ true → applied (codes "usize_add") (size a ∷ size b ∷ []) ≡ Is (size (a + b))
unfolding applied
sum_sizes a b h = simp (named_add, out_int, val_int, h) refl

pub size_over_none : (a : ℕ) → applied (codes "usize_div") (size a ∷ size 0 ∷ []) ≡ Fails Division
unfolding applied
size_over_none a = simp (named_div, out_int) refl

pub word_over_none : (a : ℕ) → applied (codes "u32_div") (word a ∷ word 0 ∷ []) ≡ Fails Division
unfolding applied
word_over_none a = simp (named_word_div, out_int) refl

pub one_over_one : applied (codes "u32_div") (word 1 ∷ word 1 ∷ []) ≡ Is (word 1)
unfolding applied
one_over_one = simp (named_word_div, out_int, val_int) refl

pub same_sizes : (a b : ℕ) → applied (codes "same") (size a ∷ size b ∷ []) ≡ Is (Truth (int_eq (pos a) (pos b)))
unfolding applied
same_sizes a b = simp (named_same, same_numbers, val_truth) refl

pub two_bytes : applied (codes "q_make") (byte 0 ∷ size 2 ∷ []) ≡ Is (Row (Also (byte 0) (Also (byte 0) NoVals)))
unfolding applied
two_bytes = simp (named_make, out_int, val_row, val_int) refl

pub one_and_five : applied (codes "u32_add") (word 1 ∷ word 5 ∷ []) ≡ Is (word 6)
unfolding applied
one_and_five = simp (named_word_add, out_int, val_int) refl

-- a sequence of these bytes
pub pushed : applied (codes "q_push") (bytes (0 ∷ []) ∷ byte 7 ∷ []) ≡ Is (bytes (0 ∷ 7 ∷ []))
unfolding applied
pushed = simp (named_push, out_row, val_row, val_int) refl

pub pushed_more : applied (codes "q_push") (bytes (0 ∷ 7 ∷ []) ∷ byte 7 ∷ []) ≡ Is (bytes (0 ∷ 7 ∷ 7 ∷ []))
unfolding applied
pushed_more = simp (named_push, out_row, val_row, val_int) refl

-- the constructors of a result
pub result_ctors : (table : List TypeDef) (good bad : ValType) → ctors_of table (type.Result good bad) ≡ Some (sort.Result, codes "Ok" ∷ codes "Err" ∷ [])
result_ctors table good bad = let e : out-ValType (type.Result good bad) ≡ open_type.Result good bad = search (rules, types.the_lemmas) in rw e refl
