-- The answer is a misfit exactly where the arguments do not have the kinds.
use Rattle.std.proofs.Common.{◌≡◌, ℕ, zero, suc, ◌+◌, ◌*◌, ◌/◌, ◌++◌, take, drop, replicate, reverse, Bool, true, false, not, ◌&&◌, if◌then◌else◌, List, [], ◌∷◌, length, slice_get, Option, Some, None, option_map, Result, Ok, Err, ◌<◌, refl, sym, ap, ◌∙◌, arith}
use Rattle.std.specs.Prelude.{is_some, leb, nat_lt, eqb, slice_set}
use Rattle.std.proofs.lemmas.Bool.Decides.{nat_tests, Decides-eqb}
use Rattle.std.specs.Int.{div_ceil}
use Rattle.hs_words.specs.Kind.{width_of}
use Rattle.hs_words.specs.Word.{Integer, from_bits}
use Rattle.hs_words.specs.declared.kinds.IntTy.{IntTy}
use Rattle.hs_words.specs.declared.kinds.Panic.{Panic}
use Rattle.hs_words.specs.declared.kinds.Panic.TheVariants.{Division, Index, Length}
use Rattle.hs_values.specs.Fits.{max_length}
use Rattle.hs_values.specs.declared.value.Value.{Value, out-Value}
use Rattle.hs_values.specs.declared.value.Value.TheVariants as value
use Rattle.hs_values.specs.declared.value.Value.TheOpen.{Value-F}
use Rattle.hs_values.specs.declared.value.Value.TheOpen as layer
use Rattle.hs_ops.specs.declared.operation.NumberOp.{NumberOp}
use Rattle.hs_ops.specs.declared.operation.NumberOp.TheVariants.{Add, Sub, Mul, Div, Rem, Neg, And, Or, Xor, Not, Shl, Shr, Rotl, Rotr, Wadd, Wsub, Wmul, Lt, Le, Gt, Ge, Classify, Declassify, ToLe, ToBe, FromLe, FromBe}
use Rattle.hs_ops.specs.declared.operation.SingleOp.{SingleOp}
use Rattle.hs_ops.specs.declared.operation.SingleOp.TheVariants.{BoolNot, Same, Differ, Item, Set, Len, Make, ListOf, Concat, Push, Slice, Put, NumChunks, GetChunk, SetChunk, ToArray, ToSeq, OptUnwrap, ResUnwrap, OptIsSome, OptIsNone, ResIsOk, ResIsErr, Clone}
use Rattle.hs_ops.specs.declared.operation.Operation.{Operation}
use Rattle.hs_ops.specs.declared.operation.Operation.TheVariants.{Number, Cast, Part, SetPart, Single}
use Rattle.hs_ops.specs.declared.row.Kind.{Kind}
use Rattle.hs_ops.specs.declared.row.Kind.TheVariants as kind
use Rattle.hs_ops.specs.declared.row.OpStop.{OpStop}
use Rattle.hs_ops.specs.declared.row.OpStop.TheVariants as stop
use Rattle.hs_ops.specs.Answer.{Answer, Is, Fails, Misfit, size_value, row, number, given, settle, unary, binary, ternary, quaternary, Tells}
use Rattle.hs_ops.specs.Views.{any, as_bool, as_int, as_size, as_row, as_bytes, as_tuple, as_option, as_result, tuple_in}
use Rattle.hs_ops.specs.Numbers.{from_bytes, bits_from}
use Rattle.hs_ops.specs.Rows.{bounded, written, put_at, found, chunk_length, in_chunk}
use Rattle.hs_ops.specs.Parts.{part_at, opened, good_part}
use Rattle.hs_ops.specs.Known.{is_known}
use Rattle.hs_ops.specs.Op.{public_of, byte_of, number_answer, single_answer, answer}
use Rattle.hs_ops.specs.Row.{has_kind, each_has, have_kinds, size_kind, args_of, number_args, single_args, ForKinds}

abbrev is_misfit : Answer → Bool
is_misfit (Is v) = false
is_misfit (Fails p) = false
is_misfit Misfit = true

settle_fits : (r : Result Integer Panic) → is_misfit (settle r) ≡ false
settle_fits (Ok n) = refl
settle_fits (Err p) = refl

choice_fits : (b : Bool) (x y : Answer) → is_misfit x ≡ false → is_misfit y ≡ false → is_misfit (if b then x else y) ≡ false
choice_fits true x y h k = h
choice_fits false x y h k = k

bounded_fits : (n : ℕ) (items : List Value) → is_misfit (bounded n items) ≡ false
bounded_fits n items = choice_fits (leb n max_length) (row items) (Fails Length) refl refl

put_at_fits : (a : List Value) (i : ℕ) (b : List Value) → is_misfit (put_at a i b) ≡ false
put_at_fits a i b = choice_fits (leb (i + length b) (length a)) (row (written a i b)) (Fails Index) refl refl

from_bytes_fits : (k : IntTy) (bs : List ℕ) → is_misfit (from_bytes k bs) ≡ false
from_bytes_fits k bs = choice_fits (eqb (length bs) (width_of k / 8)) (number (from_bits k (bits_from bs))) (Fails Length) refl refl

found_fits : (o : Option Value) → is_misfit (found o) ≡ false
found_fits None = refl
found_fits (Some v) = refl

chunk_fits : (r : Result ℕ Panic) (f : ℕ → Answer) → ((n : ℕ) → is_misfit (f n) ≡ false) → is_misfit (in_chunk r f) ≡ false
chunk_fits (Ok n) f h = h n
chunk_fits (Err p) f h = refl

opened_fits : (o : Option Value) → is_misfit (opened o) ≡ false
opened_fits None = refl
opened_fits (Some v) = refl

good_fits : (b : Bool) (v : Value) → is_misfit (good_part b v) ≡ false
good_fits true v = refl
good_fits false v = refl

mapped_some : {A B : Type 0} → (f : A → B) (o : Option A) → is_some o ≡ is_some (option_map f o)
mapped_some f None = refl
mapped_some f (Some a) = refl

size_viewed : (v : Value) → has_kind size_kind v ≡ is_some (as_size v)
size_viewed v = mapped_some _ _

module _ {A : Type 0} where
  one_misfits : (o : Option A) (f : A → Answer) → ((a : A) → is_misfit (f a) ≡ false) → is_misfit (given o f) ≡ not (is_some o && true)
  one_misfits None f h = refl
  one_misfits (Some a) f h = h a

  more_misfits : (o : Option A) (f : A → Answer) (b : Bool) → ((a : A) → is_misfit (f a) ≡ not b) → is_misfit (given o f) ≡ not (is_some o && b)
  more_misfits None f b h = refl
  more_misfits (Some a) f b h = h a

  unary_misfits : (view : Value → Option A) (f : A → Answer) (k : Kind) → ((v : Value) → has_kind k v ≡ is_some (view v)) → ((a : A) → is_misfit (f a) ≡ false) → (args : List Value) → is_misfit (unary view f args) ≡ not (each_has (k ∷ []) args)
  unary_misfits view f k e h [] = refl
  unary_misfits view f k e h (v ∷ []) = one_misfits (view v) f h ∙ ap (λ b. not (b && true)) (sym (e v))
  unary_misfits view f k e h (v ∷ w ∷ rest) = none (has_kind k v)
    where
      none : (b : Bool) → true ≡ not (b && false)
      none true = refl
      none false = refl

never : (b : Bool) → true ≡ not (b && false)
never true = refl
never false = refl

never_two : (a b : Bool) → true ≡ not (a && (b && false))
never_two true b = never b
never_two false b = refl

never_three : (a b c : Bool) → true ≡ not (a && (b && (c && false)))
never_three true b c = never_two b c
never_three false b c = refl

never_four : (a b c d : Bool) → true ≡ not (a && (b && (c && (d && false))))
never_four true b c d = never_three b c d
never_four false b c d = refl

module _ {A B : Type 0} where
  binary_misfits : (first : Value → Option A) (second : Value → Option B) (f : A → B → Answer) (k l : Kind) → ((v : Value) → has_kind k v ≡ is_some (first v)) → ((v : Value) → has_kind l v ≡ is_some (second v)) → ((a : A) (b : B) → is_misfit (f a b) ≡ false) → (args : List Value) → is_misfit (binary first second f args) ≡ not (each_has (k ∷ l ∷ []) args)
  binary_misfits first second f k l e g h [] = refl
  binary_misfits first second f k l e g h (v ∷ []) = never (has_kind k v)
  binary_misfits first second f k l e g h (v ∷ w ∷ []) =
      rw (e v, g w) (more_misfits (first v) _ _ (λ a. one_misfits (second w) (f a) (h a)))
  binary_misfits first second f k l e g h (v ∷ w ∷ x ∷ rest) = never_two (has_kind k v) (has_kind l w)

module _ {A B C : Type 0} where
  ternary_misfits : (first : Value → Option A) (second : Value → Option B) (third : Value → Option C) (f : A → B → C → Answer) (k l m : Kind) → ((v : Value) → has_kind k v ≡ is_some (first v)) → ((v : Value) → has_kind l v ≡ is_some (second v)) → ((v : Value) → has_kind m v ≡ is_some (third v)) → ((a : A) (b : B) (c : C) → is_misfit (f a b c) ≡ false) → (args : List Value) → is_misfit (ternary first second third f args) ≡ not (each_has (k ∷ l ∷ m ∷ []) args)
  ternary_misfits first second third f k l m e g i h [] = refl
  ternary_misfits first second third f k l m e g i h (v ∷ []) = never (has_kind k v)
  ternary_misfits first second third f k l m e g i h (v ∷ w ∷ []) = never_two (has_kind k v) (has_kind l w)
  ternary_misfits first second third f k l m e g i h (v ∷ w ∷ x ∷ []) =
      rw (e v, g w, i x) (more_misfits (first v) _ _ (λ a. more_misfits (second w) _ _ (λ b. one_misfits (third x) (f a b) (h a b))))
  ternary_misfits first second third f k l m e g i h (v ∷ w ∷ x ∷ y ∷ rest) = never_three (has_kind k v) (has_kind l w) (has_kind m x)

module _ {A B C D : Type 0} where
  quaternary_misfits : (first : Value → Option A) (second : Value → Option B) (third : Value → Option C) (fourth : Value → Option D) (f : A → B → C → D → Answer) (k l m n : Kind) → ((v : Value) → has_kind k v ≡ is_some (first v)) → ((v : Value) → has_kind l v ≡ is_some (second v)) → ((v : Value) → has_kind m v ≡ is_some (third v)) → ((v : Value) → has_kind n v ≡ is_some (fourth v)) → ((a : A) (b : B) (c : C) (d : D) → is_misfit (f a b c d) ≡ false) → (args : List Value) → is_misfit (quaternary first second third fourth f args) ≡ not (each_has (k ∷ l ∷ m ∷ n ∷ []) args)
  quaternary_misfits first second third fourth f k l m n e g i j h [] = refl
  quaternary_misfits first second third fourth f k l m n e g i j h (v ∷ []) = never (has_kind k v)
  quaternary_misfits first second third fourth f k l m n e g i j h (v ∷ w ∷ []) = never_two (has_kind k v) (has_kind l w)
  quaternary_misfits first second third fourth f k l m n e g i j h (v ∷ w ∷ x ∷ []) = never_three (has_kind k v) (has_kind l w) (has_kind m x)
  quaternary_misfits first second third fourth f k l m n e g i j h (v ∷ w ∷ x ∷ y ∷ []) =
      rw (e v, g w, i x, j y) (more_misfits (first v) _ _ (λ a. more_misfits (second w) _ _ (λ b. more_misfits (third x) _ _ (λ c. one_misfits (fourth y) (f a b c) (h a b c)))))
  quaternary_misfits first second third fourth f k l m n e g i j h (v ∷ w ∷ x ∷ y ∷ z ∷ rest) =
      never_four (has_kind k v) (has_kind l w) (has_kind m x) (has_kind n y)

number_misfits : (o : NumberOp) (k : IntTy) (args : List Value) → is_misfit (number_answer o k args) ≡ not (have_kinds (number_args o k) args)
number_misfits Add k args = binary_misfits (as_int k) (as_int k) _ (kind.Int k) (kind.Int k) (λ v. refl) (λ v. refl) (λ a b. settle_fits _) args
number_misfits Sub k args = binary_misfits (as_int k) (as_int k) _ (kind.Int k) (kind.Int k) (λ v. refl) (λ v. refl) (λ a b. settle_fits _) args
number_misfits Mul k args = binary_misfits (as_int k) (as_int k) _ (kind.Int k) (kind.Int k) (λ v. refl) (λ v. refl) (λ a b. settle_fits _) args
number_misfits Div k args = binary_misfits (as_int k) (as_int k) _ (kind.Int k) (kind.Int k) (λ v. refl) (λ v. refl) (λ a b. settle_fits _) args
number_misfits Rem k args = binary_misfits (as_int k) (as_int k) _ (kind.Int k) (kind.Int k) (λ v. refl) (λ v. refl) (λ a b. settle_fits _) args
number_misfits Neg k args = unary_misfits (as_int k) _ (kind.Int k) (λ v. refl) (λ a. settle_fits _) args
number_misfits And k args = binary_misfits (as_int k) (as_int k) _ (kind.Int k) (kind.Int k) (λ v. refl) (λ v. refl) (λ a b. refl) args
number_misfits Or k args = binary_misfits (as_int k) (as_int k) _ (kind.Int k) (kind.Int k) (λ v. refl) (λ v. refl) (λ a b. refl) args
number_misfits Xor k args = binary_misfits (as_int k) (as_int k) _ (kind.Int k) (kind.Int k) (λ v. refl) (λ v. refl) (λ a b. refl) args
number_misfits Not k args = unary_misfits (as_int k) _ (kind.Int k) (λ v. refl) (λ a. refl) args
number_misfits Shl k args = binary_misfits (as_int k) as_size _ (kind.Int k) size_kind (λ v. refl) size_viewed (λ a b. settle_fits _) args
number_misfits Shr k args = binary_misfits (as_int k) as_size _ (kind.Int k) size_kind (λ v. refl) size_viewed (λ a b. settle_fits _) args
number_misfits Rotl k args = binary_misfits (as_int k) as_size _ (kind.Int k) size_kind (λ v. refl) size_viewed (λ a b. refl) args
number_misfits Rotr k args = binary_misfits (as_int k) as_size _ (kind.Int k) size_kind (λ v. refl) size_viewed (λ a b. refl) args
number_misfits Wadd k args = binary_misfits (as_int k) (as_int k) _ (kind.Int k) (kind.Int k) (λ v. refl) (λ v. refl) (λ a b. refl) args
number_misfits Wsub k args = binary_misfits (as_int k) (as_int k) _ (kind.Int k) (kind.Int k) (λ v. refl) (λ v. refl) (λ a b. refl) args
number_misfits Wmul k args = binary_misfits (as_int k) (as_int k) _ (kind.Int k) (kind.Int k) (λ v. refl) (λ v. refl) (λ a b. refl) args
number_misfits Lt k args = binary_misfits (as_int k) (as_int k) _ (kind.Int k) (kind.Int k) (λ v. refl) (λ v. refl) (λ a b. refl) args
number_misfits Le k args = binary_misfits (as_int k) (as_int k) _ (kind.Int k) (kind.Int k) (λ v. refl) (λ v. refl) (λ a b. refl) args
number_misfits Gt k args = binary_misfits (as_int k) (as_int k) _ (kind.Int k) (kind.Int k) (λ v. refl) (λ v. refl) (λ a b. refl) args
number_misfits Ge k args = binary_misfits (as_int k) (as_int k) _ (kind.Int k) (kind.Int k) (λ v. refl) (λ v. refl) (λ a b. refl) args
number_misfits Classify k args = unary_misfits (as_int (public_of k)) _ (kind.Int (public_of k)) (λ v. refl) (λ a. refl) args
number_misfits Declassify k args = unary_misfits (as_int k) _ (kind.Int k) (λ v. refl) (λ a. refl) args
number_misfits ToLe k args = unary_misfits (as_int k) _ (kind.Int k) (λ v. refl) (λ a. refl) args
number_misfits ToBe k args = unary_misfits (as_int k) _ (kind.Int k) (λ v. refl) (λ a. refl) args
number_misfits FromLe k args = unary_misfits (as_bytes (byte_of k)) _ (kind.Bytes (byte_of k)) (λ v. refl) (from_bytes_fits k) args
number_misfits FromBe k args = unary_misfits (as_bytes (byte_of k)) _ (kind.Bytes (byte_of k)) (λ v. refl) (λ a. from_bytes_fits k (reverse a)) args

single_misfits : (o : SingleOp) (args : List Value) → is_misfit (single_answer o args) ≡ not (have_kinds (single_args o) args)
single_misfits BoolNot args = unary_misfits as_bool _ kind.Bool (λ v. refl) (λ a. refl) args
single_misfits Same args = binary_misfits any any _ kind.Any kind.Any (λ v. refl) (λ v. refl) (λ a b. refl) args
single_misfits Differ args = binary_misfits any any _ kind.Any kind.Any (λ v. refl) (λ v. refl) (λ a b. refl) args
single_misfits Item args = binary_misfits as_row as_size _ kind.Row size_kind (λ v. refl) size_viewed (λ a i. found_fits (slice_get a i)) args
single_misfits Set args = ternary_misfits as_row as_size any _ kind.Row size_kind kind.Any (λ v. refl) size_viewed (λ v. refl) (λ a i x. choice_fits (nat_lt i (length a)) (row (slice_set a i x)) (Fails Index) refl refl) args
single_misfits Len args = unary_misfits as_row _ kind.Row (λ v. refl) (λ a. refl) args
single_misfits Make args = binary_misfits any as_size _ kind.Any size_kind (λ v. refl) size_viewed (λ x n. bounded_fits n (replicate n x)) args
single_misfits ListOf args = refl
single_misfits Concat args = binary_misfits as_row as_row _ kind.Row kind.Row (λ v. refl) (λ v. refl) (λ a b. bounded_fits (length a + length b) (a ++ b)) args
single_misfits Push args = binary_misfits as_row any _ kind.Row kind.Any (λ v. refl) (λ v. refl) (λ a x. bounded_fits (length a + 1) (a ++ x ∷ [])) args
single_misfits Slice args = ternary_misfits as_row as_size as_size _ kind.Row size_kind size_kind (λ v. refl) size_viewed size_viewed (λ a i n. choice_fits (leb (i + n) (length a)) (row (take n (drop i a))) (Fails Index) refl refl) args
single_misfits Put args = ternary_misfits as_row as_size as_row _ kind.Row size_kind kind.Row (λ v. refl) size_viewed (λ v. refl) put_at_fits args
single_misfits NumChunks args = binary_misfits as_row as_size _ kind.Row size_kind (λ v. refl) size_viewed (λ a n. choice_fits (eqb n 0) (Fails Division) (Is (size_value (div_ceil (length a) n))) refl refl) args
single_misfits GetChunk args = ternary_misfits as_row as_size as_size _ kind.Row size_kind size_kind (λ v. refl) size_viewed size_viewed (λ a n i. chunk_fits (chunk_length (length a) n i) (λ count. Is (value.Tuple (size_value count ∷ value.Seq (take count (drop (i * n) a)) ∷ []))) (λ count. refl)) args
single_misfits SetChunk args = quaternary_misfits as_row as_size as_size as_row _ kind.Row size_kind size_kind kind.Row (λ v. refl) size_viewed size_viewed (λ v. refl) (λ a n i b. chunk_fits (chunk_length (length a) n i) (λ count. if eqb (length b) count then put_at a (i * n) b else Fails Length) (λ count. choice_fits (eqb (length b) count) (put_at a (i * n) b) (Fails Length) (put_at_fits a (i * n) b) refl)) args
single_misfits ToArray args = binary_misfits as_size as_row _ size_kind kind.Row size_viewed (λ v. refl) (λ n s. choice_fits (eqb (length s) n) (row s) (Fails Length) refl refl) args
single_misfits ToSeq args = unary_misfits as_row _ kind.Row (λ v. refl) (λ a. refl) args
single_misfits OptUnwrap args = unary_misfits as_option _ kind.Option (λ v. refl) opened_fits args
single_misfits ResUnwrap args = unary_misfits as_result _ kind.Result (λ v. refl) (λ r. good_fits r.0 r.1) args
single_misfits OptIsSome args = unary_misfits as_option _ kind.Option (λ v. refl) (λ o. refl) args
single_misfits OptIsNone args = unary_misfits as_option _ kind.Option (λ v. refl) (λ o. refl) args
single_misfits ResIsOk args = unary_misfits as_result _ kind.Result (λ v. refl) (λ r. refl) args
single_misfits ResIsErr args = unary_misfits as_result _ kind.Result (λ v. refl) (λ r. refl) args
single_misfits Clone args = unary_misfits any _ kind.Any (λ v. refl) (λ v. refl) args

part_there : (parts : List Value) (i : ℕ) → i < length parts → is_misfit (part_at (slice_get parts i)) ≡ false
part_there [] i h = absurd (omega arith)
part_there (p ∷ parts) zero h = refl
part_there (p ∷ parts) (suc i) h = part_there parts i (omega arith)

tuple_part_misfits : (n i : ℕ) (l : Value-F Value) → i < n → is_misfit (given (tuple_in n l) (λ parts. part_at (slice_get parts i))) ≡ not (is_some (tuple_in n l) && true)
tuple_part_misfits n i layer.Unit h = refl
tuple_part_misfits n i (layer.Bool b) h = refl
tuple_part_misfits n i (layer.Int m) h = refl
tuple_part_misfits n i (layer.Seq vs) h = refl
tuple_part_misfits n i (layer.Tuple vs) h = by (eqb (length vs) n) refl
  where
    by : (b : Bool) → eqb (length vs) n ≡ b → is_misfit (given (if b then Some vs else None) (λ parts. part_at (slice_get parts i))) ≡ not (is_some (if b then Some vs else None) && true)
    by true e = part_there vs i (let l : length vs ≡ n = (Decides-eqb (length vs) n).0 e in omega arith)
    by false e = refl
tuple_part_misfits n i (layer.Ctor s m vs) h = refl

part_misfits : (n i : ℕ) (args : List Value) → i < n → is_misfit (answer (Part n i) args) ≡ not (have_kinds (args_of (Part n i)) args)
part_misfits n i [] h = refl
part_misfits n i (v ∷ []) h = tuple_part_misfits n i (out-Value v) h
part_misfits n i (v ∷ w ∷ rest) h = never (has_kind (kind.Tuple n) v)

below_count : (n i : ℕ) → leb 2 n && (leb n 12 && nat_lt i n) ≡ true → i < n
below_count n i h = grind (arith, nat_tests)

-- the answer of an operation that there is
misfits : (o : Operation) (args : List Value) → is_known o ≡ true → is_misfit (answer o args) ≡ not (have_kinds (args_of o) args)
misfits (Number o k) args h = number_misfits o k args
misfits (Cast from to) args h = unary_misfits (as_int from) _ (kind.Int from) (λ v. refl) (λ a. refl) args
misfits (Part n i) args h = part_misfits n i args (below_count n i h)
misfits (SetPart n i) args h = binary_misfits (as_tuple n) any _ (kind.Tuple n) kind.Any (λ v. refl) (λ v. refl) (λ a x. refl) args
misfits (Single o) args h = single_misfits o args

told_kinds : (r : Result Value OpStop) (a : Answer) (has : Bool) → is_misfit a ≡ not has → Tells r a → ForKinds r has
told_kinds (Ok v) a true h t = refl
told_kinds (Ok v) a false h t = let no : is_misfit (Is v) ≡ true = ap is_misfit (sym t) ∙ h in cc no
told_kinds (Err (stop.Panic p)) a true h t = refl
told_kinds (Err (stop.Panic p)) a false h t = let no : is_misfit (Fails p) ≡ true = ap is_misfit (sym t) ∙ h in cc no
told_kinds (Err stop.Kind) a true h t = let no : is_misfit Misfit ≡ false = ap is_misfit (sym t) ∙ h in cc no
told_kinds (Err stop.Kind) a false h t = refl
told_kinds (Err stop.NoMemory) a has h t = tt

-- a call that tells the answer stops for the kinds just where the arguments do not have them
pub kinds_told : (o : Operation) (args : List Value) (r : Result Value OpStop) → is_known o ≡ true → Tells r (answer o args) → ForKinds r (have_kinds (args_of o) args)
kinds_told o args r h t = told_kinds r (answer o args) (have_kinds (args_of o) args) (misfits o args h) t
