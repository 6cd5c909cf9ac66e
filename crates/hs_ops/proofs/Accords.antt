-- A value is of the row's kind, and a panic is one of the row's.
use Rattle.std.proofs.Common.{◌≡◌, ℕ, ◌+◌, ◌-◌, ◌*◌, ◌/◌, ◌^◌, min, ◌++◌, take, drop, replicate, reverse, Bool, true, false, ◌&&◌, if◌then◌else◌, List, [], ◌∷◌, length, map, slice_get, Option, Some, None, option_map, Result, Ok, Err, refl, sym, ap, subst, ◌∙◌, rules, length-set}
use Rattle.std.specs.Prelude.{ℤ, pos, negsuc, ◌+ℤ◌, ◌-ℤ◌, ◌*ℤ◌, neg_ℤ, int_div, int_rem, is_some, leb, nat_lt, eqb, slice_set}
use Rattle.std.specs.Int.{div_ceil, int_shr}
use Rattle.std.specs.Ordering.{int_eq}
use Rattle.hs_words.specs.Kind.{width_of, is_signed, is_secret}
use Rattle.hs_words.specs.Word.{Integer, from_bits, bits_of, wrapped}
use Rattle.hs_words.specs.Arithmetic.{settled, exact, divided, shifted, is_in_range, least_of}
use Rattle.hs_words.specs.declared.kinds.IntTy.{IntTy}
use Rattle.hs_words.specs.declared.kinds.IntTy.TheVariants.{PUsize}
use Rattle.hs_words.specs.declared.kinds.Panic.{Panic}
use Rattle.hs_words.specs.declared.kinds.Panic.TheVariants.{Overflow, Division, Shift, Index, Length, Unwrap}
use Rattle.hs_values.specs.Fits.{max_length}
use Rattle.hs_values.specs.Kinds.{is_kind, is_kind-equal, is_kind-refl}
use Rattle.hs_values.specs.declared.value.Value.{Value, out-Value, the_lemmas}
use Rattle.hs_values.specs.declared.value.Value.TheVariants as value
use Rattle.hs_values.specs.declared.value.Value.TheOpen.{Value-F}
use Rattle.hs_values.specs.declared.value.Value.TheOpen as layer
use Rattle.hs_ops.specs.declared.operation.NumberOp.{NumberOp}
use Rattle.hs_ops.specs.declared.operation.NumberOp.TheVariants.{Add, Sub, Mul, Div, Rem, Neg, And, Or, Xor, Not, Shl, Shr, Rotl, Rotr, Wadd, Wsub, Wmul, Lt, Le, Gt, Ge, Classify, Declassify, ToLe, ToBe, FromLe, FromBe}
use Rattle.hs_ops.specs.declared.operation.SingleOp.{SingleOp}
use Rattle.hs_ops.specs.declared.operation.SingleOp.TheVariants.{BoolNot, Same, Differ, Item, Set, Len, Make, ListOf, Concat, Push, Slice, Put, NumChunks, GetChunk, SetChunk, ToArray, ToSeq, OptUnwrap, ResUnwrap, OptIsSome, OptIsNone, ResIsOk, ResIsErr, Clone}
use Rattle.hs_ops.specs.declared.operation.Operation.{Operation}
use Rattle.hs_ops.specs.declared.operation.Operation.TheVariants.{Number, Cast, Part, SetPart, Single}
use Rattle.hs_ops.specs.declared.row.Kind.{Kind}
use Rattle.hs_ops.specs.declared.row.Kind.TheVariants as kind
use Rattle.hs_ops.specs.declared.row.OpRow.{OpRow}
use Rattle.hs_ops.specs.declared.row.OpStop.{OpStop}
use Rattle.hs_ops.specs.declared.row.OpStop.TheVariants as stop
use Rattle.hs_ops.specs.Answer.{Answer, Is, Fails, Misfit, size_value, row, number, given, settle, one_of, two_of, three_of, four_of, unary, binary, ternary, quaternary, Tells}
use Rattle.hs_ops.specs.Views.{any, as_bool, as_int, as_size, as_row, as_bytes, bits_in, consed, as_tuple, as_option, as_result, bool_in, int_in, row_in, row_bits, tuple_in}
use Rattle.hs_ops.specs.Numbers.{from_bytes, bits_from, bytes_of, byte_row}
use Rattle.hs_ops.specs.Rows.{bounded, written, put_at, found, chunk_length, in_chunk}
use Rattle.hs_ops.specs.Parts.{part_at, opened, good_part}
use Rattle.hs_ops.specs.Op.{public_of, byte_of, number_answer, single_answer, answer}
use Rattle.hs_ops.specs.Row.{has_kind, size_kind, result_of, panics_of, number_result, number_panics, exact_panics, quotient_panics, single_result, single_panics, is_among, row_of, Promised}

-- a value is of the kind, and a panic is one of these
abbrev accords : Kind → List Panic → Answer → Bool
accords k ps (Is v) = has_kind k v
accords k ps (Fails p) = is_among p ps
accords k ps Misfit = true

module _ {A : Type 0} (k : Kind) (ps : List Panic) where
  given_accords : (o : Option A) (f : A → Answer) → ((a : A) → o ≡ Some a → accords k ps (f a) ≡ true) → accords k ps (given o f) ≡ true
  given_accords None f h = refl
  given_accords (Some a) f h = h a refl

unary_accords : {A : Type 0} (view : Value → Option A) (f : A → Answer) (k : Kind) (ps : List Panic) → ((v : Value) (a : A) → view v ≡ Some a → accords k ps (f a) ≡ true) → (args : List Value) → accords k ps (unary view f args) ≡ true
unary_accords view f k ps h args = given_accords k ps (one_of args) _ (λ v _. given_accords k ps (view v) f (h v))

binary_accords : {A B : Type 0} (first : Value → Option A) (second : Value → Option B) (f : A → B → Answer) (k : Kind) (ps : List Panic) → ((v w : Value) (a : A) (b : B) → first v ≡ Some a → second w ≡ Some b → accords k ps (f a b) ≡ true) → (args : List Value) → accords k ps (binary first second f args) ≡ true
binary_accords first second f k ps h args =
    given_accords k ps (two_of args) _ (λ v _. given_accords k ps (first v.0) _ (λ a e. given_accords k ps (second v.1) (f a) (λ b g. h v.0 v.1 a b e g)))

ternary_accords : {A B C : Type 0} (first : Value → Option A) (second : Value → Option B) (third : Value → Option C) (f : A → B → C → Answer) (k : Kind) (ps : List Panic) → ((v w x : Value) (a : A) (b : B) (c : C) → first v ≡ Some a → second w ≡ Some b → third x ≡ Some c → accords k ps (f a b c) ≡ true) → (args : List Value) → accords k ps (ternary first second third f args) ≡ true
ternary_accords first second third f k ps h args =
    given_accords k ps (three_of args) _ (λ v _. given_accords k ps (first v.0) _ (λ a e. given_accords k ps (second v.1) _ (λ b g. given_accords k ps (third v.2) (f a b) (λ c i. h v.0 v.1 v.2 a b c e g i))))

quaternary_accords : {A B C D : Type 0} (first : Value → Option A) (second : Value → Option B) (third : Value → Option C) (fourth : Value → Option D) (f : A → B → C → D → Answer) (k : Kind) (ps : List Panic) → ((v w x y : Value) (a : A) (b : B) (c : C) (d : D) → first v ≡ Some a → second w ≡ Some b → third x ≡ Some c → fourth y ≡ Some d → accords k ps (f a b c d) ≡ true) → (args : List Value) → accords k ps (quaternary first second third fourth f args) ≡ true
quaternary_accords first second third fourth f k ps h args =
    given_accords k ps (four_of args) _ (λ v _. given_accords k ps (first v.0) _ (λ a e. given_accords k ps (second v.1) _ (λ b g. given_accords k ps (third v.2) _ (λ c i. given_accords k ps (fourth v.3) (f a b c) (λ d j. h v.0 v.1 v.2 v.3 a b c d e g i j)))))

choice_accords : (b : Bool) (x y : Answer) (k : Kind) (ps : List Panic) → accords k ps x ≡ true → accords k ps y ≡ true → accords k ps (if b then x else y) ≡ true
choice_accords true x y k ps h g = h
choice_accords false x y k ps h g = g

out_bool : (b : Bool) → out-Value (value.Bool b) ≡ layer.Bool b
out_bool b = search (rules, the_lemmas)

out_int : (n : Integer) → out-Value (value.Int n) ≡ layer.Int n
out_int n = search (rules, the_lemmas)

out_row : (vs : List Value) → out-Value (value.Seq vs) ≡ layer.Seq vs
out_row vs = search (rules, the_lemmas)

out_tuple : (vs : List Value) → out-Value (value.Tuple vs) ≡ layer.Tuple vs
out_tuple vs = search (rules, the_lemmas)

has_bool : (b : Bool) → has_kind kind.Bool (value.Bool b) ≡ true
has_bool b = ap (λ l. is_some (bool_in l)) (out_bool b)

has_row : (vs : List Value) → has_kind kind.Row (value.Seq vs) ≡ true
has_row vs = ap (λ l. is_some (row_in l)) (out_row vs)

chosen : {A : Type 0} (b : Bool) (x : A) → b ≡ true → is_some (if b then Some x else None) ≡ true
chosen true x h = refl
chosen false x h = cc h

has_tuple : (n : ℕ) (vs : List Value) → eqb (length vs) n ≡ true → has_kind (kind.Tuple n) (value.Tuple vs) ≡ true
has_tuple n vs h = ap (λ l. is_some (tuple_in n l)) (out_tuple vs) ∙ chosen (eqb (length vs) n) vs h

own_kind : (k : IntTy) (n : Integer) → n.kind ≡ k → has_kind (kind.Int k) (value.Int n) ≡ true
own_kind k n e = ap (λ l. is_some (int_in k l)) (out_int n) ∙ chosen (is_kind n.kind k) n (subst (λ (l : IntTy). is_kind l k ≡ true) (sym e) (is_kind-refl k))

int_kind_in : (k : IntTy) (l : Value-F Value) (n : Integer) → int_in k l ≡ Some n → n.kind ≡ k
int_kind_in k layer.Unit n e = cc e
int_kind_in k (layer.Bool b) n e = cc e
int_kind_in k (layer.Int m) n e = by (is_kind m.kind k) refl e
  where
    by : (b : Bool) → is_kind m.kind k ≡ b → (if b then Some m else None) ≡ Some n → n.kind ≡ k
    by true h g = let same : m ≡ n = cc g in subst (λ (x : Integer). x.kind ≡ k) same (is_kind-equal m.kind k h)
    by false h g = cc g
int_kind_in k (layer.Seq vs) n e = cc e
int_kind_in k (layer.Tuple vs) n e = cc e
int_kind_in k (layer.Ctor s m vs) n e = cc e

int_kind : (k : IntTy) (v : Value) (n : Integer) → as_int k v ≡ Some n → n.kind ≡ k
int_kind k v n e = int_kind_in k (out-Value v) n e

settled_accords : (k : IntTy) (x : ℤ) → accords (kind.Int k) (exact_panics k) (settle (settled k x)) ≡ true
settled_accords k x = by (is_secret k) (is_in_range k x)
  where
    by : (s r : Bool) → accords (kind.Int k) (if s then [] else (Overflow ∷ [])) (settle (if s then Ok (wrapped k x) else (if r then Ok (record { kind = k; number = x }) else Err Overflow))) ≡ true
    by true r = own_kind k (wrapped k x) refl
    by false true = own_kind k (record { kind = k; number = x }) refl
    by false false = refl

exact_accords : (k : IntTy) (x : ℤ) → accords (kind.Int k) (Overflow ∷ []) (settle (exact k x)) ≡ true
exact_accords k x = by (is_in_range k x)
  where
    by : (r : Bool) → accords (kind.Int k) (Overflow ∷ []) (settle (if r then Ok (record { kind = k; number = x }) else Err Overflow)) ≡ true
    by true = own_kind k (record { kind = k; number = x }) refl
    by false = refl

divided_accords : (k : IntTy) (a b : Integer) (x : ℤ) → a.kind ≡ k → accords (kind.Int k) (quotient_panics k) (settle (divided a b x)) ≡ true
divided_accords k a b x e = subst (λ (l : IntTy). accords (kind.Int l) (quotient_panics l) (settle (divided a b x)) ≡ true) e (by (int_eq b.number (pos 0)) (int_eq b.number (negsuc 0)) (is_signed a.kind) (int_eq a.number (least_of a.kind)))
  where
    by : (z m s l : Bool) → accords (kind.Int a.kind) (if s then (Division ∷ Overflow ∷ []) else (Division ∷ [])) (settle (if z then Err Division else (if m && (s && l) then Err Overflow else Ok (record { kind = a.kind; number = x })))) ≡ true
    by true m true l = refl
    by true m false l = refl
    by false true true true = refl
    by false true true false = own_kind a.kind (record { kind = a.kind; number = x }) refl
    by false true false l = own_kind a.kind (record { kind = a.kind; number = x }) refl
    by false false s l = own_kind a.kind (record { kind = a.kind; number = x }) refl

shifted_accords : (k l : IntTy) (n : ℕ) (x : Integer) → l ≡ k → x.kind ≡ l → accords (kind.Int k) (Shift ∷ []) (settle (shifted l n x)) ≡ true
shifted_accords k l n x e g = by (nat_lt n (width_of l))
  where
    by : (b : Bool) → accords (kind.Int k) (Shift ∷ []) (settle (if b then Ok x else Err Shift)) ≡ true
    by true = own_kind k x (g ∙ e)
    by false = refl

bits_there : (k : IntTy) (bs : List ℕ) → is_some (bits_in k (map (λ b. value.Int (from_bits k b)) bs)) ≡ true
bits_there k [] = refl
bits_there k (b ∷ bs) = both (as_int k (value.Int (from_bits k b))) (bits_in k (map (λ b. value.Int (from_bits k b)) bs)) (own_kind k (from_bits k b) refl) (bits_there k bs)
  where
    both : (o : Option Integer) (p : Option (List ℕ)) → is_some o ≡ true → is_some p ≡ true → is_some (consed (option_map (λ n. bits_of k n.number) o) p) ≡ true
    both None p h g = cc h
    both (Some n) None h g = cc g
    both (Some n) (Some xs) h g = refl

row_accords : (k : IntTy) (bs : List ℕ) → accords (kind.Bytes k) [] (byte_row k bs) ≡ true
row_accords k bs = ap (λ l. is_some (row_bits k (row_in l))) (out_row (map (λ b. value.Int (from_bits k b)) bs)) ∙ bits_there k bs

from_bytes_accords : (k : IntTy) (bs : List ℕ) → accords (kind.Int k) (Length ∷ []) (from_bytes k bs) ≡ true
from_bytes_accords k bs = choice_accords (eqb (length bs) (width_of k / 8)) (number (from_bits k (bits_from bs))) (Fails Length) (kind.Int k) (Length ∷ []) (own_kind k (from_bits k (bits_from bs)) refl) refl

number_accords : (o : NumberOp) (k : IntTy) (args : List Value) → accords (number_result o k) (number_panics o k) (number_answer o k args) ≡ true
number_accords Add k args = binary_accords (as_int k) (as_int k) _ (number_result Add k) (number_panics Add k) (λ v w a b e g. settled_accords k (a.number +ℤ b.number)) args
number_accords Sub k args = binary_accords (as_int k) (as_int k) _ (number_result Sub k) (number_panics Sub k) (λ v w a b e g. settled_accords k (a.number -ℤ b.number)) args
number_accords Mul k args = binary_accords (as_int k) (as_int k) _ (number_result Mul k) (number_panics Mul k) (λ v w a b e g. settled_accords k (a.number *ℤ b.number)) args
number_accords Div k args = binary_accords (as_int k) (as_int k) _ (number_result Div k) (number_panics Div k) (λ v w a b e g. divided_accords k a b (int_div a.number b.number) (int_kind k v a e)) args
number_accords Rem k args = binary_accords (as_int k) (as_int k) _ (number_result Rem k) (number_panics Rem k) (λ v w a b e g. divided_accords k a b (int_rem a.number b.number) (int_kind k v a e)) args
number_accords Neg k args = unary_accords (as_int k) _ (number_result Neg k) (number_panics Neg k) (λ v a e. exact_accords k (neg_ℤ a.number)) args
number_accords And k args = binary_accords (as_int k) (as_int k) _ (number_result And k) (number_panics And k) (λ v w a b e g. own_kind k _ refl) args
number_accords Or k args = binary_accords (as_int k) (as_int k) _ (number_result Or k) (number_panics Or k) (λ v w a b e g. own_kind k _ refl) args
number_accords Xor k args = binary_accords (as_int k) (as_int k) _ (number_result Xor k) (number_panics Xor k) (λ v w a b e g. own_kind k _ refl) args
number_accords Not k args = unary_accords (as_int k) _ (number_result Not k) (number_panics Not k) (λ v a e. own_kind k _ refl) args
number_accords Shl k args = binary_accords (as_int k) as_size _ (number_result Shl k) (number_panics Shl k) (λ v w a n e g. shifted_accords k a.kind n (wrapped a.kind (a.number *ℤ pos (2 ^ n))) (int_kind k v a e) refl) args
number_accords Shr k args = binary_accords (as_int k) as_size _ (number_result Shr k) (number_panics Shr k) (λ v w a n e g. shifted_accords k a.kind n (record { kind = a.kind; number = int_shr a.number n }) (int_kind k v a e) refl) args
number_accords Rotl k args = binary_accords (as_int k) as_size _ (number_result Rotl k) (number_panics Rotl k) (λ v w a n e g. own_kind k _ (int_kind k v a e)) args
number_accords Rotr k args = binary_accords (as_int k) as_size _ (number_result Rotr k) (number_panics Rotr k) (λ v w a n e g. own_kind k _ (int_kind k v a e)) args
number_accords Wadd k args = binary_accords (as_int k) (as_int k) _ (number_result Wadd k) (number_panics Wadd k) (λ v w a b e g. own_kind k _ refl) args
number_accords Wsub k args = binary_accords (as_int k) (as_int k) _ (number_result Wsub k) (number_panics Wsub k) (λ v w a b e g. own_kind k _ refl) args
number_accords Wmul k args = binary_accords (as_int k) (as_int k) _ (number_result Wmul k) (number_panics Wmul k) (λ v w a b e g. own_kind k _ refl) args
number_accords Lt k args = binary_accords (as_int k) (as_int k) _ (number_result Lt k) (number_panics Lt k) (λ v w a b e g. has_bool _) args
number_accords Le k args = binary_accords (as_int k) (as_int k) _ (number_result Le k) (number_panics Le k) (λ v w a b e g. has_bool _) args
number_accords Gt k args = binary_accords (as_int k) (as_int k) _ (number_result Gt k) (number_panics Gt k) (λ v w a b e g. has_bool _) args
number_accords Ge k args = binary_accords (as_int k) (as_int k) _ (number_result Ge k) (number_panics Ge k) (λ v w a b e g. has_bool _) args
number_accords Classify k args = unary_accords (as_int (public_of k)) _ (number_result Classify k) (number_panics Classify k) (λ v a e. own_kind k _ refl) args
number_accords Declassify k args = unary_accords (as_int k) _ (number_result Declassify k) (number_panics Declassify k) (λ v a e. own_kind (public_of k) _ refl) args
number_accords ToLe k args = unary_accords (as_int k) _ (number_result ToLe k) (number_panics ToLe k) (λ v a e. row_accords (byte_of k) (bytes_of (width_of k / 8) (bits_of k a.number))) args
number_accords ToBe k args = unary_accords (as_int k) _ (number_result ToBe k) (number_panics ToBe k) (λ v a e. row_accords (byte_of k) (reverse (bytes_of (width_of k / 8) (bits_of k a.number)))) args
number_accords FromLe k args = unary_accords (as_bytes (byte_of k)) _ (number_result FromLe k) (number_panics FromLe k) (λ v bs e. from_bytes_accords k bs) args
number_accords FromBe k args = unary_accords (as_bytes (byte_of k)) _ (number_result FromBe k) (number_panics FromBe k) (λ v bs e. from_bytes_accords k (reverse bs)) args

found_accords : (o : Option Value) → accords kind.Any (Index ∷ []) (found o) ≡ true
found_accords None = refl
found_accords (Some v) = refl

bounded_accords : (n : ℕ) (items : List Value) → accords kind.Row (Length ∷ []) (bounded n items) ≡ true
bounded_accords n items = choice_accords (leb n max_length) (row items) (Fails Length) kind.Row (Length ∷ []) (has_row items) refl

chunk_accords : (all n i : ℕ) (f : ℕ → Answer) (k : Kind) (ps : List Panic) → is_among Division ps ≡ true → is_among Index ps ≡ true → ((count : ℕ) → accords k ps (f count) ≡ true) → accords k ps (in_chunk (chunk_length all n i) f) ≡ true
chunk_accords all n i f k ps d x h = by (eqb n 0) (leb all (i * n))
  where
    by : (z m : Bool) → accords k ps (in_chunk (if z then Err Division else (if m then Err Index else Ok (min n (all - i * n)))) f) ≡ true
    by true m = d
    by false true = x
    by false false = h (min n (all - i * n))

opened_accords : (o : Option Value) → accords kind.Any (Unwrap ∷ []) (opened o) ≡ true
opened_accords None = refl
opened_accords (Some v) = refl

good_accords : (b : Bool) (v : Value) → accords kind.Any (Unwrap ∷ []) (good_part b v) ≡ true
good_accords true v = refl
good_accords false v = refl

single_accords : (o : SingleOp) (args : List Value) → accords (single_result o) (single_panics o) (single_answer o args) ≡ true
single_accords BoolNot args = unary_accords as_bool _ (single_result BoolNot) (single_panics BoolNot) (λ v a e. has_bool _) args
single_accords Same args = binary_accords any any _ (single_result Same) (single_panics Same) (λ v w a b e g. has_bool _) args
single_accords Differ args = binary_accords any any _ (single_result Differ) (single_panics Differ) (λ v w a b e g. has_bool _) args
single_accords Item args = binary_accords as_row as_size _ (single_result Item) (single_panics Item) (λ v w a i e g. found_accords (slice_get a i)) args
single_accords Set args = ternary_accords as_row as_size any _ (single_result Set) (single_panics Set) (λ v w x a i y e g h. choice_accords (nat_lt i (length a)) (row (slice_set a i y)) (Fails Index) (single_result Set) (single_panics Set) (has_row _) refl) args
single_accords Len args = unary_accords as_row _ (single_result Len) (single_panics Len) (λ v a e. own_kind PUsize _ refl) args
single_accords Make args = binary_accords any as_size _ (single_result Make) (single_panics Make) (λ v w x n e g. bounded_accords n (replicate n x)) args
single_accords ListOf args = has_row args
single_accords Concat args = binary_accords as_row as_row _ (single_result Concat) (single_panics Concat) (λ v w a b e g. bounded_accords (length a + length b) (a ++ b)) args
single_accords Push args = binary_accords as_row any _ (single_result Push) (single_panics Push) (λ v w a x e g. bounded_accords (length a + 1) (a ++ x ∷ [])) args
single_accords Slice args = ternary_accords as_row as_size as_size _ (single_result Slice) (single_panics Slice) (λ v w x a i n e g h. choice_accords (leb (i + n) (length a)) (row (take n (drop i a))) (Fails Index) (single_result Slice) (single_panics Slice) (has_row _) refl) args
single_accords Put args = ternary_accords as_row as_size as_row _ (single_result Put) (single_panics Put) (λ v w x a i b e g h. choice_accords (leb (i + length b) (length a)) (row (written a i b)) (Fails Index) (single_result Put) (single_panics Put) (has_row _) refl) args
single_accords NumChunks args = binary_accords as_row as_size _ (single_result NumChunks) (single_panics NumChunks) (λ v w a n e g. choice_accords (eqb n 0) (Fails Division) (Is (size_value (div_ceil (length a) n))) size_kind (Division ∷ []) refl (own_kind PUsize _ refl)) args
single_accords GetChunk args = ternary_accords as_row as_size as_size _ (single_result GetChunk) (single_panics GetChunk) (λ v w x a n i e g h. chunk_accords (length a) n i (λ count. Is (value.Tuple (size_value count ∷ value.Seq (take count (drop (i * n) a)) ∷ []))) (kind.Tuple 2) (Division ∷ Index ∷ []) refl refl (λ count. has_tuple 2 _ refl)) args
single_accords SetChunk args = quaternary_accords as_row as_size as_size as_row _ kind.Row (Division ∷ Index ∷ Length ∷ []) (λ v w x y a n i b e g h j. chunk_accords (length a) n i (λ count. if eqb (length b) count then put_at a (i * n) b else Fails Length) kind.Row (Division ∷ Index ∷ Length ∷ []) refl refl (λ count. choice_accords (eqb (length b) count) (put_at a (i * n) b) (Fails Length) kind.Row (Division ∷ Index ∷ Length ∷ []) (choice_accords (leb (i * n + length b) (length a)) (row (written a (i * n) b)) (Fails Index) kind.Row (Division ∷ Index ∷ Length ∷ []) (has_row _) refl) refl)) args
single_accords ToArray args = binary_accords as_size as_row _ (single_result ToArray) (single_panics ToArray) (λ v w n s e g. choice_accords (eqb (length s) n) (row s) (Fails Length) (single_result ToArray) (single_panics ToArray) (has_row _) refl) args
single_accords ToSeq args = unary_accords as_row _ (single_result ToSeq) (single_panics ToSeq) (λ v a e. has_row _) args
single_accords OptUnwrap args = unary_accords as_option _ (single_result OptUnwrap) (single_panics OptUnwrap) (λ v o e. opened_accords o) args
single_accords ResUnwrap args = unary_accords as_result _ (single_result ResUnwrap) (single_panics ResUnwrap) (λ v r e. good_accords r.0 r.1) args
single_accords OptIsSome args = unary_accords as_option _ (single_result OptIsSome) (single_panics OptIsSome) (λ v o e. has_bool _) args
single_accords OptIsNone args = unary_accords as_option _ (single_result OptIsNone) (single_panics OptIsNone) (λ v o e. has_bool _) args
single_accords ResIsOk args = unary_accords as_result _ (single_result ResIsOk) (single_panics ResIsOk) (λ v r e. has_bool _) args
single_accords ResIsErr args = unary_accords as_result _ (single_result ResIsErr) (single_panics ResIsErr) (λ v r e. has_bool _) args
single_accords Clone args = unary_accords any _ (single_result Clone) (single_panics Clone) (λ v a e. refl) args

part_accords : (o : Option Value) → accords kind.Any [] (part_at o) ≡ true
part_accords None = refl
part_accords (Some v) = refl

tuple_length : (n : ℕ) (l : Value-F Value) (parts : List Value) → tuple_in n l ≡ Some parts → eqb (length parts) n ≡ true
tuple_length n layer.Unit parts e = cc e
tuple_length n (layer.Bool b) parts e = cc e
tuple_length n (layer.Int m) parts e = cc e
tuple_length n (layer.Seq vs) parts e = cc e
tuple_length n (layer.Tuple vs) parts e = by (eqb (length vs) n) refl e
  where
    by : (b : Bool) → eqb (length vs) n ≡ b → (if b then Some vs else None) ≡ Some parts → eqb (length parts) n ≡ true
    by true h g = let same : vs ≡ parts = cc g in subst (λ (x : List Value). eqb (length x) n ≡ true) same h
    by false h g = cc g
tuple_length n (layer.Ctor s m vs) parts e = cc e

set_accords : (n i : ℕ) (parts : List Value) (x : Value) → eqb (length parts) n ≡ true → has_kind (kind.Tuple n) (value.Tuple (slice_set parts i x)) ≡ true
set_accords n i parts x h = has_tuple n (slice_set parts i x) (ap (λ m. eqb m n) (length-set parts i x) ∙ h)

accords_all : (o : Operation) (args : List Value) → accords (result_of o) (panics_of o) (answer o args) ≡ true
accords_all (Number o k) args = number_accords o k args
accords_all (Cast from to) args = unary_accords (as_int from) _ (kind.Int to) [] (λ v a e. own_kind to _ refl) args
accords_all (Part n i) args = unary_accords (as_tuple n) _ kind.Any [] (λ v parts e. part_accords (slice_get parts i)) args
accords_all (SetPart n i) args = binary_accords (as_tuple n) any _ (kind.Tuple n) [] (λ v w parts x e g. set_accords n i parts x (tuple_length n (out-Value v) parts e)) args
accords_all (Single o) args = single_accords o args

told_accords : (r : Result Value OpStop) (a : Answer) (row : OpRow) → accords row.result row.panics a ≡ true → Tells r a → Promised r row
told_accords (Ok v) a row h t = ap (accords row.result row.panics) (sym t) ∙ h
told_accords (Err (stop.Panic p)) a row h t = ap (accords row.result row.panics) (sym t) ∙ h
told_accords (Err stop.Kind) a row h t = tt
told_accords (Err stop.NoMemory) a row h t = tt

-- a call that tells the answer keeps what the row promises
pub promise_kept : (name : List ℕ) (o : Operation) (args : List Value) (r : Result Value OpStop) → Tells r (answer o args) → Promised r (row_of name o)
promise_kept name o args r t = told_accords r (answer o args) (row_of name o) (accords_all o args) t
