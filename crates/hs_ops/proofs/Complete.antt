-- Each operation that there is stands in the table of all operations under its own name, and no other does.
use Rattle.std.proofs.Common.{◌≡◌, ℕ, zero, suc, ◌<◌, ◌≤◌, Bool, true, false, ◌&&◌, List, [], ◌∷◌, ◌++◌, map, IsTrue, ◌↔◌, ◌⊎◌, inl, inr, refl, sym, ap, subst, ◌∙◌, arith}
use Rattle.std.proofs.lemmas.List.{append_cancel_left}
use Rattle.std.proofs.lemmas.Bool.Decides.{nat_tests}
use Rattle.std.specs.Prelude.{leb, nat_lt, cond, Some, None, slice_get}
use Rattle.std.specs.List.{Contains, filter, list_all}
use Rattle.hs_words.specs.declared.kinds.IntTy.{IntTy}
use Rattle.hs_words.specs.declared.kinds.IntTy.TheVariants.{PU8, PU16, PU32, PU64, PU128, PUsize, PI8, PI16, PI32, PI64, PI128, SU8, SU16, SU32, SU64, SU128}
use Rattle.hs_ops.specs.declared.operation.NumberOp.{NumberOp}
use Rattle.hs_ops.specs.declared.operation.NumberOp.TheVariants.{Add, Sub, Mul, Div, Rem, Neg, And, Or, Xor, Not, Shl, Shr, Rotl, Rotr, Wadd, Wsub, Wmul, Lt, Le, Gt, Ge, Classify, Declassify, ToLe, ToBe, FromLe, FromBe}
use Rattle.hs_ops.specs.declared.operation.SingleOp.{SingleOp}
use Rattle.hs_ops.specs.declared.operation.SingleOp.TheVariants.{BoolNot, Same, Differ, Item, Set, Len, Make, ListOf, Concat, Push, Slice, Put, NumChunks, GetChunk, SetChunk, ToArray, ToSeq, OptUnwrap, ResUnwrap, OptIsSome, OptIsNone, ResIsOk, ResIsErr, Clone}
use Rattle.hs_ops.specs.declared.operation.Operation.{Operation}
use Rattle.hs_ops.specs.declared.operation.Operation.TheVariants.{Number, Cast, Part, SetPart, Single}
use Rattle.hs_ops.specs.Known.{is_known}
use Rattle.hs_ops.specs.Names.{name_of}
use Rattle.hs_ops.specs.Table.{Table, called, names, operation_named}
use Rattle.hs_ops.specs.Standard.{for_kind, for_kinds, places, for_tuple, for_tuples, first_singles, middle_singles, last_singles, signed_kinds, secret_kinds, unsigned_kinds, counts, standard_operations, standard_table}
use Rattle.hs_ops.proofs.Computed.{all_known, standard_sorted}
use Rattle.hs_ops.proofs.Order.{rising-Distinct}
use Rattle.hs_ops.proofs.Entries.{name_at, named_at, foreign_named}

-- x stands in the list
abbrev Has : {X : Type 0} → List X → X → Type 0
Has [] x = ⊥
Has (y ∷ ys) x = (y ≡ x) ⊎ Has ys x

has_left : {X : Type 0} (xs ys : List X) (x : X) → Has xs x → Has (xs ++ ys) x
has_left [] ys x h = absurd h
has_left (y ∷ xs) ys x (inl e) = inl e
has_left (y ∷ xs) ys x (inr h) = inr (has_left xs ys x h)

has_right : {X : Type 0} (xs ys : List X) (x : X) → Has ys x → Has (xs ++ ys) x
has_right [] ys x h = h
has_right (y ∷ xs) ys x h = inr (has_right xs ys x h)

has_map : {X Y : Type 0} (f : X → Y) (xs : List X) (x : X) → Has xs x → Has (map f xs) (f x)
has_map f [] x h = absurd h
has_map f (y ∷ xs) x (inl e) = inl (ap f e)
has_map f (y ∷ xs) x (inr h) = inr (has_map f xs x h)

has_filter : {X : Type 0} (p : X → Bool) (xs : List X) (x : X) → Has xs x → p x ≡ true → Has (filter p xs) x
has_filter p [] x h k = absurd h
has_filter {X} p (y ∷ xs) x h k = by (p y) refl h (λ i. has_filter p xs x i k)
  where
    clash : (b : Bool) → b ≡ true → b ≡ false → ⊥
    clash b t f = cc (t, f)

    by : (b : Bool) → p y ≡ b → (y ≡ x) ⊎ Has xs x → (Has xs x → Has (filter p xs) x) → Has (cond b (y ∷ filter p xs) (filter p xs)) x
    by true e (inl same) more = inl same
    by true e (inr h) more = inr (more h)
    by false e (inl same) more = let no : p x ≡ false = subst (λ (z : X). p z ≡ false) same e in absurd (clash (p x) k no)
    by false e (inr h) more = more h

contains_has : {X : Type 0} (xs : List X) (x : X) → Has xs x → Contains xs x
contains_has [] x h = absurd h
contains_has (y ∷ xs) x (inl e) = (zero, omega arith, e)
contains_has (y ∷ xs) x (inr h) = let c = contains_has xs x h in (suc c.0, omega (arith, c.1), c.2)

place_has : {X : Type 0} (xs : List X) (x : X) → Has xs x → (k : ℕ) × (slice_get xs k ≡ Some x)
place_has [] x h = absurd h
place_has (y ∷ xs) x (inl e) = (zero, ap Some e)
place_has (y ∷ xs) x (inr h) = let p = place_has xs x h in (suc p.0, p.1)

number_there : (o : NumberOp) (k : IntTy) → Has (for_kind k) (Number o k)
unfolding for_kind
number_there Add k = inl refl
number_there And k = inr (inl refl)
number_there Classify k = inr (inr (inl refl))
number_there Declassify k = inr (inr (inr (inl refl)))
number_there Div k = inr (inr (inr (inr (inl refl))))
number_there FromBe k = inr (inr (inr (inr (inr (inl refl)))))
number_there FromLe k = inr (inr (inr (inr (inr (inr (inl refl))))))
number_there Ge k = inr (inr (inr (inr (inr (inr (inr (inl refl)))))))
number_there Gt k = inr (inr (inr (inr (inr (inr (inr (inr (inl refl))))))))
number_there Le k = inr (inr (inr (inr (inr (inr (inr (inr (inr (inl refl)))))))))
number_there Lt k = inr (inr (inr (inr (inr (inr (inr (inr (inr (inr (inl refl))))))))))
number_there Mul k = inr (inr (inr (inr (inr (inr (inr (inr (inr (inr (inr (inl refl)))))))))))
number_there Neg k = inr (inr (inr (inr (inr (inr (inr (inr (inr (inr (inr (inr (inl refl))))))))))))
number_there Not k = inr (inr (inr (inr (inr (inr (inr (inr (inr (inr (inr (inr (inr (inl refl)))))))))))))
number_there Or k = inr (inr (inr (inr (inr (inr (inr (inr (inr (inr (inr (inr (inr (inr (inr (inr (inr (inr (inr (inr (inr (inr (inr (inr (inr (inr (inr (inr (inr (inr (inl refl))))))))))))))))))))))))))))))
number_there Rem k = inr (inr (inr (inr (inr (inr (inr (inr (inr (inr (inr (inr (inr (inr (inr (inr (inr (inr (inr (inr (inr (inr (inr (inr (inr (inr (inr (inr (inr (inr (inr (inl refl)))))))))))))))))))))))))))))))
number_there Rotl k = inr (inr (inr (inr (inr (inr (inr (inr (inr (inr (inr (inr (inr (inr (inr (inr (inr (inr (inr (inr (inr (inr (inr (inr (inr (inr (inr (inr (inr (inr (inr (inr (inl refl))))))))))))))))))))))))))))))))
number_there Rotr k = inr (inr (inr (inr (inr (inr (inr (inr (inr (inr (inr (inr (inr (inr (inr (inr (inr (inr (inr (inr (inr (inr (inr (inr (inr (inr (inr (inr (inr (inr (inr (inr (inr (inl refl)))))))))))))))))))))))))))))))))
number_there Shl k = inr (inr (inr (inr (inr (inr (inr (inr (inr (inr (inr (inr (inr (inr (inr (inr (inr (inr (inr (inr (inr (inr (inr (inr (inr (inr (inr (inr (inr (inr (inr (inr (inr (inr (inl refl))))))))))))))))))))))))))))))))))
number_there Shr k = inr (inr (inr (inr (inr (inr (inr (inr (inr (inr (inr (inr (inr (inr (inr (inr (inr (inr (inr (inr (inr (inr (inr (inr (inr (inr (inr (inr (inr (inr (inr (inr (inr (inr (inr (inl refl)))))))))))))))))))))))))))))))))))
number_there Sub k = inr (inr (inr (inr (inr (inr (inr (inr (inr (inr (inr (inr (inr (inr (inr (inr (inr (inr (inr (inr (inr (inr (inr (inr (inr (inr (inr (inr (inr (inr (inr (inr (inr (inr (inr (inr (inl refl))))))))))))))))))))))))))))))))))))
number_there ToBe k = inr (inr (inr (inr (inr (inr (inr (inr (inr (inr (inr (inr (inr (inr (inr (inr (inr (inr (inr (inr (inr (inr (inr (inr (inr (inr (inr (inr (inr (inr (inr (inr (inr (inr (inr (inr (inr (inl refl)))))))))))))))))))))))))))))))))))))
number_there ToLe k = inr (inr (inr (inr (inr (inr (inr (inr (inr (inr (inr (inr (inr (inr (inr (inr (inr (inr (inr (inr (inr (inr (inr (inr (inr (inr (inr (inr (inr (inr (inr (inr (inr (inr (inr (inr (inr (inr (inl refl))))))))))))))))))))))))))))))))))))))
number_there Wadd k = inr (inr (inr (inr (inr (inr (inr (inr (inr (inr (inr (inr (inr (inr (inr (inr (inr (inr (inr (inr (inr (inr (inr (inr (inr (inr (inr (inr (inr (inr (inr (inr (inr (inr (inr (inr (inr (inr (inr (inl refl)))))))))))))))))))))))))))))))))))))))
number_there Wmul k = inr (inr (inr (inr (inr (inr (inr (inr (inr (inr (inr (inr (inr (inr (inr (inr (inr (inr (inr (inr (inr (inr (inr (inr (inr (inr (inr (inr (inr (inr (inr (inr (inr (inr (inr (inr (inr (inr (inr (inr (inl refl))))))))))))))))))))))))))))))))))))))))
number_there Wsub k = inr (inr (inr (inr (inr (inr (inr (inr (inr (inr (inr (inr (inr (inr (inr (inr (inr (inr (inr (inr (inr (inr (inr (inr (inr (inr (inr (inr (inr (inr (inr (inr (inr (inr (inr (inr (inr (inr (inr (inr (inr (inl refl)))))))))))))))))))))))))))))))))))))))))
number_there Xor k = inr (inr (inr (inr (inr (inr (inr (inr (inr (inr (inr (inr (inr (inr (inr (inr (inr (inr (inr (inr (inr (inr (inr (inr (inr (inr (inr (inr (inr (inr (inr (inr (inr (inr (inr (inr (inr (inr (inr (inr (inr (inr (inl refl))))))))))))))))))))))))))))))))))))))))))

cast_there : (from k : IntTy) → Has (for_kind k) (Cast from k)
unfolding for_kind
cast_there PI128 k = inr (inr (inr (inr (inr (inr (inr (inr (inr (inr (inr (inr (inr (inr (inl refl))))))))))))))
cast_there PI16 k = inr (inr (inr (inr (inr (inr (inr (inr (inr (inr (inr (inr (inr (inr (inr (inl refl)))))))))))))))
cast_there PI32 k = inr (inr (inr (inr (inr (inr (inr (inr (inr (inr (inr (inr (inr (inr (inr (inr (inl refl))))))))))))))))
cast_there PI64 k = inr (inr (inr (inr (inr (inr (inr (inr (inr (inr (inr (inr (inr (inr (inr (inr (inr (inl refl)))))))))))))))))
cast_there PI8 k = inr (inr (inr (inr (inr (inr (inr (inr (inr (inr (inr (inr (inr (inr (inr (inr (inr (inr (inl refl))))))))))))))))))
cast_there SU128 k = inr (inr (inr (inr (inr (inr (inr (inr (inr (inr (inr (inr (inr (inr (inr (inr (inr (inr (inr (inl refl)))))))))))))))))))
cast_there SU16 k = inr (inr (inr (inr (inr (inr (inr (inr (inr (inr (inr (inr (inr (inr (inr (inr (inr (inr (inr (inr (inl refl))))))))))))))))))))
cast_there SU32 k = inr (inr (inr (inr (inr (inr (inr (inr (inr (inr (inr (inr (inr (inr (inr (inr (inr (inr (inr (inr (inr (inl refl)))))))))))))))))))))
cast_there SU64 k = inr (inr (inr (inr (inr (inr (inr (inr (inr (inr (inr (inr (inr (inr (inr (inr (inr (inr (inr (inr (inr (inr (inl refl))))))))))))))))))))))
cast_there SU8 k = inr (inr (inr (inr (inr (inr (inr (inr (inr (inr (inr (inr (inr (inr (inr (inr (inr (inr (inr (inr (inr (inr (inr (inl refl)))))))))))))))))))))))
cast_there PU128 k = inr (inr (inr (inr (inr (inr (inr (inr (inr (inr (inr (inr (inr (inr (inr (inr (inr (inr (inr (inr (inr (inr (inr (inr (inl refl))))))))))))))))))))))))
cast_there PU16 k = inr (inr (inr (inr (inr (inr (inr (inr (inr (inr (inr (inr (inr (inr (inr (inr (inr (inr (inr (inr (inr (inr (inr (inr (inr (inl refl)))))))))))))))))))))))))
cast_there PU32 k = inr (inr (inr (inr (inr (inr (inr (inr (inr (inr (inr (inr (inr (inr (inr (inr (inr (inr (inr (inr (inr (inr (inr (inr (inr (inr (inl refl))))))))))))))))))))))))))
cast_there PU64 k = inr (inr (inr (inr (inr (inr (inr (inr (inr (inr (inr (inr (inr (inr (inr (inr (inr (inr (inr (inr (inr (inr (inr (inr (inr (inr (inr (inl refl)))))))))))))))))))))))))))
cast_there PU8 k = inr (inr (inr (inr (inr (inr (inr (inr (inr (inr (inr (inr (inr (inr (inr (inr (inr (inr (inr (inr (inr (inr (inr (inr (inr (inr (inr (inr (inl refl))))))))))))))))))))))))))))
cast_there PUsize k = inr (inr (inr (inr (inr (inr (inr (inr (inr (inr (inr (inr (inr (inr (inr (inr (inr (inr (inr (inr (inr (inr (inr (inr (inr (inr (inr (inr (inr (inl refl)))))))))))))))))))))))))))))

kinds_there : (ks : List IntTy) (k : IntTy) (x : Operation) → Has ks k → Has (for_kind k) x → Has (for_kinds ks) x
unfolding for_kinds
kinds_there [] k x h i = absurd h
kinds_there (l ∷ ks) k x (inl e) i = has_left (for_kind l) (for_kinds ks) x (subst (λ (m : IntTy). Has (for_kind m) x) (sym e) i)
kinds_there (l ∷ ks) k x (inr h) i = has_right (for_kind l) (for_kinds ks) x (kinds_there ks k x h i)

place_there : (i : ℕ) → i < 12 → Has places i
place_there zero h = inl refl
place_there (suc zero) h = inr (inl refl)
place_there (suc (suc zero)) h = inr (inr (inr (inr (inl refl))))
place_there (suc (suc (suc zero))) h = inr (inr (inr (inr (inr (inl refl)))))
place_there (suc (suc (suc (suc zero)))) h = inr (inr (inr (inr (inr (inr (inl refl))))))
place_there (suc (suc (suc (suc (suc zero))))) h = inr (inr (inr (inr (inr (inr (inr (inl refl)))))))
place_there (suc (suc (suc (suc (suc (suc zero)))))) h = inr (inr (inr (inr (inr (inr (inr (inr (inl refl))))))))
place_there (suc (suc (suc (suc (suc (suc (suc zero))))))) h = inr (inr (inr (inr (inr (inr (inr (inr (inr (inl refl)))))))))
place_there (suc (suc (suc (suc (suc (suc (suc (suc zero)))))))) h = inr (inr (inr (inr (inr (inr (inr (inr (inr (inr (inl refl))))))))))
place_there (suc (suc (suc (suc (suc (suc (suc (suc (suc zero))))))))) h = inr (inr (inr (inr (inr (inr (inr (inr (inr (inr (inr (inl refl)))))))))))
place_there (suc (suc (suc (suc (suc (suc (suc (suc (suc (suc zero)))))))))) h = inr (inr (inl refl))
place_there (suc (suc (suc (suc (suc (suc (suc (suc (suc (suc (suc zero))))))))))) h = inr (inr (inr (inl refl)))
place_there (suc (suc (suc (suc (suc (suc (suc (suc (suc (suc (suc (suc i)))))))))))) h = absurd (omega arith)

count_there : (n : ℕ) → 2 ≤ n → n ≤ 12 → Has counts n
count_there zero h l = absurd (omega arith)
count_there (suc zero) h l = absurd (omega arith)
count_there (suc (suc zero)) h l = inr (inr (inr (inl refl)))
count_there (suc (suc (suc zero))) h l = inr (inr (inr (inr (inl refl))))
count_there (suc (suc (suc (suc zero)))) h l = inr (inr (inr (inr (inr (inl refl)))))
count_there (suc (suc (suc (suc (suc zero))))) h l = inr (inr (inr (inr (inr (inr (inl refl))))))
count_there (suc (suc (suc (suc (suc (suc zero)))))) h l = inr (inr (inr (inr (inr (inr (inr (inl refl)))))))
count_there (suc (suc (suc (suc (suc (suc (suc zero))))))) h l = inr (inr (inr (inr (inr (inr (inr (inr (inl refl))))))))
count_there (suc (suc (suc (suc (suc (suc (suc (suc zero)))))))) h l = inr (inr (inr (inr (inr (inr (inr (inr (inr (inl refl)))))))))
count_there (suc (suc (suc (suc (suc (suc (suc (suc (suc zero))))))))) h l = inr (inr (inr (inr (inr (inr (inr (inr (inr (inr (inl refl))))))))))
count_there (suc (suc (suc (suc (suc (suc (suc (suc (suc (suc zero)))))))))) h l = inl refl
count_there (suc (suc (suc (suc (suc (suc (suc (suc (suc (suc (suc zero))))))))))) h l = inr (inl refl)
count_there (suc (suc (suc (suc (suc (suc (suc (suc (suc (suc (suc (suc zero)))))))))))) h l = inr (inr (inl refl))
count_there (suc (suc (suc (suc (suc (suc (suc (suc (suc (suc (suc (suc (suc n))))))))))))) h l = absurd (omega arith)

part_there : (n i : ℕ) → i < 12 → Has (for_tuple n) (Part n i)
unfolding for_tuple
part_there n i h = has_left (map (Part n) places) (map (SetPart n) places) (Part n i) (has_map (Part n) places i (place_there i h))

set_part_there : (n i : ℕ) → i < 12 → Has (for_tuple n) (SetPart n i)
unfolding for_tuple
set_part_there n i h = has_right (map (Part n) places) (map (SetPart n) places) (SetPart n i) (has_map (SetPart n) places i (place_there i h))

tuples_there : (ns : List ℕ) (n : ℕ) (x : Operation) → Has ns n → Has (for_tuple n) x → Has (for_tuples ns) x
unfolding for_tuples
tuples_there [] n x h i = absurd h
tuples_there (l ∷ ns) n x (inl e) i = has_left (for_tuple l) (for_tuples ns) x (subst (λ (m : ℕ). Has (for_tuple m) x) (sym e) i)
tuples_there (l ∷ ns) n x (inr h) i = has_right (for_tuple l) (for_tuples ns) x (tuples_there ns n x h i)

-- all operations that there may be
abbrev all : List Operation
all = first_singles ++ for_kinds signed_kinds ++ middle_singles ++ for_kinds secret_kinds ++ last_singles ++ for_tuples counts ++ for_kinds unsigned_kinds

in_unsigned : (x : Operation) → Has (for_kinds unsigned_kinds) x → Has all x
in_unsigned x h = has_right (first_singles ++ for_kinds signed_kinds ++ middle_singles ++ for_kinds secret_kinds ++ last_singles ++ for_tuples counts) (for_kinds unsigned_kinds) x h

before_unsigned : (x : Operation) → Has (first_singles ++ for_kinds signed_kinds ++ middle_singles ++ for_kinds secret_kinds ++ last_singles ++ for_tuples counts) x → Has all x
before_unsigned x h = has_left (first_singles ++ for_kinds signed_kinds ++ middle_singles ++ for_kinds secret_kinds ++ last_singles ++ for_tuples counts) (for_kinds unsigned_kinds) x h

in_tuples : (x : Operation) → Has (for_tuples counts) x → Has all x
in_tuples x h = before_unsigned x (has_right (first_singles ++ for_kinds signed_kinds ++ middle_singles ++ for_kinds secret_kinds ++ last_singles) (for_tuples counts) x h)

before_tuples : (x : Operation) → Has (first_singles ++ for_kinds signed_kinds ++ middle_singles ++ for_kinds secret_kinds ++ last_singles) x → Has all x
before_tuples x h = before_unsigned x (has_left (first_singles ++ for_kinds signed_kinds ++ middle_singles ++ for_kinds secret_kinds ++ last_singles) (for_tuples counts) x h)

in_last : {x : Operation} → Has last_singles x → Has all x
in_last {x} h = before_tuples x (has_right (first_singles ++ for_kinds signed_kinds ++ middle_singles ++ for_kinds secret_kinds) last_singles x h)

before_last : (x : Operation) → Has (first_singles ++ for_kinds signed_kinds ++ middle_singles ++ for_kinds secret_kinds) x → Has all x
before_last x h = before_tuples x (has_left (first_singles ++ for_kinds signed_kinds ++ middle_singles ++ for_kinds secret_kinds) last_singles x h)

in_secret : (x : Operation) → Has (for_kinds secret_kinds) x → Has all x
in_secret x h = before_last x (has_right (first_singles ++ for_kinds signed_kinds ++ middle_singles) (for_kinds secret_kinds) x h)

before_secret : (x : Operation) → Has (first_singles ++ for_kinds signed_kinds ++ middle_singles) x → Has all x
before_secret x h = before_last x (has_left (first_singles ++ for_kinds signed_kinds ++ middle_singles) (for_kinds secret_kinds) x h)

in_middle : {x : Operation} → Has middle_singles x → Has all x
in_middle {x} h = before_secret x (has_right (first_singles ++ for_kinds signed_kinds) middle_singles x h)

before_middle : (x : Operation) → Has (first_singles ++ for_kinds signed_kinds) x → Has all x
before_middle x h = before_secret x (has_left (first_singles ++ for_kinds signed_kinds) middle_singles x h)

in_signed : (x : Operation) → Has (for_kinds signed_kinds) x → Has all x
in_signed x h = before_middle x (has_right first_singles (for_kinds signed_kinds) x h)

in_first : {x : Operation} → Has first_singles x → Has all x
in_first {x} h = before_middle x (has_left first_singles (for_kinds signed_kinds) x h)

kind_there : (k : IntTy) (x : Operation) → Has (for_kind k) x → Has all x
kind_there PI128 x h = in_signed x (kinds_there signed_kinds PI128 x (inl refl) h)
kind_there PI16 x h = in_signed x (kinds_there signed_kinds PI16 x (inr (inl refl)) h)
kind_there PI32 x h = in_signed x (kinds_there signed_kinds PI32 x (inr (inr (inl refl))) h)
kind_there PI64 x h = in_signed x (kinds_there signed_kinds PI64 x (inr (inr (inr (inl refl)))) h)
kind_there PI8 x h = in_signed x (kinds_there signed_kinds PI8 x (inr (inr (inr (inr (inl refl))))) h)
kind_there SU128 x h = in_secret x (kinds_there secret_kinds SU128 x (inl refl) h)
kind_there SU16 x h = in_secret x (kinds_there secret_kinds SU16 x (inr (inl refl)) h)
kind_there SU32 x h = in_secret x (kinds_there secret_kinds SU32 x (inr (inr (inl refl))) h)
kind_there SU64 x h = in_secret x (kinds_there secret_kinds SU64 x (inr (inr (inr (inl refl)))) h)
kind_there SU8 x h = in_secret x (kinds_there secret_kinds SU8 x (inr (inr (inr (inr (inl refl))))) h)
kind_there PU128 x h = in_unsigned x (kinds_there unsigned_kinds PU128 x (inl refl) h)
kind_there PU16 x h = in_unsigned x (kinds_there unsigned_kinds PU16 x (inr (inl refl)) h)
kind_there PU32 x h = in_unsigned x (kinds_there unsigned_kinds PU32 x (inr (inr (inl refl))) h)
kind_there PU64 x h = in_unsigned x (kinds_there unsigned_kinds PU64 x (inr (inr (inr (inl refl)))) h)
kind_there PU8 x h = in_unsigned x (kinds_there unsigned_kinds PU8 x (inr (inr (inr (inr (inl refl))))) h)
kind_there PUsize x h = in_unsigned x (kinds_there unsigned_kinds PUsize x (inr (inr (inr (inr (inr (inl refl)))))) h)

single_there : (o : SingleOp) → Has all (Single o)
single_there BoolNot = in_first (inl refl)
single_there Same = in_last (inl refl)
single_there Differ = in_first (inr (inr (inl refl)))
single_there Item = in_middle (inr (inr (inr (inr (inr (inl refl))))))
single_there Set = in_middle (inr (inr (inr (inr (inr (inr (inr (inr (inr (inr (inr (inr (inl refl)))))))))))))
single_there Len = in_middle (inr (inr (inr (inr (inr (inr (inl refl)))))))
single_there Make = in_middle (inr (inr (inr (inr (inr (inr (inr (inr (inl refl)))))))))
single_there ListOf = in_middle (inr (inr (inr (inr (inr (inr (inr (inl refl))))))))
single_there Concat = in_middle (inr (inr (inr (inl refl))))
single_there Push = in_middle (inr (inr (inr (inr (inr (inr (inr (inr (inr (inr (inl refl)))))))))))
single_there Slice = in_middle (inr (inr (inr (inr (inr (inr (inr (inr (inr (inr (inr (inr (inr (inr (inl refl)))))))))))))))
single_there Put = in_middle (inr (inr (inr (inr (inr (inr (inr (inr (inr (inr (inr (inl refl))))))))))))
single_there NumChunks = in_middle (inr (inr (inr (inr (inr (inr (inr (inr (inr (inl refl))))))))))
single_there GetChunk = in_middle (inr (inr (inr (inr (inl refl)))))
single_there SetChunk = in_middle (inr (inr (inr (inr (inr (inr (inr (inr (inr (inr (inr (inr (inr (inl refl))))))))))))))
single_there ToArray = in_middle (inr (inr (inr (inr (inr (inr (inr (inr (inr (inr (inr (inr (inr (inr (inr (inl refl))))))))))))))))
single_there ToSeq = in_middle (inr (inr (inr (inr (inr (inr (inr (inr (inr (inr (inr (inr (inr (inr (inr (inr (inl refl)))))))))))))))))
single_there OptUnwrap = in_middle (inr (inr (inl refl)))
single_there ResUnwrap = in_middle (inr (inr (inr (inr (inr (inr (inr (inr (inr (inr (inr (inr (inr (inr (inr (inr (inr (inr (inr (inl refl))))))))))))))))))))
single_there OptIsSome = in_middle (inr (inl refl))
single_there OptIsNone = in_middle (inl refl)
single_there ResIsOk = in_middle (inr (inr (inr (inr (inr (inr (inr (inr (inr (inr (inr (inr (inr (inr (inr (inr (inr (inr (inl refl)))))))))))))))))))
single_there ResIsErr = in_middle (inr (inr (inr (inr (inr (inr (inr (inr (inr (inr (inr (inr (inr (inr (inr (inr (inr (inl refl))))))))))))))))))
single_there Clone = in_first (inr (inl refl))

tuple_bounds : (n i : ℕ) → leb 2 n && (leb n 12 && nat_lt i n) ≡ true → (2 ≤ n) × (n ≤ 12) × (i < 12)
tuple_bounds n i h = (grind (arith, nat_tests), grind (arith, nat_tests), grind (arith, nat_tests))

there : (o : Operation) → is_known o ≡ true → Has all o
there (Number o k) h = kind_there k (Number o k) (number_there o k)
there (Cast from to) h = kind_there to (Cast from to) (cast_there from to)
there (Part n i) h = let b = tuple_bounds n i h in in_tuples (Part n i) (tuples_there counts n (Part n i) (count_there n b.0 b.1) (part_there n i b.2))
there (SetPart n i) h = let b = tuple_bounds n i h in in_tuples (SetPart n i) (tuples_there counts n (SetPart n i) (count_there n b.0 b.1) (set_part_there n i b.2))
there (Single o) h = single_there o

-- each operation that there is stands in the table
standard_has : (o : Operation) → is_known o ≡ true → Has standard_operations o
unfolding standard_operations
standard_has o h = has_filter is_known all o (there o h) h

known_at : (os : List Operation) (o : Operation) → list_all is_known os ≡ true → Contains os o → is_known o ≡ true
known_at [] o h c = absurd (omega (arith, c.1))
known_at (x ∷ os) o h (zero, l, same) = subst (λ (y : Operation). is_known y ≡ true) same (first (is_known x) (list_all is_known os) h)
  where
    first : (a b : Bool) → a && b ≡ true → a ≡ true
    first true b h = refl
    first false b h = cc h
known_at (x ∷ os) o h (suc k, l, same) = known_at os o (rest (is_known x) (list_all is_known os) h) (k, omega arith, same)
  where
    rest : (a b : Bool) → a && b ≡ true → b ≡ true
    rest true b h = h
    rest false b h = cc h

-- the table has the operations that there are
pub complete : (o : Operation) → IsTrue (is_known o) ↔ Contains standard_operations o
complete o = (λ h. contains_has standard_operations o (standard_has o h), λ c. known_at standard_operations o all_known c)

-- where an operation stands in the table
standard_place : (o : Operation) → is_known o ≡ true → (k : ℕ) × (slice_get standard_operations k ≡ Some o)
standard_place o h = place_has standard_operations o (standard_has o h)

-- the table calls the operation at a place by its name
standard_name : (o : Operation) (k : ℕ) → slice_get standard_operations k ≡ Some o → slice_get (names standard_table) k ≡ Some (name_of o)
standard_name o k h = name_at standard_table k o h

-- no two operations that there are have one name
pub names_differ : (a b : Operation) → is_known a ≡ true → is_known b ≡ true → name_of a ≡ name_of b → a ≡ b
names_differ a b h g e =
    let i = standard_place a h in
    let j = standard_place b g in
    let same : i.0 ≡ j.0 = rising-Distinct (names standard_table) standard_sorted i.0 j.0 (name_of a) (standard_name a i.0 i.1) (standard_name b j.0 j.1 ∙ ap Some (sym e)) in
    some_same (sym i.1 ∙ ap (slice_get standard_operations) same ∙ j.1)
  where
    some_same : {x y : Operation} → Some x ≡ Some y → x ≡ y
    some_same e = cc e

-- the operation at a place is the one whose name the table has there
pub called_there : (t : Table) (i : ℕ) (o x : Operation) → is_known o ≡ true → is_known x ≡ true → slice_get t.operations i ≡ Some x → slice_get (names t) i ≡ Some (called t o) → x ≡ o
called_there t i o x h g at name = names_differ x o g h (append_cancel_left t.prefix (name_of x) (name_of o) (some_same (sym (name_at t i x at) ∙ name)))
  where
    some_same : {a b : List ℕ} → Some a ≡ Some b → a ≡ b
    some_same e = cc e

-- an operation that there is stands under its name
pub standard_named : (o : Operation) → is_known o ≡ true → operation_named standard_table (name_of o) ≡ Some o
standard_named o h =
    let i = standard_place o h in
    named_at standard_table (name_of o) i.0 (rising-Distinct (names standard_table) standard_sorted) (standard_name o i.0 i.1) ∙ i.1

-- and none under another name
pub standard_foreign : (name : List ℕ) → ((o : Operation) → is_known o ≡ true → name_of o ≡ name → ⊥) → operation_named standard_table name ≡ None
standard_foreign name h = foreign_named standard_table name all_known h
