-- A result in 128 bits, against the range of a kind.
use Rattle.std.proofs.Common.{◌≡◌, ℕ, ◌-◌, ◌<◌, ◌≤◌, ◌^◌, true, false, sym, ap, ◌∙◌, arith, ℤ, pos, negsuc, Option, Some, None, Result, Ok, Err, SomeIff, MatchOption, FitsSigned, cond, ltb}
use Rattle.std.specs.Int.{w128, cast_signed, cast_unsigned}
use Rattle.hs_words.specs.declared.kinds.IntTy.{IntTy}
use Rattle.hs_words.specs.declared.kinds.IntTy.TheVariants.{PU8, PU16, PU32, PU64, PU128, PUsize, PI8, PI16, PI32, PI64, PI128, SU8, SU16, SU32, SU64, SU128}
use Rattle.hs_words.specs.declared.kinds.Panic.{Panic}
use Rattle.hs_words.specs.declared.kinds.Panic.TheVariants.{Overflow}
use Rattle.hs_words.specs.Kind.{width_of, is_signed, is_secret}
use Rattle.hs_words.specs.Word.{Integer, wrapped}
use Rattle.hs_words.specs.Arithmetic.{is_in_range, is_within, exact, settled}
use Rattle.std.proofs.lemmas.Bool.Decides.{nat_tests}
use Rattle.std.proofs.lemmas.Int.{to_z-of_z}
use Rattle.std.proofs.Math.Nat.{pow-le-pow_right}

-- no kind is wider than 128 bits
pub width_le : (kind : IntTy) → width_of kind ≤ 128
width_le PU8 = omega arith
width_le PU16 = omega arith
width_le PU32 = omega arith
width_le PU64 = omega arith
width_le PU128 = omega arith
width_le PUsize = omega arith
width_le PI8 = omega arith
width_le PI16 = omega arith
width_le PI32 = omega arith
width_le PI64 = omega arith
width_le PI128 = omega arith
width_le SU8 = omega arith
width_le SU16 = omega arith
width_le SU32 = omega arith
width_le SU64 = omega arith
width_le SU128 = omega arith

-- and none has fewer than one
pub le_width : (kind : IntTy) → 1 ≤ width_of kind
le_width PU8 = omega arith
le_width PU16 = omega arith
le_width PU32 = omega arith
le_width PU64 = omega arith
le_width PU128 = omega arith
le_width PUsize = omega arith
le_width PI8 = omega arith
le_width PI16 = omega arith
le_width PI32 = omega arith
le_width PI64 = omega arith
le_width PI128 = omega arith
le_width SU8 = omega arith
le_width SU16 = omega arith
le_width SU32 = omega arith
le_width SU64 = omega arith
le_width SU128 = omega arith

-- n is past the half of a range where it is past the half of 128 bits
beyond : (n width : ℕ) → width ≤ 128 → (n < 2 ^ 127 → ⊥) → ltb n (2 ^ (width - 1)) ≡ false
beyond n width le h =
    let positive : 0 < 2 = omega arith in
    let fewer : width - 1 ≤ 127 = omega arith in
    let more : 2 ^ (width - 1) ≤ 2 ^ 127 = pow-le-pow_right positive fewer in
    grind (arith, nat_tests)

-- a number that has no place in 128 signed bits has none in fewer
pub past_128 : (kind : IntTy) (number : ℤ) → is_signed kind ≡ true → (FitsSigned w128 number → ⊥) → is_in_range kind number ≡ false
past_128 kind (pos n) s h = ap (λ b. is_within b (width_of kind) (pos n)) s ∙ beyond n (width_of kind) (width_le kind) (λ l. h (record { sfits = l }))
past_128 kind (negsuc n) s h = ap (λ b. is_within b (width_of kind) (negsuc n)) s ∙ beyond n (width_of kind) (width_le kind) (λ l. h (record { sfits = l }))

-- a settled result at a public kind is exact
settled_public : (kind : IntTy) (number : ℤ) → is_secret kind ≡ false → exact kind number ≡ settled kind number
settled_public kind number p = ap (λ b. cond b (Ok (wrapped kind number)) (exact kind number)) (sym p)

-- an exact result at a public kind, from an answer in 128 signed bits
exact-signed : (kind : IntTy) (number : ℤ) (sum : Option ℤ) (r : Result Integer Panic) → is_signed kind ≡ true → is_secret kind ≡ false → SomeIff sum (FitsSigned w128 number) number → MatchOption sum (r ≡ Err Overflow) (λ n. r ≡ exact kind n) → r ≡ settled kind number
exact-signed kind number None r s p h e = e ∙ ap (λ b. cond b (Ok (record { kind = kind; number = number })) (Err Overflow)) (sym (past_128 kind number s h)) ∙ settled_public kind number p
exact-signed kind number (Some n) r s p h e = e ∙ ap (exact kind) h.1 ∙ settled_public kind number p

-- the same for the sum, the difference or the product f of two words, whose numbers x and y went by way of 128 bits
pub settled-signed : (f : ℤ → ℤ → ℤ) (a b : Integer) (kind : IntTy) (x y : ℤ) (sum : Option ℤ) (r : Result Integer Panic) → kind ≡ a.kind → FitsSigned w128 x → FitsSigned w128 y → x ≡ a.number → y ≡ b.number → is_signed kind ≡ true → is_secret kind ≡ false → SomeIff sum (FitsSigned w128 (f (cast_signed w128 (cast_unsigned w128 x)) (cast_signed w128 (cast_unsigned w128 y)))) (f (cast_signed w128 (cast_unsigned w128 x)) (cast_signed w128 (cast_unsigned w128 y))) → MatchOption sum (r ≡ Err Overflow) (λ n. r ≡ exact kind n) → r ≡ settled a.kind (f a.number b.number)
settled-signed f a b kind x y sum r k m n p q s t h e =
    let same : f (cast_signed w128 (cast_unsigned w128 x)) (cast_signed w128 (cast_unsigned w128 y)) ≡ f a.number b.number = (λ i. f (to_z-of_z w128 x m i) (to_z-of_z w128 y n i)) ∙ (λ i. f (p i) (q i)) in
    exact-signed kind _ sum r s t h e ∙ (λ i. settled (k i) (same i))
