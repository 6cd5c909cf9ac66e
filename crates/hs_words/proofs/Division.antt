-- The quotient and the remainder of signed numbers, and their ranges.
use Rattle.std.proofs.Common.{◌≡◌, ℕ, zero, suc, ◌+◌, ◌-◌, ◌*◌, ◌/◌, ◌<◌, ◌≤◌, ◌^◌, Bool, true, false, refl, sym, ap, ◌∙◌, arith, ℤ, pos, negsuc, cond, ltb, subst, Result, Ok, Err, FitsSigned, ◌&&◌, int_div, int_rem, neg_ℤ}
use Rattle.std.specs.Int.{w128, cast_signed, cast_unsigned}
use Rattle.std.specs.Ordering.{int_eq}
use Rattle.std.proofs.lemmas.Bool.Decides.{nat_tests, Decides-int_eq}
use Rattle.std.proofs.lemmas.Int.{quot_is, rem_is}
use Rattle.std.proofs.lemmas.Nat.{pow-add, div_below}
use Rattle.std.proofs.Math.Nat.{mod-eq_of_lt, div-le_self, pow-le-pow_right, zero-mod}
use lib.Signed.{mag, mag_rem}
use Rattle.hs_words.specs.declared.kinds.IntTy.{IntTy}
use Rattle.hs_words.specs.declared.kinds.Panic.{Panic}
use Rattle.hs_words.specs.declared.kinds.Panic.TheVariants.{Overflow, Division}
use Rattle.hs_words.specs.Kind.{width_of, is_signed}
use Rattle.hs_words.specs.Word.{Integer, residue, meaning, from_bits, wrapped}
use Rattle.hs_words.specs.Arithmetic.{is_within, is_in_range, least_of, divided, quotient, remainder}
use Rattle.hs_words.specs.Residues.{bits_of-from_bits}
use Rattle.hs_words.proofs.Exact.{width_le, le_width}

-- ---- numbers in range

-- two halves of a range
doubled : (width : ℕ) → 1 ≤ width → 2 ^ (width - 1) + 2 ^ (width - 1) ≡ 2 ^ width
doubled width h = let e : width - 1 + 1 ≡ width = omega arith in let t : 2 ^ (width - 1 + 1) ≡ 2 ^ (width - 1) * 2 ^ 1 = pow-add 2 (width - 1) 1 in let u = ap (λ k. 2 ^ k) e in omega arith

-- a number of the range is what its bits mean
pub meaning-residue : (signed : Bool) (width : ℕ) (number : ℤ) → 1 ≤ width → is_within signed width number ≡ true → meaning signed width (residue width number) ≡ number
meaning-residue false width (pos n) w h = let small : n < 2 ^ width = grind (arith, nat_tests) in ap pos (mod-eq_of_lt small)
meaning-residue false width (negsuc n) w h = cc
meaning-residue true width (pos n) w h =
    let half : n < 2 ^ (width - 1) = grind (arith, nat_tests) in
    let twice : 2 ^ (width - 1) + 2 ^ (width - 1) ≡ 2 ^ width = doubled width w in
    let small : n < 2 ^ width = omega arith in
    ap (meaning true width) (mod-eq_of_lt small) ∙ ap (λ t. cond t (pos n) (negsuc (2 ^ width - suc n))) h
meaning-residue true width (negsuc n) w h =
    let half : n < 2 ^ (width - 1) = grind (arith, nat_tests) in
    let twice : 2 ^ (width - 1) + 2 ^ (width - 1) ≡ 2 ^ width = doubled width w in
    let small : n < 2 ^ width = omega arith in
    let high : ltb (2 ^ width - 1 - n) (2 ^ (width - 1)) ≡ false = grind (arith, nat_tests) in
    let back : 2 ^ width - suc (2 ^ width - 1 - n) ≡ n = omega arith in
    ap (λ r. meaning true width (2 ^ width - 1 - r)) (mod-eq_of_lt small)
    ∙ ap (λ t. cond t (pos (2 ^ width - 1 - n)) (negsuc (2 ^ width - suc (2 ^ width - 1 - n)))) high ∙ ap negsuc back

-- to wrap a number of the range changes nothing
pub wrapped-in_range : (kind : IntTy) (number : ℤ) → is_in_range kind number ≡ true → wrapped kind number ≡ record { kind = kind; number = number }
wrapped-in_range kind number h = ap (λ (z : ℤ). record { kind = kind; number = z }) (meaning-residue (is_signed kind) (width_of kind) number (le_width kind) h)

-- the range of a signed kind is a bound on n, at n and at -(n + 1) alike
within-mag : (width : ℕ) (number : ℤ) → mag number < 2 ^ (width - 1) → is_within true width number ≡ true
within-mag width (pos n) h = grind (arith, nat_tests)
within-mag width (negsuc n) h = grind (arith, nat_tests)

-- a signed number is in its range
mag-meaning : (width bits : ℕ) → 1 ≤ width → bits < 2 ^ width → mag (meaning true width bits) < 2 ^ (width - 1)
mag-meaning width bits w h = by (ltb bits (2 ^ (width - 1))) refl
  where
    by : (t : Bool) → ltb bits (2 ^ (width - 1)) ≡ t → mag (cond t (pos bits) (negsuc (2 ^ width - suc bits))) < 2 ^ (width - 1)
    by true e = grind (arith, nat_tests)
    by false e = let twice : 2 ^ (width - 1) + 2 ^ (width - 1) ≡ 2 ^ width = doubled width w in let far : 2 ^ (width - 1) ≤ bits = grind (arith, nat_tests) in omega arith

-- the bound of a number with the other sign
mag-neg : (r a : ℕ) → r ≤ suc a → mag (neg_ℤ (pos r)) ≤ a
mag-neg zero a h = omega arith
mag-neg (suc r) a h = omega arith

-- a quotient is no greater than its dividend, but for that of the least number and -1
mag-quotient : (x y : ℤ) (half : ℕ) → mag x < half → (y ≡ negsuc 0 → x ≡ negsuc (half - 1) → ⊥) → mag (int_div x y) < half
mag-quotient (pos a) (pos b) half h safe = omega (arith, div-le_self a b)
mag-quotient (pos a) (negsuc b) half h safe = let le : a / suc b ≤ suc a = omega (arith, div-le_self a (suc b)) in omega (arith, mag-neg (a / suc b) a le)
mag-quotient (negsuc a) (pos b) half h safe = omega (arith, mag-neg (suc a / b) a (div-le_self (suc a) b))
mag-quotient (negsuc a) (negsuc zero) half h safe = let apart : a ≡ half - 1 → ⊥ = λ e. safe refl (ap negsuc e) in omega arith
mag-quotient (negsuc a) (negsuc (suc b)) half h safe = div_below (suc a) (suc (suc b)) half (omega arith) (omega arith)

-- ---- the division of two words

-- numbers that differ fail the test
not_eq : (x y : ℤ) → (x ≡ y → ⊥) → int_eq x y ≡ false
not_eq x y n = by (int_eq x y) refl
  where
    by : (t : Bool) → int_eq x y ≡ t → t ≡ false
    by true e = absurd (n ((Decides-int_eq x y).0 e))
    by false e = refl

-- a test that cannot pass
and_false : (s : Bool) → (s && false) ≡ false
and_false true = refl
and_false false = refl

-- the test of the one quotient that has no place fails
no_overflow : (a b : Integer) → (b.number ≡ negsuc 0 → a.number ≡ least_of a.kind → ⊥) → (int_eq b.number (negsuc 0) && (is_signed a.kind && int_eq a.number (least_of a.kind))) ≡ false
no_overflow a b safe = by (int_eq b.number (negsuc 0)) refl
  where
    by : (t : Bool) → int_eq b.number (negsuc 0) ≡ t → (t && (is_signed a.kind && int_eq a.number (least_of a.kind))) ≡ false
    by true e = ap (λ u. is_signed a.kind && u) (not_eq a.number (least_of a.kind) (safe ((Decides-int_eq b.number (negsuc 0)).0 e))) ∙ and_false (is_signed a.kind)
    by false e = refl

-- where no fault stands, a division gives its value
divided-is : (a b : Integer) (value : ℤ) → (b.number ≡ pos 0 → ⊥) → (b.number ≡ negsuc 0 → a.number ≡ least_of a.kind → ⊥) → Ok (record { kind = a.kind; number = value }) ≡ divided a b value
divided-is a b value some safe = sym (λ t. division (not_eq b.number (pos 0) some t) (no_overflow a b safe t))
  where
    division : Bool → Bool → Result Integer Panic
    division t u = cond t (Err Division) (cond u (Err Overflow) (Ok (record { kind = a.kind; number = value })))

-- what a signed division by other than 0 gives, from the operands' fields
module _ (a b : Integer) (k l : IntTy) (m n : ℕ) (x y : ℤ) (r : Integer) (first : from_bits k m ≡ a) (other : from_bits l n ≡ b) (h : m < 2 ^ width_of k) (some : n ≡ 0 → ⊥) (i : n < 2 ^ width_of l) (same : b.kind ≡ a.kind) (signed : is_signed k ≡ true) (p : FitsSigned w128 x) (q : FitsSigned w128 y) (is_x : x ≡ a.number) (is_y : y ≡ b.number) (safe : y ≡ negsuc 0 → x ≡ least_of k → ⊥) where
  kinds : k ≡ a.kind
  kinds = ap (λ w. w.kind) first

  not_zero : b.number ≡ pos 0 → ⊥
  not_zero e = some (sym (bits_of-from_bits l n i) ∙ ap (residue (width_of l)) (ap (λ w. w.number) other ∙ e) ∙ zero-mod (2 ^ width_of l))

  divided-by : (value : ℤ) → is_in_range k value ≡ true → r ≡ wrapped k value → Ok r ≡ divided a b value
  divided-by value within e =
      ap Ok (e ∙ wrapped-in_range k value within) ∙ (λ t. Ok (record { kind = kinds t; number = value }))
      ∙ divided-is a b value not_zero (λ f g. safe (is_y ∙ f) (is_x ∙ g ∙ ap least_of (sym kinds)))

  number_is : meaning true (width_of k) m ≡ x
  number_is = ap (λ s. meaning s (width_of k) m) (sym signed) ∙ ap (λ w. w.number) first ∙ sym is_x

  dividend : mag x < 2 ^ (width_of k - 1)
  dividend = subst (λ (z : ℤ). mag z < 2 ^ (width_of k - 1)) number_is (mag-meaning (width_of k) m (le_width k) h)

  in_range : (value : ℤ) → mag value < 2 ^ (width_of k - 1) → is_in_range k value ≡ true
  in_range value l = ap (λ s. is_within s (width_of k) value) signed ∙ within-mag (width_of k) value l

  small_quotient : mag (int_div x y) < 2 ^ (width_of k - 1)
  small_quotient = mag-quotient x y (2 ^ (width_of k - 1)) dividend (λ e f. safe e (f ∙ ap (λ s. cond s (negsuc (2 ^ (width_of k - 1) - 1)) (pos 0)) (sym signed)))

  fits : (value : ℤ) → mag value < 2 ^ (width_of k - 1) → FitsSigned w128 value
  fits value l = let fewer : width_of k - 1 ≤ 127 = omega (arith, width_le k) in let positive : 0 < 2 = omega arith in let more : 2 ^ (width_of k - 1) ≤ 2 ^ 127 = pow-le-pow_right positive fewer in record { sfits = omega arith }

  -- the quotient, by way of 128 bits
  pub quotient-signed : r ≡ wrapped k (cast_signed w128 (cast_unsigned w128 (int_div (cast_signed w128 (cast_unsigned w128 x)) (cast_signed w128 (cast_unsigned w128 y))))) → Ok r ≡ quotient a b
  quotient-signed e =
      divided-by (int_div x y) (in_range (int_div x y) small_quotient) (e ∙ ap (wrapped k) (quot_is w128 x y p q (fits (int_div x y) small_quotient)))
      ∙ (λ t. divided a b (int_div (is_x t) (is_y t)))

  -- the remainder, by way of 128 bits
  pub remainder-signed : r ≡ wrapped k (cast_signed w128 (cast_unsigned w128 (int_rem (cast_signed w128 (cast_unsigned w128 x)) (cast_signed w128 (cast_unsigned w128 y))))) → Ok r ≡ remainder a b
  remainder-signed e =
      let small : mag (int_rem x y) < 2 ^ (width_of k - 1) = omega (arith, mag_rem x y, dividend) in
      divided-by (int_rem x y) (in_range (int_rem x y) small) (e ∙ ap (wrapped k) (rem_is w128 x y p q))
      ∙ (λ t. divided a b (int_rem (is_x t) (is_y t)))
