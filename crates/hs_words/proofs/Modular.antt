-- Arithmetic modulo a power of two.
use Rattle.std.proofs.Common.{◌≡◌, ℕ, suc, ◌+◌, ◌-◌, ◌*◌, ◌%◌, ◌<◌, ◌≤◌, ◌^◌, Bool, true, false, refl, sym, ap, ◌∙◌, arith, ℤ, pos, negsuc, ◌+ℤ◌, ◌-ℤ◌, ◌*ℤ◌, cond, ltb, unsigned_abs, subst, bit_or, bit_xor}
use Rattle.std.proofs.lemmas.Int.{int_rem_euclid_is, ints}
use borrow.Author.Differences.{up, down}
use Rattle.std.proofs.lemmas.Nat.{pow_pos, pow-add, or_lt, xor_lt}
use Rattle.std.proofs.Math.Pow.{mod-mod-pow}
use Rattle.std.proofs.Math.Nat.{add-mul-mod_self_right, mul-le-mul_right}
use Rattle.hs_words.specs.declared.kinds.IntTy.{IntTy}
use Rattle.hs_words.specs.Kind.{width_of, is_signed}
use Rattle.hs_words.specs.Word.{Integer, residue, meaning, bits_of, from_bits, wrapped}
use Rattle.hs_words.specs.Residues.{bits_of-from_bits}
use Rattle.hs_words.proofs.Exact.{width_le}

-- 128 bits and then fewer
pub narrow : (n width : ℕ) → width ≤ 128 → n % 2 ^ 128 % 2 ^ width ≡ n % 2 ^ width
narrow n width h = let e : 128 - width + width ≡ 128 = omega arith in subst (λ k. n % 2 ^ k % 2 ^ width ≡ n % 2 ^ width) e (mod-mod-pow n (128 - width) width)

-- a number and a multiple of 2 ^ width
pub residue-more : (width : ℕ) (number : ℤ) (k n : ℕ) → number +ℤ pos (k * 2 ^ width) ≡ pos n → residue width number ≡ n % 2 ^ width
residue-more width number k n e = ap unsigned_abs (int_rem_euclid_is number (pos (2 ^ width)) (2 ^ width) k n (pow_pos width) refl e)

-- how many times 2 ^ width the meaning lies below its bits
pub read : (signed : Bool) (width bits : ℕ) → bits < 2 ^ width → (k : ℕ) × (meaning signed width bits +ℤ pos (k * 2 ^ width) ≡ pos bits)
read false width bits h = (0, omega (arith, ints))
read true width bits h = by (ltb bits (2 ^ (width - 1))) refl
  where
    by : (t : Bool) → ltb bits (2 ^ (width - 1)) ≡ t → (k : ℕ) × (cond t (pos bits) (negsuc (2 ^ width - suc bits)) +ℤ pos (k * 2 ^ width) ≡ pos bits)
    by true e = (0, omega (arith, ints))
    by false e = (1, omega (arith, ints))

-- the bits of a product
pub residue-product : (s t : Bool) (width a b : ℕ) → a < 2 ^ width → b < 2 ^ width → residue width (meaning s width a *ℤ meaning t width b) ≡ (a * b) % 2 ^ width
residue-product s t width a b h l =
    let m = 2 ^ width in
    let i = read s width a h in
    let j = read t width b l in
    let x = meaning s width a in
    let y = meaning t width b in
    let first : up x + i.0 * m ≡ a + down x = omega (arith, ints, i.1) in
    let second : up y + j.0 * m ≡ b + down y = omega (arith, ints, j.1) in
    let p = ap (λ z. z * up y) first in
    let q = ap (λ z. z * down y) first in
    let r = ap (λ z. a * z) second in
    let u = ap (λ z. i.0 * m * z) second in
    residue-more width (x *ℤ y) (i.0 * b + j.0 * a) (a * b + i.0 * j.0 * m * m) (omega (arith, ints, p, q, r, u)) ∙ add-mul-mod_self_right (a * b) (i.0 * j.0 * m) m

-- the bits of a difference
pub residue-difference : (s t : Bool) (width a b : ℕ) → width ≤ 128 → a < 2 ^ width → b < 2 ^ width → residue width (meaning s width a -ℤ meaning t width b) ≡ (a + (2 ^ 128 - b)) % 2 ^ width
residue-difference s t width a b w h l =
    let m = 2 ^ width in
    let i = read s width a h in
    let j = read t width b l in
    let x = meaning s width a in
    let y = meaning t width b in
    let full : 128 - width + width ≡ 128 = omega arith in
    let whole : 2 ^ (128 - width) * m ≡ 2 ^ 128 = sym (pow-add 2 (128 - width) width) ∙ ap (λ k. 2 ^ k) full in
    let some : m ≤ 2 ^ 128 = omega (arith, mul-le-mul_right m (pow_pos (128 - width))) in
    residue-more width (x -ℤ y) (i.0 + 2 ^ (128 - width)) (a + (2 ^ 128 - b) + j.0 * m) (omega (arith, ints, i.1, j.1)) ∙ add-mul-mod_self_right (a + (2 ^ 128 - b)) j.0 m

-- the bits of a word, from its fields
pub bits_seen : (a : Integer) (k : IntTy) (m : ℕ) → from_bits k m ≡ a → m < 2 ^ width_of k → m ≡ bits_of a.kind a.number
bits_seen a k m first h = sym (bits_of-from_bits k m h) ∙ (λ t. bits_of (first t).kind (first t).number)

-- the words of two operands of one kind, as their fields are known
module _ (a b : Integer) (k l : IntTy) (m n : ℕ) (first : from_bits k m ≡ a) (other : from_bits l n ≡ b) (h : m < 2 ^ width_of k) (i : n < 2 ^ width_of l) (same : b.kind ≡ a.kind) where
  -- the two have one kind, so that the second can be read at the kind of the first
  one_kind : l ≡ k
  one_kind = ap (λ w. w.kind) other ∙ same ∙ sym (ap (λ w. w.kind) first)

  bound : n < 2 ^ width_of k
  bound = subst (λ (z : IntTy). n < 2 ^ width_of z) one_kind i

  second : from_bits k n ≡ b
  second = subst (λ (z : IntTy). from_bits z n ≡ b) one_kind other

  -- the product of the bits is that of the numbers, modulo 2 ^ width
  pub wrapped-product : wrapped k (pos ((m * n) % 2 ^ 128)) ≡ wrapped a.kind (a.number *ℤ b.number)
  wrapped-product =
      ap (from_bits k) (narrow (m * n) (width_of k) (width_le k) ∙ sym (residue-product (is_signed k) (is_signed k) (width_of k) m n h bound))
      ∙ (λ t. wrapped (first t).kind ((first t).number *ℤ (second t).number))

  -- and so is the difference
  pub wrapped-difference : wrapped k (pos ((m + (2 ^ 128 - n)) % 2 ^ 128)) ≡ wrapped a.kind (a.number -ℤ b.number)
  wrapped-difference =
      ap (from_bits k) (narrow (m + (2 ^ 128 - n)) (width_of k) (width_le k) ∙ sym (residue-difference (is_signed k) (is_signed k) (width_of k) m n (width_le k) h bound))
      ∙ (λ t. wrapped (first t).kind ((first t).number -ℤ (second t).number))

  -- a function of the bits
  pub from_bits-two : (f : ℕ → ℕ → ℕ) → from_bits k (f m n) ≡ from_bits a.kind (f (bits_of a.kind a.number) (bits_of b.kind b.number))
  from_bits-two f = λ t. from_bits (first t).kind (f (bits_seen a k m first h t) (bits_seen b l n other i t))

  -- `|` and `^` make no wider bits
  pub or_below : bit_or m n < 2 ^ width_of k
  or_below = or_lt (width_of k) m n h bound

  pub xor_below : bit_xor m n < 2 ^ width_of k
  xor_below = xor_lt (width_of k) m n h bound
