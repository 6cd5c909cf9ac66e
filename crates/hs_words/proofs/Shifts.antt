-- Shifts and turns of bits.
use Rattle.std.proofs.Common.{◌≡◌, ℕ, ◌+◌, ◌-◌, ◌*◌, ◌%◌, ◌/◌, ◌<◌, ◌≤◌, ◌^◌, true, false, sym, ap, ◌∙◌, arith, pos, ◌*ℤ◌, cond, ltb, unsigned_abs, subst, Ok, Err, bit_and, bit_or}
use Rattle.std.proofs.lemmas.Bool.Decides.{nat_tests}
use Rattle.std.proofs.lemmas.Nat.{pow_pos, pow-add, pow_below, and_mask, or_shifted, mod-pow-add, shl-shr, shr_below, mul-add-lt, mod_below}
use Rattle.std.proofs.Math.Nat.{mul-mod_left}
use Rattle.hs_words.specs.declared.kinds.IntTy.{IntTy}
use Rattle.hs_words.specs.declared.kinds.IntTy.TheVariants.{PUsize}
use Rattle.hs_words.specs.declared.kinds.Panic.TheVariants.{Shift}
use Rattle.hs_words.specs.Kind.{width_of, is_signed}
use Rattle.hs_words.specs.Word.{Integer, from_bits, wrapped}
use Rattle.hs_words.specs.Arithmetic.{left_shift, turned}
use Rattle.hs_words.proofs.Exact.{width_le}
use Rattle.hs_words.proofs.Modular.{narrow, residue-product}

-- the number of a usize, from its fields
pub usize_number : (n : Integer) (l : IntTy) (q : ℕ) → from_bits l q ≡ n → n.kind ≡ PUsize → unsigned_abs n.number ≡ q
usize_number n l q e k =
    let f : l ≡ PUsize = ap (λ w. w.kind) e ∙ k in
    sym (ap (λ w. unsigned_abs w.number) e) ∙ ap (λ z. unsigned_abs (from_bits z q).number) f

-- the word of a left shift
pub left_shift-is : (a n : Integer) (k l : IntTy) (m q : ℕ) (r : Integer) → from_bits k m ≡ a → from_bits l q ≡ n → m < 2 ^ width_of k → n.kind ≡ PUsize → q < width_of k → r ≡ wrapped k (pos ((m * 2 ^ q) % 2 ^ 128)) → Ok r ≡ left_shift a (unsigned_abs n.number)
left_shift-is a n k l m q r first other h usize small e =
    let kinds : k ≡ a.kind = ap (λ w. w.kind) first in
    let test : ltb q (width_of k) ≡ true = grind (arith, nat_tests) in
    let value : r ≡ wrapped k ((from_bits k m).number *ℤ pos (2 ^ q)) = e ∙ ap (from_bits k) (narrow (m * 2 ^ q) (width_of k) (width_le k) ∙ sym (residue-product (is_signed k) false (width_of k) m (2 ^ q) h (pow_below q (width_of k) small))) in
    ap Ok (value ∙ (λ t. wrapped (first t).kind ((first t).number *ℤ pos (2 ^ q))))
    ∙ sym (ap (λ b. cond b (Ok (wrapped a.kind (a.number *ℤ pos (2 ^ q)))) (Err Shift)) (ap (λ z. ltb q (width_of z)) (sym kinds) ∙ test))
    ∙ ap (left_shift a) (sym (usize_number n l q other usize))

-- the low part of a turn
low_turn : (width bits places : ℕ) → places < width → (bits * 2 ^ places) % 2 ^ width ≡ (bits % 2 ^ (width - places)) * 2 ^ places
low_turn width bits places h =
    let parts : width - places + places ≡ width = omega arith in
    ap (λ k. (bits * 2 ^ places) % 2 ^ k) (sym parts) ∙ mod-pow-add (bits * 2 ^ places) (width - places) places
    ∙ (λ t. (shl-shr bits places t % 2 ^ (width - places)) * 2 ^ places + mul-mod_left bits (2 ^ places) t) ∙ omega arith

-- the high part of a turn is narrow
high_turn : (width bits places : ℕ) → places < width → bits < 2 ^ width → bits / 2 ^ (width - places) < 2 ^ places
high_turn width bits places h l = let parts : places + (width - places) ≡ width = omega arith in shr_below bits places (width - places) (subst (λ k. bits < 2 ^ k) (sym parts) l)

-- turned bits are no wider
pub turned-below : (width bits places : ℕ) → places < width → bits < 2 ^ width → turned width bits places < 2 ^ width
turned-below width bits places h l =
    let parts : places + (width - places) ≡ width = omega arith in
    let whole : 2 ^ places * 2 ^ (width - places) ≡ 2 ^ width = sym (pow-add 2 places (width - places)) ∙ ap (λ k. 2 ^ k) parts in
    let low = mod_below bits (2 ^ (width - places)) (pow_pos (width - places)) in
    omega (arith, low_turn width bits places h, mul-add-lt (bits % 2 ^ (width - places)) (2 ^ places) (bits / 2 ^ (width - places)) (2 ^ (width - places)) low (high_turn width bits places h l))

-- the two shifts of a turn, joined
pub turned-is : (width bits places mask size : ℕ) → mask ≡ 2 ^ width - 1 → size ≡ width → places < width → width ≤ 128 → bits < 2 ^ width → bit_or (bit_and ((bits * 2 ^ places) % 2 ^ 128) mask) (bits / 2 ^ (size - places)) ≡ turned width bits places
turned-is width bits places mask size e f h w l =
    let low : (bits * 2 ^ places) % 2 ^ 128 % 2 ^ width ≡ (bits % 2 ^ (width - places)) * 2 ^ places = narrow (bits * 2 ^ places) width w ∙ low_turn width bits places h in
    (λ t. bit_or (bit_and ((bits * 2 ^ places) % 2 ^ 128) (e t)) (bits / 2 ^ (f t - places)))
    ∙ ap (λ x. bit_or x (bits / 2 ^ (width - places))) (and_mask ((bits * 2 ^ places) % 2 ^ 128) width ∙ low)
    ∙ or_shifted (bits % 2 ^ (width - places)) places (bits / 2 ^ (width - places)) (high_turn width bits places h l)
    ∙ ap (λ x. x + bits / 2 ^ (width - places)) (sym (low_turn width bits places h))
