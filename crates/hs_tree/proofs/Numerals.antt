-- Numbers in decimal digits, read back.
use Rattle.std.proofs.Common.{◌≡◌, ℕ, zero, suc, ◌+◌, ◌-◌, ◌*◌, ◌/◌, ◌%◌, ◌^◌, ◌<◌, ◌≤◌, Bool, true, false, not, ◌&&◌, cond, eqb, List, [], ◌∷◌, decimal, ℤ, pos, negsuc, refl, sym, ap, ap₂, subst, ◌∙◌, arith}
use Rattle.std.proofs.lemmas.Bool.Decides.{nat_tests}
use Rattle.std.proofs.lemmas.Nat.{pow-add}
use Rattle.std.proofs.Math.Nat.{lt-mul-div-succ, mul-le-mul_left, pow-suc, pow-zero}
use Rattle.std.specs.Prelude.{if◌then◌else◌}
use Rattle.std.specs.List.{list_all}
use Rattle.std.specs.Fmt.{digits_onto, digit_glyph, signed_decimal, digits as std_digits}
use Rattle.hs_tree.specs.Text.{numeral, digits, bare_byte, bare}
use lib.Signed.{mag}

-- the number that digits behind others tell
abbrev pub told_after : ℕ → List ℕ → ℕ
told_after n [] = n
told_after n (d ∷ ds) = told_after (10 * n + (d - 48)) ds

-- the digit of a number below 10
glyph : (d : ℕ) → d < 10 → digit_glyph false d ≡ 48 + d
glyph d h = grind (arith, nat_tests)

no_quotient : (m : ℕ) → eqb m 0 ≡ true → m ≡ 0
no_quotient m h = grind (arith, nat_tests)

module _ (n : ℕ) (acc : List ℕ) where
  abbrev last : List ℕ
  last = digit_glyph false (n % 10) ∷ acc

  last_told : told_after (n / 10) last ≡ told_after n acc
  last_told =
      let e : digit_glyph false (n % 10) ≡ 48 + n % 10 = glyph (n % 10) (omega arith) in
      let f : 10 * (n / 10) + ((48 + n % 10) - 48) ≡ n = omega arith in
      ap (λ d. told_after (10 * (n / 10) + (d - 48)) acc) e ∙ ap (λ m. told_after m acc) f

  step : (rest : List ℕ) (t : Bool) → eqb (n / 10) 0 ≡ t → told_after 0 rest ≡ told_after (n / 10) last → told_after 0 (cond t last rest) ≡ told_after n acc
  step rest false e h = h ∙ last_told
  step rest true e h =
      ap (λ m. told_after m last) (sym (no_quotient (n / 10) e)) ∙ last_told

-- a number below 10 to the fuel is told by its digits
told_onto : (k n : ℕ) (acc : List ℕ) → n < 10 ^ k → told_after 0 (digits_onto k 10 false n acc) ≡ told_after n acc
told_onto zero n acc h = let z : 0 ≡ n = omega (arith, h, pow-zero 10) in ap (λ m. told_after m acc) z
told_onto (suc k) n acc h =
    let l : n / 10 < 10 ^ k = omega (arith, h, pow-suc 10 k) in
    step n acc (digits_onto k 10 false (n / 10) (last n acc)) (eqb (n / 10) 0) refl (told_onto k (n / 10) (last n acc) l)

-- a number is below 10 to its power
below : (q : ℕ) → q + 1 ≤ 10 ^ q
below zero = omega (arith, pow-zero 10)
below (suc q) = omega (arith, below q, pow-suc 10 q)

-- there is room for all digits
room : (m n q p : ℕ) → n < m * (q + 1) → q + 1 ≤ p → n < m * p
room m n q p h l = let k : m * (q + 1) ≤ m * p = mul-le-mul_left m l in omega (arith, h, k)

enough : (k n : ℕ) → 0 < 10 ^ k → n < 10 ^ (k + n / 10 ^ k)
enough k n h =
    subst (λ x. n < x) (sym (pow-add 10 k (n / 10 ^ k))) (room (10 ^ k) n (n / 10 ^ k) (10 ^ (n / 10 ^ k)) (lt-mul-div-succ n h) (below (n / 10 ^ k)))

pub numeral_told : (n : ℕ) → told_after 0 (numeral n) ≡ n
unfolding numeral
numeral_told n = told_onto (64 + n / 10 ^ 64) n [] (enough 64 n (omega arith))

-- no two numbers have the same digits
pub numerals_once : (n m : ℕ) → numeral n ≡ numeral m → n ≡ m
numerals_once n m e = sym (numeral_told n) ∙ ap (told_after 0) e ∙ numeral_told m

-- what a number of few digits is written by
pub decimal_numeral : (n : ℕ) → n < 2 ^ 128 → decimal n ≡ numeral n
unfolding numeral std_digits
decimal_numeral n h =
    let z : 0 ≡ n / 10 ^ 64 = omega arith in
    ap (λ q. digits_onto (64 + q) 10 false n []) z

pub signed_digits : (z : ℤ) → mag z < 2 ^ 127 → signed_decimal z ≡ digits z
signed_digits (pos n) h = decimal_numeral n (omega arith)
signed_digits (negsuc n) h = ap (λ ds. 45 ∷ ds) (decimal_numeral (suc n) (omega arith))

-- the bytes of digits
module _ (P : ℕ → Bool) (digit : (d : ℕ) → d < 10 → P (48 + d) ≡ true) where
  joined : (a b : Bool) → a ≡ true → b ≡ true → (a && b) ≡ true
  joined a b h k = ap₂ ◌&&◌ h k

  chosen : (t : Bool) (x y : List ℕ) → list_all P x ≡ true → list_all P y ≡ true → list_all P (cond t x y) ≡ true
  chosen true x y h k = h
  chosen false x y h k = k

  last_all : (n : ℕ) (acc : List ℕ) → list_all P acc ≡ true → list_all P (last n acc) ≡ true
  last_all n acc h =
      let l : n % 10 < 10 = omega arith in
      joined _ _ (ap P (glyph (n % 10) l) ∙ digit (n % 10) l) h

  onto_all : (k n : ℕ) (acc : List ℕ) → list_all P acc ≡ true → list_all P (digits_onto k 10 false n acc) ≡ true
  onto_all zero n acc h = h
  onto_all (suc k) n acc h = chosen (eqb (n / 10) 0) (last n acc) _ (last_all n acc h) (onto_all k (n / 10) (last n acc) (last_all n acc h))

  pub numeral_all : (n : ℕ) → list_all P (numeral n) ≡ true
  unfolding numeral
  numeral_all n = onto_all (64 + n / 10 ^ 64) n [] refl

-- whether there is a byte
abbrev some : List ℕ → Bool
some [] = false
some (b ∷ w) = true

onto_some : (k n b : ℕ) (acc : List ℕ) → some (digits_onto k 10 false n (b ∷ acc)) ≡ true
onto_some zero n b acc = refl
onto_some (suc k) n b acc = go (eqb (n / 10) 0) (onto_some k (n / 10) (digit_glyph false (n % 10)) (b ∷ acc))
  where
    go : (t : Bool) → some (digits_onto k 10 false (n / 10) (last n (b ∷ acc))) ≡ true → some (cond t (last n (b ∷ acc)) (digits_onto k 10 false (n / 10) (last n (b ∷ acc)))) ≡ true
    go true h = refl
    go false h = h

begun_some : (k n : ℕ) → 0 < k → some (digits_onto k 10 false n []) ≡ true
begun_some zero n h = absurd (omega arith)
begun_some (suc k) n h = go (eqb (n / 10) 0)
  where
    go : (t : Bool) → some (cond t (last n []) (digits_onto k 10 false (n / 10) (last n []))) ≡ true
    go true = refl
    go false = onto_some k (n / 10) (digit_glyph false (n % 10)) []

numeral_some : (n : ℕ) → some (numeral n) ≡ true
unfolding numeral
numeral_some n = begun_some (64 + n / 10 ^ 64) n (omega arith)

all_bare : (w : List ℕ) → some w ≡ true → list_all bare_byte w ≡ true → bare w ≡ true
all_bare [] h k = absurd (cc)
all_bare (b ∷ w) h k = k

bare_digit : (d : ℕ) → d < 10 → bare_byte (48 + d) ≡ true
bare_digit d h = grind (arith, nat_tests)

pub numeral_bare : (n : ℕ) → bare (numeral n) ≡ true
numeral_bare n = all_bare (numeral n) (numeral_some n) (numeral_all bare_byte bare_digit n)

pub digits_bare : (z : ℤ) → bare (digits z) ≡ true
digits_bare (pos n) = numeral_bare n
digits_bare (negsuc n) = numeral_all bare_byte bare_digit (suc n)

-- the whole number that digits tell
abbrev pub whole_told : List ℕ → ℤ
whole_told [] = pos 0
whole_told (d ∷ ds) = if eqb d 45 then negsuc (told_after 0 ds - 1) else pos (told_after 0 (d ∷ ds))

no_sign : (d : ℕ) → d < 10 → not (eqb (48 + d) 45) ≡ true
no_sign d h = grind (arith, nat_tests)

unsigned : (w : List ℕ) → list_all (λ d. not (eqb d 45)) w ≡ true → whole_told w ≡ pos (told_after 0 w)
unsigned [] h = refl
unsigned (d ∷ ds) h = go (eqb d 45) h
  where
    go : (t : Bool) → (not t && list_all (λ x. not (eqb x 45)) ds) ≡ true → (if t then negsuc (told_after 0 ds - 1) else pos (told_after 0 (d ∷ ds))) ≡ pos (told_after 0 (d ∷ ds))
    go false k = refl
    go true k = absurd (cc)

pub digits_told : (z : ℤ) → whole_told (digits z) ≡ z
digits_told (pos n) = unsigned (numeral n) (numeral_all (λ d. not (eqb d 45)) no_sign n) ∙ ap pos (numeral_told n)
digits_told (negsuc n) =
    let e : suc n - 1 ≡ n = omega arith in
    ap (λ m. negsuc (m - 1)) (numeral_told (suc n)) ∙ ap negsuc e
