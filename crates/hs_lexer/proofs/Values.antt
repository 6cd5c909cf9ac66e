-- The value of the digits that a loop has read.
use Rattle.std.proofs.Common.{◌≡◌, ℕ, ◌+◌, ◌*◌, ◌<◌, ◌≤◌, List, [], ◌∷◌, ◌++◌, length, take, drop, get_or, ◌^◌, take_all, Bool, true, false, cond, sym, ◌∙◌, ap, subst, arith}
use Rattle.std.specs.Prelude.{filter, if◌then◌else◌}
use Rattle.std.specs.Char.{digit_value}
use Rattle.std.specs.Str.Parse.{digits_value}
use Rattle.hs_lexer.specs.Numbers.{is_digit_of, value_with}
use Rattle.std.proofs.Math.Seq.{take-append_seam}
use Rattle.std.proofs.lemmas.List.{take-append-drop, append-nil}
use Rattle.std.proofs.lemmas.List.Elements.{filter_more, filter-append}
use Rattle.std.proofs.lemmas.Int.Digits.{digits_value_push}
use Rattle.std.proofs.lemmas.Str.Parse.{digits_value-take-le}

-- the value of those of the first bytes that pass a test
abbrev pub value_so_far : ℕ → (ℕ → Bool) → List ℕ → ℕ → ℕ
value_so_far base test xs i = digits_value base (filter test (take i xs))

by_test : (base : ℕ) (xs : List ℕ) (b : ℕ) (more : List ℕ) (test : Bool)
    → more ≡ xs ++ cond test (b ∷ []) []
    → digits_value base more ≡ (if test then digits_value base xs * base + digit_value b else digits_value base xs)
by_test base xs b more true e = ap (digits_value base) e ∙ digits_value_push base xs b
by_test base xs b more false e = ap (digits_value base) (e ∙ append-nil xs)

pub value_more : (base : ℕ) (xs : List ℕ) (i : ℕ) → i < length xs
    → value_so_far base (is_digit_of base) xs (i + 1)
    ≡ value_with base (value_so_far base (is_digit_of base) xs i) (get_or xs i 0)
value_more base xs i h =
    by_test base (filter (is_digit_of base) (take i xs)) (get_or xs i 0) (filter (is_digit_of base) (take (i + 1) xs))
    (is_digit_of base (get_or xs i 0)) (filter_more (is_digit_of base) xs i 0 h)

pub value_grows : (base : ℕ) (test : ℕ → Bool) (xs : List ℕ) (i : ℕ) → 1 ≤ base
    → value_so_far base test xs i ≤ digits_value base (filter test xs)
value_grows base test xs i h =
    let front : List ℕ = filter test (take i xs) in
    let back : List ℕ = filter test (drop i xs) in
    let whole : filter test xs ≡ front ++ back =
    ap (filter test) (sym (take-append-drop i xs)) ∙ filter-append test (take i xs) (drop i xs) in
    let least = digits_value-take-le base (front ++ back) (length front) h in
    let e : take (length front) (front ++ back) ≡ front = take-append_seam front back in
    rw whole (rw e at least)

pub past_limit : (base : ℕ) (xs : List ℕ) (i value : ℕ) → 1 ≤ base → i < length xs
    → value ≡ value_so_far base (is_digit_of base) xs i
    → (value_with base value (get_or xs i 0) < 2 ^ 128 → ⊥) → digits_value base (filter (is_digit_of base) xs) < 2 ^ 128 → ⊥
past_limit base xs i value h k e above small =
    let b : ℕ = get_or xs i 0 in
    let grows = value_grows base (is_digit_of base) xs (i + 1) h in
    let same : value_with base value b ≡ value_so_far base (is_digit_of base) xs (i + 1) =
    ap (λ v. value_with base v b) e ∙ sym (value_more base xs i k) in
    above (subst (λ (n : ℕ). n < 2 ^ 128) (sym same) (omega arith))

pub value_whole : (base : ℕ) (xs : List ℕ) (i value : ℕ) → length xs ≤ i
    → value ≡ value_so_far base (is_digit_of base) xs i → value ≡ digits_value base (filter (is_digit_of base) xs)
value_whole base xs i value h e = e ∙ ap (λ ys. digits_value base (filter (is_digit_of base) ys)) (take_all i xs h)
