-- A loop that looks for the end of a comment.
use Rattle.std.proofs.Common.{◌≡◌, ℕ, ◌+◌, ◌-◌, ◌<◌, ◌≤◌, List, [], ◌∷◌, length, drop, get_or, false, eqb, ◌&&◌, Option, Some, None, refl, sym, ◌∙◌, ap, arith}
use Rattle.std.specs.Option.{option_map}
use Rattle.std.proofs.lemmas.List.{drop_more, length-drop}
use Rattle.std.proofs.lemmas.Bool.Decides.{nat_tests}
use Rattle.hs_lexer.specs.Pieces.{closed_after}

-- how many bytes a text has up to the end of the comments that are open at a place of it
abbrev pub closed_from : ℕ → ℕ → List ℕ → Option ℕ
closed_from depth at s = option_map (λ n. n + at) (closed_after depth (drop at s))

pub two_more : (o : Option ℕ) (i k : ℕ) → option_map (λ n. n + i) (option_map (λ n. n + k) o) ≡ option_map (λ n. n + (i + k)) o
two_more None i k = refl
two_more (Some n) i k = let e : n + k + i ≡ n + (i + k) = omega arith in ap (λ m. Some m) e

-- the two bytes at a place, and what stands behind them
both : (s : List ℕ) (i : ℕ) → i + 1 < length s → drop i s ≡ get_or s i 0 ∷ (get_or s (i + 1) 0 ∷ drop (i + 2) s)
both s i h =
    let here : i < length s = omega arith in
    let place : i + 1 + 1 ≡ i + 2 = omega arith in
    drop_more s i 0 here
    ∙ ap (λ rest. get_or s i 0 ∷ rest) (drop_more s (i + 1) 0 h ∙ ap (λ n. get_or s (i + 1) 0 ∷ drop n s) place)

-- what the two bytes at hand make of a comment
pub step_opens : (depth a b : ℕ) (s : List ℕ) → a ≡ 47 → b ≡ 42
    → closed_after depth (a ∷ (b ∷ s)) ≡ option_map (λ n. n + 2) (closed_after (depth + 1) s)
unfolding closed_after
step_opens depth a b s e f = rw (e, f) refl

pub step_last : (a b : ℕ) (s : List ℕ) → a ≡ 42 → b ≡ 47 → closed_after 0 (a ∷ (b ∷ s)) ≡ Some 2
unfolding closed_after
step_last a b s e f = rw (e, f) refl

pub step_closes : (depth a b : ℕ) (s : List ℕ) → a ≡ 42 → b ≡ 47 → eqb depth 0 ≡ false
    → closed_after depth (a ∷ (b ∷ s)) ≡ option_map (λ n. n + 2) (closed_after (depth - 1) s)
unfolding closed_after
step_closes depth a b s e f more = rw (e, f, more) refl

pub step_goes_on : (depth a b : ℕ) (s : List ℕ) → (eqb a 47 && eqb b 42) ≡ false → (eqb a 42 && eqb b 47) ≡ false
    → closed_after depth (a ∷ (b ∷ s)) ≡ option_map (λ n. n + 1) (closed_after depth (b ∷ s))
unfolding closed_after
step_goes_on depth a b s e f = rw (e, f) refl

pub step_ends : (depth : ℕ) (s : List ℕ) → length s ≤ 1 → closed_after depth s ≡ None
unfolding closed_after
step_ends depth [] h = refl
step_ends depth (b ∷ []) h = refl
step_ends depth (b ∷ (c ∷ s)) h = absurd (omega arith)

not_both : (a b m n : ℕ) → (a ≡ m → b ≡ n → ⊥) → (eqb a m && eqb b n) ≡ false
not_both a b m n h = grind (arith, nat_tests)

not_zero : (n : ℕ) → (n ≡ 0 → ⊥) → eqb n 0 ≡ false
not_zero n h = grind (arith, nat_tests)

pub opened : (depth i : ℕ) (s : List ℕ) → i + 1 < length s → get_or s i 0 ≡ 47 → get_or s (i + 1) 0 ≡ 42
    → closed_from depth i s ≡ closed_from (depth + 1) (i + 2) s
opened depth i s h e f =
    ap (λ rest. option_map (λ n. n + i) (closed_after depth rest)) (both s i h)
    ∙ ap (λ o. option_map (λ n. n + i) o) (step_opens depth (get_or s i 0) (get_or s (i + 1) 0) (drop (i + 2) s) e f)
    ∙ two_more (closed_after (depth + 1) (drop (i + 2) s)) i 2

pub closed : (depth i : ℕ) (s : List ℕ) → i + 1 < length s → get_or s i 0 ≡ 42 → get_or s (i + 1) 0 ≡ 47 → (depth ≡ 0 → ⊥)
    → closed_from depth i s ≡ closed_from (depth - 1) (i + 2) s
closed depth i s h e f more =
    ap (λ rest. option_map (λ n. n + i) (closed_after depth rest)) (both s i h)
    ∙ ap (λ o. option_map (λ n. n + i) o)
    (step_closes depth (get_or s i 0) (get_or s (i + 1) 0) (drop (i + 2) s) e f (not_zero depth more))
    ∙ two_more (closed_after (depth - 1) (drop (i + 2) s)) i 2

pub finished : (i : ℕ) (s : List ℕ) → i + 1 < length s → get_or s i 0 ≡ 42 → get_or s (i + 1) 0 ≡ 47
    → closed_from 0 i s ≡ Some (i + 2)
finished i s h e f =
    let sum : 2 + i ≡ i + 2 = omega arith in
    ap (λ rest. option_map (λ n. n + i) (closed_after 0 rest)) (both s i h)
    ∙ ap (λ o. option_map (λ n. n + i) o) (step_last (get_or s i 0) (get_or s (i + 1) 0) (drop (i + 2) s) e f)
    ∙ ap (λ n. Some n) sum

pub gone_on : (depth i : ℕ) (s : List ℕ) → i + 1 < length s
    → (get_or s i 0 ≡ 47 → get_or s (i + 1) 0 ≡ 42 → ⊥) → (get_or s i 0 ≡ 42 → get_or s (i + 1) 0 ≡ 47 → ⊥)
    → closed_from depth i s ≡ closed_from depth (i + 1) s
gone_on depth i s h apart distinct =
    let a : ℕ = get_or s i 0 in
    let b : ℕ = get_or s (i + 1) 0 in
    let place : i + 1 + 1 ≡ i + 2 = omega arith in
    let next : b ∷ drop (i + 2) s ≡ drop (i + 1) s =
    ap (λ n. b ∷ drop n s) (sym place) ∙ sym (drop_more s (i + 1) 0 h) in
    ap (λ rest. option_map (λ n. n + i) (closed_after depth rest)) (both s i h)
    ∙ ap (λ o. option_map (λ n. n + i) o)
    (step_goes_on depth a b (drop (i + 2) s) (not_both a b 47 42 apart) (not_both a b 42 47 distinct))
    ∙ two_more (closed_after depth (b ∷ drop (i + 2) s)) i 1
    ∙ ap (λ rest. option_map (λ n. n + (i + 1)) (closed_after depth rest)) next

pub ended : (depth i : ℕ) (s : List ℕ) → length s ≤ i + 1 → closed_from depth i s ≡ None
ended depth i s h =
    let n = length-drop i s in
    let short : length (drop i s) ≤ 1 = omega arith in
    ap (λ o. option_map (λ n. n + i) o) (step_ends depth (drop i s) short)
