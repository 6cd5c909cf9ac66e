-- What is asked of types by what is asked of their parts, as far as 32 bits hold it.
use Rattle.std.proofs.Common.{ℕ, zero, suc, ◌+◌, ◌*◌, ◌≡◌, ◌≤◌, ◌<◌, ◌⊎◌, inl, inr, refl, sym, ◌∙◌, ap, ap₂, max, Bool, true, false, ◌&&◌, List, [], ◌∷◌, map, arith}
use Rattle.std.specs.Prelude.{fold}
use Rattle.std.proofs.lemmas.Nat.{mul-le}
use Rattle.std.proofs.Math.Nat.{mul-zero, zero-mul}
use Rattle.std.proofs.lemmas.Bool.{cases_lt}
use Rattle.hs_syntax.specs.Height.{capped}
use Rattle.hs_items.specs.declared.facts.Facts.{Facts}
use Rattle.hs_items.specs.declared.shape.Shape.{Shape}
use Rattle.hs_items.specs.declared.shape.Shape.TheVariants as shape
use Rattle.hs_items.specs.Whole.{Whole, none, join, node, row, items, items_over, height, nodes, copied, has_zero, copied_over, zero_over, facts_of}
use Rattle.hs_items.specs.Walk.{limited, nothing, joined, over, items_limited, of_row}

-- ---- numbers as far as 32 bits hold them

cap_suc : (n : ℕ) → capped (suc (capped n)) ≡ capped (suc n)
unfolding capped
cap_suc n = omega arith

cap_add : (a b : ℕ) → capped (capped a + capped b) ≡ capped (a + b)
unfolding capped
cap_add a b = omega arith

cap_max : (a b : ℕ) → max (capped a) (capped b) ≡ capped (max a b)
unfolding capped
cap_max a b = omega arith

pub below_cap : (n : ℕ) → n ≤ 4294967295 → capped n ≡ n
unfolding capped
below_cap n h = omega arith

pub above_cap : (n : ℕ) → 4294967295 ≤ n → capped n ≡ 4294967295
unfolding capped
above_cap n h = omega arith

some_left : (i : ℕ) → 1 ≤ capped (suc i)
unfolding capped
some_left i = omega arith

-- a product of which one factor is past the cap, and the other is not 0
much : (a b : ℕ) → 4294967295 ≤ a → 1 ≤ b → capped (a * b) ≡ 4294967295
much a b h k = above_cap (a * b) (let m : 4294967295 * 1 ≤ a * b = mul-le 4294967295 1 a b h k in m)

much_right : (a b : ℕ) → 1 ≤ a → 4294967295 ≤ b → capped (a * b) ≡ 4294967295
much_right a b h k = above_cap (a * b) (let m : 1 * 4294967295 ≤ a * b = mul-le 1 4294967295 a b h k in m)

mul_left : (n i : ℕ) → 4294967295 < n → capped (capped n * capped i) ≡ capped (n * i)
mul_left n zero h = rw (below_cap zero (omega arith), mul-zero, mul-zero) refl
mul_left n (suc i) h =
    let first : 4294967295 ≤ capped n = rw (above_cap n (omega arith)) (omega arith) in
    much (capped n) (capped (suc i)) first (some_left i) ∙ sym (much n (suc i) (omega arith) (omega arith))

mul_right : (n i : ℕ) → 4294967295 < i → capped (capped n * capped i) ≡ capped (n * i)
mul_right zero i h = rw (below_cap zero (omega arith), zero-mul, zero-mul) refl
mul_right (suc n) i h =
    let second : 4294967295 ≤ capped i = rw (above_cap i (omega arith)) (omega arith) in
    much_right (capped (suc n)) (capped i) (some_left n) second ∙ sym (much_right (suc n) i (omega arith) (omega arith))

cap_mul_by : (n i : ℕ) → (4294967295 < n) ⊎ (n ≤ 4294967295) → (4294967295 < i) ⊎ (i ≤ 4294967295) → capped (capped n * capped i) ≡ capped (n * i)
cap_mul_by n i (inl h) k = mul_left n i h
cap_mul_by n i (inr h) (inl k) = mul_right n i k
cap_mul_by n i (inr h) (inr k) = ap₂ (λ a b. capped (a * b)) (below_cap n h) (below_cap i k)

pub cap_mul : (n i : ℕ) → capped (capped n * capped i) ≡ capped (n * i)
cap_mul n i = cap_mul_by n i (cases_lt 4294967295 n) (cases_lt 4294967295 i)

-- ---- facts

same_facts : (h h' n n' i i' : ℕ) (c c' z z' : Bool) → h ≡ h' → n ≡ n' → i ≡ i' → c ≡ c' → z ≡ z' → (f g : Facts) → f ≡ record { height = h; nodes = n; items = i; copied = c; has_zero = z } → g ≡ record { height = h'; nodes = n'; items = i'; copied = c'; has_zero = z' } → f ≡ g
same_facts h h' n n' i i' c c' z z' p q r s t f g u v = cc

and_assoc : (a b c : Bool) → ((a && b) && c) ≡ (a && (b && c))
and_assoc true b c = refl
and_assoc false b c = refl

and_true : (a : Bool) → (a && true) ≡ a
and_true true = refl
and_true false = refl

-- of the types of two rows
pub joined_is : (v w : Whole) → joined (limited (facts_of v)) (limited (facts_of w)) ≡ limited (facts_of (join v w))
unfolding joined
joined_is v w =
    same_facts (max (capped (height v)) (capped (height w))) (capped (max (height v) (height w))) (capped (capped (nodes v) + capped (nodes w))) (capped (nodes v + nodes w))
    (capped (capped (items v) + capped (items w))) (capped (items v + items w)) (copied v && copied w) (copied v && copied w) (has_zero v && has_zero w) (has_zero v && has_zero w)
    (cap_max (height v) (height w)) (cap_add (nodes v) (nodes w)) (cap_add (items v) (items w)) refl refl _ _ refl refl

pub items_is : (s : Shape) (i : ℕ) → items_limited s (capped i) ≡ capped (items_over s i)
unfolding capped
items_is (shape.Array n) i = cap_mul n i
items_is shape.Tuple i = refl
items_is shape.Single i = refl
items_is shape.Sequence i = refl
items_is shape.Choice i = refl
items_is (shape.Declared d) i = refl

-- of a type over the types of a row
pub over_is : (s : Shape) (w : Whole) → over s (limited (facts_of w)) ≡ limited (facts_of (node s w))
unfolding over
over_is s w =
    same_facts (capped (suc (capped (height w)))) (capped (suc (height w))) (capped (suc (capped (nodes w)))) (capped (suc (nodes w)))
    (items_limited s (capped (items w))) (capped (items_over s (items w))) (copied_over s (copied w)) (copied_over s (copied w)) (zero_over s (has_zero w)) (zero_over s (has_zero w))
    (cap_suc (height w)) (cap_suc (nodes w)) (items_is s (items w)) refl refl _ _ refl refl

join_assoc : (u v w : Whole) → facts_of (join (join u v) w) ≡ facts_of (join u (join v w))
join_assoc u v w =
    same_facts (max (max (height u) (height v)) (height w)) (max (height u) (max (height v) (height w))) ((nodes u + nodes v) + nodes w) (nodes u + (nodes v + nodes w))
    ((items u + items v) + items w) (items u + (items v + items w)) ((copied u && copied v) && copied w) (copied u && (copied v && copied w))
    ((has_zero u && has_zero v) && has_zero w) (has_zero u && (has_zero v && has_zero w))
    (omega arith) (omega arith) (omega arith) (and_assoc (copied u) (copied v) (copied w)) (and_assoc (has_zero u) (has_zero v) (has_zero w)) _ _ refl refl

pub join_none : (v : Whole) → facts_of (join v none) ≡ facts_of v
join_none v =
    same_facts (max (height v) 0) (height v) (nodes v + 0) (nodes v) (items v + 0) (items v) (copied v && true) (copied v) (has_zero v && true) (has_zero v)
    (omega arith) (omega arith) (omega arith) (and_true (copied v)) (and_true (has_zero v)) _ _ refl refl

none_join : (v : Whole) → facts_of (join none v) ≡ facts_of v
none_join v =
    same_facts (max 0 (height v)) (height v) (0 + nodes v) (nodes v) (0 + items v) (items v) (true && copied v) (copied v) (true && has_zero v) (has_zero v)
    (omega arith) (omega arith) (omega arith) refl refl _ _ refl refl

pub nothing_is : nothing ≡ limited (facts_of none)
unfolding capped
nothing_is = refl

rows_join : (v : Whole) (ws : List Whole) → fold joined (limited (facts_of v)) (map (λ w. limited (facts_of w)) ws) ≡ limited (facts_of (join v (row ws)))
rows_join v [] = ap limited (sym (join_none v))
rows_join v (w ∷ ws) =
    ap (λ f. fold joined f (map (λ u. limited (facts_of u)) ws)) (joined_is v w) ∙ rows_join (join v w) ws ∙ ap limited (join_assoc v w (row ws))

-- of the types of a row
pub of_row_is : (ws : List Whole) → of_row (map (λ w. limited (facts_of w)) ws) ≡ limited (facts_of (row ws))
of_row_is ws = ap (λ f. fold joined f (map (λ u. limited (facts_of u)) ws)) nothing_is ∙ rows_join none ws ∙ ap limited (none_join (row ws))
