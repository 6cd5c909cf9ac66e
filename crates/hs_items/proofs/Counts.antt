-- Counts of items, and the rules that are broken where they are wrong.
use Rattle.std.proofs.Common.{ℕ, zero, suc, ◌+◌, ◌*◌, ◌≡◌, ◌≤◌, ◌<◌, ◌⊎◌, inl, inr, refl, sym, ◌∙◌, ap, Bool, true, false, cond, List, [], ◌∷◌, ◌++◌, Some, None, mul-zero, mul-suc, arith}
use Rattle.std.proofs.lemmas.Bool.{cases_lt}
use Rattle.std.proofs.lemmas.Bool.Decides.{nat_tests}
use Rattle.hs_base.specs.declared.rule.Rule.{Rule}
use Rattle.hs_syntax.specs.declared.span.Span.{Span}
use Rattle.hs_syntax.specs.Height.{capped}
use Rattle.hs_marks.specs.declared.breach.Breach.{Breach}
use Rattle.hs_marks.specs.First.{breach}
use Rattle.hs_items.specs.Rules.{wrong_count}
use Rattle.hs_items.proofs.Asking.{below_cap, above_cap, cap_mul}

twice : (i : ℕ) → capped (capped i) ≡ capped i
unfolding capped
twice i = omega arith

wrong_by : (n : ℕ) → (4294967295 < n) ⊎ (n ≤ 4294967295) → wrong_count (capped n) ≡ wrong_count n
wrong_by n (inl k) = let e : capped n ≡ 4294967295 = above_cap n (omega arith) in rw e (grind (arith, nat_tests))
wrong_by n (inr k) = ap wrong_count (below_cap n k)

-- too many items are too many however they are counted
pub wrong_is : (n : ℕ) → wrong_count (capped n) ≡ wrong_count n
wrong_is n = wrong_by n (cases_lt 4294967295 n)

pub wrong_product : (n i : ℕ) → wrong_count (n * capped i) ≡ wrong_count (n * i)
wrong_product n i =
    sym (wrong_is (n * capped i)) ∙ ap wrong_count (sym (cap_mul n (capped i)) ∙ ap (λ (k : ℕ). capped (capped n * k)) (twice i) ∙ cap_mul n i) ∙ wrong_is (n * i)

-- an array of so many has no more itself
pub count_bound : (n i : ℕ) → wrong_count (n * i) ≡ false → n ≤ 65536
count_bound n zero h = absurd (let e = mul-zero n in grind (arith, nat_tests))
count_bound n (suc i) h = let e = mul-suc n i in grind (arith, nat_tests)

-- ---- the first of rules

pub breach_behind : (s : Span) (xs ys : List Rule) → breach s xs ≡ None → breach s (xs ++ ys) ≡ breach s ys
breach_behind s [] ys h = refl
breach_behind s (x ∷ xs) ys h = cc

pub breach_before : (s : Span) (xs ys : List Rule) (b : Breach) → breach s xs ≡ Some b → breach s (xs ++ ys) ≡ Some b
breach_before s [] ys b h = cc
breach_before s (x ∷ xs) ys b h = h

pub kept : (s : Span) (rule : Rule) (b : Bool) → breach s (cond b (rule ∷ []) []) ≡ None → b ≡ false
kept s rule true h = cc
kept s rule false h = refl
