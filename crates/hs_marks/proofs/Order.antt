-- What is broken is listed in the order in which it is told, where nodes lie one behind the other and parts in their nodes.
use Rattle.std.proofs.Common.{ℕ, suc, ◌≡◌, ◌<◌, ◌≤◌, ◌⊎◌, inl, inr, refl, sym, ◌∙◌, ap, ap₂, subst, Option, Some, None, List, [], ◌∷◌, ◌++◌, map, arith}
use Rattle.std.proofs.Math.Nat.{eq-or-lt_of_le}
use Rattle.hs_base.specs.declared.rule.Rule.{Rule}
use Rattle.hs_base.specs.Rules.{number_of}
use Rattle.hs_syntax.specs.declared.span.Span.{Span}
use Rattle.hs_marks.specs.declared.breach.Breach.{Breach}
use Rattle.hs_marks.specs.First.{first}
use Rattle.hs_marks.specs.Marked.{Marked, Mark, none, join, node, mark, marks}
use Rattle.hs_marks.specs.Told.{Before, Among, Each, Told, Answers, Lies, Rising, RisesFrom}
use Rattle.hs_marks.proofs.First.{head_of, first_is}

-- m is told before n, and is not n
abbrev Ahead : Mark → Mark → Type 0
Ahead m n = (m.at.end < n.at.end) ⊎ ((m.at.end ≡ n.at.end) × ((n.depth < m.depth) ⊎ ((m.depth ≡ n.depth) × (number_of m.rule < number_of n.rule))))

ahead_before : (m n : Mark) → Ahead m n → Before m n
ahead_before m n (inl h) = inl h
ahead_before m n (inr (e, inl h)) = inr (e, inl h)
ahead_before m n (inr (e, inr (d, h))) = inr (e, inr (d, omega arith))

not_before : (m n : Mark) → Ahead m n → Before n m → ⊥
not_before m n (inl h) (inl k) = omega arith
not_before m n (inl h) (inr (f, k)) = omega arith
not_before m n (inr (e, h)) (inl k) = omega arith
not_before m n (inr (e, inl h)) (inr (f, inl k)) = omega arith
not_before m n (inr (e, inl h)) (inr (f, inr (d, k))) = omega arith
not_before m n (inr (e, inr (d, h))) (inr (f, inl k)) = omega arith
not_before m n (inr (e, inr (d, h))) (inr (f, inr (g, k))) = omega arith

-- each is told before all that follow
abbrev Sorted : List Mark → Type 0
Sorted [] = Unit {0}
Sorted (m ∷ ms) = Each (Ahead m) ms × Sorted ms

abbrev Within : ℕ → ℕ → ℕ → Mark → Type 0
Within low high depth m = (low < m.at.end) × (m.at.end ≤ high) × (depth ≤ m.depth)

-- in order, with ends between the two places, in so many nodes at least
abbrev In : ℕ → ℕ → ℕ → List Mark → Type 0
In low high depth ms = Each (Within low high depth) ms × Sorted ms

each_map : (P Q : Mark → Type 0) → ((m : Mark) → P m → Q m) → (ms : List Mark) → Each P ms → Each Q ms
each_map P Q f [] h = tt {0}
each_map P Q f (m ∷ ms) h = (f m h.0, each_map P Q f ms h.1)

each_append : (P : Mark → Type 0) (xs ys : List Mark) → Each P xs → Each P ys → Each P (xs ++ ys)
each_append P [] ys h k = k
each_append P (x ∷ xs) ys h k = (h.0, each_append P xs ys h.1 k)

sorted_append : (P Q : Mark → Type 0) → ((m n : Mark) → P m → Q n → Ahead m n) → (xs ys : List Mark) → Each P xs → Each Q ys → Sorted xs → Sorted ys → Sorted (xs ++ ys)
sorted_append P Q f [] ys h k a b = b
sorted_append P Q f (x ∷ xs) ys h k a b =
    (each_append (Ahead x) xs ys a.0 (each_map Q (Ahead x) (λ n q. f x n h.0 q) ys k), sorted_append P Q f xs ys h.1 k a.1 b)

lies_ordered : (m : Marked) (low high : ℕ) → Lies m low high → low ≤ high
lies_ordered none low high h = h
lies_ordered (join a b) low high h = let i = lies_ordered a low h.0 h.1 in let j = lies_ordered b h.0 high h.2 in omega (arith, i, j)
lies_ordered (node at rules parts) low high h = omega (arith, h.0, h.1, h.2)

in_append : (low middle high depth : ℕ) (xs ys : List Mark) → low ≤ middle → middle ≤ high → In low middle depth xs → In middle high depth ys → In low high depth (xs ++ ys)
in_append low middle high depth xs ys p r h k = (
  each_append (Within low high depth) xs ys
      (each_map (Within low middle depth) (Within low high depth) (λ m q. (q.0, omega (arith, q.1, r), q.2)) xs h.0)
      (each_map (Within middle high depth) (Within low high depth) (λ m q. (omega (arith, q.0, p), q.1, q.2)) ys k.0),
  sorted_append (Within low middle depth) (Within middle high depth) (λ m n a b. inl (omega (arith, a.1, b.0))) xs ys h.0 k.0 h.1 k.1,
)

-- the rules of one node
abbrev Own : Span → ℕ → Mark → Type 0
Own at depth m = (m.at.end ≡ at.end) × (m.depth ≡ depth)

own_each : (at : Span) (depth : ℕ) (rules : List Rule) → Each (Own at depth) (map (mark at depth) rules)
own_each at depth [] = tt {0}
own_each at depth (r ∷ rs) = ((refl, refl), own_each at depth rs)

own_ahead : (at : Span) (depth low : ℕ) (r : Rule) (rs : List Rule) → number_of r < low → RisesFrom low rs → Each (Ahead (mark at depth r)) (map (mark at depth) rs)
own_ahead at depth low r [] l h = tt {0}
own_ahead at depth low r (q ∷ qs) l h =
    (inr (refl, inr (refl, omega (arith, l, h.0))), own_ahead at depth (suc (number_of q)) r qs (omega (arith, l, h.0)) h.1)

own_sorted : (at : Span) (depth low : ℕ) (rules : List Rule) → RisesFrom low rules → Sorted (map (mark at depth) rules)
own_sorted at depth low [] h = tt {0}
own_sorted at depth low (r ∷ rs) h =
    (own_ahead at depth (suc (number_of r)) r rs (omega arith) h.1, own_sorted at depth (suc (number_of r)) rs h.1)

ahead_own : (at : Span) (depth : ℕ) (m n : Mark) → m.at.end ≤ at.end → suc depth ≤ m.depth → Own at depth n → (m.at.end ≡ at.end) ⊎ (m.at.end < at.end) → Ahead m n
ahead_own at depth m n a b p (inl h) = inr (h ∙ sym p.0, inl (omega (arith, b, p.1)))
ahead_own at depth m n a b p (inr h) = inl (omega (arith, h, p.0))

in_node : (at : Span) (depth low high : ℕ) (rules : List Rule) (ms : List Mark) → low ≤ at.start → at.start < at.end → at.end ≤ high
    → In at.start at.end (suc depth) ms → Sorted (map (mark at depth) rules) → In low high depth (ms ++ map (mark at depth) rules)
in_node at depth low high rules ms p q r h k = (
  each_append (Within low high depth) ms (map (mark at depth) rules)
      (each_map (Within at.start at.end (suc depth)) (Within low high depth) (λ m w. (omega (arith, w.0, p), omega (arith, w.1, r), omega (arith, w.2))) ms h.0)
      (each_map (Own at depth) (Within low high depth) (λ m w. (omega (arith, w.0, p, q), omega (arith, w.0, r), omega (arith, w.1))) (map (mark at depth) rules) (own_each at depth rules)),
  sorted_append (Within at.start at.end (suc depth)) (Own at depth) (λ m n a b. ahead_own at depth m n a.1 a.2 b (eq-or-lt_of_le a.1))
      ms (map (mark at depth) rules) h.0 (own_each at depth rules) h.1 k,
)

in_order : (m : Marked) (depth low high : ℕ) → Lies m low high → Rising m → In low high depth (marks m depth)
in_order none depth low high h k = (tt {0}, tt {0})
in_order (join a b) depth low high h k =
    in_append low h.0 high depth (marks a depth) (marks b depth) (lies_ordered a low h.0 h.1) (lies_ordered b h.0 high h.2)
    (in_order a depth low h.0 h.1 k.0) (in_order b depth h.0 high h.2 k.1)
in_order (node at rules parts) depth low high h k =
    in_node at depth low high rules (marks parts (suc depth)) h.0 h.1 h.2 (in_order parts (suc depth) at.start at.end h.3 k.1) (own_sorted at depth 0 rules k.0)

head_told : (ms : List Mark) → Sorted ms → Answers ms (head_of ms)
head_told [] h = refl
head_told (m ∷ ms) h = (m, inl refl, (inr (refl, inr (refl, omega arith)), each_map (Ahead m) (Before m) (ahead_before m) ms h.0), refl, refl)

-- the first on a walk is the told one
pub told_first : (m : Marked) (low high : ℕ) → Lies m low high → Rising m → Answers (marks m 0) (first m)
told_first m low high h k = subst (Answers (marks m 0)) (sym (first_is m 0)) (head_told (marks m 0) (in_order m 0 low high h k).1)

each_among : (P : Mark → Type 0) (ms : List Mark) (m : Mark) → Each P ms → Among m ms → P m
each_among P [] m h a = absurd a
each_among P (n ∷ ns) m h (inl e) = subst P (sym e) h.0
each_among P (n ∷ ns) m h (inr a) = each_among P ns m h.1 a

abbrev some_breach : Rule → Span → Option Breach
some_breach rule at = Some (record { rule = rule; span = at })

-- what is told before all of them is their first
among_first : (n : Mark) (ns : List Mark) → Each (Ahead n) ns → (b : Breach) (m : Mark) → (m ≡ n) ⊎ Among m ns → Before m n
    → b.rule ≡ m.rule → b.span ≡ m.at → head_of (n ∷ ns) ≡ Some b
among_first n ns h b m (inl e) i r s =
    ap₂ some_breach (ap (λ (x : Mark). x.rule) (sym e) ∙ sym r) (ap (λ (x : Mark). x.at) (sym e) ∙ sym s)
among_first n ns h b m (inr a) i r s = absurd (not_before n m (each_among (Ahead n) ns m h a) i)

head_only : (ms : List Mark) → Sorted ms → (b : Breach) → Told ms b → head_of ms ≡ Some b
head_only [] h b t = absurd t.1
head_only (n ∷ ns) h b t = among_first n ns h.0 b t.0 t.1 t.2.0 t.3 t.4

-- and only that one is
pub only_first : (m : Marked) (low high : ℕ) → Lies m low high → Rising m → (b : Breach) → Told (marks m 0) b → first m ≡ Some b
only_first m low high h k b t = first_is m 0 ∙ head_only (marks m 0) (in_order m 0 low high h k).1 b t

some_told : (ms : List Mark) → Sorted ms → (ms ≡ [] → ⊥) → (b : Breach) × Told ms b
some_told [] h n = absurd (n refl)
some_told (m ∷ ms) h n = (record { rule = m.rule; span = m.at }, head_told (m ∷ ms) h)

-- where anything is broken, one is told
pub one_told : (m : Marked) (low high : ℕ) → Lies m low high → Rising m → (marks m 0 ≡ [] → ⊥) → (b : Breach) × Told (marks m 0) b
one_told m low high h k n = some_told (marks m 0) (in_order m 0 low high h k).1 n

abbrev breach_or : Breach → Option Breach → Breach
breach_or other None = other
breach_or other (Some b) = b

-- and at most one is
pub alone_told : (m : Marked) (low high : ℕ) → Lies m low high → Rising m → (b c : Breach) → Told (marks m 0) b → Told (marks m 0) c → b ≡ c
alone_told m low high h k b c t u = ap (breach_or b) (sym (only_first m low high h k b t) ∙ only_first m low high h k c u)
