-- Rows of nodes that lie between two places.
use Rattle.std.proofs.Common.{◌≡◌, ℕ, ◌≤◌, ◌+◌, arith, None, List, [], ◌∷◌, sym, ap, subst}
use Rattle.hs_syntax.specs.declared.span.Span.{Span}
use Rattle.hs_limits.specs.Outline.{Outline, Node, Kind, Surplus, none, join, node, counted, one, all, numbered, upto, chain}
use Rattle.hs_limits.specs.Nodes.{name}
use Rattle.hs_limits.specs.Nested.{Nested}

-- ---- the two places

pub wide : (o : Outline) (low high lower higher : ℕ) → lower ≤ low → high ≤ higher → Nested o low high → Nested o lower higher
wide none low high lower higher l h p = omega (arith, l, h, p)
wide (join a b) low high lower higher l h (m, p, q) =
    (m, wide a low m lower m l (omega arith) p, wide b m high m higher (omega arith) h q)
wide (node at kind over parts) low high lower higher l h (p, q, r, s) = (omega (arith, l, p), q, omega (arith, h, r), s)

pub before : (o : Outline) (low high lower : ℕ) → lower ≤ low → Nested o low high → Nested o lower high
before o low high lower l p = wide o low high lower high l (omega arith) p

pub beyond : (o : Outline) (low high higher : ℕ) → high ≤ higher → Nested o low high → Nested o low higher
beyond o low high higher h p = wide o low high low higher (omega arith) h p

pub ordered : (o : Outline) (low high : ℕ) → Nested o low high → low ≤ high
ordered none low high p = p
ordered (join a b) low high (m, p, q) = let i = ordered a low m p in let j = ordered b m high q in omega (arith, i, j)
ordered (node at kind over parts) low high (p, q, r, s) = omega (arith, p, q, r)

-- ---- a node around others

-- a node that begins where its first part does
pub begun : (s : Span) (kind : Kind) (first : Node) (rest : Outline) (low middle high : ℕ) → s.start ≡ first.at.start → Nested (one first) low middle → Nested rest middle s.end → s.end ≤ high
    → Nested (node s kind None (join (one first) rest)) low high
begun s kind first rest low middle high e (p, q, r, t) n h =
    let o = ordered rest middle s.end n in
    (omega (arith, e, p), omega (arith, e, q, r, o), h, (middle, (omega (arith, e), q, r, t), n))

-- a node that begins with a token, behind which its parts stand
pub opened : (s : Span) (kind : Kind) (first : Span) (parts : Outline) (low middle high : ℕ) → s.start ≡ first.start → Nested (name first) low middle → Nested parts middle s.end → s.end ≤ high
    → Nested (node s kind None parts) low high
opened s kind first parts low middle high e (p, q, r, t) n h =
    let o = ordered parts middle s.end n in
    (omega (arith, e, p), omega (arith, e, q, r, o), h, before parts middle s.end s.start (omega (arith, e, q, r)) n)

-- a node around one that begins where it does
pub held : (s : Span) (kind : Kind) (first : Node) (low middle high : ℕ) → s.start ≡ first.at.start → Nested (one first) low middle → middle ≤ s.end → s.end ≤ high → Nested (node s kind None (one first)) low high
held s kind first low middle high e (p, q, r, t) n h = (omega (arith, e, p), omega (arith, e, q, r, n), h, (omega (arith, e), q, omega (arith, r, n), t))

-- a node around one with the same bytes
pub around : (s : Span) (kind : Kind) (n : Node) (low high : ℕ) → n.at ≡ s → Nested (one n) low high → Nested (node s kind None (one n)) low high
around s kind n low high e (p, q, r, t) = subst (λ (s : Span). Nested (node s kind None (one n)) low high) e (p, q, r, (omega arith, q, omega arith, t))

-- a node lies before the place where it ends
pub until : (n : Node) (s : Span) (low high : ℕ) → n.at ≡ s → Nested (one n) low high → Nested (one n) low s.end × (s.end ≤ high)
until n s low high e (p, q, r, t) = subst (λ (s : Span). Nested (one n) low s.end × (s.end ≤ high)) e ((p, q, omega arith, t), r)

-- where a node begins
pub start_of : (n : Node) (s : Span) → n.at ≡ s → s.start ≡ n.at.start
start_of n s e = sym (ap (λ (s : Span). s.start) e)

-- ---- nodes in a row

pub numbered_nested : (limit : ℕ) (what : Surplus) (i : ℕ) (ns : List Node) (low high : ℕ) → Nested (all ns) low high → Nested (numbered limit what i ns) low high
numbered_nested limit what i [] low high p = p
numbered_nested limit what i (n ∷ ns) low high (m, p, q) = (m, p, numbered_nested limit what (i + 1) ns m high q)

pub upto_nested : (limit : ℕ) (what : Surplus) (ns : List Node) (low high : ℕ) → Nested (all ns) low high → Nested (upto limit what ns) low high
upto_nested limit what ns low high p = numbered_nested limit what 0 ns low high p

-- the place where the last of these nodes ends, or another where there are none
abbrev pub end_of : ℕ → List Node → ℕ
end_of end [] = end
end_of end (n ∷ ns) = end_of n.at.end ns

-- nodes lie before the place where the last ends
pub until_end : (ns : List Node) (low high : ℕ) → Nested (all ns) low high → Nested (all ns) low (end_of low ns) × (end_of low ns ≤ high)
until_end [] low high p = (omega arith, p)
until_end (n ∷ ns) low high (m, (p, q, r, s), t) =
    let i = until_end ns n.at.end high (before (all ns) m high n.at.end r t) in
    ((n.at.end, (p, q, omega arith, s), i.0), i.1)

-- what groups to the left
pub chain_nested : (start : ℕ) (o : Outline) (ns : List Node) (low end high : ℕ) → low ≤ start → Nested o start end → Nested (all ns) end high → Nested (chain start o ns) low high
chain_nested start o [] low end high l p q = wide o start end low high l q p
chain_nested start o (n ∷ ns) low end high l p (m, (a, b, c, d), q) =
    let i = ordered o start end p in
    chain_nested start (node (record { start = start; end = n.at.end }) counted None (join o (one n))) ns low m high l
    (omega arith, omega (arith, a, b, i), c, (end, p, (a, b, omega arith, d))) q

-- and back
pub chained_nested : (start : ℕ) (o : Outline) (ns : List Node) (low high : ℕ) → Nested (chain start o ns) low high → (m : ℕ) × Nested o low m × Nested (all ns) m high
chained_nested start o [] low high p = (high, p, omega arith)
chained_nested start o (n ∷ ns) low high p =
    let i = chained_nested start (node (record { start = start; end = n.at.end }) counted None (join o (one n))) ns low high p in
    let h : Nested (node (record { start = start; end = n.at.end }) counted None (join o (one n))) low i.0 = i.1 in
    let q : (m : ℕ) × Nested o start m × Nested (one n) m n.at.end = h.3 in
    (q.0, before o start q.0 low h.0 q.1, (i.0, beyond (one n) q.0 n.at.end i.0 h.2 q.2, i.2))

-- nodes behind a first one that group to the left, to the place where the last ends
pub grouped_left : (s : Span) (kind : Kind) (first n : Node) (ns : List Node) (low middle high : ℕ) → s.start ≡ first.at.start → s.end ≡ end_of n.at.end ns → Nested (one first) low middle → Nested (all (n ∷ ns)) middle high
    → Nested (node s kind None (chain s.start (one first) (n ∷ ns))) low high
grouped_left s kind first n ns low middle high e i (p, q, r, t) rest =
    let u = until_end (n ∷ ns) middle high rest in
    let o = ordered (all (n ∷ ns)) middle (end_of n.at.end ns) u.0 in
    let h : end_of n.at.end ns ≤ high = u.1 in (
      omega (arith, e, p),
      omega (arith, e, i, q, r, o),
      omega (arith, i, h),
      chain_nested s.start (one first) (n ∷ ns) s.start middle s.end (omega arith) (omega (arith, e), q, r, t) (beyond (all (n ∷ ns)) middle (end_of n.at.end ns) s.end (omega (arith, i)) u.0),
    )
