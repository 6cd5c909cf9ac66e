-- Rows of nodes that lie as those of an outline do, the rules of each in rising order.
use Rattle.std.proofs.Common.{ℕ, ◌+◌, ◌≤◌, Bool, true, false, Option, None, List, [], ◌∷◌, ◌++◌, map, arith}
use Rattle.hs_base.specs.declared.rule.Rule.{Rule}
use Rattle.hs_base.specs.declared.rule.Rule.TheVariants.{N8, N11}
use Rattle.hs_syntax.specs.declared.span.Span.{Span}
use Rattle.hs_marks.specs.Marked as marked
use Rattle.hs_marks.specs.Marked.{Marked}
use Rattle.hs_marks.specs.Told.{Lies, Rising, RisesFrom}
use Rattle.hs_limits.specs.Outline.{Outline, Node, Kind, Surplus, none, join, node, counted, one, all, numbered, chain}
use Rattle.hs_limits.specs.Outline as outline
use Rattle.hs_limits.specs.Nested.{Nested}
use Rattle.hs_items.specs.Nodes.{row}
use Rattle.hs_items.specs.Marks.{when}

pub record Good (o : Outline) (x : Marked) : Type 0 where
  pub rising : Rising x
  pub lies : (low high : ℕ) → Nested o low high → Lies x low high

-- ---- two places

pub wide : (x : Marked) (low high lower higher : ℕ) → lower ≤ low → high ≤ higher → Lies x low high → Lies x lower higher
wide marked.none low high lower higher l h p = omega (arith, l, h, p)
wide (marked.join a b) low high lower higher l h (q, r, s) = (q, wide a low q lower q l (omega arith) r, wide b q high q higher (omega arith) h s)
wide (marked.node at rules parts) low high lower higher l h (p, q, r, s) = (omega (arith, l, p), q, omega (arith, h, r), s)

wide_outline : (o : Outline) (low high lower higher : ℕ) → lower ≤ low → high ≤ higher → Nested o low high → Nested o lower higher
wide_outline none low high lower higher l h p = omega (arith, l, h, p)
wide_outline (join a b) low high lower higher l h (q, r, s) =
    (q, wide_outline a low q lower q l (omega arith) r, wide_outline b q high q higher (omega arith) h s)
wide_outline (node at kind over parts) low high lower higher l h (p, q, r, s) = (omega (arith, l, p), q, omega (arith, h, r), s)

ordered : (o : Outline) (low high : ℕ) → Nested o low high → low ≤ high
ordered none low high p = p
ordered (join a b) low high (q, r, s) = let i = ordered a low q r in let j = ordered b q high s in omega (arith, i, j)
ordered (node at kind over parts) low high (p, q, r, s) = omega (arith, p, q, r)

-- ---- rows

pub good_none : {o : Outline} → Good o marked.none
good_none {o} = record { rising = tt {0}; lies = λ low high n. ordered o low high n }

pub good_join : {a b : Outline} {x y : Marked} → Good a x → Good b y → Good (join a b) (marked.join x y)
good_join p q = record { rising = (p.rising, q.rising); lies = λ low high n. (n.0, p.lies low n.0 n.1, q.lies n.0 high n.2) }

pub good_left : {a b : Outline} {x : Marked} → Good a x → Good (join a b) x
good_left {a} {b} {x} p =
    record { rising = p.rising; lies = λ low high n. let h = ordered b n.0 high n.2 in wide x low n.0 low high (omega arith) h (p.lies low n.0 n.1) }

pub good_right : {a b : Outline} {x : Marked} → Good b x → Good (join a b) x
good_right {a} {b} {x} p =
    record { rising = p.rising; lies = λ low high n. let l = ordered a low n.0 n.1 in wide x n.0 high low high l (omega arith) (p.lies n.0 high n.2) }

-- ---- nodes

pub good_node : {s : Span} {kind : Kind} {over : Option Surplus} {parts : Outline} {rules : List Rule} {x : Marked} → RisesFrom 0 rules → Good parts x
    → Good (node s kind over parts) (marked.node s rules x)
good_node {s} r p = record { rising = (r, p.rising); lies = λ low high n. (n.0, n.1, n.2, p.lies s.start s.end n.3) }

pub good_inside : {s : Span} {kind : Kind} {over : Option Surplus} {parts : Outline} {x : Marked} → Good parts x → Good (node s kind over parts) x
good_inside {s} {x = x} p =
    record { rising = p.rising; lies = λ low high n. wide x s.start s.end low high n.0 n.2 (p.lies s.start s.end n.3) }

-- it is of no matter what a node is one too many of
pub good_over : {s : Span} {kind : Kind} {over more : Option Surplus} {parts : Outline} {x : Marked} → Good (node s kind over parts) x → Good (node s kind more parts) x
good_over p = record { rising = p.rising; lies = λ low high n. p.lies low high n }

-- ---- chains

chained : (start : ℕ) (o : Outline) (ns : List Node) (low high : ℕ) → Nested (chain start o ns) low high → Nested (join o (all ns)) low high
chained start o [] low high n = (high, n, omega arith)
chained start o (x ∷ ns) low high n =
    let i = chained start (node (record { start = start; end = x.at.end }) counted None (join o (one x))) ns low high n in (
      i.1.3.0,
      wide_outline o start i.1.3.0 low i.1.3.0 i.1.0 (omega arith) i.1.3.1,
      (i.0, wide_outline (one x) i.1.3.0 x.at.end i.1.3.0 i.0 (omega arith) i.1.2 i.1.3.2, i.2),
    )

-- what is added one by one behind a node stands in a row
pub good_chain : (start : ℕ) (o : Outline) (ns : List Node) {x : Marked} → Good (join o (all ns)) x → Good (chain start o ns) x
good_chain start o ns p = record { rising = p.rising; lies = λ low high n. p.lies low high (chained start o ns low high n) }

-- ---- rules

pub one_rises : (b : Bool) (rule : Rule) → RisesFrom 0 (when b rule)
one_rises true rule = (omega arith, tt {0})
one_rises false rule = tt {0}

pub array_rises : (b c : Bool) → RisesFrom 0 (when b N8 ++ when c N11)
array_rises true true = (omega arith, (omega arith, tt {0}))
array_rises true false = (omega arith, tt {0})
array_rises false true = (omega arith, tt {0})
array_rises false false = tt {0}

-- ---- rows of which it holds of each, or of all

abbrev pub Fits : Node → Marked → Type 0
Fits n x = Good (one n) x

module _ (C : Type 0) (f : C → Node) (g : C → Marked) where
  abbrev pub EachFits : Type 0
  EachFits = (x : C) × Fits (f x) (g x)

  pub all_fit : (xs : List EachFits) → Good (outline.all (map f (map (λ x. x.0) xs))) (row (map g (map (λ x. x.0) xs)))
  all_fit [] = good_none
  all_fit (x ∷ xs) = good_join x.1 (all_fit xs)

  pub numbered_fit : (limit : ℕ) (what : Surplus) (i : ℕ) (xs : List EachFits) → Good (numbered limit what i (map f (map (λ x. x.0) xs))) (row (map g (map (λ x. x.0) xs)))
  numbered_fit limit what i [] = good_none
  numbered_fit limit what i (x ∷ xs) = good_join (good_over x.1) (numbered_fit limit what (i + 1) xs)

  pub numbered_fits : ((x : C) → Fits (f x) (g x)) → (limit : ℕ) (what : Surplus) (i : ℕ) (xs : List C) → Good (numbered limit what i (map f xs)) (row (map g xs))
  numbered_fits h limit what i [] = good_none
  numbered_fits h limit what i (x ∷ xs) = good_join (good_over (h x)) (numbered_fits h limit what (i + 1) xs)
