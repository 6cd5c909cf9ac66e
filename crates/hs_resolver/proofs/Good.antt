-- Rows of nodes that lie as those of an outline do, the rules of each in rising order, and what is known behind them.
use Rattle.std.proofs.Common.{ℕ, ◌≤◌, Bool, true, false, Option, None, List, [], ◌∷◌, ◌++◌, arith}
use Rattle.hs_base.specs.declared.rule.Rule.{Rule}
use Rattle.hs_base.specs.declared.rule.Rule.TheVariants.{S5, N6}
use Rattle.hs_syntax.specs.declared.span.Span.{Span}
use Rattle.hs_marks.specs.Marked as marked
use Rattle.hs_marks.specs.Marked.{Marked}
use Rattle.hs_marks.specs.Told.{Lies, Rising, RisesFrom}
use Rattle.hs_limits.specs.Outline.{Outline, Node, Kind, Surplus, none, join, node, counted, one, all, chain}
use Rattle.hs_limits.specs.Nodes.{name}
use Rattle.hs_limits.specs.Nested.{Nested}
use Rattle.hs_symbols.specs.declared.referent.Referent.{Referent}
use Rattle.hs_resolver.specs.declared.known.Known.{Known}
use Rattle.hs_resolver.specs.Parts.{when, used, meaning, placed, exited}
use Rattle.hs_resolver.proofs.Kept.{Kept, kept_wide, kept_means, kept_placed, kept_bound}

-- nodes, with what is known before and behind them: in the order of the text it stays as the outline's nodes are
pub record Good (o : Outline) (x : Marked) (k m : Known) : Type 0 where
  pub rising : Rising x
  pub lies : (low high : ℕ) → Nested o low high → Lies x low high
  pub grows : (low high : ℕ) → Nested o low high → Kept low k → Kept high m

-- ---- two places

pub wide : (x : Marked) (low high lower higher : ℕ) → lower ≤ low → high ≤ higher → Lies x low high → Lies x lower higher
wide marked.none low high lower higher l h p = omega (arith, l, h, p)
wide (marked.join a b) low high lower higher l h (q, r, s) = (q, wide a low q lower q l (omega arith) r, wide b q high q higher (omega arith) h s)
wide (marked.node at rules parts) low high lower higher l h (p, q, r, s) = (omega (arith, l, p), q, omega (arith, h, r), s)

wide_outline : (o : Outline) (low high lower higher : ℕ) → lower ≤ low → high ≤ higher → Nested o low high → Nested o lower higher
wide_outline none low high lower higher l h p = omega (arith, l, h, p)
wide_outline (join a b) low high lower higher l h (q, r, s) =
    (q, wide_outline a low q lower q l (omega arith) r, wide_outline b q high q higher (omega arith) h s)
wide_outline (node at kind over parts) low high lower higher l h (p, q, r, s) = (omega (arith, l, p), q, omega (arith, h, r), s)

ordered : (o : Outline) (low high : ℕ) → Nested o low high → low ≤ high
ordered none low high p = p
ordered (join a b) low high (q, r, s) = let i = ordered a low q r in let j = ordered b q high s in omega (arith, i, j)
ordered (node at kind over parts) low high (p, q, r, s) = omega (arith, p, q, r)

-- ---- rows

pub good_none : {o : Outline} {k : Known} → Good o marked.none k k
good_none {o} =
    record { rising = tt {0}; lies = λ low high n. ordered o low high n; grows = λ low high n r. kept_wide (ordered o low high n) r }

pub good_join : {a b : Outline} {x y : Marked} {k l m : Known} → Good a x k l → Good b y l m → Good (join a b) (marked.join x y) k m
good_join p q =
    record {
      rising = (p.rising, q.rising);
      lies = λ low high n. (n.0, p.lies low n.0 n.1, q.lies n.0 high n.2);
      grows = λ low high n r. q.grows n.0 high n.2 (p.grows low n.0 n.1 r);
    }

pub good_left : {a b : Outline} {x : Marked} {k m : Known} → Good a x k m → Good (join a b) x k m
good_left {a} {b} {x} p =
    record {
      rising = p.rising;
      lies = λ low high n. let h = ordered b n.0 high n.2 in wide x low n.0 low high (omega arith) h (p.lies low n.0 n.1);
      grows = λ low high n r. kept_wide (ordered b n.0 high n.2) (p.grows low n.0 n.1 r);
    }

pub good_right : {a b : Outline} {x : Marked} {k m : Known} → Good b x k m → Good (join a b) x k m
good_right {a} {b} {x} p =
    record {
      rising = p.rising;
      lies = λ low high n. let l = ordered a low n.0 n.1 in wide x n.0 high low high l (omega arith) (p.lies n.0 high n.2);
      grows = λ low high n r. p.grows n.0 high n.2 (kept_wide (ordered a low n.0 n.1) r);
    }

-- two parts of a node, and what stands behind it
pub good_apart : {s : Span} {kind : Kind} {over : Option Surplus} {a b c : Outline} {x y z : Marked} {k l l' m : Known} → Good a x k l → Good b y l l' → Good c z l' m
    → Good (join (node s kind over (join a b)) c) (marked.join x (marked.join y z)) k m
good_apart {s} {x = x} {y = y} p q r =
    record {
      rising = (p.rising, (q.rising, r.rising));
      lies = λ low high n. (
        n.1.3.0,
        wide x s.start n.1.3.0 low n.1.3.0 n.1.0 (omega arith) (p.lies s.start n.1.3.0 n.1.3.1),
        (n.0, wide y n.1.3.0 s.end n.1.3.0 n.0 (omega arith) n.1.2 (q.lies n.1.3.0 s.end n.1.3.2), r.lies n.0 high n.2),
      );
      grows = λ low high n g.
          r.grows n.0 high n.2 (kept_wide n.1.2 (q.grows n.1.3.0 s.end n.1.3.2 (p.grows s.start n.1.3.0 n.1.3.1 (kept_wide n.1.0 g))));
    }

-- ---- nodes

pub good_node : {s : Span} {kind : Kind} {over : Option Surplus} {parts : Outline} {rules : List Rule} {x : Marked} {k m : Known} → RisesFrom 0 rules → Good parts x k m
    → Good (node s kind over parts) (marked.node s rules x) k m
good_node {s} r p =
    record {
      rising = (r, p.rising);
      lies = λ low high n. (n.0, n.1, n.2, p.lies s.start s.end n.3);
      grows = λ low high n g. kept_wide n.2 (p.grows s.start s.end n.3 (kept_wide n.0 g));
    }

pub good_leaf : {s : Span} {kind : Kind} {over : Option Surplus} {parts : Outline} {rules : List Rule} {k : Known} → RisesFrom 0 rules
    → Good (node s kind over parts) (marked.node s rules marked.none) k k
good_leaf r = good_node r good_none

pub good_inside : {s : Span} {kind : Kind} {over : Option Surplus} {parts : Outline} {x : Marked} {k m : Known} → Good parts x k m → Good (node s kind over parts) x k m
good_inside {s} {x = x} p =
    record {
      rising = p.rising;
      lies = λ low high n. wide x s.start s.end low high n.0 n.2 (p.lies s.start s.end n.3);
      grows = λ low high n g. kept_wide n.2 (p.grows s.start s.end n.3 (kept_wide n.0 g));
    }

-- it is of no matter what a node is one too many of
pub good_over : {s : Span} {kind : Kind} {over more : Option Surplus} {parts : Outline} {x : Marked} {k m : Known} → Good (node s kind over parts) x k m
    → Good (node s kind more parts) x k m
good_over p = record { rising = p.rising; lies = λ low high n. p.lies low high n; grows = λ low high n r. p.grows low high n r }

-- an exit is no name and no place
pub good_exit : {o : Outline} {x : Marked} {k m : Known} (s : Span) → Good o x k m → Good o x k (exited s m)
good_exit s p = record { rising = p.rising; lies = p.lies; grows = λ low high n r. let g = p.grows low high n r in record { uses = g.uses; places = g.places } }

-- ---- names

-- a leaf whose name stands for something, or for nothing
pub good_known : {s : Span} {kind : Kind} {over : Option Surplus} {parts : Outline} {rules : List Rule} (to : Option Referent) {k : Known} → RisesFrom 0 rules
    → Good (node s kind over parts) (marked.node s rules marked.none) k (meaning s to k)
good_known {s} to r = record { rising = (r, tt {0}); lies = λ low high n. (n.0, n.1, n.2, omega (arith, n.1)); grows = λ low high n g. kept_means s to n.0 n.1 n.2 g }

-- a binding place whose name stands for its local
pub good_bound : {s : Span} {kind : Kind} {over : Option Surplus} {parts : Outline} {rules : List Rule} (to : Referent) {k : Known} → RisesFrom 0 rules
    → Good (node s kind over parts) (marked.node s rules marked.none) k (placed s (used s to k))
good_bound {s} to r = record { rising = (r, tt {0}); lies = λ low high n. (n.0, n.1, n.2, omega (arith, n.1)); grows = λ low high n g. kept_bound s to n.0 n.1 n.2 g }

-- a binding place without a name
pub good_place : {s : Span} {kind : Kind} {over : Option Surplus} {parts : Outline} {rules : List Rule} {k : Known} → RisesFrom 0 rules
    → Good (node s kind over parts) (marked.node s rules marked.none) k (placed s k)
good_place {s} r = record { rising = (r, tt {0}); lies = λ low high n. (n.0, n.1, n.2, omega (arith, n.1)); grows = λ low high n g. kept_placed s n.0 n.1 n.2 g }

-- a leaf of two names
pub good_path : {s t x : Span} {kind : Kind} {over : Option Surplus} {rules : List Rule} (first second : Option Referent) {k : Known} → RisesFrom 0 rules
    → Good (node s kind over (join (name t) (name x))) (marked.node s rules marked.none) k (meaning x second (meaning t first k))
good_path {s} {t} {x} first second r =
    record {
      rising = (r, tt {0});
      lies = λ low high n. (n.0, n.1, n.2, omega (arith, n.1));
      grows = λ low high n g.
          kept_wide n.2 (kept_means x second n.3.2.0 n.3.2.1 n.3.2.2 (kept_means t first n.3.1.0 n.3.1.1 n.3.1.2 (kept_wide n.0 g)));
    }

-- a name that no node is made of, before what stands behind it
pub good_behind : {n : Span} {b : Outline} {x : Marked} (to : Option Referent) {k m : Known} → Good b x (meaning n to k) m → Good (join (name n) b) x k m
good_behind {n} {b} {x} to p =
    record {
      rising = p.rising;
      lies = λ low high h. wide x h.0 high low high (omega (arith, h.1.0, h.1.1, h.1.2)) (omega arith) (p.lies h.0 high h.2);
      grows = λ low high h g. p.grows h.0 high h.2 (kept_means n to h.1.0 h.1.1 h.1.2 g);
    }

-- a leaf around two names, before what stands behind it
pub good_across : {t n : Span} {b : Outline} {rules : List Rule} {x : Marked} (first second : Option Referent) {k m : Known} → RisesFrom 0 rules
    → Good b x (meaning n second (meaning t first k)) m
    → Good (join (name t) (join (name n) b)) (marked.join (marked.node (record { start = t.start; end = n.end }) rules marked.none) x) k m
good_across {t} {n} first second r p =
    record {
      rising = ((r, tt {0}), p.rising);
      lies = λ low high n'.
          (n'.2.0, (n'.1.0, omega (arith, n'.1.1, n'.1.2, n'.2.1.0, n'.2.1.1), n'.2.1.2, omega (arith, n'.1.1, n'.1.2, n'.2.1.0, n'.2.1.1)), p.lies n'.2.0 high n'.2.2);
      grows = λ low high n' g.
          p.grows n'.2.0 high n'.2.2 (kept_means n second n'.2.1.0 n'.2.1.1 n'.2.1.2 (kept_means t first n'.1.0 n'.1.1 n'.1.2 g));
    }

-- ---- chains

chained : (start : ℕ) (o : Outline) (ns : List Node) (low high : ℕ) → Nested (chain start o ns) low high → Nested (join o (all ns)) low high
chained start o [] low high n = (high, n, omega arith)
chained start o (x ∷ ns) low high n =
    let i = chained start (node (record { start = start; end = x.at.end }) counted None (join o (one x))) ns low high n in (
      i.1.3.0,
      wide_outline o start i.1.3.0 low i.1.3.0 i.1.0 (omega arith) i.1.3.1,
      (i.0, wide_outline (one x) i.1.3.0 x.at.end i.1.3.0 i.0 (omega arith) i.1.2 i.1.3.2, i.2),
    )

-- what is added one by one behind a node stands in a row
pub good_chain : (start : ℕ) (o : Outline) (ns : List Node) {x : Marked} {k m : Known} → Good (join o (all ns)) x k m → Good (chain start o ns) x k m
good_chain start o ns p =
    record {
      rising = p.rising;
      lies = λ low high n. p.lies low high (chained start o ns low high n);
      grows = λ low high n r. p.grows low high (chained start o ns low high n) r;
    }

-- ---- rules

pub one_rises : (b : Bool) (rule : Rule) → RisesFrom 0 (when b rule)
one_rises true rule = (omega arith, tt {0})
one_rises false rule = tt {0}

pub both_rise : (b c : Bool) → RisesFrom 0 (when b N6 ++ when c S5)
both_rise true true = (omega arith, (omega arith, tt {0}))
both_rise true false = (omega arith, tt {0})
both_rise false true = (omega arith, tt {0})
both_rise false false = tt {0}
