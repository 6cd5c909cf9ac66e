-- Of a file whose nodes are nested, what is broken first on the way is told.
use Rattle.std.proofs.Common.{ℕ, suc, Bool, true, false, cond, ltb, Option, Some, None, [], ◌∷◌, ◌++◌, arith}
use Rattle.hs_base.specs.declared.rule.Rule.TheVariants.{S2}
use Rattle.hs_marks.specs.Told.{Lies, Rising, RisesFrom}
use Rattle.hs_limits.specs.Outline.{Outline, Kind, Surplus, none, join, node, counted, through, apart, parameter, statement, part, height}
use Rattle.hs_limits.specs.Nested.{Nested}
use Rattle.hs_limits.specs.Breaks.{broken, marked, too_many}

pub lies : (o : Outline) (low high : ℕ) → Nested o low high → Lies (marked o) low high
lies none low high h = h
lies (join a b) low high h = (h.0, lies a low h.0 h.1, lies b h.0 high h.2)
lies (node at kind over parts) low high h = (h.0, h.1, h.2, lies parts at.start at.end h.3)

own : (b : Bool) (over : Option Surplus) → RisesFrom 0 (cond b (S2 ∷ []) [] ++ too_many over)
own true None = (omega arith, tt {0})
own true (Some parameter) = (omega arith, (omega arith, tt {0}))
own true (Some statement) = (omega arith, (omega arith, tt {0}))
own true (Some part) = (omega arith, (omega arith, tt {0}))
own false None = tt {0}
own false (Some parameter) = (omega arith, tt {0})
own false (Some statement) = (omega arith, tt {0})
own false (Some part) = (omega arith, tt {0})

broken_rises : (kind : Kind) (over : Option Surplus) (h : ℕ) → RisesFrom 0 (broken kind over h)
broken_rises counted over h = own (ltb 64 (suc h)) over
broken_rises through over h = own false over
broken_rises apart over h = own false over

pub rising : (o : Outline) → Rising (marked o)
rising none = tt {0}
rising (join a b) = (rising a, rising b)
rising (node at kind over parts) = (broken_rises kind over (height parts), rising parts)
