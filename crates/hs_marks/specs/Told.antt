-- Which of all broken rules is told, and what is asked of a tree so that it is the first in the text's order.
use Rattle.std.specs.Prelude.{ℕ, suc, ◌≡◌, ◌<◌, ◌≤◌, ◌⊎◌, Option, Some, None, List, [], ◌∷◌}
use Rattle.hs_base.specs.declared.rule.Rule.{Rule}
use Rattle.hs_base.specs.Rules.{number_of}
use Rattle.hs_marks.specs.declared.breach.Breach.{Breach}
use Rattle.hs_marks.specs.Marked.{Marked, Mark, none, join, node}

-- m is told before n, or is n: it ends first; of those that end there it is the innermost; of its rules it has the least number
abbrev pub Before : Mark → Mark → Type 0
Before m n = (m.at.end < n.at.end) ⊎ ((m.at.end ≡ n.at.end) × ((n.depth < m.depth) ⊎ ((m.depth ≡ n.depth) × (number_of m.rule ≤ number_of n.rule))))

abbrev pub Among : Mark → List Mark → Type 0
Among m [] = ⊥
Among m (n ∷ ns) = (m ≡ n) ⊎ Among m ns

abbrev pub Each : (Mark → Type 0) → List Mark → Type 0
Each P [] = Unit {0}
Each P (m ∷ ms) = P m × Each P ms

-- the one of these that is told before all others
abbrev pub Told : List Mark → Breach → Type 0
Told ms b = (m : Mark) × Among m ms × Each (Before m) ms × (b.rule ≡ m.rule) × (b.span ≡ m.at)

-- an answer is none where no rule is broken, and else the told one
abbrev pub Answers : List Mark → Option Breach → Type 0
Answers ms None = ms ≡ []
Answers ms (Some b) = Told ms b

-- the nodes of a row lie between two places, one behind the other; each has a byte at least, and its parts lie in it
abbrev pub Lies : Marked → ℕ → ℕ → Type 0
Lies none low high = low ≤ high
Lies (join a b) low high = (middle : ℕ) × Lies a low middle × Lies b middle high
Lies (node at rules parts) low high = (low ≤ at.start) × (at.start < at.end) × (at.end ≤ high) × Lies parts at.start at.end

-- the numbers of these rules rise, from this one on
abbrev pub RisesFrom : ℕ → List Rule → Type 0
RisesFrom low [] = Unit {0}
RisesFrom low (r ∷ rs) = (low ≤ number_of r) × RisesFrom (suc (number_of r)) rs

-- the rules of each node stand in rising order of their numbers
abbrev pub Rising : Marked → Type 0
Rising none = Unit {0}
Rising (join a b) = Rising a × Rising b
Rising (node at rules parts) = RisesFrom 0 rules × Rising parts
