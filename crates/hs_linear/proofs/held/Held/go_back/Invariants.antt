use Rattle.std.proofs.Common.{◌≡◌, ℕ, List, length}
use Rattle.hs_tree.specs.Moves.{Holding}
use Rattle.hs_linear.specs.Sets.{changes_of, LedFrom}
use Rattle.hs_linear.proofs.held.Held.go_back.Given as goal

abbrev pub invariant-loop-self : goal.invariant-loop-self
invariant-loop-self l = (d : Holding) (before : List ℕ) → LedFrom d before l.initial.self → l.moment ≡ length before → LedFrom d before l.self

abbrev pub decreases-loop-self : goal.decreases-loop-self
decreases-loop-self l = length (changes_of l.self)
