use Rattle.std.proofs.Common.{◌≡◌, ℕ, ◌||◌, filter, drop, take, nat_eq}
use Rattle.std.specs.HashSet.{contains}
use Rattle.hs_tree.specs.Store.{among}
use Rattle.hs_linear.proofs.joined.in_both.Given as goal

abbrev pub invariant-loop-local : goal.invariant-loop-local
invariant-loop-local l = (k : ℕ) → (contains nat_eq l.known k || among k (drop l.local-index l.first)) ≡ among k l.first

abbrev pub invariant-loop-local-2 : goal.invariant-loop-local-2
invariant-loop-local-2 l = l.both.items ≡ filter (λ k. among k l.first) (take l.local-index l.second)
