use Rattle.std.proofs.Common.{ℕ, ◌≡◌, ◌-◌, ◌≤◌, ◌<◌, length, slice_get, Some}
use Rattle.hs_resolver.specs.declared.known.Use.{Use}
use Rattle.hs_typing.proofs.uses.place_from.Given as goal

abbrev pub invariant-loop-low : goal.invariant-loop-low
invariant-loop-low l = record {
  low : l.low ≤ l.high;
  high : l.high ≤ length l.uses;
  before : (k : ℕ) (u : Use) → k < l.low → slice_get l.uses k ≡ Some u → u.name.start < l.start;
  behind : (k : ℕ) (u : Use) → l.high ≤ k → slice_get l.uses k ≡ Some u → l.start ≤ u.name.start;
}

abbrev pub decreases-loop-low : goal.decreases-loop-low
decreases-loop-low l = l.high - l.low
