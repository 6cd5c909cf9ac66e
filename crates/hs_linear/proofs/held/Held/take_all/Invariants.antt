use Rattle.std.proofs.Common.{◌≡◌, ℕ, not, ◌&&◌, drop}
use Rattle.hs_tree.specs.Store.{among}
use Rattle.hs_linear.specs.Sets.{set_of, changes_of, LedFrom}
use Rattle.hs_linear.proofs.held.Held.take_all.Given as goal

abbrev pub invariant-loop-local : goal.invariant-loop-local
invariant-loop-local l = record {
  set : (k : ℕ) → (set_of l.initial.self k && not (among k l.locals)) ≡ (set_of l.self k && not (among k (drop l.local-index l.locals)));
  led : LedFrom (set_of l.initial.self) (changes_of l.initial.self) l.self;
}
