use Rattle.std.proofs.Common.{◌≡◌, drop}
use Rattle.hs_tree.specs.Moves.{also}
use Rattle.hs_linear.specs.Sets.{set_of, changes_of, LedFrom}
use Rattle.hs_linear.proofs.held.Held.put_all.Given as goal

abbrev pub invariant-loop-local : goal.invariant-loop-local
invariant-loop-local l = record {
  set : also l.locals (set_of l.initial.self) ≡ also (drop l.local-index l.locals) (set_of l.self);
  led : LedFrom (set_of l.initial.self) (changes_of l.initial.self) l.self;
}
