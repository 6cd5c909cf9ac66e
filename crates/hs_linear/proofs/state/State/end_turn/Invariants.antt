use Rattle.std.proofs.Common.{◌≡◌, drop}
use Rattle.hs_linear.specs.Told.{told_of}
use Rattle.hs_linear.specs.Sets.{set_of}
use Rattle.hs_linear.proofs.Single.{told_back}
use Rattle.hs_linear.proofs.state.State.end_turn.Given as goal

abbrev pub invariant-loop-take : goal.invariant-loop-take
invariant-loop-take l = record {
  held : l.self.held ≡ l.initial.self.held;
  taken : l.self.taken ≡ l.initial.self.taken;
  told : told_of l.initial.self.told (told_back (set_of l.initial.self.held) l.take-items) ≡ told_of l.self.told (told_back (set_of l.initial.self.held) (drop l.take-index l.take-items));
}
