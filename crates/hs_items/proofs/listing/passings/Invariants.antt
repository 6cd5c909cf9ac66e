use Rattle.std.proofs.Common.{◌≡◌, ◌++◌, drop}
use Rattle.hs_items.specs.Walk.{passings}
use Rattle.hs_items.proofs.listing.passings.Given as goal

abbrev pub invariant-loop-param : goal.invariant-loop-param
invariant-loop-param l = l.modes ++ passings (drop l.param-index l.params) ≡ passings l.params
