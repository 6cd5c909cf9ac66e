use Rattle.std.proofs.Common.{◌≡◌, ◌++◌, drop}
use Rattle.hs_resolver.specs.Order.{items_of}
use Rattle.hs_resolver.proofs.resolver.items_of.Given as goal

abbrev pub invariant-loop-one : goal.invariant-loop-one
invariant-loop-one l = l.items ++ items_of (drop l.one-index l.uses) ≡ items_of l.uses
