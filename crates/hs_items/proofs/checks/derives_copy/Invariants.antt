use Rattle.std.proofs.Common.{◌≡◌, drop}
use Rattle.hs_items.specs.Meaning.{derives_copy}
use Rattle.hs_items.proofs.checks.derives_copy.Given as goal

abbrev pub invariant-loop-name : goal.invariant-loop-name
invariant-loop-name l = derives_copy l.symbols l.names ≡ derives_copy l.symbols (drop l.name-index l.names)
