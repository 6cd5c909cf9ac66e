use Rattle.std.proofs.Common.{◌≤◌}
use Rattle.ops_table.proofs.main.Given as goal

abbrev pub invariant-loop-number : goal.invariant-loop-number
invariant-loop-number l = l.found ≤ l.number
