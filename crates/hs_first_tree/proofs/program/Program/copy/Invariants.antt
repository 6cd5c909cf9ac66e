use Rattle.std.proofs.Common.{◌≡◌, take}
use Rattle.hs_first_tree.proofs.program.Program.copy.Given as goal

abbrev pub invariant-loop-function : goal.invariant-loop-function
invariant-loop-function g l = l.functions ≡ take l.function-index l.function-items
