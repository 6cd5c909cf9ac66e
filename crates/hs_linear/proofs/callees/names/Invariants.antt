use Rattle.std.proofs.Common.{◌≡◌, take}
use Rattle.hs_linear.specs.Called.{names_of}
use Rattle.hs_linear.proofs.callees.names.Given as goal

abbrev pub invariant-loop-function : goal.invariant-loop-function
invariant-loop-function l = l.names ≡ names_of (take l.function-index l.functions)
