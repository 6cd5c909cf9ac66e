use Rattle.std.proofs.Common.{◌≡◌, ◌++◌, map, drop}
use Rattle.hs_first_tree.specs.Of.{param_of}
use Rattle.hs_front.specs.Program.{params_from}
use Rattle.hs_front.proofs.resolve.parameters.Given as goal

abbrev pub invariant-loop-local : goal.invariant-loop-local
invariant-loop-local l = map param_of l.parameters ++ params_from l.local (drop l.local l.names) ≡ params_from 0 l.fn.names
