use Rattle.std.proofs.Common.{◌≡◌, map, take}
use Rattle.hs_first_tree.specs.Of.{function_of}
use Rattle.hs_first_em.specs.Of.{def_of}
use Rattle.hs_pipeline.specs.Lower.{lowered_function}
use Rattle.hs_pipeline.proofs.lower.lower.Given as goal

-- what is made is what the functions so far are
abbrev pub invariant-loop-function : goal.invariant-loop-function
invariant-loop-function l = map def_of l.defs ≡ map lowered_function (map function_of (take l.function-index l.function-items))
