use Rattle.std.proofs.Common.{◌≡◌, map, take}
use Rattle.hs_first_tree.specs.Of.{function_of}
use Rattle.hs_pipeline.proofs.copy.without_exits.Given as goal

-- what is made is what the functions so far are
abbrev pub invariant-loop-function : goal.invariant-loop-function
invariant-loop-function l = map function_of l.functions ≡ map function_of (take l.function-index l.function-items)
