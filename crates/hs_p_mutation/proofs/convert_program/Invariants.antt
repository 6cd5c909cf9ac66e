use Rattle.std.proofs.Common.{◌≡◌, map, take}
use Rattle.hs_first_tree.specs.Of.{function_of}
use Rattle.hs_p_mutation.specs.Without.{function_without}
use Rattle.hs_p_mutation.proofs.convert_program.Given as goal

abbrev pub invariant-loop-function : goal.invariant-loop-function
invariant-loop-function l = map function_of l.functions ≡ map function_without (map function_of (take l.function-index l.function-items))
