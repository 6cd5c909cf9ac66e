use Rattle.std.proofs.Common.{map, take}
use Rattle.std.specs.List.{AllByRecursion}
use Rattle.hs_first_tree.specs.Of.{function_of}
use Rattle.hs_pipeline.specs.Counted.{Numbered}
use Rattle.hs_pipeline.proofs.lower.locals_are_numbered.Given as goal

-- the functions so far have locals of such numbers
abbrev pub invariant-loop-function : goal.invariant-loop-function
invariant-loop-function l = AllByRecursion Numbered (map function_of (take l.function-index l.function-items))
