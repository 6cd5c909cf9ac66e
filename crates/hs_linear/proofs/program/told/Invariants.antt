use Rattle.std.proofs.Common.{◌≡◌, None, drop}
use Rattle.std.specs.Prelude.{flat_map}
use Rattle.hs_linear.specs.Told.{told_of}
use Rattle.hs_linear.specs.Programs.{function_seen}
use Rattle.hs_linear.proofs.program.told.Given as goal

abbrev pub invariant-loop-function : goal.invariant-loop-function
invariant-loop-function l =
    told_of None (flat_map (λ f. (function_seen l.table l.functions f).broken) l.functions) ≡ told_of l.told (flat_map (λ f. (function_seen l.table l.functions f).broken) (drop l.function-index l.functions))
