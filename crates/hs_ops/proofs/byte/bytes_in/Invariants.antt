use Rattle.std.proofs.Common.{◌≡◌, ◌++◌, drop, option_map}
use Rattle.hs_ops.specs.Views.{bits_in}
use Rattle.hs_ops.proofs.byte.bytes_in.Given as goal

abbrev pub invariant-loop-value : goal.invariant-loop-value
invariant-loop-value l = bits_in l.kind l.values ≡ option_map (λ more. l.bytes.items ++ more) (bits_in l.kind (drop l.value-index l.values))
