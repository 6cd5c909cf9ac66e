use Rattle.std.proofs.Common.{◌≡◌, not, map, take}
use Rattle.hs_values.specs.declared.types.ValType.{ValType}
use Rattle.hs_tree.specs.Types.{copied}
use Rattle.hs_linear.proofs.program.moved.Given as goal

abbrev pub invariant-loop-ty : goal.invariant-loop-ty
invariant-loop-ty l = l.moved.items ≡ map (λ (t : ValType). not (copied l.table t)) (take l.ty-index l.types)
