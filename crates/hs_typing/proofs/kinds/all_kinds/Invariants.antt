use Rattle.std.proofs.Common.{◌≡◌, map, take}
use Rattle.hs_values.specs.Kinds.{kinds}
use Rattle.hs_typing.specs.Types.{int}
use Rattle.hs_typing.proofs.kinds.all_kinds.Given as goal

abbrev pub invariant-loop-kind : goal.invariant-loop-kind
invariant-loop-kind l = l.types ≡ map int (take l.kind-index kinds)
