use Rattle.std.proofs.Common.{◌≡◌, map, drop}
use Rattle.std.specs.List.{list_all}
use Rattle.hs_tree.specs.Types.{copied}
use Rattle.hs_linear.proofs.copied.+copied.Given as goal

abbrev pub invariant-are_copied-loop-ty : goal.invariant-are_copied-loop-ty
invariant-are_copied-loop-ty l =
    list_all (λ t. t) (map (copied l.table) l.ty-items) ≡ list_all (λ t. t) (map (copied l.table) (drop l.ty-index l.ty-items))
