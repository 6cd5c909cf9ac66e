use Rattle.std.proofs.Common.{◌≡◌, ℕ, List, drop}
use Rattle.std.specs.List.{list_any}
use Rattle.hs_values.specs.declared.types.ValType.{ValType}
use Rattle.hs_tree.specs.Types.{secret_in}
use Rattle.hs_typing.proofs.table.is_secret_kind.Given as goal

abbrev pub invariant-loop-ctor : goal.invariant-loop-ctor
invariant-loop-ctor l =
    list_any (λ (c : List ℕ × List ValType). list_any (secret_in l.secrets) c.1) l.ctor-items ≡ list_any (λ (c : List ℕ × List ValType). list_any (secret_in l.secrets) c.1) (drop l.ctor-index l.ctor-items)
