use Rattle.std.proofs.Common.{◌≡◌, drop}
use Rattle.std.specs.List.{list_any}
use Rattle.hs_tree.specs.Types.{secret_in}
use Rattle.hs_typing.proofs.table.+secret.Given as goal

abbrev pub invariant-is_any_secret_in-loop-ty : goal.invariant-is_any_secret_in-loop-ty
invariant-is_any_secret_in-loop-ty l = list_any (secret_in l.secrets) l.ty-items ≡ list_any (secret_in l.secrets) (drop l.ty-index l.ty-items)
