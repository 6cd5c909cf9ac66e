use Rattle.std.proofs.Common.{◌≡◌, [], drop}
use Rattle.hs_tree.specs.Types.{secrets_from}
use Rattle.hs_typing.proofs.table.secrets_of.Given as goal

abbrev pub invariant-loop-entry : goal.invariant-loop-entry
invariant-loop-entry l = secrets_from l.secrets (drop l.entry-index l.table) ≡ secrets_from [] l.table
