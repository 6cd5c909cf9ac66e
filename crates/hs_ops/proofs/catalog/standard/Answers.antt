use Rattle.std.proofs.Common.{◌≡◌, ◌↔◌, List, ℕ, Some, None, IsTrue, true, arith, sym, subst}
use Rattle.std.specs.List.{Contains}
use Rattle.hs_ops.specs.declared.operation.Operation.{Operation}
use Rattle.hs_ops.specs.Known.{is_known}
use Rattle.hs_ops.specs.Names.{name_of}
use Rattle.hs_ops.specs.Table.{Table, operation_named}
use Rattle.hs_ops.proofs.Complete.{complete, standard_named, standard_foreign}
use Rattle.hs_ops.proofs.Computed.{standard_IsTable, standard_shown}
use Rattle.hs_ops.proofs.catalog.standard.Goals as goal

pub from_entries-requires : goal.from_entries-requires
from_entries-requires c = rw (c.in_ok-all_entries.ensures, c.in_ok-prefix.ensures, standard_shown) (omega arith, standard_IsTable)

pub returns-clause-table : goal.returns-clause-table
returns-clause-table c = rw (c.from_entries.ensures, c.in_ok-all_entries.ensures, c.in_ok-prefix.ensures) standard_shown

pub returns-clause-complete : goal.returns-clause-complete
returns-clause-complete c = subst (λ (t : Table). (o : Operation) → IsTrue (is_known o) ↔ Contains t.operations o) (sym (returns-clause-table c)) complete

pub returns-clause-named : goal.returns-clause-named
returns-clause-named c = subst (λ (t : Table). (o : Operation) → is_known o ≡ true → operation_named t (name_of o) ≡ Some o) (sym (returns-clause-table c)) standard_named

pub returns-clause-foreign : goal.returns-clause-foreign
returns-clause-foreign c =
    subst (λ (t : Table). (name : List ℕ) → ((o : Operation) → is_known o ≡ true → name_of o ≡ name → ⊥) → operation_named t name ≡ None) (sym (returns-clause-table c)) standard_foreign
