use Rattle.hs_ops.proofs.Entries.{place_known, place_operation}
use Rattle.hs_ops.proofs.table.OpTable.operation.Goals as goal

pub returns-clause-known : goal.returns-clause-known
returns-clause-known g c = place_known _ _ _ _ c.self.view_is c.self.invariant c.as_slice.ensures c.args.op.0 c.index-as_slice-op.result c.requires

pub returns-clause-value : goal.returns-clause-value
returns-clause-value g c = place_operation _ _ _ _ c.self.view_is c.self.invariant c.as_slice.ensures c.args.op.0 c.index-as_slice-op.result c.requires
