use Rattle.hs_ops.proofs.Entries.{place_row}
use Rattle.hs_ops.proofs.table.OpTable.row.Goals as goal

pub returns : goal.returns
returns g c = place_row _ _ _ _ c.self.view_is c.self.invariant c.as_slice.ensures c.args.op.0 c.index-as_slice-op.result c.requires
