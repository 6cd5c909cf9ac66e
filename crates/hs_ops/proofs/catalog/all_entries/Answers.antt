use Rattle.hs_ops.proofs.Computed.{standard_from_runs}
use Rattle.hs_ops.proofs.catalog.all_entries.Goals as goal

pub returns : goal.returns
returns c =
    standard_from_runs _ _ _ _ _ _ _ _ c.new-entries.ensures c.in_ok-push_all.ensures c.in_ok-push_kinds.ensures c.in_ok-push_all-2.ensures c.in_ok-push_kinds-2.ensures c.in_ok-push_all-3.ensures c.in_ok-push_tuples.ensures c.in_ok-push_kinds-3.ensures
