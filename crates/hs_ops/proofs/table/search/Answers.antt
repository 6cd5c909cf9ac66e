use Rattle.std.proofs.Common.{sym, arith}
use Rattle.hs_ops.specs.declared.table.Entry.{Entry}
use Rattle.hs_ops.proofs.Order.{narrowed_up, narrowed_down, narrowed_found, narrowed_absent}
use Rattle.hs_ops.proofs.table.search.Goals as goal

pub loop-low-preserved-in-Less : goal.loop-low-preserved-in-Less
loop-low-preserved-in-Less c =
    narrowed_up (λ (e : Entry). e.row.name) c.args.entries.now c.args.name.now c.loop-low.low c.loop-low.high _ c.index-entries-middle.result c.requires c.loop-low.invariant (omega arith) (omega arith) c.index-entries-middle.is (sym c.in-Less.ensures)

pub returns-in-Equal-clause-found : goal.returns-in-Equal-clause-found
returns-in-Equal-clause-found c =
    narrowed_found (λ (e : Entry). e.row.name) c.args.entries.now c.args.name.now _ c.index-entries-middle.result (omega (arith, c.loop-low.invariant.within)) c.index-entries-middle.is (sym c.in-Equal.ensures)

pub loop-low-preserved : goal.loop-low-preserved
loop-low-preserved c =
    narrowed_down (λ (e : Entry). e.row.name) c.args.entries.now c.args.name.now c.loop-low.low c.loop-low.high _ c.index-entries-middle.result c.requires c.loop-low.invariant (omega arith) (omega arith) c.index-entries-middle.is (sym c.in-Greater.ensures)

pub returns-clause-absent : goal.returns-clause-absent
returns-clause-absent c = narrowed_absent (λ (e : Entry). e.row.name) c.args.entries.now c.args.name.now c.loop-low.low c.loop-low.high c.loop-low.invariant c.loop-low-test.false
