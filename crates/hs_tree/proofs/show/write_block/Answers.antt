use Rattle.std.proofs.Common.{ap}
use Rattle.hs_tree.specs.Text.{framed, shown_rest}
use Rattle.hs_tree.specs.Of.{block_of}
use Rattle.hs_tree.specs.Pending.{pending}
use Rattle.hs_tree.proofs.Lines.{whole}
use Rattle.hs_tree.proofs.show.write_block.Goals as goal

pub returns-in-None : goal.returns-in-None
returns-in-None g c =
    whole (framed (shown_rest c.args.table.now (block_of c.args.names.now c.args.block.now))) _ _ _
    (ap (pending c.args.table.now c.args.names.now) c.in-None.ensures.0) c.loop-turn.invariant
