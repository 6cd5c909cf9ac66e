use Rattle.std.proofs.Common.{◌≡◌, [], ◌∷◌, ◌++◌}
use Rattle.hs_tree.specs.Text.{framed, shown_rest}
use Rattle.hs_tree.specs.Of.{block_of}
use Rattle.hs_tree.specs.Pending.{bytes_on, pending}
use Rattle.hs_tree.proofs.show.write_block.Given as goal

-- with what is still to be written, the text is the whole one
abbrev pub invariant-loop-turn : goal.invariant-loop-turn
invariant-loop-turn g l =
    l.text.items ++ pending l.table l.names l.stack
    ≡ l.fn.text.items ++ 32 ∷ bytes_on (framed (shown_rest l.table (block_of l.names l.block))) []
