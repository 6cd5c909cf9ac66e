use Rattle.std.proofs.Common.{◌≡◌, map, length}
use Rattle.hs_first_tree.specs.Of.{stmt_of, stmts_of, block_of}
use Rattle.hs_first_em.specs.Of.{em_of}
use Rattle.hs_pipeline.specs.Lower.{lowered_stmts, lowered_block}
use Rattle.hs_pipeline.proofs.lower.lower_block.Given as goal

-- with the statements that are left before it, what is made is the block
abbrev pub invariant-loop-last : goal.invariant-loop-last
invariant-loop-last l = lowered_stmts l.names (stmts_of (map stmt_of l.left)) (em_of l.made) ≡ lowered_block l.names (block_of l.block)

-- one statement less is left
abbrev pub decreases-loop-last : goal.decreases-loop-last
decreases-loop-last l = length l.left
