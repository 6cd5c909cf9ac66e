use Rattle.hs_parse_blocks.proofs.nested.+nested.Given as goal

abbrev pub decreases-block_rule : goal.decreases-block_rule
decreases-block_rule l = l.depth

abbrev pub decreases-exp_rule : goal.decreases-exp_rule
decreases-exp_rule l = l.depth

abbrev pub decreases-if_rule : goal.decreases-if_rule
decreases-if_rule l = l.depth

abbrev pub decreases-unary_rule : goal.decreases-unary_rule
decreases-unary_rule l = l.depth
