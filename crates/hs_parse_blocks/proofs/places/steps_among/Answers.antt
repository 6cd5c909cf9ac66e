use Rattle.std.proofs.Common.{refl}
use Rattle.hs_parse_blocks.proofs.Steps.{among_on}
use Rattle.hs_parse_blocks.proofs.places.steps_among.Goals as goal

pub loop-postfix-preserved : goal.loop-postfix-preserved
loop-postfix-preserved c = among_on _ _ _ _ _ _ _ c.in-Some.ensures refl c.in_ok-keep_step.ensures c.loop-postfix.invariant
