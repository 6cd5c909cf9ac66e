use Rattle.std.proofs.Common.{◌∙◌, sym, arith}
use Rattle.hs_resolver.proofs.Binds.{bind_step, count_step}
use Rattle.hs_resolver.proofs.flat.+bind.Goals as goal

pub bind_all-loop-part-preserved : goal.bind_all-loop-part-preserved
bind_all-loop-part-preserved t c = (
  c.loop-part.invariant.0 ∙ bind_step c.args.world.now.paths.now.text c.loop-part.part-index c.as_slice-part-items.result.now c.part-item.result c.loop-part.next c.in_ok-next.next c.loop-part.scope c.bind.new.scope (omega arith) c.part-item.is c.in_ok-next.ensures.bound c.in_ok-next.ensures.behind,
  sym (count_step c.loop-part.part-index c.as_slice-part-items.result.now c.part-item.result c.loop-part.next c.in_ok-next.next (omega arith) c.part-item.is c.in_ok-next.ensures.behind) ∙ c.loop-part.invariant.1,
)
