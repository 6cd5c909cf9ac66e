use Rattle.std.proofs.Common.{refl, ◌∙◌, arith}
use Rattle.hs_linear.specs.Sets.{set_of, changes_of}
use Rattle.hs_linear.proofs.Back.{take_step}
use Rattle.hs_linear.proofs.Steps.{led_on}
use Rattle.hs_linear.proofs.held.Held.take_all.Goals as goal

pub loop-local-preserved : goal.loop-local-preserved
loop-local-preserved c = record {
  set = λ k. c.loop-local.invariant.set k ∙ take_step c.args.locals.now c.loop-local.local-index _ (set_of c.loop-local.self) (set_of c.take.new.self) k (omega arith) refl c.in_ok-take.ensures.set;
  led = led_on (set_of c.args.self.now) (changes_of c.args.self.now) c.loop-local.self c.take.new.self c.loop-local.invariant.led c.in_ok-take.ensures.led;
}
