use Rattle.std.proofs.Common.{refl, sym, ap, ◌∙◌, arith, drop_of_length-le}
use Rattle.hs_tree.specs.Moves.{also}
use Rattle.hs_linear.specs.Sets.{set_of, changes_of}
use Rattle.hs_linear.proofs.Back.{put_step}
use Rattle.hs_linear.proofs.Steps.{led_on}
use Rattle.hs_linear.proofs.held.Held.put_all.Goals as goal

pub loop-local-preserved : goal.loop-local-preserved
loop-local-preserved c = record {
  set = c.loop-local.invariant.set ∙ put_step c.args.locals.now c.loop-local.local-index _ (set_of c.loop-local.self) (set_of c.put.new.self) (omega arith) refl c.in_ok-put.ensures.set;
  led = led_on (set_of c.args.self.now) (changes_of c.args.self.now) c.loop-local.self c.put.new.self c.loop-local.invariant.led c.in_ok-put.ensures.led;
}

pub returns-clause-set : goal.returns-clause-set
returns-clause-set c = sym (c.loop-local.invariant.set ∙ ap (λ ks. also ks (set_of c.loop-local.self)) (drop_of_length-le c.args.locals.now (omega arith)))
