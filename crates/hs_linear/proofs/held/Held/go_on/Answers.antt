use Rattle.std.proofs.Common.{ap, option_map}
use Rattle.hs_linear.specs.Sets.{set_of, changes_of}
use Rattle.hs_linear.proofs.Back.{went_on}
use Rattle.hs_linear.proofs.Steps.{led_on}
use Rattle.hs_linear.proofs.held.Held.go_on.Goals as goal

pub returns : goal.returns
returns c = (
  went_on c.args.joined.now c.deref.result.now c.deref-2.result.now c.in-Some.won.items c.args.self.now c.put_all.new.self c.take_all.new.self
      (ap (option_map (λ v. v.items)) c.in-Some.is) c.deref.ensures.value c.deref-2.ensures.value c.in_ok-put_all.ensures.set c.in_ok-take_all.ensures.set,
  led_on (set_of c.args.self.now) (changes_of c.args.self.now) c.put_all.new.self c.take_all.new.self c.in_ok-put_all.ensures.led c.in_ok-take_all.ensures.led,
)
