use Rattle.std.proofs.Common.{◌+◌, ◌-◌, ◌/◌, arith}
use Rattle.hs_typing.proofs.Names.{all_before, all_behind}
use Rattle.hs_typing.proofs.uses.place_from.Goals as goal

pub loop-low-preserved-then-uses-middle : goal.loop-low-preserved-then-uses-middle
loop-low-preserved-then-uses-middle c = record {
  low = omega arith;
  high = c.loop-low.invariant.high;
  before = all_before c.args.uses.now c.args.start (c.loop-low.low + (c.loop-low.high - c.loop-low.low) / 2) _ c.requires.in_order (omega (arith, c.loop-low.invariant.high)) c.if-uses-middle.true;
  behind = c.loop-low.invariant.behind;
}

pub loop-low-preserved : goal.loop-low-preserved
loop-low-preserved c = record {
  low = omega arith;
  high = omega (arith, c.loop-low.invariant.high);
  before = c.loop-low.invariant.before;
  behind = all_behind c.args.uses.now c.args.start (c.loop-low.low + (c.loop-low.high - c.loop-low.low) / 2) _ c.requires.in_order (omega (arith, c.loop-low.invariant.high)) c.if-uses-middle.false;
}
