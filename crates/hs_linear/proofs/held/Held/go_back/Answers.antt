use Rattle.std.proofs.Common.{arith}
use Rattle.hs_linear.proofs.Back.{stepped_back, all_back}
use Rattle.hs_linear.proofs.held.Held.go_back.Goals as goal

pub loop-self-preserved-in-Continue-1 : goal.loop-self-preserved-in-Continue-1
loop-self-preserved-in-Continue-1 c = λ d before led is.
    stepped_back d before c.loop-self.self c.turn.new.self c.in-Some.local c.pop.new.self.items (c.loop-self.invariant d before led is) (omega arith) c.in-Some.ensures.items c.in_ok-turn.ensures.changes c.in_ok-turn.ensures.set

pub returns : goal.returns
returns c = λ d before led is. all_back d before c.loop-self.self (c.loop-self.invariant d before led is) (omega arith)
