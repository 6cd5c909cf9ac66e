use Rattle.std.proofs.Common.{◌≡◌, drop}
use Rattle.hs_first_tree.specs.Of.{exp_of}
use Rattle.hs_front.specs.Walk.{parts_walk, sum_walk}
use Rattle.hs_front.proofs.resolve.Resolver.sum.Given as goal

abbrev pub invariant-loop-part : goal.invariant-loop-part
invariant-loop-part l = parts_walk l.fn.self.text.now l.scope (exp_of l.value) (drop l.part-index l.part-items) ≡ sum_walk l.fn.self.text.now l.fn.scope l.fn.sum
