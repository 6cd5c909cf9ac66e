use Rattle.std.proofs.Common.{◌≡◌, drop}
use Rattle.hs_front.specs.Walk.{type_walk}
use Rattle.hs_front.proofs.resolve.Resolver.assignments.Given as goal

abbrev pub invariant-loop-stmt : goal.invariant-loop-stmt
invariant-loop-stmt l = type_walk l.fn.self.text.now l.scope (drop l.stmt-index l.stmts) ≡ type_walk l.fn.self.text.now l.fn.scope l.fn.stmts
