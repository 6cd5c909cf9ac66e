use Rattle.std.proofs.Common.{◌≡◌, ◌++◌, drop}
use Rattle.hs_front.specs.Program.{names_bound}
use Rattle.hs_front.proofs.resolve.Resolver.push_bound.Given as goal

abbrev pub invariant-loop-stmt : goal.invariant-loop-stmt
invariant-loop-stmt l = l.locals ++ names_bound l.fn.self.text.now (drop l.stmt-index l.stmts) ≡ l.initial.locals ++ names_bound l.fn.self.text.now l.fn.stmts
