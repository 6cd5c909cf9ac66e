use Rattle.std.proofs.Common.{◌≡◌, map, drop}
use Rattle.hs_first_tree.specs.Of.{stmt_of}
use Rattle.hs_front.specs.Walk.{stmts_walk}
use Rattle.hs_front.proofs.Walks.{behind}
use Rattle.hs_front.proofs.resolve.Resolver.statements.Given as goal

abbrev pub invariant-loop-stmt : goal.invariant-loop-stmt
invariant-loop-stmt l = behind (map stmt_of l.statements) (stmts_walk l.fn.self.text.now l.scope (drop l.stmt-index l.stmts)) ≡ stmts_walk l.fn.self.text.now l.fn.scope l.fn.stmts
