use Rattle.std.proofs.Common.{◌≡◌, List, length}
use Rattle.hs_grammar.specs.Form.{lexis_of}
use Rattle.hs_grammar.specs.Kinds.{starts}
use Rattle.hs_grammar.specs.Parser.{Res}
use Rattle.hs_grammar.specs.Until.{repeated_until, TurnsAdvance, TurnReads}
use Rattle.hs_grammar.proofs.loops.repeat_until.Given as goal

abbrev pub invariant-loop-turn : goal.invariant-loop-turn
invariant-loop-turn g l =
    let L = lexis_of g.T.Lexeme.kind_of g.T.Lexeme.same in
    (p : _ → List _ → Res _ _) → TurnsAdvance p → TurnReads (goal.F-post g l.turn) p
    → repeated_until (starts L l.begins) p l.fn.start l.fn.tokens ≡ repeated_until (starts L l.begins) p l.value l.tokens

abbrev pub decreases-loop-turn : goal.decreases-loop-turn
decreases-loop-turn g l = length l.tokens
