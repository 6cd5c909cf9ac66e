use Rattle.std.proofs.Common.{◌≡◌, List, length}
use Rattle.hs_grammar.specs.Form.{lexis_of}
use Rattle.hs_grammar.specs.Kinds.{starts}
use Rattle.hs_grammar.specs.Parser.{Res}
use Rattle.hs_grammar.specs.Repeat.{repeated, Advances, StepReads}
use Rattle.hs_grammar.proofs.loops.repeat.Given as goal

abbrev pub invariant-loop-step : goal.invariant-loop-step
invariant-loop-step g l =
    let L = lexis_of g.T.Lexeme.kind_of g.T.Lexeme.same in
    (p : _ → List _ → Res _ _) → Advances p → StepReads (goal.F-post g l.step) p
    → repeated (starts L l.begins) p l.fn.start l.fn.tokens ≡ repeated (starts L l.begins) p l.value l.tokens

abbrev pub decreases-loop-step : goal.decreases-loop-step
decreases-loop-step g l = length l.tokens
