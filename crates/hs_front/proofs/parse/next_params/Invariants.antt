use Rattle.std.proofs.Common.{◌-◌, ◌∷◌, length}
use Rattle.hs_grammar.specs.Parser.{giving}
use Rattle.hs_front.specs.Written.{next_param, up_to}
use Rattle.hs_front.specs.Reading.{reads}
use Rattle.hs_front.specs.Lookahead.{next_param_full}
use Rattle.hs_front.proofs.Repeats.{GoingFrom}
use Rattle.hs_front.proofs.parse.next_params.Given as goal

abbrev pub invariant-loop-tokens : goal.invariant-loop-tokens
invariant-loop-tokens l = GoingFrom next_param next_param_full 31 l.fn.first l.params l.tokens (giving (λ ps. l.fn.first ∷ ps) (reads (up_to 31 next_param) l.fn.tokens))

abbrev pub decreases-loop-tokens : goal.decreases-loop-tokens
decreases-loop-tokens l = 32 - length l.params
