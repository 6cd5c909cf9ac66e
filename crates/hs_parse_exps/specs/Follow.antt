-- What each form takes for granted of the parsers of the rules that lead back to themselves.
use Rattle.hs_syntax.specs.declared.exp.Exp.{Exp}
use Rattle.hs_syntax.specs.declared.exp.If.{If}
use Rattle.hs_syntax.specs.declared.exp.Block.{Block}
use Rattle.hs_forms.specs.Reading.{RExp, RUnary, RBlock, RIf}
use Rattle.hs_forms.specs.Parsers.{Parser, Parses}
use Rattle.hs_parse_exps.specs.declared.rules.Rules.{Rules}

-- each parser is that of its rule, with rules nested as deep
pub record FollowGrammar {E U B I : Type 0} (e : Parser E Exp) (u : Parser U Exp) (b : Parser B Block) (i : Parser I If) (rules : Rules E U B I) : Type 0 where
  pub exps : Parses RExp e rules.depth rules.exp
  pub unaries : Parses RUnary u rules.depth rules.unary
  pub blocks : Parses RBlock b rules.depth rules.block
  pub others : Parses RIf i rules.depth rules.other
