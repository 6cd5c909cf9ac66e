use Rattle.std.proofs.Common.{sym, ◌∙◌}
use Rattle.hs_parser.specs.BreakRule.{open_behind}
use Rattle.hs_parser.proofs.Popped.{popped_of}
use Rattle.hs_parser.proofs.break_rule.turn.Goals as goal

pub returns-then-closes : goal.returns-then-closes
unfolding open_behind
returns-then-closes c =
    rw (sym c.opens.ensures ∙ c.if-opens.false, sym c.closes.ensures ∙ c.if-closes.true) (popped_of c.args.brackets.now c.pop.new.self c.pop.result c.pop.ensures)
