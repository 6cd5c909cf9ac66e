use Rattle.std.proofs.Common.{◌≡◌, Some, ap, ◌∙◌}
use Rattle.hs_marks.specs.declared.breach.Breach.{Breach}
use Rattle.hs_parser.specs.Told.{limit_at}
use Rattle.hs_parser.proofs.parser.limited.Goals as goal

one_passed : (p q : Breach) → Some p ≡ Some q → p ≡ q
one_passed p q e = cc

pub returns-in-Some : goal.returns-in-Some
returns-in-Some c = (
  (c.in-Some.passed, c.in-Some.ensures.told, c.told_at.ensures),
  λ p t. c.told_at.ensures ∙ ap (limit_at c.args.text.now) (one_passed c.in-Some.passed p (c.in-Some.ensures.only p t)),
)
