use Rattle.std.proofs.Common.{Err, subst}
use Rattle.hs_grammar.specs.Derives.{IsBegun}
use Rattle.hs_grammar.specs.Whole.{ParseBreak, ParsesAll}
use Rattle.hs_forms.specs.Reading.{RFile}
use Rattle.hs_forms.specs.Written.{written}
use Rattle.hs_parser.proofs.Answered.{front_breaks, begun_before}
use Rattle.hs_parser.proofs.parser.before.Goals as goal

pub returns-in-Ok : goal.returns-in-Ok
returns-in-Ok c = (
  c.args.place,
  c.requires.inside,
  c.requires.nests,
  subst (IsBegun written RFile) c.front.ensures (c.exact.ensures.begun RFile c.front.result.now c.in-Ok.field-0 c.in-Ok.ensures),
)

pub broken-requires : goal.broken-requires
broken-requires c =
    front_breaks (c.exact.ensures.unique RFile) (c.exact.ensures.apart RFile) c.args.text.now c.args.seen.now (c.exact.ensures.farther RFile) c.args.place c.in-Err-At.number c.requires.inside c.if-number-place.true
    (subst (λ w. ParseBreak written RFile w c.in-Err-At.number) c.front.ensures (subst (λ r. ParsesAll written RFile c.front.result.now (Err r)) c.in-Err-At.field-0-is c.in-Err-At.ensures))

pub returns : goal.returns
returns c = (
  c.args.place,
  c.requires.inside,
  c.requires.nests,
  begun_before c.args.seen.now c.args.place c.in-Err-At.number c.requires.inside c.if-number-place.false
      (subst (λ w. ParseBreak written RFile w c.in-Err-At.number) c.front.ensures (subst (λ r. ParsesAll written RFile c.front.result.now (Err r)) c.in-Err-At.field-0-is c.in-Err-At.ensures)),
)
