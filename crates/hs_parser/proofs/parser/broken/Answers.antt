use Rattle.hs_forms.specs.Reading.{RFile}
use Rattle.hs_parser.proofs.Answered.{break_gives}
use Rattle.hs_parser.proofs.parser.broken.Goals as goal

pub returns : goal.returns
returns c = break_gives (c.exact.ensures.unique RFile) (c.exact.ensures.apart RFile) c.args.text.now c.args.seen.now c.args.number c.requires _ (c.in_ok-break_at.ensures)
