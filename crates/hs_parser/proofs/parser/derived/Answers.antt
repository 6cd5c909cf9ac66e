use Rattle.std.proofs.Common.{length}
use Rattle.hs_forms.specs.Reading.{RFile}
use Rattle.hs_parser.proofs.Answered.{file_gives}
use Rattle.hs_parser.proofs.parser.derived.Goals as goal

pub limited-requires : goal.limited-requires
limited-requires c = (
  length c.args.text.now,
  c.nodes_are_nested.ensures.nested c.args.seen.now c.args.items 0 (length c.args.text.now)
      (c.exact.ensures.agrees RFile c.args.seen.now c.args.items c.requires.derived) c.requires.spaced,
)

pub returns : goal.returns
returns c = file_gives (c.exact.ensures.unique RFile) (c.exact.ensures.apart RFile) c.args.text.now c.args.seen.now _ (c.requires.derived, c.in_ok-text_of_file.ensures) c.limited.result c.limited.ensures
