use Rattle.std.proofs.Common.{◌≡◌, ◌+◌, ◌*◌, length, drop}
use Rattle.hs_grammar.specs.Parser.{Done}
use Rattle.hs_forms.specs.Reading.{binary}
use Rattle.hs_forms.specs.Parsers.{reads}
use Rattle.hs_parse_blocks.proofs.forms.+levels.Given as goal

abbrev pub decreases-Forms::comparison : goal.decreases-Forms::comparison
decreases-Forms::comparison g l = 4 * length l.stronger.now + 2

abbrev pub decreases-Forms::binary : goal.decreases-Forms::binary
decreases-Forms::binary g l = 4 * length l.levels.now

abbrev pub decreases-Forms::operand : goal.decreases-Forms::operand
decreases-Forms::operand g l = 4 * length l.stronger.now + 1

abbrev pub decreases-Forms::operands : goal.decreases-Forms::operands
decreases-Forms::operands g l = 4 * length l.stronger.now + 3

abbrev pub decreases-Forms::operands-repeat : goal.decreases-Forms::operands-repeat
decreases-Forms::operands-repeat g l = 4 * length l.stronger.now + 2

abbrev pub invariant-Forms::binary-loop-at : goal.invariant-Forms::binary-loop-at
invariant-Forms::binary-loop-at g l = reads l.self.rules.depth (binary (drop l.at l.levels)) l.fn.tokens ≡ Done l.value l.tokens
