use Rattle.std.proofs.Common.{◌≡◌, ◌++◌, length, reverse}
use Rattle.std.specs.List.{filter_map}
use Rattle.hs_forms.specs.Blocks.{step_in}
use Rattle.hs_parse_blocks.proofs.places.steps_among.Given as goal

abbrev pub invariant-loop-postfix : goal.invariant-loop-postfix
invariant-loop-postfix l = filter_map step_in l.initial.postfixes ≡ filter_map step_in l.postfixes ++ reverse l.steps.items

abbrev pub decreases-loop-postfix : goal.decreases-loop-postfix
decreases-loop-postfix l = length l.postfixes
