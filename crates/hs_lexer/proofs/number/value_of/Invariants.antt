use Rattle.std.proofs.Common.{◌≡◌, ◌<◌, ◌^◌}
use Rattle.hs_lexer.specs.Numbers.{is_digit_of}
use Rattle.hs_lexer.proofs.Values.{value_so_far}
use Rattle.hs_lexer.proofs.number.value_of.Given as goal

abbrev pub invariant-loop-byte : goal.invariant-loop-byte
invariant-loop-byte l = (l.value ≡ value_so_far l.base (is_digit_of l.base) l.run l.byte-index) × (l.value < 2 ^ 128)
