-- Places in a text: lines and columns, and what is told there.
use Rattle.std.specs.Prelude.{ℕ, ◌+◌, List, Bool, eqb, not, length, count_by, take}
use Rattle.std.specs.List.{suffix_len}
use Rattle.hs_base.specs.declared.rule.Rule.{Rule}
use Rattle.hs_base.specs.declared.place.Pos.{Pos}
use Rattle.hs_base.specs.declared.place.Broken.{Broken}

-- anything but a line feed
unfoldable pub is_in_line : ℕ → Bool
is_in_line b = not (eqb b 10)

-- the place behind a text: its bytes; a line more than it has line feeds; a column more than it has bytes behind the last of
-- them
unfoldable pub place_behind : List ℕ → Pos
place_behind before =
    record { byte = length before; line = 1 + count_by (λ b. eqb b 10) before; col = 1 + suffix_len is_in_line before }

-- the place before which so many bytes of a text stand, or its end where it has no more
abbrev pub pos_at : List ℕ → ℕ → Pos
pos_at text byte = place_behind (take byte text)

-- that a rule is broken at the place before which so many bytes of a text stand
abbrev pub told_at : List ℕ → Rule → ℕ → Broken
told_at text rule byte = record { rule = rule; at = pos_at text byte }
