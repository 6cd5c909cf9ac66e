use Rattle.std.proofs.Common.{◌≡◌, ◌++◌, map, drop}
use Rattle.hs_tree.specs.Text.{next_bytes, shown_patterns}
use Rattle.hs_tree.specs.Of.{pattern_of, patterns_of}
use Rattle.hs_tree.proofs.text.+pattern.Given as goal

-- with the text of the patterns that are left, the text is that of all
abbrev pub invariant-write_patterns-loop-part : goal.invariant-write_patterns-loop-part
invariant-write_patterns-loop-part l =
    l.text.items ++ next_bytes (shown_patterns l.table (patterns_of (map (pattern_of l.names) (drop l.part-index l.parts))))
    ≡ l.fn.text.items ++ next_bytes (shown_patterns l.table (patterns_of (map (pattern_of l.names) l.parts)))
