use Rattle.std.proofs.Common.{◌≡◌, ◌++◌}
use Rattle.hs_fstar.specs.Layout.{spaces}
use Rattle.hs_fstar.proofs.print.write_spaces.Given as goal

-- the text so far, and so many spaces
abbrev pub invariant-loop-done : goal.invariant-loop-done
invariant-loop-done l = l.text.items ≡ l.initial.text.items ++ spaces l.done
