use Rattle.std.proofs.Common.{◌≡◌, ◌++◌, map, drop}
use Rattle.hs_tree.specs.Text.{lines_of, shown_function}
use Rattle.hs_tree.specs.Of.{function_of}
use Rattle.hs_tree.proofs.show.write_functions.Given as goal

-- with the lines of the functions that are left, the text is that of all
abbrev pub invariant-loop-function : goal.invariant-loop-function
invariant-loop-function g l =
    l.text.items ++ lines_of (map (shown_function l.table) (map function_of (drop l.function-index l.functions)))
    ≡ l.fn.text.items ++ lines_of (map (shown_function l.table) (map function_of l.functions))
