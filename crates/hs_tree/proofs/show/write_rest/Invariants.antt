use Rattle.std.proofs.Common.{◌≡◌, ◌++◌, map, drop}
use Rattle.hs_tree.specs.Text.{next_bytes, shown_params}
use Rattle.hs_tree.specs.Of.{param_of}
use Rattle.hs_tree.proofs.show.write_rest.Given as goal

-- with the text of the parameters that are left, the text is that of all
abbrev pub invariant-loop-param : goal.invariant-loop-param
invariant-loop-param g l =
    l.text.items ++ next_bytes (shown_params l.table (map (param_of l.names) (drop l.param-index l.params)))
    ≡ l.fn.text.items ++ next_bytes (shown_params l.table (map (param_of l.names) l.params))
