use Rattle.std.proofs.Common.{◌≡◌, ◌++◌, map, drop, flat_map}
use Rattle.hs_first_em.specs.Of.{par_of}
use Rattle.hs_fstar.specs.Layout.{par_text}
use Rattle.hs_fstar.proofs.print.write_each.Given as goal

-- with the text of the parameters that are left, the text is that of all parameters
abbrev pub invariant-loop-parameter : goal.invariant-loop-parameter
invariant-loop-parameter l =
    l.text.items ++ flat_map par_text (map par_of (drop l.parameter-index l.parameters))
    ≡ l.initial.text.items ++ flat_map par_text (map par_of l.parameters)
