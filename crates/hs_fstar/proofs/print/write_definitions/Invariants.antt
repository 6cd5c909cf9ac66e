use Rattle.std.proofs.Common.{◌≡◌, ◌++◌, map, drop, flat_map}
use Rattle.hs_first_em.specs.Of.{def_of}
use Rattle.hs_fstar.specs.Layout.{def_text}
use Rattle.hs_fstar.proofs.print.write_definitions.Given as goal

-- with the text of the definitions that are left, the text is that of all definitions
abbrev pub invariant-loop-definition : goal.invariant-loop-definition
invariant-loop-definition l =
    l.text.items ++ flat_map def_text (map def_of (drop l.definition-index l.definitions))
    ≡ l.initial.text.items ++ flat_map def_text (map def_of l.definitions)
