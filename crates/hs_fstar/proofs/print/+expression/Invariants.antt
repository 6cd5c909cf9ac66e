use Rattle.std.proofs.Common.{◌≡◌, ◌++◌, map, drop}
use Rattle.hs_first_em.specs.Of.{ems_of, em_of}
use Rattle.hs_fstar.specs.Layout.{ems_text}
use Rattle.hs_fstar.proofs.print.+expression.Given as goal

-- with the text of the operands that are left, the text is that of all operands
abbrev pub invariant-write_operands-loop-operand : goal.invariant-write_operands-loop-operand
invariant-write_operands-loop-operand l =
    l.text.items ++ ems_text l.indent (ems_of (map em_of (drop l.operand-index l.operands)))
    ≡ l.initial.text.items ++ ems_text l.indent (ems_of (map em_of l.operands))
