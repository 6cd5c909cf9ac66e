use Rattle.std.proofs.Common.{◌≡◌, ◌&&◌, eqb, drop}
use Rattle.std.specs.List.{list_any}
use Rattle.hs_tree.specs.Plain.{is_lent}
use Rattle.hs_tree.specs.Of.{mode_of}
use Rattle.hs_linear.proofs.world.World.is_reference.Given as goal

abbrev pub invariant-loop-param : goal.invariant-loop-param
invariant-loop-param l =
    list_any (λ p. eqb p.local l.local && is_lent (mode_of p.mode)) l.param-items ≡ list_any (λ p. eqb p.local l.local && is_lent (mode_of p.mode)) (drop l.param-index l.param-items)
