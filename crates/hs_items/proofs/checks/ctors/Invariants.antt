use Rattle.std.proofs.Common.{◌≡◌, map, drop}
use Rattle.std.specs.Prelude.{fold}
use Rattle.hs_syntax.specs.declared.item.Ctor.{Ctor}
use Rattle.hs_marks.specs.First.{first}
use Rattle.hs_items.specs.Nodes.{row, in_ctor}
use Rattle.hs_items.specs.Walk.{at, joined, nodes_of_ty, facts_of_tys, facts_of_ctors}
use Rattle.hs_items.proofs.checks.ctors.Given as goal

abbrev pub invariant-loop-ctor : goal.invariant-loop-ctor
invariant-loop-ctor l = record {
  told : first (row (map (in_ctor (nodes_of_ty l.world.symbols.now (at l.world.facts.now))) l.ctor-items)) ≡ first (row (map (in_ctor (nodes_of_ty l.world.symbols.now (at l.world.facts.now))) (drop l.ctor-index l.ctor-items)));
  facts : facts_of_ctors l.world.symbols.now (at l.world.facts.now) l.ctor-items ≡ fold joined l.row (map (λ (c : Ctor). facts_of_tys l.world.symbols.now (at l.world.facts.now) c.parts) (drop l.ctor-index l.ctor-items));
}
