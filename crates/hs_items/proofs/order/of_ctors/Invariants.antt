use Rattle.std.proofs.Common.{◌≡◌, map, drop}
use Rattle.std.specs.Prelude.{fold}
use Rattle.hs_syntax.specs.declared.item.Ctor.{Ctor}
use Rattle.hs_items.specs.Walk.{at, joined, facts_of_tys, facts_of_ctors}
use Rattle.hs_items.proofs.order.of_ctors.Given as goal

abbrev pub invariant-loop-ctor : goal.invariant-loop-ctor
invariant-loop-ctor l =
    facts_of_ctors l.world.symbols.now (at l.world.facts.now) l.ctor-items ≡ fold joined l.row (map (λ (c : Ctor). facts_of_tys l.world.symbols.now (at l.world.facts.now) c.parts) (drop l.ctor-index l.ctor-items))
