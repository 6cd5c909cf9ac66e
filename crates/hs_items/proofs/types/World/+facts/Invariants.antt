use Rattle.std.proofs.Common.{◌≡◌, map, drop}
use Rattle.std.specs.Prelude.{fold}
use Rattle.hs_items.specs.Walk.{at, joined, facts_of_ty, facts_of_tys}
use Rattle.hs_items.proofs.types.World.+facts.Given as goal

abbrev pub invariant-facts_of_all-loop-ty : goal.invariant-facts_of_all-loop-ty
invariant-facts_of_all-loop-ty l =
    facts_of_tys l.self.symbols.now (at l.self.facts.now) l.ty-items ≡ fold joined l.row (map (facts_of_ty l.self.symbols.now (at l.self.facts.now)) (drop l.ty-index l.ty-items))
