use Rattle.std.proofs.Common.{◌≡◌, map, drop}
use Rattle.std.specs.Prelude.{fold}
use Rattle.hs_marks.specs.First.{first}
use Rattle.hs_items.specs.Nodes.{in_types}
use Rattle.hs_items.specs.Walk.{at, joined, nodes_of_ty, facts_of_ty, facts_of_tys}
use Rattle.hs_items.proofs.types.World.+check.Given as goal

abbrev pub invariant-check_all-loop-ty : goal.invariant-check_all-loop-ty
invariant-check_all-loop-ty l = record {
  told : first (in_types (nodes_of_ty l.self.symbols.now (at l.self.facts.now)) l.ty-items) ≡ first (in_types (nodes_of_ty l.self.symbols.now (at l.self.facts.now)) (drop l.ty-index l.ty-items));
  facts : facts_of_tys l.self.symbols.now (at l.self.facts.now) l.ty-items ≡ fold joined l.row (map (facts_of_ty l.self.symbols.now (at l.self.facts.now)) (drop l.ty-index l.ty-items));
}
