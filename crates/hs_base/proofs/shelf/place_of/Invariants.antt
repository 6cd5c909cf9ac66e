use Rattle.hs_base.proofs.Searching.{Searched}
use Rattle.hs_base.proofs.shelf.place_of.Given as goal

-- the name stands at none of the places before
abbrev pub invariant-loop-at : goal.invariant-loop-at
invariant-loop-at l = Searched l.name l.held l.at
