use Rattle.hs_ops.proofs.Entries.{slice_rises, names_distinct, place_found, place_named, place_own, nowhere, named_absent}
use Rattle.hs_ops.proofs.table.OpTable.find.Goals as goal

pub search-requires : goal.search-requires
search-requires g c = slice_rises _ _ _ _ c.self.view_is c.self.invariant c.as_slice.ensures

pub returns-in-Some-clause-found : goal.returns-in-Some-clause-found
returns-in-Some-clause-found g c = place_found _ _ _ _ c.self.view_is c.self.invariant c.as_slice.ensures c.in-Some.place c.args.name.now c.in-Some.ensures.found

pub returns-in-Some-clause-named : goal.returns-in-Some-clause-named
returns-in-Some-clause-named g c = place_named _ _ _ _ c.self.view_is c.self.invariant c.as_slice.ensures c.in-Some.place c.args.name.now c.in-Some.ensures.found

pub returns-in-Some-clause-foreign : goal.returns-in-Some-clause-foreign
returns-in-Some-clause-foreign g c = λ never. absurd (place_own _ _ _ _ c.self.view_is c.self.invariant c.as_slice.ensures c.in-Some.place c.args.name.now c.in-Some.ensures.found never)

pub returns-in-Some-clause-distinct : goal.returns-in-Some-clause-distinct
returns-in-Some-clause-distinct g c = names_distinct _ _ _ _ c.self.view_is c.self.invariant c.as_slice.ensures

pub returns-in-None-clause-absent : goal.returns-in-None-clause-absent
returns-in-None-clause-absent g c = nowhere _ _ _ _ c.self.view_is c.self.invariant c.as_slice.ensures c.args.name.now c.in-None.ensures.absent

pub returns-in-None-clause-named : goal.returns-in-None-clause-named
returns-in-None-clause-named g c = named_absent c.args.self.now c.args.name.now (nowhere _ _ _ _ c.self.view_is c.self.invariant c.as_slice.ensures c.args.name.now c.in-None.ensures.absent)

pub returns-in-None-clause-distinct : goal.returns-in-None-clause-distinct
returns-in-None-clause-distinct g c = names_distinct _ _ _ _ c.self.view_is c.self.invariant c.as_slice.ensures
