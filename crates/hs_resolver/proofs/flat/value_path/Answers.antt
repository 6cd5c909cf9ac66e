use Rattle.hs_resolver.proofs.flat.value_path.Goals as goal

pub returns-in-Name : goal.returns-in-Name
returns-in-Name c = rw (c.in-Name.is) (rw c.value_of-referent.ensures at c.known.ensures)

pub returns-in-Member : goal.returns-in-Member
returns-in-Member c = rw c.in-Member.is c.constructor.ensures
