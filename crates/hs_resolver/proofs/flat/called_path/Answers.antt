use Rattle.hs_resolver.proofs.flat.called_path.Goals as goal

pub returns-in-Member : goal.returns-in-Member
returns-in-Member c = rw c.in-Member.is c.called.ensures
