use Rattle.hs_shapes.proofs.Rules.{items_well}
use Rattle.hs_shapes.proofs.shapes.items_are_well_formed.Goals as goal

pub returns : goal.returns
returns c = items_well
