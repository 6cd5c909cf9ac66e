use Rattle.hs_items.proofs.WrittenTypes.{written_below, written_made, written_fits}
use Rattle.hs_items.proofs.promises.written_types_are_sure.Goals as goal

pub returns-clause-below : goal.returns-clause-below
returns-clause-below c = written_below

pub returns-clause-made : goal.returns-clause-made
returns-clause-made c = written_made

pub returns-clause-fits : goal.returns-clause-fits
returns-clause-fits c = written_fits
