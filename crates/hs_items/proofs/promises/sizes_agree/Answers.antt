use Rattle.hs_items.proofs.Sizes.{heights_agree, copies_agree, entries_expand, limits_agree, entries_fit}
use Rattle.hs_items.proofs.promises.sizes_agree.Goals as goal

pub returns-clause-heights : goal.returns-clause-heights
returns-clause-heights c = heights_agree

pub returns-clause-copies : goal.returns-clause-copies
returns-clause-copies c = copies_agree

pub returns-clause-entries : goal.returns-clause-entries
returns-clause-entries c = entries_expand

pub returns-clause-limits : goal.returns-clause-limits
returns-clause-limits c = limits_agree

pub returns-clause-fits : goal.returns-clause-fits
returns-clause-fits c = entries_fit
