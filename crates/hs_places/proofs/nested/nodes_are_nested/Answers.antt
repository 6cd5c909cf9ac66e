use Rattle.hs_places.proofs.Spaces.{tokens_spaced}
use Rattle.hs_places.proofs.Rules.{items_nested}
use Rattle.hs_places.proofs.nested.nodes_are_nested.Goals as goal

pub returns-clause-spaced : goal.returns-clause-spaced
returns-clause-spaced c = tokens_spaced

pub returns-clause-nested : goal.returns-clause-nested
returns-clause-nested c = items_nested c.spans_agree.ensures
