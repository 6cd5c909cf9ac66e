use Rattle.hs_front.proofs.Kept.{rules_apart}
use Rattle.hs_front.proofs.stages.stages_exclude.Goals as goal

pub returns : goal.returns
returns c = λ file. rules_apart file c.names_exclude.ensures c.declarations_exclude.ensures
