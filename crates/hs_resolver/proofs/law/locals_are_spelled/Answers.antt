use Rattle.hs_resolver.proofs.Named.{each_spelled}
use Rattle.hs_resolver.proofs.law.locals_are_spelled.Goals as goal

pub returns : goal.returns
returns c = each_spelled
