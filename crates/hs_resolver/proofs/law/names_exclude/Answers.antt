use Rattle.hs_resolver.proofs.Excludes.{names_apart}
use Rattle.hs_resolver.proofs.law.names_exclude.Goals as goal

pub returns : goal.returns
returns c = names_apart
