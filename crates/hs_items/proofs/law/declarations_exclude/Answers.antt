use Rattle.hs_items.proofs.Excludes.{decls_apart}
use Rattle.hs_items.proofs.law.declarations_exclude.Goals as goal

pub returns : goal.returns
returns c = decls_apart
