use Rattle.std.proofs.lemmas.Bool.Decides.{same_from_decides}
use Rattle.hs_ops.proofs.Same.{is_same-Decides}
use Rattle.hs_ops.proofs.part.is_same.Goals as goal

pub returns : goal.returns
returns c = same_from_decides _ _ c.same.ensures (is_same-Decides c.args.first.now c.args.second.now)
