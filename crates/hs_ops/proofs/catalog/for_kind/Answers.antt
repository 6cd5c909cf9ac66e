use Rattle.std.proofs.Common.{refl}
use Rattle.hs_ops.specs.Standard.{for_kind}
use Rattle.hs_ops.proofs.catalog.for_kind.Goals as goal

pub returns : goal.returns
unfolding for_kind
returns c = refl
