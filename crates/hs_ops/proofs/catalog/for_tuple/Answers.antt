use Rattle.std.proofs.Common.{refl}
use Rattle.hs_ops.specs.Standard.{for_tuple}
use Rattle.hs_ops.proofs.catalog.for_tuple.Goals as goal

pub returns : goal.returns
unfolding for_tuple
returns c = refl
