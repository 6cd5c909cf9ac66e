use Rattle.hs_typing.proofs.Same.{decides}
use Rattle.hs_typing.proofs.types.is_same.Goals as goal

pub returns : goal.returns
returns c = decides c.same.result c.args.ty.now c.args.other.now c.same.ensures
