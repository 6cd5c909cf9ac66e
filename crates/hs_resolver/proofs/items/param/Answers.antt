use Rattle.hs_resolver.proofs.Rows.{ty_began_ok}
use Rattle.hs_resolver.proofs.items.param.Goals as goal

pub returns-clause-began : goal.returns-clause-began
returns-clause-began c =
    ty_began_ok c.args.world.now.paths.now c.args.param.now.ty c.binder.new.before 0 c.binder.new.known c.ty.new.known c.ty.result c.ty.ensures c.in_ok-binder.ensures.began
