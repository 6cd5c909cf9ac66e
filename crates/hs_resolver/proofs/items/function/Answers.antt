use Rattle.std.proofs.Common.{map, true}
use Rattle.hs_resolver.specs.Parts.{◌&◌, all}
use Rattle.hs_resolver.specs.Names.{names_of_param, optional_ty, names_of_block, parameters}
use Rattle.hs_resolver.proofs.Walking.{goes}
use Rattle.hs_resolver.proofs.items.function.Goals as goal

pub returns : goal.returns
returns c =
    let file = c.args.world.now.paths.now in
    let body = names_of_block file true c.args.body.now (parameters file c.args.given.now) in
    goes (all (map (names_of_param file) c.args.given.now)) (optional_ty file c.args.type_.now & body) c.args.known.now c.params.new.known c.block.new.known
    c.in_ok-params.field-0 c.block.result c.in_ok-params.ensures
    (goes (optional_ty file c.args.type_.now) body c.params.new.known c.optional_ty.new.known c.block.new.known
    c.in_ok-optional_ty.field-0 c.block.result c.in_ok-optional_ty.ensures (rw (c.requires.function, c.in_ok-parameters.ensures) at c.block.ensures.walks))
