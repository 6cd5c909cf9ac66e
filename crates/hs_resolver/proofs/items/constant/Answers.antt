use Rattle.std.proofs.Common.{[], false}
use Rattle.hs_resolver.specs.Parts.{◌&◌}
use Rattle.hs_resolver.specs.Names.{item_name, names_of_ty, names_of_exp}
use Rattle.hs_resolver.proofs.Walking.{goes}
use Rattle.hs_resolver.proofs.items.constant.Goals as goal

pub returns-clause-walks : goal.returns-clause-walks
returns-clause-walks c =
    let file = c.args.world.now.paths.now in
    goes (item_name file c.args.name c.args.before.now) (names_of_ty file c.args.type_.now & names_of_exp file false c.args.value.now []) c.args.known.now c.args.known.now c.exp.new.known
    c.in_ok-item_name.field-0 c.exp.result c.in_ok-item_name.ensures.walks
    (goes (names_of_ty file c.args.type_.now) (names_of_exp file false c.args.value.now []) c.args.known.now c.ty.new.known c.exp.new.known
    c.in_ok-ty.field-0 c.exp.result c.in_ok-ty.ensures (rw (c.requires, c.new.ensures) at c.exp.ensures.walks))
