use Rattle.std.proofs.Common.{◌≡◌, Err, rules}
use Rattle.hs_resolver.specs.Names.{ctor_name, ctor_path, across, names_of_pats}
use Rattle.hs_resolver.proofs.Patterns.{path_began}
use Rattle.hs_resolver.proofs.Walking.{goes, stops}
use Rattle.hs_resolver.proofs.flat.arm_names.Goals as goal

pub pats-requires-in-Member : goal.pats-requires-in-Member
pats-requires-in-Member c =
    path_began c.args.world.now.paths.now (across c.in-Member.first c.in-Member.second) c.in-Member.first c.in-Member.second c.args.before.now c.args.start c.args.known.now c.constructor.new.known
    c.in_ok-constructor-in-Member.ensures.1 c.requires

pub returns-in_err-ctor_name-in-Ctor : goal.returns-in_err-ctor_name-in-Ctor
returns-in_err-ctor_name-in-Ctor c =
    let e : c.from_residual.result ≡ Err c.in_err-ctor_name-in-Ctor.field-0.0 = search rules in
    rw (c.in-Ctor.is, e)
    (stops (Unit {0}) (Unit {0}) (ctor_name c.args.world.now.paths.now c.in-Ctor.name) (names_of_pats c.args.world.now.paths.now c.args.world.now.in_function c.in-Ctor.parts c.args.start)
    c.args.known.now c.ctor_name.new.known c.ctor_name.new.known c.in_err-ctor_name-in-Ctor.field-0.0 c.in_err-ctor_name-in-Ctor.ensures)

pub returns-in_ok-ctor_name-in-Ctor : goal.returns-in_ok-ctor_name-in-Ctor
returns-in_ok-ctor_name-in-Ctor c =
    rw c.in-Ctor.is
    (goes (ctor_name c.args.world.now.paths.now c.in-Ctor.name) (names_of_pats c.args.world.now.paths.now c.args.world.now.in_function c.in-Ctor.parts c.args.start)
    c.args.known.now c.ctor_name.new.known c.pats.new.known c.in_ok-ctor_name-in-Ctor.field-0 c.pats.result c.in_ok-ctor_name-in-Ctor.ensures c.pats.ensures.walks)

pub returns-in_err-constructor-in-Member : goal.returns-in_err-constructor-in-Member
returns-in_err-constructor-in-Member c =
    let e : c.from_residual-in_err-constructor-in-Member.result ≡ Err c.in_err-constructor-in-Member.field-0.0 = search rules in
    rw (c.in-Member.is, e)
    (stops (Unit {0}) (Unit {0}) (ctor_path c.args.world.now.paths.now (across c.in-Member.first c.in-Member.second) c.in-Member.first c.in-Member.second) (names_of_pats c.args.world.now.paths.now c.args.world.now.in_function c.in-Member.parts c.args.start)
    c.args.known.now c.constructor.new.known c.constructor.new.known c.in_err-constructor-in-Member.field-0.0 c.in_err-constructor-in-Member.ensures)

pub returns-in_ok-constructor-in-Member : goal.returns-in_ok-constructor-in-Member
returns-in_ok-constructor-in-Member c =
    rw c.in-Member.is
    (goes (ctor_path c.args.world.now.paths.now (across c.in-Member.first c.in-Member.second) c.in-Member.first c.in-Member.second) (names_of_pats c.args.world.now.paths.now c.args.world.now.in_function c.in-Member.parts c.args.start)
    c.args.known.now c.constructor.new.known c.pats-in-Member.new.known c.in_ok-constructor-in-Member.field-0 c.pats-in-Member.result c.in_ok-constructor-in-Member.ensures c.pats-in-Member.ensures.walks)
