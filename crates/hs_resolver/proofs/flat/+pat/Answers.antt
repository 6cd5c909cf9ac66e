use Rattle.std.proofs.Common.{◌≡◌, Err, rules}
use Rattle.hs_resolver.specs.Names.{ctor_name, names_of_pats}
use Rattle.hs_resolver.proofs.Layers.{pat_name, pat_tuple, pat_struct}
use Rattle.hs_resolver.proofs.Walking.{goes, stops}
use Rattle.hs_resolver.proofs.flat.+pat.Goals as goal

pub pat-returns-in-Name-clause-walks : goal.pat-returns-in-Name-clause-walks
pat-returns-in-Name-clause-walks t c = rw (c.in-Name.is, pat_name) c.binder.ensures.walks

pub pat-returns-in-Tuple-clause-walks : goal.pat-returns-in-Tuple-clause-walks
pat-returns-in-Tuple-clause-walks t c = rw (c.in-Tuple.is, pat_tuple) c.pats.ensures.walks

pub pat-returns-in_err-ctor_name-in-Struct-clause-walks : goal.pat-returns-in_err-ctor_name-in-Struct-clause-walks
pat-returns-in_err-ctor_name-in-Struct-clause-walks t c =
    let e : c.from_residual.result ≡ Err c.in_err-ctor_name-in-Struct.field-0.0 = search rules in
    rw (c.in-Struct.is, pat_struct, e)
    (stops (Unit {0}) (Unit {0}) (ctor_name c.args.world.now.paths.now c.in-Struct.name) (names_of_pats c.args.world.now.paths.now c.args.world.now.in_function c.in-Struct.parts c.args.start)
    c.args.known.now c.ctor_name.new.known c.ctor_name.new.known c.in_err-ctor_name-in-Struct.field-0.0 c.in_err-ctor_name-in-Struct.ensures)

pub pat-returns-in_ok-ctor_name-in-Struct-clause-walks : goal.pat-returns-in_ok-ctor_name-in-Struct-clause-walks
pat-returns-in_ok-ctor_name-in-Struct-clause-walks t c =
    rw (c.in-Struct.is, pat_struct)
    (goes (ctor_name c.args.world.now.paths.now c.in-Struct.name) (names_of_pats c.args.world.now.paths.now c.args.world.now.in_function c.in-Struct.parts c.args.start)
    c.args.known.now c.ctor_name.new.known c.pats-in-Struct.new.known c.in_ok-ctor_name-in-Struct.field-0 c.pats-in-Struct.result c.in_ok-ctor_name-in-Struct.ensures c.pats-in-Struct.ensures.walks)
