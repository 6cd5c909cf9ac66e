use Rattle.std.proofs.Common.{◌≡◌, ◌+◌, Err, map, drop, rules, arith}
use Rattle.hs_resolver.specs.Parts.{all}
use Rattle.hs_resolver.specs.Names.{names_of_param}
use Rattle.hs_resolver.specs.Walks.{Alike}
use Rattle.hs_resolver.proofs.Rows.{goes_past, stops_row, row_left}
use Rattle.hs_resolver.proofs.items.params.Goals as goal

pub returns-in_err-param : goal.returns-in_err-param
returns-in_err-param c =
    let e : c.from_residual.result ≡ Err c.in_err-param.field-0.0 = search rules in
    let file = c.args.world.now.paths.now in
    let i = c.loop-one.one-index in
    let xs = c.as_slice-one-items.result.now in
    let x = c.one-item.result in
    let known = c.loop-one.known in
    let whole = all (map (names_of_param file) c.args.params.now) c.args.known.now in
    let left : Alike whole (all (map (names_of_param file) (drop i xs)) known) = search rules in
    rw e (stops_row (Unit {0}) (Unit {0}) whole (names_of_param file x) (all (map (names_of_param file) (drop (i + 1) xs))) known c.param.new.known c.param.new.known c.in_err-param.field-0.0
    (row_left (names_of_param file) i xs x whole known (omega arith) c.one-item.is left) c.in_err-param.ensures.walks)

pub loop-one-preserved : goal.loop-one-preserved
loop-one-preserved c =
    let file = c.args.world.now.paths.now in
    let i = c.loop-one.one-index in
    let xs = c.as_slice-one-items.result.now in
    let x = c.one-item.result in
    let known = c.loop-one.known in
    let whole = all (map (names_of_param file) xs) c.args.known.now in (
      goes_past whole (names_of_param file x) (all (map (names_of_param file) (drop (i + 1) xs))) known c.param.new.known
          (row_left (names_of_param file) i xs x whole known (omega arith) c.one-item.is c.loop-one.invariant.0) c.in_ok-param.ensures.walks.0 c.in_ok-param.ensures.walks.1,
      c.in_ok-param.ensures.began,
    )
