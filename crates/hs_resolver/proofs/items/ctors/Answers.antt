use Rattle.std.proofs.Common.{◌≡◌, ◌+◌, Err, List, [], ◌++◌, ◌∷◌, drop, sym, subst, ℕ, rules, arith}
use Rattle.hs_syntax.specs.Texts.{bytes_at}
use Rattle.hs_resolver.specs.Names.{names_of_tys, ctor_title, ctors_behind}
use Rattle.hs_resolver.specs.Walks.{Alike}
use Rattle.hs_resolver.proofs.Rows.{goes_past, stops_row, parts_left, ctor_left}
use Rattle.hs_resolver.proofs.items.ctors.Goals as goal

pub returns-in_err-ctor_title : goal.returns-in_err-ctor_title
returns-in_err-ctor_title c =
    let e : c.from_residual.result ≡ Err c.in_err-ctor_title.field-0.0 = search rules in
    let file = c.args.world.now.paths.now in
    let i = c.loop-ctor.ctor-index in
    let cs = c.as_slice-ctor-items.result.now in
    let x = c.ctor-item.result in
    let before = c.loop-ctor.before in
    let known = c.loop-ctor.known in
    let whole = ctors_behind file c.args.ctors.now [] c.args.known.now in
    let left : Alike whole (ctors_behind file (drop i cs) before known) = search rules in
    rw e (stops_row (Unit {0}) (Unit {0}) whole (ctor_title file x.name before) (parts_left file i cs x before whole known) known known known c.in_err-ctor_title.field-0.0
    (ctor_left file i cs x before whole known (omega arith) c.ctor-item.is left) c.in_err-ctor_title.ensures.walks)

pub returns-in_err-tys : goal.returns-in_err-tys
returns-in_err-tys c =
    let e : c.from_residual-in_err-tys.result ≡ Err c.in_err-tys.field-0.0 = search rules in
    let file = c.args.world.now.paths.now in
    let i = c.loop-ctor.ctor-index in
    let cs = c.as_slice-ctor-items.result.now in
    let x = c.ctor-item.result in
    let before = c.loop-ctor.before in
    let known = c.loop-ctor.known in
    let whole = ctors_behind file c.args.ctors.now [] c.args.known.now in
    let left : Alike whole (ctors_behind file (drop i cs) before known) = search rules in
    let titled = goes_past whole (ctor_title file x.name before) (parts_left file i cs x before whole known) known known
    (ctor_left file i cs x before whole known (omega arith) c.ctor-item.is left) c.in_ok-ctor_title.ensures.walks.0 c.in_ok-ctor_title.ensures.walks.1 in
    rw e (stops_row (Unit {0}) (Unit {0}) whole (names_of_tys file x.parts) (ctors_behind file (drop (i + 1) cs) (before ++ bytes_at file.text x.name ∷ [])) known c.tys.new.known c.tys.new.known c.in_err-tys.field-0.0
    titled c.in_err-tys.ensures)

pub loop-ctor-preserved : goal.loop-ctor-preserved
loop-ctor-preserved c =
    let file = c.args.world.now.paths.now in
    let i = c.loop-ctor.ctor-index in
    let cs = c.as_slice-ctor-items.result.now in
    let x = c.ctor-item.result in
    let before = c.loop-ctor.before in
    let known = c.loop-ctor.known in
    let whole = ctors_behind file cs [] c.args.known.now in
    let titled = goes_past whole (ctor_title file x.name before) (parts_left file i cs x before whole known) known known
    (ctor_left file i cs x before whole known (omega arith) c.ctor-item.is c.loop-ctor.invariant) c.in_ok-ctor_title.ensures.walks.0 c.in_ok-ctor_title.ensures.walks.1 in
    subst (λ (names : List (List ℕ)). Alike whole (ctors_behind file (drop (i + 1) cs) names c.tys.new.known)) (sym c.in_ok-ctor_title.ensures.before)
    (goes_past whole (names_of_tys file x.parts) (ctors_behind file (drop (i + 1) cs) (before ++ bytes_at file.text x.name ∷ [])) known c.tys.new.known titled c.in_ok-tys.ensures.0 c.in_ok-tys.ensures.1)
