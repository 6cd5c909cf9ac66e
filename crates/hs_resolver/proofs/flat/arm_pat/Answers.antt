use Rattle.std.proofs.Common.{ℕ, ◌≡◌, ◌∙◌, ap, length, Err, rules}
use Rattle.hs_resolver.specs.declared.known.Known.{Known}
use Rattle.hs_resolver.specs.Names.{names_of_arm_pat}
use Rattle.hs_resolver.proofs.Patterns.{arm_pat_count}
use Rattle.hs_resolver.proofs.Walking.{fails}
use Rattle.hs_resolver.proofs.flat.arm_pat.Goals as goal

pub returns-in_err-arm_names-clause-walks : goal.returns-in_err-arm_names-clause-walks
returns-in_err-arm_names-clause-walks c =
    let e : c.from_residual.result ≡ Err c.in_err-arm_names.field-0.0 = search rules in
    rw (← c.len-start.ensures, e)
    (fails (Unit {0}) ℕ (names_of_arm_pat c.args.world.now.paths.now c.args.world.now.in_function c.args.pattern.now c.len-start.result c.args.known.now) c.arm_names.new.known c.arm_names.new.known c.in_err-arm_names.field-0.0 c.in_err-arm_names.ensures)

pub returns-clause-walks : goal.returns-clause-walks
returns-clause-walks c = rw (← c.len-start.ensures) c.in_ok-arm_names.ensures

pub returns-clause-behind : goal.returns-clause-behind
returns-clause-behind c =
    c.len.ensures ∙ ap (λ (k : Known). length k.places) c.in_ok-arm_names.ensures.1
    ∙ arm_pat_count c.args.world.now.paths.now c.args.world.now.in_function c.args.pattern.now c.len-start.result c.args.known.now
