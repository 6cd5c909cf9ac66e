use Rattle.std.proofs.Common.{◌∙◌, ap, length}
use Rattle.hs_resolver.specs.declared.known.Known.{Known}
use Rattle.hs_resolver.proofs.Patterns.{pat_count}
use Rattle.hs_resolver.proofs.flat.let_pat.Goals as goal

pub returns-clause-behind : goal.returns-clause-behind
returns-clause-behind c =
    c.len.ensures ∙ ap (λ (k : Known). length k.places) c.in_ok-pat.ensures.walks.1
    ∙ pat_count c.args.world.now.paths.now c.args.world.now.in_function c.args.pattern.now c.len-start.result c.args.known.now
