use Rattle.std.proofs.Common.{map, sym, ◌∙◌, arith}
use Rattle.std.proofs.lemmas.List.{map-append}
use Rattle.hs_first_tree.specs.Of.{param_of}
use Rattle.hs_front.proofs.Locals.{params_more}
use Rattle.hs_front.proofs.resolve.parameters.Goals as goal

pub loop-local-preserved : goal.loop-local-preserved
loop-local-preserved c =
    rw (c.in_ok-push.ensures.ok, map-append)
    (sym (params_more (map param_of c.loop-local.parameters) c.args.names.now c.loop-local.local (omega arith)) ∙ c.loop-local.invariant)
