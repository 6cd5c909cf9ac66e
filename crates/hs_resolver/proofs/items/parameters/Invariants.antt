use Rattle.std.proofs.Common.{◌≡◌, map, drop}
use Rattle.hs_syntax.specs.declared.item.Param.{Param}
use Rattle.hs_resolver.specs.Parts.{bound}
use Rattle.hs_resolver.specs.Names.{parameters}
use Rattle.hs_resolver.proofs.items.parameters.Given as goal

abbrev pub invariant-loop-number : goal.invariant-loop-number
invariant-loop-number l =
    parameters l.world.paths.now l.params ≡ bound l.world.paths.now.text (map (λ (p : Param). p.name) (drop l.number l.params)) l.number l.scope
