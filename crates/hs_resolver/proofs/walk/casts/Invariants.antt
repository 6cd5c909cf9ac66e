use Rattle.std.proofs.Common.{map, drop}
use Rattle.hs_resolver.specs.Parts.{all}
use Rattle.hs_resolver.specs.Names.{alone}
use Rattle.hs_resolver.specs.Walks.{Alike}
use Rattle.hs_resolver.proofs.walk.casts.Given as goal

abbrev pub invariant-loop-name : goal.invariant-loop-name
invariant-loop-name l =
    Alike (all (map (alone l.world.paths.now) l.name-items) l.initial.known) (all (map (alone l.world.paths.now) (drop l.name-index l.name-items)) l.known)
