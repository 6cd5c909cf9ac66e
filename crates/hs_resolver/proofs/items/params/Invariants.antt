use Rattle.std.proofs.Common.{map, drop}
use Rattle.hs_resolver.specs.Parts.{all}
use Rattle.hs_resolver.specs.Names.{names_of_param}
use Rattle.hs_resolver.specs.Walks.{Alike, Began}
use Rattle.hs_resolver.proofs.items.params.Given as goal

abbrev pub invariant-loop-one : goal.invariant-loop-one
invariant-loop-one l =
    Alike (all (map (names_of_param l.world.paths.now) l.one-items) l.initial.known) (all (map (names_of_param l.world.paths.now) (drop l.one-index l.one-items)) l.known)
    × Began l.world.paths.now.text l.before 0 l.known
