use Rattle.std.proofs.Common.{map, drop}
use Rattle.hs_resolver.specs.Parts.{all}
use Rattle.hs_resolver.specs.Names.{names_of_ty}
use Rattle.hs_resolver.specs.Walks.{Alike}
use Rattle.hs_resolver.proofs.flat.+ty.Given as goal

abbrev pub invariant-tys-loop-part : goal.invariant-tys-loop-part
invariant-tys-loop-part l =
    Alike (all (map (names_of_ty l.world.paths.now) l.part-items) l.initial.known) (all (map (names_of_ty l.world.paths.now) (drop l.part-index l.part-items)) l.known)
