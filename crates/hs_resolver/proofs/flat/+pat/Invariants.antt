use Rattle.std.proofs.Common.{drop}
use Rattle.hs_resolver.specs.Names.{names_of_pats}
use Rattle.hs_resolver.specs.Walks.{Alike, Began}
use Rattle.hs_resolver.proofs.flat.+pat.Given as goal

abbrev pub invariant-pats-loop-part : goal.invariant-pats-loop-part
invariant-pats-loop-part l =
    Alike (names_of_pats l.world.paths.now l.world.in_function l.part-items l.start l.initial.known) (names_of_pats l.world.paths.now l.world.in_function (drop l.part-index l.part-items) l.start l.known)
    × Began l.world.paths.now.text l.before l.start l.known
