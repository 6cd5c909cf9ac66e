use Rattle.std.proofs.Common.{[], drop}
use Rattle.hs_resolver.specs.Names.{ctors_behind}
use Rattle.hs_resolver.specs.Walks.{Alike}
use Rattle.hs_resolver.proofs.items.ctors.Given as goal

abbrev pub invariant-loop-ctor : goal.invariant-loop-ctor
invariant-loop-ctor l =
    Alike (ctors_behind l.world.paths.now l.ctor-items [] l.initial.known) (ctors_behind l.world.paths.now (drop l.ctor-index l.ctor-items) l.before l.known)
