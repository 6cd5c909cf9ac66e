use Rattle.std.proofs.Common.{◌≡◌, ◌+◌, map, drop, length}
use Rattle.hs_resolver.specs.Parts.{bound}
use Rattle.hs_resolver.specs.Names.{binds, binds_all}
use Rattle.hs_resolver.proofs.flat.+bind.Given as goal

abbrev pub invariant-bind_all-loop-part : goal.invariant-bind_all-loop-part
invariant-bind_all-loop-part l =
    (bound l.world.paths.now.text (binds_all (map binds l.part-items)) l.number l.initial.scope
    ≡ bound l.world.paths.now.text (binds_all (map binds (drop l.part-index l.part-items))) l.next l.scope)
    × (l.next + length (binds_all (map binds (drop l.part-index l.part-items))) ≡ l.number + length (binds_all (map binds l.part-items)))
