use Rattle.std.proofs.Common.{◌≡◌, ◌≤◌, ◌++◌, map, drop}
use Rattle.hs_marks.specs.First.{first}
use Rattle.hs_resolver.specs.Names.{names_of, marked, items_behind, rows}
use Rattle.hs_resolver.specs.Order.{kept}
use Rattle.hs_resolver.proofs.resolver.all_items.Given as goal

abbrev pub invariant-loop-next : goal.invariant-loop-next
invariant-loop-next l =
    (l.items ++ map kept (items_behind l.file (drop l.next-index l.next-items) l.functions l.before) ≡ map kept (names_of l.file))
    × (first (marked l.file) ≡ first (rows l.file (items_behind l.file (drop l.next-index l.next-items) l.functions l.before)))
    × (l.functions ≤ l.next-index)
