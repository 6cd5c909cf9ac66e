use Rattle.std.proofs.Common.{◌≡◌, ◌-◌, length, map, drop}
use Rattle.hs_items.specs.Whole.{facts_of, row, expanded}
use Rattle.hs_items.specs.Walk.{limited}
use Rattle.hs_typing.proofs.table.Table.+facts.Given as goal

abbrev pub invariant-facts_of_all-loop-back : goal.invariant-facts_of_all-loop-back
invariant-facts_of_all-loop-back l =
    l.row ≡ limited (facts_of (row (map (expanded l.self.types.now) (drop (length l.types - l.back) l.types))))
