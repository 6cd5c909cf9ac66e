use Rattle.std.proofs.Common.{◌≡◌, map, drop}
use Rattle.hs_limits.specs.Nodes.{word}
use Rattle.hs_limits.specs.Walk.{first_chain, high_chain}
use Rattle.hs_limits.proofs.walk.names_behind.Given as goal

abbrev pub invariant-loop-name : goal.invariant-loop-name
invariant-loop-name l = record {
  told : first_chain l.start (map word l.name-items) l.fn.first ≡ first_chain l.start (map word (drop l.name-index l.name-items)) l.height;
  height : high_chain (map word l.name-items) l.fn.first ≡ high_chain (map word (drop l.name-index l.name-items)) l.height;
}
