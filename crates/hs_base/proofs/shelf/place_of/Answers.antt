use Rattle.std.proofs.Common.{rules}
use Rattle.hs_base.proofs.Searching.{searched_here, searched_next}
use Rattle.hs_base.proofs.shelf.place_of.Goals as goal

pub returns-then-eq-clause-found : goal.returns-then-eq-clause-found
returns-then-eq-clause-found c =
    searched_here c.args.name.now c.args.held.now c.loop-at.at c.index-held-at.result c.loop-at-test.true c.index-held-at.is (search rules) c.loop-at.invariant

pub loop-at-preserved : goal.loop-at-preserved
loop-at-preserved c =
    searched_next c.args.name.now c.args.held.now c.loop-at.at c.index-held-at.result c.loop-at-test.true c.index-held-at.is (search rules) c.loop-at.invariant
