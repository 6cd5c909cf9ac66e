use Rattle.hs_limits.specs.Nodes.{outline_of}
use Rattle.hs_limits.specs.Breaks.{marked}
use Rattle.hs_limits.proofs.Order.{lies, rising}
use Rattle.hs_limits.proofs.told.one_is_told.Goals as goal

pub returns : goal.returns
returns c = record {
  one = λ file n. c.first_is_told.ensures.one (marked (outline_of file)) 0 n.0 (lies (outline_of file) 0 n.0 n.1) (rising (outline_of file));
  alone = λ file n. c.first_is_told.ensures.alone (marked (outline_of file)) 0 n.0 (lies (outline_of file) 0 n.0 n.1) (rising (outline_of file));
}
