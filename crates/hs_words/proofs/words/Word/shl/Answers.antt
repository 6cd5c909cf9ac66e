use Rattle.std.proofs.Common.{◌<◌, arith}
use Rattle.hs_words.specs.Kind.{width_of}
use Rattle.hs_words.proofs.Shifts.{left_shift-is}
use Rattle.hs_words.proofs.words.Word.shl.Goals as goal

pub returns-then-n-width-clause-value : goal.returns-then-n-width-clause-value
returns-then-n-width-clause-value c =
    let small : c.n.inside.bits < width_of c.self.inside.ty = omega arith in
    left_shift-is c.args.self.now c.args.n.now c.self.inside.ty c.n.inside.ty _ _ _ c.self.view_is c.n.view_is c.self.invariant c.requires small c.low_bits.ensures
