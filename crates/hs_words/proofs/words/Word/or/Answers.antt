use Rattle.std.proofs.Common.{bit_or}
use Rattle.hs_words.proofs.Modular.{from_bits-two, or_below}
use Rattle.hs_words.proofs.words.Word.or.Goals as goal

pub invariant_of-result : goal.invariant_of-result
invariant_of-result c = or_below c.args.self.now c.args.b.now c.self.inside.ty c.b.inside.ty _ _ c.self.view_is c.b.view_is c.self.invariant c.b.invariant c.requires

pub returns : goal.returns
returns c = from_bits-two c.args.self.now c.args.b.now c.self.inside.ty c.b.inside.ty _ _ c.self.view_is c.b.view_is c.self.invariant c.b.invariant c.requires bit_or
