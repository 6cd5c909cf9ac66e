use Rattle.std.proofs.Common.{bit_xor}
use Rattle.hs_words.proofs.Modular.{from_bits-two, xor_below}
use Rattle.hs_words.proofs.words.Word.xor.Goals as goal

pub invariant_of-result : goal.invariant_of-result
invariant_of-result c = xor_below c.args.self.now c.args.b.now c.self.inside.ty c.b.inside.ty _ _ c.self.view_is c.b.view_is c.self.invariant c.b.invariant c.requires

pub returns : goal.returns
returns c = from_bits-two c.args.self.now c.args.b.now c.self.inside.ty c.b.inside.ty _ _ c.self.view_is c.b.view_is c.self.invariant c.b.invariant c.requires bit_xor
