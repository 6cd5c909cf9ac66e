use Rattle.std.proofs.Common.{bit_and}
use Rattle.hs_words.proofs.Modular.{from_bits-two}
use Rattle.hs_words.proofs.words.Word.and.Goals as goal

pub returns : goal.returns
returns c = from_bits-two c.args.self.now c.args.b.now c.self.inside.ty c.b.inside.ty _ _ c.self.view_is c.b.view_is c.self.invariant c.b.invariant c.requires bit_and
