use Rattle.std.proofs.Common.{◌∙◌}
use Rattle.hs_words.proofs.Modular.{wrapped-product}
use Rattle.hs_words.proofs.words.Word.wmul.Goals as goal

pub returns : goal.returns
returns c = c.low_bits.ensures ∙ wrapped-product c.args.self.now c.args.b.now c.self.inside.ty c.b.inside.ty _ _ c.self.view_is c.b.view_is c.self.invariant c.b.invariant c.requires
