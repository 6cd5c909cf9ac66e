-- Types by their forms.
use Rattle.std.proofs.Common.{ℕ, ◌≡◌, ◌∙◌, ap}
use Rattle.hs_values.specs.declared.types.ValType.{ValType, roll-ValType, out-ValType}
use Rattle.hs_values.specs.declared.types.ValType.TheVariants as variant
use Rattle.hs_values.specs.declared.types.ValType.TheOpen as layer
use Rattle.hs_values.specs.declared.types.ValType.TheViews.{out-roll-ValType}

pub out_seq : (t item : ValType) → t ≡ variant.Seq item → out-ValType t ≡ layer.Seq item
unfolding roll-ValType denote.Hole.Carrier.roll
out_seq t item e = ap out-ValType e ∙ out-roll-ValType (layer.Seq item)

pub out_named : (t : ValType) (k : ℕ) → t ≡ variant.Named k → out-ValType t ≡ layer.Named k
unfolding roll-ValType denote.Hole.Carrier.roll
out_named t k e = ap out-ValType e ∙ out-roll-ValType (layer.Named k)
