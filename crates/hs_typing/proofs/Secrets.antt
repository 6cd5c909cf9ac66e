-- Which types have a secret part.
use Rattle.std.proofs.Common.{◌≡◌, refl, sym, ◌∙◌, ap, Bool, ◌||◌, List, [], ◌∷◌, map}
use Rattle.std.specs.List.{list_any}
use Rattle.hs_values.specs.declared.types.ValType.{ValType, roll-ValType}
use Rattle.hs_values.specs.declared.types.ValType.TheVariants as variant
use Rattle.hs_values.specs.declared.types.ValType.TheOpen as layer
use Rattle.hs_values.specs.declared.types.ValType.TheFolds.{fold-roll-ValType}
use Rattle.hs_tree.specs.Types.{secret_level, secret_in}

any_of : (f : ValType → Bool) (ts : List ValType) → list_any (λ (b : Bool). b) (map f ts) ≡ list_any f ts
any_of f [] = refl
any_of f (t ∷ ts) = ap (λ (b : Bool). f t || b) (any_of f ts)

-- a tuple has one where one of its parts has
pub secret_tuple : (named : List Bool) (t : ValType) (parts : List ValType) (b : Bool) → t ≡ variant.Tuple parts → b ≡ list_any (secret_in named) parts → b ≡ secret_in named t
unfolding roll-ValType denote.Hole.Carrier.roll
secret_tuple named t parts b e i =
    i ∙ sym (any_of (secret_in named) parts) ∙ sym (fold-roll-ValType Bool (secret_level named) (layer.Tuple parts)) ∙ sym (ap (secret_in named) e)
