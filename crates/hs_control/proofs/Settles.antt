-- A value of a source settles to itself.
use Rattle.std.proofs.Common.{◌≡◌, List, [], ◌∷◌, map, Some, refl, ap, subst, ◌∙◌}
use Rattle.std.specs.Prelude.{option_map}
use Rattle.hs_values.specs.declared.value.Value.{Value}
use Rattle.hs_values.specs.declared.value.Value.TheOpen.{Value-F}
use Rattle.hs_values.specs.declared.value.Value.TheOpen as layer
use Rattle.hs_values.specs.declared.value.Value.TheVariants as value
use Rattle.hs_values.specs.declared.value.Value.TheFolds.{map-Value, fold-roll-Value, ind-Value}
use Rattle.hs_values.specs.declared.value.Value.TheViews.{roll-Value}
use Rattle.hs_ops.specs.Views.{consed}
use Rattle.hs_control.specs.Control.{Val, vals_of, level_of, val_of, settled, settled_all}

abbrev Settles : Value → Type 0
Settles v = settled (val_of v) ≡ Some v

abbrev Known : Type 0
Known = (v : Value) × Settles v

abbrev values : List Known → List Value
values = map (λ k. k.0)

abbrev below : Value-F Known → Value-F Value
below = map-Value Known Value (λ k. k.0)

each_settles : (ks : List Known) → settled_all (vals_of (map val_of (values ks))) ≡ Some (values ks)
each_settles [] = refl
each_settles (k ∷ ks) =
    ap (λ o. consed o (settled_all (vals_of (map val_of (values ks))))) k.1 ∙ ap (consed (Some k.0)) (each_settles ks)

level : (y : Value-F Known) → Settles (roll-Value (below y))
unfolding roll-Value denote.Hole.Carrier.roll
level layer.Unit = ap settled (fold-roll-Value Val level_of layer.Unit)
level (layer.Bool b) = ap settled (fold-roll-Value Val level_of (layer.Bool b))
level (layer.Int n) = ap settled (fold-roll-Value Val level_of (layer.Int n))
level (layer.Seq ks) =
    ap settled (fold-roll-Value Val level_of (layer.Seq (values ks))) ∙ ap (option_map value.Seq) (each_settles ks)
level (layer.Tuple ks) =
    ap settled (fold-roll-Value Val level_of (layer.Tuple (values ks))) ∙ ap (option_map value.Tuple) (each_settles ks)
level (layer.Ctor s n ks) =
    ap settled (fold-roll-Value Val level_of (layer.Ctor s n (values ks))) ∙ ap (option_map (value.Ctor s n)) (each_settles ks)

pub values_settle : (v : Value) → settled (val_of v) ≡ Some v
values_settle = ind-Value Settles (λ x y is. subst (λ z. Settles (roll-Value z)) is (level y))
