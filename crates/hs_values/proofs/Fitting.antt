-- What tests of parts give by how many the parts are.
use Rattle.std.proofs.Common.{◌≡◌, ◌↔◌, List, [], ◌∷◌, length, map, Bool, true, false, IsTrue, refl, ap, suc, arith}
use Rattle.std.proofs.lemmas.Grind.{common_steps}
use Rattle.std.specs.Prelude.{◌≢◌}
use Rattle.hs_values.specs.Fits.{all_fit, each_fits}
use Rattle.hs_values.specs.declared.types.ValType.{ValType}
use Rattle.hs_values.specs.declared.value.Value.{Value}

-- unlike many parts and types do not fit
pub each_fits-apart : (f : Value → ValType → Bool) (vs : List Value) (ts : List ValType) → length vs ≢ length ts → each_fits (map f vs) ts ≡ false
each_fits-apart f [] [] h = absurd (h refl)
each_fits-apart f [] (t ∷ ts) h = refl
each_fits-apart f (v ∷ vs) [] h = refl
each_fits-apart f (v ∷ vs) (t ∷ ts) h = let r : each_fits (map f vs) ts ≡ false = each_fits-apart f vs ts (λ e. h (ap suc e)) in grind (arith, common_steps, r)

-- one part fits one type
pub each_fits-one : (f : Value → ValType → Bool) (vs : List Value) (t : ValType) → length vs ≡ 1 → all_fit (map f vs) t ≡ each_fits (map f vs) (t ∷ [])
each_fits-one f [] t h = absurd (omega arith)
each_fits-one f (v ∷ []) t h = refl
each_fits-one f (v ∷ w ∷ vs) t h = absurd (omega arith)

-- no part fits no type
pub each_fits-none : (f : Value → ValType → Bool) (vs : List Value) (b : Bool) → IsTrue b ↔ (vs ≡ []) → b ≡ each_fits (map f vs) []
each_fits-none f [] true h = refl
each_fits-none f [] false h = let e : IsTrue false = h.1 refl in cc e
each_fits-none f (v ∷ vs) true h = let e : v ∷ vs ≡ [] = h.0 refl in cc e
each_fits-none f (v ∷ vs) false h = refl
