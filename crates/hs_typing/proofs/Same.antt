-- Whether two types are one.
use Rattle.std.proofs.Common.{ℕ, ◌≡◌, ◌↔◌, refl, sym, ◌∙◌, ap, ap₂, subst, Bool, true, false, ◌&&◌, List, [], ◌∷◌, map, IsTrue, arith, rules}
use Rattle.std.proofs.lemmas.Bool.Decides.{nat_tests}
use Rattle.hs_values.specs.Kinds.{is_kind-equal, is_kind-refl}
use Rattle.hs_values.specs.Fits.{each_fits}
use Rattle.hs_values.specs.declared.types.ValType.{ValType, roll-ValType, out-ValType, the_lemmas}
use Rattle.hs_values.specs.declared.types.ValType.TheOpen.{ValType-F}
use Rattle.hs_values.specs.declared.types.ValType.TheOpen as type
use Rattle.hs_values.specs.declared.types.ValType.TheFolds.{map-ValType, fold-roll-ValType, ind-ValType}
use Rattle.hs_values.specs.declared.types.ValType.TheViews.{out-roll-ValType}
use Rattle.hs_typing.specs.Types.{same_layer, same_type}

and_left : (a b : Bool) → (a && b) ≡ true → a ≡ true
and_left true b h = refl
and_left false b h = h

and_right : (a b : Bool) → (a && b) ≡ true → b ≡ true
and_right true b h = h
and_right false b h = cc

and_both : (a b : Bool) → a ≡ true → b ≡ true → (a && b) ≡ true
and_both true b h k = k
and_both false b h k = h

-- ---- a type is the same as itself, and as no other

pub record Decided (t : ValType) : Type 0 where
  pub itself : same_type t t ≡ true
  pub only : (u : ValType) → same_type t u ≡ true → t ≡ u

abbrev Judged : Type 0
Judged = (t : ValType) × Decided t

abbrev inside : ValType-F Judged → ValType-F ValType
inside y = map-ValType Judged ValType (λ x. x.0) y

abbrev firsts : List Judged → List ValType
firsts ts = map (λ (x : Judged). x.0) ts

abbrev tests : ValType-F Judged → ValType-F (ValType → Bool)
tests y = map-ValType ValType (ValType → Bool) same_type (inside y)

same_themselves : (ts : List Judged) → each_fits (map same_type (firsts ts)) (firsts ts) ≡ true
same_themselves [] = refl
same_themselves (t ∷ ts) = and_both (same_type t.0 t.0) (each_fits (map same_type (firsts ts)) (firsts ts)) t.1.itself (same_themselves ts)

only_these : (ts : List Judged) (us : List ValType) → each_fits (map same_type (firsts ts)) us ≡ true → firsts ts ≡ us
only_these [] [] h = refl
only_these [] (u ∷ us) h = cc
only_these (t ∷ ts) [] h = cc
only_these (t ∷ ts) (u ∷ us) h =
    ap₂ (λ (x : ValType) (xs : List ValType). x ∷ xs) (t.1.only u (and_left (same_type t.0 u) (each_fits (map same_type (firsts ts)) us) h))
    (only_these ts us (and_right (same_type t.0 u) (each_fits (map same_type (firsts ts)) us) h))

number_itself : (k : ℕ) → same_layer (type.Named k) (type.Named k) ≡ true
number_itself k = grind (arith, nat_tests)

number_only : (k l : ℕ) → same_layer (type.Named k) (type.Named l) ≡ true → k ≡ l
number_only k l h = grind (arith, nat_tests)

layer_itself : (y : ValType-F Judged) → same_layer (tests y) (inside y) ≡ true
layer_itself type.Unit = refl
layer_itself type.Bool = refl
layer_itself (type.Int k) = is_kind-refl k
layer_itself (type.Seq t) = t.1.itself
layer_itself (type.Named k) = number_itself k
layer_itself (type.Tuple ts) = same_themselves ts
layer_itself (type.Option t) = t.1.itself
layer_itself (type.Result t u) = and_both (same_type t.0 t.0) (same_type u.0 u.0) t.1.itself u.1.itself

layer_only : (y : ValType-F Judged) (z : ValType-F ValType) → same_layer (tests y) z ≡ true → inside y ≡ z
layer_only type.Unit type.Unit h = refl
layer_only type.Bool type.Bool h = refl
layer_only (type.Int k) (type.Int l) h = ap type.Int (is_kind-equal k l h)
layer_only (type.Seq t) (type.Seq u) h = ap type.Seq (t.1.only u h)
layer_only (type.Named k) (type.Named l) h = ap type.Named (number_only k l h)
layer_only (type.Tuple ts) (type.Tuple us) h = ap type.Tuple (only_these ts us h)
layer_only (type.Option t) (type.Option u) h = ap type.Option (t.1.only u h)
layer_only (type.Result t v) (type.Result u w) h =
    ap₂ type.Result (t.1.only u (and_left (same_type t.0 u) (same_type v.0 w) h)) (v.1.only w (and_right (same_type t.0 u) (same_type v.0 w) h))
layer_only _ _ h = cc

same_rolled : (y : ValType-F Judged) (u : ValType) → same_type (roll-ValType (inside y)) u ≡ same_layer (tests y) (out-ValType u)
same_rolled y u = ap (λ (f : ValType → Bool). f u) (fold-roll-ValType (ValType → Bool) (λ layer t. same_layer layer (out-ValType t)) (inside y))

roll_out : (t : ValType) → roll-ValType (out-ValType t) ≡ t
roll_out t = search (rules, the_lemmas)

level : (y : ValType-F Judged) → Decided (roll-ValType (inside y))
level y = record {
  itself = same_rolled y (roll-ValType (inside y)) ∙ ap (same_layer (tests y)) (out-roll-ValType (inside y)) ∙ layer_itself y;
  only = λ u h. ap roll-ValType (layer_only y (out-ValType u) (sym (same_rolled y u) ∙ h)) ∙ roll_out u;
}

pub same_is : (t : ValType) → Decided t
same_is = ind-ValType Decided (λ x y is. subst (λ z. Decided (roll-ValType z)) is (level y))

one_of : (b c : Bool) → (IsTrue b → IsTrue c) → (IsTrue c → IsTrue b) → b ≡ c
one_of true true h k = refl
one_of false false h k = refl
one_of true false h k = sym (h refl)
one_of false true h k = k refl

-- a test that tells when two types are equal is the definition's
pub decides : (b : Bool) (t u : ValType) → IsTrue b ↔ (t ≡ u) → b ≡ same_type t u
decides b t u h =
    one_of b (same_type t u) (λ e. subst (λ (x : ValType). same_type t x ≡ true) (h.0 e) (same_is t).itself) (λ e. h.1 ((same_is t).only u e))
