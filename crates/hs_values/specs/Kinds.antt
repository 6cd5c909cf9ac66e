-- Which kinds of machine integers are the same.
use Rattle.std.proofs.Common.{◌≡◌, ℕ, Bool, true, List, [], ◌∷◌, Some, refl, sym, ap, ◌∙◌, arith}
use Rattle.std.proofs.lemmas.Bool.Decides.{nat_tests}
use Rattle.std.specs.Prelude.{eqb, slice_get}
use Rattle.hs_words.specs.declared.kinds.IntTy.{IntTy}
use Rattle.hs_words.specs.declared.kinds.IntTy.TheVariants.{PU8, PU16, PU32, PU64, PU128, PUsize, PI8, PI16, PI32, PI64, PI128, SU8, SU16, SU32, SU64, SU128}

-- the place of a kind among the sixteen
abbrev pub place_of : IntTy → ℕ
place_of PU8 = 0
place_of PU16 = 1
place_of PU32 = 2
place_of PU64 = 3
place_of PU128 = 4
place_of PUsize = 5
place_of PI8 = 6
place_of PI16 = 7
place_of PI32 = 8
place_of PI64 = 9
place_of PI128 = 10
place_of SU8 = 11
place_of SU16 = 12
place_of SU32 = 13
place_of SU64 = 14
place_of SU128 = 15

-- whether two kinds are the same
abbrev pub is_kind : IntTy → IntTy → Bool
is_kind a b = eqb (place_of a) (place_of b)

-- the sixteen kinds, each at its place
abbrev pub kinds : List IntTy
kinds = PU8 ∷ PU16 ∷ PU32 ∷ PU64 ∷ PU128 ∷ PUsize ∷ PI8 ∷ PI16 ∷ PI32 ∷ PI64 ∷ PI128 ∷ SU8 ∷ SU16 ∷ SU32 ∷ SU64 ∷ SU128 ∷ []

-- a kind is at its place
slice_get-place_of : (kind : IntTy) → slice_get kinds (place_of kind) ≡ Some kind
slice_get-place_of PU8 = refl
slice_get-place_of PU16 = refl
slice_get-place_of PU32 = refl
slice_get-place_of PU64 = refl
slice_get-place_of PU128 = refl
slice_get-place_of PUsize = refl
slice_get-place_of PI8 = refl
slice_get-place_of PI16 = refl
slice_get-place_of PI32 = refl
slice_get-place_of PI64 = refl
slice_get-place_of PI128 = refl
slice_get-place_of SU8 = refl
slice_get-place_of SU16 = refl
slice_get-place_of SU32 = refl
slice_get-place_of SU64 = refl
slice_get-place_of SU128 = refl

-- kinds at one place are equal
pub is_kind-equal : (a b : IntTy) → is_kind a b ≡ true → a ≡ b
is_kind-equal a b h =
    let place : place_of a ≡ place_of b = grind (arith, nat_tests) in
    let some : Some a ≡ Some b = sym (slice_get-place_of a) ∙ ap (slice_get kinds) place ∙ slice_get-place_of b in
    cc some

-- a kind is the same as itself
pub is_kind-refl : (a : IntTy) → is_kind a a ≡ true
is_kind-refl a = grind (arith, nat_tests)
