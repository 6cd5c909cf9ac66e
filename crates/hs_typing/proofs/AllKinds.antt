-- The types of all kinds, in their order.
use Rattle.std.proofs.Common.{◌≡◌, refl, map, Some, slice_get}
use Rattle.hs_words.specs.declared.kinds.IntTy.{IntTy}
use Rattle.hs_words.specs.declared.kinds.IntTy.TheVariants.{PU8, PU16, PU32, PU64, PU128, PUsize, PI8, PI16, PI32, PI64, PI128, SU8, SU16, SU32, SU64, SU128}
use Rattle.hs_values.specs.Kinds.{kinds, place_of}
use Rattle.hs_typing.specs.Types.{int}

-- the type of a kind is at the kind's place
pub kind_there : (k : IntTy) → slice_get (map int kinds) (place_of k) ≡ Some (int k)
kind_there PU8 = refl
kind_there PU16 = refl
kind_there PU32 = refl
kind_there PU64 = refl
kind_there PU128 = refl
kind_there PUsize = refl
kind_there PI8 = refl
kind_there PI16 = refl
kind_there PI32 = refl
kind_there PI64 = refl
kind_there PI128 = refl
kind_there SU8 = refl
kind_there SU16 = refl
kind_there SU32 = refl
kind_there SU64 = refl
kind_there SU128 = refl
