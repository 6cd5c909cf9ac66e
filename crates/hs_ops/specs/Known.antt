-- Which operations there are.
use Rattle.std.specs.Prelude.{Bool, true, not, ◌&&◌, ◌||◌, leb, nat_lt, if◌then◌else◌}
use Rattle.hs_words.specs.Kind.{is_signed, is_secret}
use Rattle.hs_words.specs.declared.kinds.IntTy.{IntTy}
use Rattle.hs_words.specs.declared.kinds.IntTy.TheVariants.{PUsize}
use Rattle.hs_values.specs.Kinds.{is_kind}
use Rattle.hs_ops.specs.declared.operation.NumberOp.{NumberOp}
use Rattle.hs_ops.specs.declared.operation.NumberOp.TheVariants.{Div, Rem, Neg, Rotl, Rotr, Wadd, Wsub, Wmul, Lt, Le, Gt, Ge, Classify, Declassify, ToLe, ToBe, FromLe, FromBe}
use Rattle.hs_ops.specs.declared.operation.Operation.{Operation}
use Rattle.hs_ops.specs.declared.operation.Operation.TheVariants.{Number, Cast, Part, SetPart, Single}

-- whether there is an operation for the kind
abbrev pub is_for : NumberOp → IntTy → Bool
is_for Div k = not (is_secret k)
is_for Rem k = not (is_secret k)
is_for Neg k = is_signed k
is_for Rotl k = not (is_signed k)
is_for Rotr k = not (is_signed k)
is_for Wadd k = not (is_secret k)
is_for Wsub k = not (is_secret k)
is_for Wmul k = not (is_secret k)
is_for Lt k = not (is_secret k)
is_for Le k = not (is_secret k)
is_for Gt k = not (is_secret k)
is_for Ge k = not (is_secret k)
is_for Classify k = is_secret k
is_for Declassify k = is_secret k
is_for ToLe k = not (is_signed k || is_kind k PUsize)
is_for ToBe k = not (is_signed k || is_kind k PUsize)
is_for FromLe k = not (is_signed k || is_kind k PUsize)
is_for FromBe k = not (is_signed k || is_kind k PUsize)
is_for _ k = true

-- whether numbers of the first kind are cast to the second: a public kind to any public kind, itself too, a secret one to another
-- secret one
abbrev pub is_cast : IntTy → IntTy → Bool
is_cast from to = if is_secret from then is_secret to && not (is_kind from to) else not (is_secret to)

-- whether there is the operation; tuples have from 2 to 12 parts
abbrev pub is_known : Operation → Bool
is_known (Number o k) = is_for o k
is_known (Cast from to) = is_cast from to
is_known (Part n i) = leb 2 n && (leb n 12 && nat_lt i n)
is_known (SetPart n i) = leb 2 n && (leb n 12 && nat_lt i n)
is_known (Single o) = true
