-- What values of the code are in the definitions.
use Rattle.std.specs.Prelude.{ℕ, ℤ, pos, neg_ℤ, Bool, Option, Some, None, if◌then◌else◌}
use Rattle.hs_values.specs.declared.types.ValType.{ValType}
use Rattle.hs_typing.specs.declared.shared.SharedType.{SharedType}
use Rattle.hs_typing.specs.declared.wishes.Got.{Got as HeldGot}
use Rattle.hs_typing.specs.declared.wishes.Got.TheVariants as got
use Rattle.hs_typing.specs.declared.wishes.Wish.{Wish as HeldWish}
use Rattle.hs_typing.specs.declared.wishes.Wish.TheVariants as wish
use Rattle.hs_typing.specs.declared.wishes.Taken.{Taken as HeldTaken}
use Rattle.hs_typing.specs.declared.wishes.Taken.TheVariants as kept
use Rattle.hs_typing.specs.declared.sorts.Sort.{Sort as HeldSort}
use Rattle.hs_typing.specs.declared.sorts.Sort.TheVariants as sort
use Rattle.hs_typing.specs.Wishes.{Got, Is, Other, Never, Wish, Free, Hint, Same, Wants, Rows, Expected, absent, this, Taken, Kind, NoInteger}
use Rattle.hs_typing.specs.Locals.{Sort, fixed, mutable, turn, shared, lent}

-- the type that is shared
abbrev pub type_of : SharedType → ValType
type_of t = t.whole

-- what a value is
abbrev pub got_of : HeldGot → Got
got_of (got.Is t) = Is (type_of t)
got_of got.Other = Other
got_of got.Never = Never

-- what a place asks
abbrev pub wish_of : HeldWish → Wish
wish_of wish.Free = Free
wish_of (wish.Hint t) = Hint t.now
wish_of (wish.Same t) = Same t.now
wish_of (wish.Wants t) = Wants t.now
wish_of (wish.Rows t) = Rows t.now

-- the expected type
abbrev pub expected_of : Option ValType → Expected
expected_of None = absent
expected_of (Some t) = this t

-- what a bare expression takes
abbrev pub taken_of : HeldTaken → Taken
taken_of (kept.Kind k) = Kind k
taken_of kept.NoInteger = NoInteger

-- what a local is
abbrev pub sort_of : HeldSort → Sort
sort_of sort.Fixed = fixed
sort_of sort.Mutable = mutable
sort_of sort.Turn = turn
sort_of sort.Shared = shared
sort_of sort.Lent = lent

-- the number that is written, with a minus directly before it or not
abbrev pub written : Bool → ℕ → ℤ
written is_negative value = if is_negative then neg_ℤ (pos value) else pos value
