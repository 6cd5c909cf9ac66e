-- What a place expects of a value, and what the value is.
use Rattle.std.specs.Prelude.{Bool, true, false, nat_eq, List, [], ◌∷◌, length, Option, Some, None, if◌then◌else◌}
use Rattle.hs_words.specs.declared.kinds.IntTy.{IntTy}
use Rattle.hs_words.specs.declared.kinds.IntTy.TheVariants.{PUsize}
use Rattle.hs_values.specs.declared.types.ValType.{ValType}
use Rattle.hs_typing.specs.Types.{kind_of, parts_of, same_type}

-- what a value is
pub data Got : Type 0 where
  -- of this type
  Is : ValType → Got
  -- of another type than its place expects, whichever that is
  Other : Got
  -- nothing: what always exits gives no value
  Never : Got

-- what the place of an expression asks of its value
pub data Wish : Type 0 where
  -- nothing: it has no expected type
  Free : Wish
  -- a type that is not known, since it is that of a node that has none
  Lost : Wish
  -- this type; that the value is of another one is told of what is round it
  Hint : ValType → Wish
  -- the type of the first of some branches; that the value is of another one is told of what has the branches
  Same : ValType → Wish
  -- this type; another one breaks T1 at the value
  Wants : ValType → Wish
  -- a sequence or an array of items of this type, so no one type; anything else breaks T1 at the value
  Rows : ValType → Wish

-- the expected type of a place
pub data Expected : Type 0 where
  absent : Expected
  unknown : Expected
  this : ValType → Expected

abbrev pub expected : Wish → Expected
expected Free = absent
expected Lost = unknown
expected (Hint t) = this t
expected (Same t) = this t
expected (Wants t) = this t
expected (Rows t) = absent

-- the same expected type, with nothing told at the value
abbrev pub hint : Wish → Wish
hint Free = Free
hint Lost = Lost
hint (Hint t) = Hint t
hint (Same t) = Hint t
hint (Wants t) = Hint t
hint (Rows t) = Free

-- the wish for a type that is known only where a node has one
abbrev pub wants : Option ValType → Wish
wants None = Lost
wants (Some t) = Wants t

-- ---- bare expressions

-- what a bare expression takes from an expected type: that kind, no kind since the type is no integer, or nothing that is known
pub data Taken : Type 0 where
  Kind : IntTy → Taken
  NoInteger : Taken
  Untold : Taken

abbrev pub taken_kind : Option IntTy → Taken
taken_kind None = NoInteger
taken_kind (Some k) = Kind k

-- the expected type; without one `usize`
abbrev pub taken : Expected → Taken
taken absent = Kind PUsize
taken unknown = Untold
taken (this t) = taken_kind (kind_of t)

-- ---- parts

-- the wish of each part of so many, where types for them are expected
abbrev pub all_wanted : List ValType → List Wish
all_wanted [] = []
all_wanted (t ∷ ts) = Wants t ∷ all_wanted ts

abbrev pub all_the_same : {A : Type 0} → Wish → List A → List Wish
all_the_same x [] = []
all_the_same x (a ∷ as') = x ∷ all_the_same x as'

-- the wishes of these parts, where an expected tuple has as many
abbrev pub part_wishes : {A : Type 0} → List A → Option (List ValType) → List Wish
part_wishes as' None = all_the_same Free as'
part_wishes as' (Some ts) = if nat_eq (length ts) (length as') then all_wanted ts else all_the_same Free as'

-- the parts of a tuple have expected types where the tuple has one with as many parts
abbrev pub tuple_wishes : {A : Type 0} → Expected → List A → List Wish
tuple_wishes absent as' = all_the_same Free as'
tuple_wishes unknown as' = all_the_same Lost as'
tuple_wishes (this t) as' = part_wishes as' (parts_of t)

abbrev pub wants_if : Option ValType → Wish
wants_if None = Free
wants_if (Some t) = Wants t

-- the part of a built-in constructor has an expected type where the whole has one of that sort, of which this is the part's
abbrev pub part_wish : (ValType → Option ValType) → Expected → Wish
part_wish part absent = Free
part_wish part unknown = Lost
part_wish part (this t) = wants_if (part t)

-- ---- branches

-- what is asked of a branch by what another one is, where that is known
abbrev pub from_value : Option Got → Wish
from_value (Some (Is t)) = Same t
from_value (Some Other) = Lost
from_value (Some Never) = Lost
from_value None = Lost

-- what a place asks of the branches of what stands there: where it has an expected type, each is judged by that
abbrev pub branch_wish : Wish → Wish
branch_wish (Same t) = Wants t
branch_wish x = x

-- the wish of the branches behind the first that does not always exit, by what that one is: without an expected type its type is
-- expected of them
abbrev pub after_first : Wish → Option Got → Wish
after_first Free g = from_value g
after_first Lost g = Lost
after_first (Hint t) g = Hint t
after_first (Same t) g = Same t
after_first (Wants t) g = Wants t
after_first (Rows t) g = from_value g

-- whether there is no value
abbrev pub is_never : Got → Bool
is_never Never = true
is_never _ = false

-- what is asked of a branch behind another one that has a value or always exits
abbrev pub behind_first : Wish → Got → Wish
behind_first x Never = x
behind_first x g = after_first x (Some g)

-- whether two values are of one type
abbrev pub alike : Got → Got → Bool
alike (Is t) (Is u) = same_type t u
alike Other Other = true
alike _ _ = false

-- what a value is that two branches give
abbrev pub joined : Got → Got → Got
joined Never g = g
joined g Never = g
joined g h = if alike g h then g else Other

-- what a value is that one of these branches gives: what they all are that do not always exit
abbrev pub joined_all : List Got → Got
joined_all [] = Never
joined_all (g ∷ gs) = joined g (joined_all gs)
