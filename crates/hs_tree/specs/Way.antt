-- Ways from a value to a part of it.
use Rattle.std.specs.Prelude.{ℕ, zero, suc, List, [], ◌∷◌, Option, Some, None, option_map, codes}
use Rattle.hs_tree.specs.Plain.{Name}
use Rattle.hs_control.specs.Control.{Val, Nothing, Truth, Number, Row, Tuple, Ctor, Exit, Cont, Vals, NoVals, Also, Reply, Is, applied, after, found}

-- one step of a way: to the item at a place, which is a value, or to the part of a number
pub data Pick : Type 0 where
  item : Val → Pick
  part_no : ℕ → Pick

-- the value at a place
abbrev pub val_at : Vals → ℕ → Option Val
val_at NoVals i = None
val_at (Also v vs) zero = Some v
val_at (Also v vs) (suc i) = val_at vs i

-- the values with the one at a place replaced
abbrev pub with_at : Vals → ℕ → Val → Vals
with_at NoVals i x = NoVals
with_at (Also v vs) zero x = Also x vs
with_at (Also v vs) (suc i) x = Also v (with_at vs i x)

-- the parts of a tuple
abbrev pub parts_of : Val → Option Vals
parts_of (Tuple vs) = Some vs
parts_of Nothing = None
parts_of (Truth b) = None
parts_of (Number n) = None
parts_of (Row vs) = None
parts_of (Ctor sort number vs) = None
parts_of (Exit v) = None
parts_of (Cont v) = None

-- the part of this number, among parts that may not be there
abbrev pub part_in : Option Vals → ℕ → Option Val
part_in None i = None
part_in (Some vs) i = val_at vs i

-- what is at a step in a value
abbrev pub picked : Pick → Val → Reply
picked (item i) v = applied (codes "q_item") (v ∷ i ∷ [])
picked (part_no i) v = found (part_in (parts_of v) i)

-- a value with what is at a step replaced
abbrev pub with_pick : Pick → Val → Val → Reply
with_pick (item i) v x = applied (codes "q_set") (v ∷ i ∷ x ∷ [])
with_pick (part_no i) v x = found (option_map (λ vs. Tuple (with_at vs i x)) (parts_of v))

-- a value with what is at the end of a way replaced by what it becomes: what is on the way is read from the outside in, then what
-- is at its end becomes another, then each is put into the one round it
abbrev pub replaced : List Pick → (Val → Reply) → Val → Reply
replaced [] become v = become v
replaced (pick ∷ way) become v = after (picked pick v) (λ old. after (replaced way become old) (with_pick pick v))

-- what the old value becomes by an assignment: the new one, or what an operation gives for both
abbrev pub became : Option Name → Val → Val → Reply
became None new old = Is new
became (Some o) new old = applied o (old ∷ new ∷ [])
