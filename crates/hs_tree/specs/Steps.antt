-- The combinators of runs as functions: what a run is put together from, whatever the node.
use Rattle.std.specs.Prelude.{ℕ, zero, suc, ◌+◌, ◌-◌, Bool, true, false, List, [], ◌∷◌, Option, Some, None, pos, unsigned_abs, if◌then◌else◌}
use Rattle.hs_words.specs.declared.kinds.IntTy.TheVariants.{PUsize}
use Rattle.hs_values.specs.Kinds.{is_kind}
use Rattle.hs_values.specs.declared.value.Sort.{Sort}
use Rattle.hs_values.specs.declared.value.Sort.TheVariants as sort
use Rattle.hs_control.specs.Control.{Val, Nothing, Truth, Number, Row, Tuple, Ctor, Exit, Cont, Vals, NoVals, Also, Reply, Is, Fails, NoReply}
use Rattle.hs_tree.specs.Store.{Slot, Empty, Moved, Has, Store, put, back, Why, Returned, Panicked, Outcome, Gives, Stops, Out, Stuck, Ran, value, panic, Back, NoCall, Ended}

-- so many turns more
abbrev pub more : ℕ → Out → Out
more a Stuck = Stuck
more a (Ran o s n) = Ran o s (a + n)

-- goes on with the value of an outcome; a stop ends the run
abbrev pub next : Outcome → Store → ℕ → (Val → Store → Out) → Out
next (Gives v) s n k = more n (k v s)
next (Stops y) s n k = Ran (Stops y) s n

-- goes on with the value of a run
abbrev pub follow : Out → (Val → Store → Out) → Out
follow Stuck k = Stuck
follow (Ran o s n) k = next o s n k

-- gives the value, without a turn
abbrev pub give : Val → Store → Out
give v s = Ran (Gives v) s 0

-- stops, without a turn
abbrev pub stop : Why → Store → Out
stop y s = Ran (Stops y) s 0

-- the locals of the list leave: they hold what they held in the first store
abbrev pub leave : List ℕ → Store → Out → Out
leave ks s Stuck = Stuck
leave ks s (Ran o s' n) = Ran o (back ks s s') n

-- the value in a local's slot, which a moving read leaves moved
abbrev pub read : Bool → ℕ → Slot → Store → Out
read moving k Empty s = Stuck
read moving k Moved s = Stuck
read true k (Has v) s = give v (put s k Moved)
read false k (Has v) s = give v s

-- goes on with the value in a slot
abbrev pub having_value : Slot → (Val → Store → Out) → Store → Out
having_value Empty k s = Stuck
having_value Moved k s = Stuck
having_value (Has v) k s = k v s

-- goes on with the value of a reply; a panic stops
abbrev pub replies : Reply → (Val → Store → Out) → Store → Out
replies (Is v) k s = k v s
replies (Fails p) k s = stop (Panicked p) s
replies NoReply k s = Stuck

-- goes on with a value that may not be there
abbrev pub given : Option Val → (Val → Store → Out) → Store → Out
given None k s = Stuck
given (Some v) k s = k v s

-- goes on at a store that may not be there
abbrev pub at_store : Option Store → (Store → Out) → Out
at_store None k = Stuck
at_store (Some s) k = k s

-- the first where the value is true, the second where it is false
abbrev pub choose : Val → Out → Out → Out
choose (Truth true) a b = a
choose (Truth false) a b = b
choose Nothing a b = Stuck
choose (Number n) a b = Stuck
choose (Row vs) a b = Stuck
choose (Tuple vs) a b = Stuck
choose (Ctor sort number vs) a b = Stuck
choose (Exit v) a b = Stuck
choose (Cont v) a b = Stuck

-- goes on by a control value: its end, or what it goes on with
abbrev pub on_control : Val → (Val → Out) → (Val → Out) → Out
on_control (Exit v) e k = e v
on_control (Cont v) e k = k v
on_control Nothing e k = Stuck
on_control (Truth b) e k = Stuck
on_control (Number n) e k = Stuck
on_control (Row vs) e k = Stuck
on_control (Tuple vs) e k = Stuck
on_control (Ctor sort number vs) e k = Stuck

-- the number of a value of `usize`
abbrev pub size_in : Val → Option ℕ
size_in (Number n) = if is_kind n.kind PUsize then Some (unsigned_abs n.number) else None
size_in Nothing = None
size_in (Truth b) = None
size_in (Row vs) = None
size_in (Tuple vs) = None
size_in (Ctor sort number vs) = None
size_in (Exit v) = None
size_in (Cont v) = None

-- a number of `usize` as a value
abbrev pub size : ℕ → Val
size n = Number (record { kind = PUsize; number = pos n })

-- goes on with the first number and the count of numbers from it up to the second
abbrev pub span : Option ℕ → Option ℕ → (ℕ → ℕ → Out) → Out
span None hi k = Stuck
span (Some a) None k = Stuck
span (Some a) (Some b) k = k a (b - a)

abbrev pub from_to : Val → Val → (ℕ → ℕ → Out) → Out
from_to lo hi k = span (size_in lo) (size_in hi) k

-- what a loop makes of how a turn ends: at its end the loop goes on; what it doesn't catch stops it
abbrev pub caught : Out → Out
caught Stuck = Stuck
caught (Ran (Gives v) s n) = Ran (Gives (Cont Nothing)) s n
caught (Ran (Stops y) s n) = Ran (Stops y) s n

-- n turns of a loop from i on
abbrev pub turns_of : (ℕ → Store → Out) → ℕ → ℕ → Store → Out
turns_of body i zero s = give Nothing s
turns_of body i (suc n) s = more 1 (follow (caught (body i s)) (λ v m. on_control v (λ w. give Nothing m) (λ w. turns_of body (suc i) n m)))

-- the same where the body gives control values: the first end is the loop's
abbrev pub turns_cf : (ℕ → Store → Out) → ℕ → ℕ → Store → Out
turns_cf body i zero s = give (Cont Nothing) s
turns_cf body i (suc n) s = more 1 (follow (body i s) (λ v m. on_control v (λ w. give (Exit w) m) (λ w. turns_cf body (suc i) n m)))

-- n turns from i on, each of which takes the value so far and gives the next
abbrev pub folds : (ℕ → Val → Store → Out) → ℕ → ℕ → Val → Store → Out
folds body i zero a s = give a s
folds body i (suc n) a s = more 1 (follow (body i a s) (λ v m. folds body (suc i) n v m))

-- the same while the body goes on
abbrev pub folds_cf : (ℕ → Val → Store → Out) → ℕ → ℕ → Val → Store → Out
folds_cf body i zero a s = give (Cont a) s
folds_cf body i (suc n) a s = more 1 (follow (body i a s) (λ v m. on_control v (λ w. give (Exit w) m) (λ w. folds_cf body (suc i) n w m)))

-- `?` on a value: what `Ok` holds, or the function returns the `Err`
abbrev pub asked_ctor : Sort → ℕ → Vals → Store → Out
asked_ctor sort.Result zero (Also v NoVals) s = give v s
asked_ctor sort.Result (suc zero) (Also v NoVals) s = stop (Returned (Ctor sort.Result 1 (Also v NoVals))) s
asked_ctor _ number vs s = Stuck

abbrev pub asked : Val → Store → Out
asked (Ctor sort number vs) s = asked_ctor sort number vs s
asked Nothing s = Stuck
asked (Truth b) s = Stuck
asked (Number n) s = Stuck
asked (Row vs) s = Stuck
asked (Tuple vs) s = Stuck
asked (Exit v) s = Stuck
asked (Cont v) s = Stuck

-- the values of lent locals back in them, and behind them the call's value
abbrev pub taken_back : List ℕ → Vals → Store → Option (Store × Val)
taken_back [] (Also v NoVals) s = Some (s, v)
taken_back [] NoVals s = None
taken_back [] (Also v (Also w vs)) s = None
taken_back (k ∷ ks) NoVals s = None
taken_back (k ∷ ks) (Also v vs) s = taken_back ks vs (put s k (Has v))

abbrev pub tuple_back : List ℕ → Val → Store → Option (Store × Val)
tuple_back ks (Tuple vs) s = taken_back ks vs s
tuple_back ks Nothing s = None
tuple_back ks (Truth b) s = None
tuple_back ks (Number n) s = None
tuple_back ks (Row vs) s = None
tuple_back ks (Ctor sort number vs) s = None
tuple_back ks (Exit v) s = None
tuple_back ks (Cont v) s = None

-- a call that lends nothing gives its value alone
abbrev pub back_in : List ℕ → Val → Store → Option (Store × Val)
back_in [] v s = Some (s, v)
back_in (k ∷ ks) v s = tuple_back (k ∷ ks) v s

abbrev pub gives_back : Option (Store × Val) → ℕ → Out
gives_back None n = Stuck
gives_back (Some x) n = Ran (Gives x.1) x.0 n

-- what a call with these locals lent gives: its turn counts, and the locals hold the final values
abbrev pub called : List ℕ → Back → Store → Out
called ks NoCall s = Stuck
called ks (Ended (value v) n) s = gives_back (back_in ks v s) n
called ks (Ended (panic p) n) s = Ran (Stops (Panicked p)) s n
