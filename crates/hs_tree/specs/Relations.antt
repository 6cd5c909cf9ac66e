-- The combinators of runs as relations between the store before, how a run ends, the store after and the number of turns.
use Rattle.std.specs.Prelude.{◌≡◌, ◌⊎◌, ℕ, zero, suc, ◌+◌, ◌-◌, Bool, true, false, List, Option, Some, ⊤}
use Rattle.hs_words.specs.declared.kinds.Panic.{Panic}
use Rattle.hs_values.specs.declared.value.Sort.TheVariants as sort
use Rattle.hs_control.specs.Control.{Val, Nothing, Truth, Ctor, Exit, Cont, NoVals, Also, Reply, Is, Fails, NoReply}
use Rattle.hs_tree.specs.Store.{Has, Moved, Store, put, back, Returned, Panicked, Outcome, Gives, Stops, Result, value, panic}
use Rattle.hs_tree.specs.Steps.{size_in, back_in}

-- store before, outcome, store after, turns
abbrev pub Rel : Type 1
Rel = Store → Outcome → Store → ℕ → Type 0

-- this outcome, without a turn and with the store as it was
abbrev pub Just : Outcome → Rel
Just p s o s' n = (o ≡ p) × (s' ≡ s) × (n ≡ 0)

-- this value
abbrev pub Give : Val → Rel
Give v = Just (Gives v)

-- there is no run
abbrev pub Never : Rel
Never s o s' n = ⊥

-- the outcome stops what it stands in
abbrev pub Ends : Outcome → Type 0
Ends (Gives v) = ⊥
Ends (Stops y) = ⊤

-- the first gives a value and the second follows it, or the first stops the run
abbrev pub Then : Rel → (Val → Rel) → Rel
Then R K s o s' n =
    ((v : Val) × (m : Store) × (a : ℕ) × (b : ℕ) × R s (Gives v) m a × K v m o s' b × (n ≡ a + b))
    ⊎ (Ends o × R s o s' n)

-- afterwards the locals of the list hold what they held before
abbrev pub Leaves : List ℕ → Rel → Rel
Leaves ks R s o s' n = (m : Store) × R s o m n × (s' ≡ back ks s m)

-- one turn, and those of the run
abbrev pub Turn : Rel → Rel
Turn R s o s' n = (m : ℕ) × R s o s' m × (n ≡ 1 + m)

-- the store after a read of a local
abbrev pub after_read : Bool → ℕ → Store → Store
after_read true k s = put s k Moved
after_read false k s = s

-- the value of a local, which a moving read leaves moved
abbrev pub Reads : Bool → ℕ → Rel
Reads moving k s o s' n = (v : Val) × (s k ≡ Has v) × (o ≡ Gives v) × (s' ≡ after_read moving k s) × (n ≡ 0)

-- what follows the value of a local
abbrev pub Holding : ℕ → (Val → Rel) → Rel
Holding k K s o s' n = (v : Val) × (s k ≡ Has v) × K v s o s' n

-- what follows a reply; a panic stops, and without a reply there is no run
abbrev pub Replies : Reply → (Val → Rel) → Rel
Replies (Is v) K = K v
Replies (Fails p) K = Just (Stops (Panicked p))
Replies NoReply K = Never

-- what follows a value that may not be there
abbrev pub Given : Option Val → (Val → Rel) → Rel
Given x K s o s' n = (v : Val) × (x ≡ Some v) × K v s o s' n

-- the first where the value is true, the second where it is false
abbrev pub Chooses : Rel → Rel → Val → Rel
Chooses A B v s o s' n = ((v ≡ Truth true) × A s o s' n) ⊎ ((v ≡ Truth false) × B s o s' n)

-- by a control value: its end, or what it goes on with
abbrev pub OnControl : (Val → Rel) → (Val → Rel) → Val → Rel
OnControl E K v s o s' n = ((w : Val) × (v ≡ Exit w) × E w s o s' n) ⊎ ((w : Val) × (v ≡ Cont w) × K w s o s' n)

-- from the first number so many as are below the second
abbrev pub FromTo : (ℕ → ℕ → Rel) → Val → Val → Rel
FromTo K lo hi s o s' n = (a : ℕ) × (b : ℕ) × (size_in lo ≡ Some a) × (size_in hi ≡ Some b) × K a (b - a) s o s' n

-- how a turn ends, as a loop sees it: at its end the loop goes on, and what it doesn't catch stops it
abbrev pub Caught : Rel → Rel
Caught R s o s' n = ((v : Val) × R s (Gives v) s' n × (o ≡ Gives (Cont Nothing))) ⊎ (Ends o × R s o s' n)

-- n turns of a loop from i on
abbrev pub Turns : (ℕ → Rel) → ℕ → ℕ → Rel
Turns B i zero = Give Nothing
Turns B i (suc n) = Turn (Then (Caught (B i)) (OnControl (λ w. Give Nothing) (λ w. Turns B (suc i) n)))

-- the same where the body gives control values
abbrev pub TurnsCf : (ℕ → Rel) → ℕ → ℕ → Rel
TurnsCf B i zero = Give (Cont Nothing)
TurnsCf B i (suc n) = Turn (Then (B i) (OnControl (λ w. Give (Exit w)) (λ w. TurnsCf B (suc i) n)))

-- n turns from i on, each of which takes the value so far and gives the next
abbrev pub Folds : (ℕ → Val → Rel) → ℕ → ℕ → Val → Rel
Folds B i zero a = Give a
Folds B i (suc n) a = Turn (Then (B i a) (Folds B (suc i) n))

-- the same while the body goes on
abbrev pub FoldsCf : (ℕ → Val → Rel) → ℕ → ℕ → Val → Rel
FoldsCf B i zero a = Give (Cont a)
FoldsCf B i (suc n) a = Turn (Then (B i a) (OnControl (λ w. Give (Exit w)) (FoldsCf B (suc i) n)))

-- a result with one part
abbrev pub result : ℕ → Val → Val
result number v = Ctor sort.Result number (Also v NoVals)

-- `?` on a value: what `Ok` holds, or the function returns the `Err`
abbrev pub Asks : Val → Rel
Asks x s o s' n = ((v : Val) × (x ≡ result 0 v) × Give v s o s' n) ⊎ ((v : Val) × (x ≡ result 1 v) × Just (Stops (Returned (result 1 v))) s o s' n)

-- a call with these locals lent, whose turn is in the call's own count: the locals hold the final values, and the run gives the value
-- behind them
abbrev pub Called : List ℕ → (Result → ℕ → Type 0) → Rel
Called ks C s o s' n =
    ((v : Val) × (x : Val) × C (value v) n × (back_in ks v s ≡ Some (s', x)) × (o ≡ Gives x))
    ⊎ ((p : Panic) × C (panic p) n × (s' ≡ s) × (o ≡ Stops (Panicked p)))
