-- What an operation gives for its arguments.
use Rattle.std.specs.Prelude.{◌≡◌, ⊤, ◌⊎◌, ℕ, Bool, true, false, Option, Some, None, List, [], ◌∷◌, Result, Ok, Err, pos}
use Rattle.hs_words.specs.Word.{Integer}
use Rattle.hs_words.specs.declared.kinds.IntTy.TheVariants.{PUsize}
use Rattle.hs_words.specs.declared.kinds.Panic.{Panic}
use Rattle.hs_values.specs.declared.value.Value.{Value}
use Rattle.hs_values.specs.declared.value.Value.TheVariants as value
use Rattle.hs_ops.specs.declared.row.OpStop.{OpStop}
use Rattle.hs_ops.specs.declared.row.OpStop.TheVariants as stop

-- a value, a panic, or that the arguments are not as many as the operation takes or not of its kinds
pub data Answer : Type 0 where
  Is : Value → Answer
  Fails : Panic → Answer
  Misfit : Answer

-- a truth value
abbrev pub truth : Bool → Answer
truth b = Is (value.Bool b)

-- a number
abbrev pub number : Integer → Answer
number n = Is (value.Int n)

-- a length or a count, as a number of `usize`
abbrev pub size_value : ℕ → Value
size_value n = value.Int (record { kind = PUsize; number = pos n })

-- a sequence of these items
abbrev pub row : List Value → Answer
row items = Is (value.Seq items)

-- the number of an exact operation, or its panic
abbrev pub settle : Result Integer Panic → Answer
settle (Ok n) = number n
settle (Err p) = Fails p

-- what follows a view of an argument; a misfit where there is none
abbrev pub given : {A : Type 0} → Option A → (A → Answer) → Answer
given None f = Misfit
given (Some a) f = f a

-- the one argument, where there is just one; and so for two, three and four
abbrev pub one_of : List Value → Option Value
one_of (v ∷ []) = Some v
one_of _ = None

abbrev pub two_of : List Value → Option (Value × Value)
two_of (v ∷ w ∷ []) = Some (v, w)
two_of _ = None

abbrev pub three_of : List Value → Option (Value × Value × Value)
three_of (v ∷ w ∷ x ∷ []) = Some (v, w, x)
three_of _ = None

abbrev pub four_of : List Value → Option (Value × Value × Value × Value)
four_of (v ∷ w ∷ x ∷ y ∷ []) = Some (v, w, x, y)
four_of _ = None

-- an operation on one argument, which is viewed; and so for two, three and four
abbrev pub unary : {A : Type 0} → (Value → Option A) → (A → Answer) → List Value → Answer
unary view f args = given (one_of args) (λ v. given (view v) f)

abbrev pub binary : {A B : Type 0} → (Value → Option A) → (Value → Option B) → (A → B → Answer) → List Value → Answer
binary first second f args = given (two_of args) (λ v. given (first v.0) (λ a. given (second v.1) (f a)))

abbrev pub ternary : {A B C : Type 0} → (Value → Option A) → (Value → Option B) → (Value → Option C) → (A → B → C → Answer) → List Value → Answer
ternary first second third f args =
    given (three_of args) (λ v. given (first v.0) (λ a. given (second v.1) (λ b. given (third v.2) (f a b))))

abbrev pub quaternary : {A B C D : Type 0} → (Value → Option A) → (Value → Option B) → (Value → Option C) → (Value → Option D) → (A → B → C → D → Answer) → List Value → Answer
quaternary first second third fourth f args =
    given (four_of args) (λ v. given (first v.0) (λ a. given (second v.1) (λ b. given (third v.2) (λ c. given (fourth v.3) (f a b c)))))

-- why a call stops is what the answer is; only want of memory is free
abbrev pub Stops : OpStop → Answer → Type 0
Stops (stop.Panic p) answer = answer ≡ Fails p
Stops stop.Kind answer = answer ≡ Misfit
Stops stop.NoMemory answer = ⊤

-- what a call gives is the answer
abbrev pub Tells : Result Value OpStop → Answer → Type 0
Tells (Ok v) answer = answer ≡ Is v
Tells (Err s) answer = Stops s answer

-- what a view of an argument gives; a call stops for the kinds where it gives nothing
abbrev pub Views : {A : Type 0} → Result A OpStop → Option A → Type 0
Views (Ok a) view = view ≡ Some a
Views (Err s) view = (s ≡ stop.Kind) × (view ≡ None)

-- a call gives the truth value that tells whether the fact holds; only want of memory is free
abbrev pub TellsWhether : Result Value OpStop → Type 0 → Type 0
TellsWhether (Ok v) fact = ((v ≡ value.Bool true) × fact) ⊎ ((v ≡ value.Bool false) × (fact → ⊥))
TellsWhether (Err stop.NoMemory) fact = ⊤
TellsWhether (Err s) fact = ⊥
