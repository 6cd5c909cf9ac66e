-- What meanings are put together from, whatever the form.
use Rattle.std.specs.Prelude.{ℕ, zero, suc, ◌+◌, ◌-◌, Bool, true, false, List, [], ◌∷◌, Option, Some, None, pos, unsigned_abs, if◌then◌else◌}
use Rattle.hs_words.specs.declared.kinds.IntTy.TheVariants.{PUsize}
use Rattle.hs_words.specs.declared.kinds.Panic.{Panic}
use Rattle.hs_values.specs.Kinds.{is_kind}
use Rattle.hs_values.specs.Fits.{fits}
use Rattle.hs_values.specs.declared.types.ValType.{ValType}
use Rattle.hs_values.specs.declared.types.TypeDef as table
use Rattle.hs_values.specs.declared.value.Sort.TheVariants as sort
use Rattle.hs_values.specs.declared.value.Value.{Value}
use Rattle.hs_control.specs.Control.{Val, Nothing, Truth, Number, Row, Tuple, Ctor, Exit, Cont, Vals, NoVals, Also, vals_of, settled, Reply, Is, Fails, NoReply}
use Rattle.hs_em.specs.Plain.{Name, Holder, some, ok, err, Wrap, holder, exit, cont, Around, top, inside, Folding, whole, control}
use Rattle.hs_em.specs.Headers.{Member}
use Rattle.hs_em.specs.Match.{holder_sort, holder_number}

-- why there is no value: a panic, or nothing says what there is
pub data Why : Type 0 where
  panicked : Panic → Why
  stuck : Why

-- a value or why there is none, and the number of turns
pub data Meaning : Type 0 where
  gives : Val → ℕ → Meaning
  stops : Why → ℕ → Meaning

-- what each definition means for arguments
abbrev pub Calls : Type 0
Calls = Name → List Val → Meaning

-- so many turns more
abbrev pub more : ℕ → Meaning → Meaning
more a (gives v n) = gives v (a + n)
more a (stops y n) = stops y (a + n)

-- goes on with the value, where there is one
abbrev pub and_then : Meaning → (Val → Meaning) → Meaning
and_then (gives v n) f = more n (f v)
and_then (stops y n) f = stops y n

-- nothing says what there is
abbrev pub nothing : Meaning
nothing = stops stuck 0

-- goes on with what may not be there
abbrev pub when : {A : Type 0} → Option A → (A → Meaning) → Meaning
when None f = nothing
when (Some x) f = f x

-- what an operation gives
abbrev pub replied : Reply → Meaning
replied (Is v) = gives v 0
replied (Fails p) = stops (panicked p) 0
replied NoReply = nothing

-- the first where the value is true, the second where it is false
abbrev pub choose : Val → Meaning → Meaning → Meaning
choose (Truth true) a b = a
choose (Truth false) a b = b
choose Nothing a b = nothing
choose (Number n) a b = nothing
choose (Row vs) a b = nothing
choose (Tuple vs) a b = nothing
choose (Ctor s n vs) a b = nothing
choose (Exit v) a b = nothing
choose (Cont v) a b = nothing

-- goes on by a control value: its end, or what it goes on with
abbrev pub on_control : Val → (Val → Meaning) → (Val → Meaning) → Meaning
on_control (Exit v) e f = e v
on_control (Cont v) e f = f v
on_control Nothing e f = nothing
on_control (Truth b) e f = nothing
on_control (Number n) e f = nothing
on_control (Row vs) e f = nothing
on_control (Tuple vs) e f = nothing
on_control (Ctor s n vs) e f = nothing

-- what a binding gives where an end holds the value
abbrev pub ended : Around → Val → Val
ended top v = v
ended inside v = Exit v

-- the value that holds another
abbrev pub wrapped : Wrap → Val → Val
wrapped (holder h) v = Ctor (holder_sort h) (holder_number h) (Also v NoVals)
wrapped exit v = Exit v
wrapped cont v = Cont v

-- a declared type's constructor with these parts
abbrev pub made : Member → List Val → Val
made c vs = Ctor (sort.Named c.owner) c.number (vals_of vs)

-- a number of `usize` as a value
abbrev pub size : ℕ → Val
size n = Number (record { kind = PUsize; number = pos n })

-- the number of a value of `usize`
abbrev pub size_in : Val → Option ℕ
size_in (Number n) = if is_kind n.kind PUsize then Some (unsigned_abs n.number) else None
size_in Nothing = None
size_in (Truth b) = None
size_in (Row vs) = None
size_in (Tuple vs) = None
size_in (Ctor s n vs) = None
size_in (Exit v) = None
size_in (Cont v) = None

-- goes on with the first number and the count of numbers from it up to the second
abbrev pub from_to : Val → Val → (ℕ → ℕ → Meaning) → Meaning
from_to low high f = when (size_in low) (λ a. when (size_in high) (λ b. f a (b - a)))

-- n turns from i on, each of which takes the value so far and gives the next
abbrev pub folds : (ℕ → Val → Meaning) → ℕ → ℕ → Val → Meaning
folds f i zero v = gives v 0
folds f i (suc n) v = more 1 (and_then (f i v) (λ u. folds f (suc i) n u))

-- the same while turns go on: the first end is the fold's
abbrev pub control_folds : (ℕ → Val → Meaning) → ℕ → ℕ → Val → Meaning
control_folds f i zero v = gives (Cont v) 0
control_folds f i (suc n) v =
    more 1 (and_then (f i v) (λ u. on_control u (λ x. gives (Exit x) 0) (λ x. control_folds f (suc i) n x)))

-- the turns of a fold
abbrev pub rounds : Folding → (ℕ → Val → Meaning) → ℕ → ℕ → Val → Meaning
rounds whole = folds
rounds control = control_folds

-- whether a value is of a type; none that is or holds a control value is
abbrev pub settled_fits : List table.TypeDef → ValType → Option Value → Bool
settled_fits types t None = false
settled_fits types t (Some v) = fits types v t

-- a value of another type is no result
abbrev pub of_type : List table.TypeDef → ValType → Meaning → Meaning
of_type types t (gives v n) = if settled_fits types t (settled v) then gives v n else stops stuck n
of_type types t (stops y n) = stops y n
