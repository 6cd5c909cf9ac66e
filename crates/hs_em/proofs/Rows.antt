-- What the definitions give for small modules.
use Rattle.std.proofs.Common.{◌≡◌, ℕ, true, false, List, [], ◌∷◌, Some, None, pos, refl}
use Rattle.std.specs.Prelude.{codes}
use Rattle.std.specs.Fmt.{digits}
use Rattle.hs_words.specs.declared.kinds.IntTy.TheVariants.{PU8, PU32, PUsize}
use Rattle.hs_values.specs.declared.value.Sort.TheVariants as sort
use Rattle.hs_ops.specs.Standard.{standard_operations, for_kinds, for_kind, for_tuples, for_tuple}
use Rattle.hs_control.specs.Control.{Val, Nothing, Truth, Number, Tuple, Ctor, Exit, Cont, NoVals, Also}
use Rattle.hs_em.specs.Plain.{named_type, no_patterns, pattern, anything, parts, taken, on_ctor, on_any, on_none, on_holder, some, ok, exit, cont, wrap, holder, whole, control, top, inside, lets, local, const, ctor, none, truth, unit, build, op, call, tuple, list, if_else, match_on, bind, fold, no_ems, em, no_cases, case, bound, no_lets, unit_type, bool_type}
use Rattle.hs_em.specs.Steps.{gives, stops, stuck, size}
use Rattle.hs_em.specs.Means.{inner}
use Rattle.hs_em.specs.Scoped.{unknown, again, miscounted, told, Scoped}
use Rattle.hs_em.specs.Samples.{var, at, to, number, one, two, let_one, defs_of, u32, add, adds, empty, g, h, capture, f, frozen, sum, e, loops, choices, choice, kept, body_alone}

abbrev word : ℕ → Val
word n = Number (record { kind = PU32; number = pos n })

abbrev byte : ℕ → Val
byte n = Number (record { kind = PU8; number = pos n })

-- one turn for the call, and one for the call in it
h_true : inner capture (codes "h") (Truth true ∷ []) ≡ gives (word 5) 2
h_true = refl

h_false : inner capture (codes "h") (Truth false ∷ []) ≡ gives (word 0) 1
h_false = refl

-- folds over no number are applied no time
e_gives : inner loops (codes "e") [] ≡ gives (word 3) 1
e_gives = refl

-- a match takes the parts of a constructor, and none where it has none
number_b : inner choices (codes "number") (Ctor (sort.Named 0) 1 (Also (byte 7) (Also (Truth true) NoVals)) ∷ []) ≡ gives (byte 7) 1
number_b = refl

number_a : inner choices (codes "number") (Ctor (sort.Named 0) 0 NoVals ∷ []) ≡ gives (byte 0) 1
number_a = refl

-- a value of another type fits no arm
number_none : inner choices (codes "number") (Truth true ∷ []) ≡ stops stuck 1
number_none = refl

-- ---- what is stuck

-- a condition that is no truth value
no_condition : inner (body_alone u32 (if_else unit (number PU32 1) (number PU32 2))) (codes "f") [] ≡ stops stuck 1
no_condition = refl

-- a bound that is no `usize`; the operands are evaluated before it is judged
no_bound : inner (body_alone u32 (fold whole (number PU32 0) (number PUsize 1) unit (var (codes "i") 0) anything unit)) (codes "f") [] ≡ stops stuck 1
no_bound = refl

-- a pattern that does not fit
no_fit : inner (body_alone u32 (let_one (parts (pattern anything (pattern anything no_patterns))) unit (number PU32 1))) (codes "f") [] ≡ stops stuck 1
no_fit = refl

-- a match of which no arm fits
no_arm : inner (body_alone u32 (match_on unit (case on_none (number PU32 1) no_cases))) (codes "f") [] ≡ stops stuck 1
no_arm = refl

-- a fold with control whose body gives no control value; its first turn counts
no_control : inner (body_alone u32 (fold control (number PUsize 0) (number PUsize 2) unit (var (codes "i") 0) anything unit)) (codes "f") [] ≡ stops stuck 2
no_control = refl

-- a binding of what is no control value
no_binding : inner (body_alone u32 (bind top unit anything (number PU32 1))) (codes "f") [] ≡ stops stuck 1
no_binding = refl

-- a definition that is not there
no_definition : inner (body_alone u32 (call (codes "g") no_ems)) (codes "f") [] ≡ stops stuck 1
no_definition = refl

-- ---- control values

-- the first end stops a fold, which gives it
first_end : inner (body_alone u32 (fold control (number PUsize 0) (number PUsize 9) unit (var (codes "i") 0) anything (wrap exit (at (codes "i") 0)))) (codes "f") [] ≡ gives (Exit (size 0)) 2
first_end = refl

-- a fold that no end stops gives its last value to go on with
no_end : inner (body_alone u32 (fold control (number PUsize 0) (number PUsize 2) unit (var (codes "i") 0) anything (wrap cont (at (codes "i") 0)))) (codes "f") [] ≡ gives (Cont (size 1)) 3
no_end = refl

-- at the top a binding gives what an end holds; inside it stays in an end
at_top : inner (body_alone u32 (bind top (wrap exit (number PU32 4)) anything (number PU32 1))) (codes "f") [] ≡ gives (word 4) 1
at_top = refl

at_inside : inner (body_alone u32 (bind inside (wrap exit (number PU32 4)) anything (number PU32 1))) (codes "f") [] ≡ gives (Exit (word 4)) 1
at_inside = refl

goes_on : inner (body_alone u32 (bind top (wrap cont (number PU32 4)) (to (codes "x") 0) (at (codes "x") 0))) (codes "f") [] ≡ gives (word 4) 1
goes_on = refl

-- a local of a fold is hidden by the pattern that binds it again
hides : inner (body_alone u32 (fold whole (number PUsize 0) (number PUsize 1) (number PU32 8) (var (codes "i") 0) (to (codes "i") 0) (at (codes "i") 0))) (codes "f") [] ≡ gives (word 8) 2
hides = refl

-- ---- what is told

capture_scoped : told capture ≡ None
capture_scoped = refl

choices_scoped : told choices ≡ None
unfolding digits standard_operations for_kinds for_kind for_tuples for_tuple
choices_scoped = refl

-- a local that is not bound
unbound_local : told (body_alone u32 (at (codes "x") 0)) ≡ Some unknown
unbound_local = refl

-- a definition that comes later
later_def : told (defs_of (codes "Later") (h ∷ g ∷ [])) ≡ Some unknown
later_def = refl

-- a word that is no operation
no_operation : told (body_alone u32 (op (codes "u32_plus") (two (number PU32 1) (number PU32 2)))) ≡ Some unknown
unfolding standard_operations for_kinds for_kind for_tuples for_tuple
no_operation = refl

-- a definition's name twice
twice_defined : told (defs_of (codes "Twice") (g ∷ g ∷ [])) ≡ Some again
twice_defined = refl

-- a name twice in a pattern
twice_bound : told (body_alone u32 (let_one (parts (pattern (to (codes "x") 0) (pattern (to (codes "x") 0) no_patterns))) (tuple (two unit unit)) (number PU32 1))) ≡ Some again
twice_bound = refl

-- too many arguments
too_many : told (body_alone u32 (op (codes "bool_not") (two (truth true) (truth true)))) ≡ Some miscounted
unfolding standard_operations for_kinds for_kind for_tuples for_tuple
too_many = refl

-- one operand of two
too_few : told (body_alone u32 (op (codes "u32_add") (one (number PU32 1)))) ≡ Some miscounted
unfolding standard_operations for_kinds for_kind for_tuples for_tuple
too_few = refl

-- a constructor of an option that a match lacks, and a last `_` in its place
lacks_arm : told (body_alone u32 (match_on none (case on_none (number PU32 1) no_cases))) ≡ Some miscounted
lacks_arm = refl

last_any : told (body_alone u32 (match_on none (case on_none (number PU32 1) (case on_any (number PU32 1) no_cases)))) ≡ None
last_any = refl

-- arms of two types
two_types : told (body_alone u32 (match_on none (case on_none (number PU32 1) (case (on_holder ok anything) (number PU32 1) (case on_any (number PU32 1) no_cases))))) ≡ Some miscounted
two_types = refl

-- a name that is unknown is told before one that is there twice, and before a count
least_first : told (body_alone u32 (match_on (at (codes "x") 0) (case on_none (number PU32 1) no_cases))) ≡ Some unknown
least_first = refl
