-- What a module means: its definitions as functions on values, by substitution.
use Rattle.std.specs.Prelude.{ℕ, zero, suc, max, ◌+◌, ◌^◌, List, [], ◌∷◌, Bool, ◌&&◌, cond, eqb, ltb, bytes_eq, Option, Some, None, slice_get, if◌then◌else◌}
use Rattle.hs_first_tree.specs.Value.{ValType, U32, Value, Number, Panic}
use Rattle.hs_first_tree.specs.Operation.{Applied, Is, Fails, Kind, applied}
use Rattle.hs_first_em.specs.Plain.{EmVar, Em, local, number, op, bind, given, Ems, no_ems, em, EmPar, EmDef, Module}

-- a value, a panic, or neither, and the number of turns
pub data Meaning : Type 0 where
  value : Value → ℕ → Meaning
  panic : Panic → ℕ → Meaning
  stuck : ℕ → Meaning

-- the same with more turns
abbrev pub more : ℕ → Meaning → Meaning
more a (value v n) = value v (a + n)
more a (panic p n) = panic p (a + n)
more a (stuck n) = stuck (a + n)

-- goes on with the value, where there is one
abbrev pub and_then : Meaning → (Value → Meaning) → Meaning
and_then (value v n) f = more n (f v)
and_then (panic p n) f = panic p n
and_then (stuck n) f = stuck n

-- what an operation gives
abbrev pub operated : Applied → Meaning
operated (Is v) = value v 0
operated (Fails p) = panic p 0
operated Kind = stuck 0

-- whether two locals are printed alike
abbrev pub same_var : EmVar → EmVar → Bool
same_var x y = bytes_eq x.name y.name && eqb x.number y.number

abbrev mutual
  -- the expression with a value in the place of a local, but for where a `let` hides it
  pub substituted : EmVar → Value → Em → Em
  substituted x v (local y) = cond (same_var x y) (given v) (local y)
  substituted x v (number n) = number n
  substituted x v (op w es) = op w (all_substituted x v es)
  substituted x v (bind y a b) = bind y (substituted x v a) (cond (same_var x y) b (substituted x v b))
  substituted x v (given w) = given w

  pub all_substituted : EmVar → Value → Ems → Ems
  all_substituted x v no_ems = no_ems
  all_substituted x v (em e es) = em (substituted x v e) (all_substituted x v es)

abbrev mutual
  -- how deep expressions stand within one another, which a value in the place of a local does not change
  pub height : Em → ℕ
  height (local x) = 1
  height (number n) = 1
  height (op w es) = suc (heights es)
  height (bind x a b) = suc (max (height a) (height b))
  height (given v) = 1

  pub heights : Ems → ℕ
  heights no_ems = 0
  heights (em e es) = max (height e) (heights es)

-- operands are taken from left to right; the first without a value decides
abbrev pub meanings : (Em → Meaning) → Ems → (List Value → Meaning) → Meaning
meanings m no_ems f = f []
meanings m (em e es) f = and_then (m e) (λ v. meanings m es (λ vs. f (v ∷ vs)))

-- what an expression of at most this height means; a `let` is what follows it, with the value in the place of the local;
-- a local that no value took the place of means nothing
abbrev pub meaning_within : ℕ → Em → Meaning
meaning_within zero e = stuck 0
meaning_within (suc k) (local x) = stuck 0
meaning_within (suc k) (number n) = value (Number n) 0
meaning_within (suc k) (op w es) = meanings (meaning_within k) es (λ vs. operated (applied w vs))
meaning_within (suc k) (bind x a b) = and_then (meaning_within k a) (λ v. meaning_within k (substituted x v b))
meaning_within (suc k) (given v) = value v 0

-- what an expression means
abbrev pub meaning : Em → Meaning
meaning e = meaning_within (height e) e

-- the body with the arguments in the place of the parameters; none where the numbers differ
abbrev pub entered : List EmPar → List Value → Em → Option Em
entered [] [] e = Some e
entered [] (v ∷ vs) e = None
entered (p ∷ ps) [] e = None
entered (p ∷ ps) (v ∷ vs) e = entered ps vs (substituted p.var v e)

abbrev pub meaning_of : Option Em → Meaning
meaning_of None = stuck 0
meaning_of (Some e) = meaning e

-- whether the value is of the type
abbrev pub fits : ValType → Value → Bool
fits U32 (Number n) = ltb n (2 ^ 32)

-- a value of another type is no result
abbrev pub of_type : ValType → Meaning → Meaning
of_type t (value v n) = if fits t v then value v n else stuck n
of_type t (panic p n) = panic p n
of_type t (stuck n) = stuck n

-- a call of the definition: one turn, and those of its body
abbrev pub called : Option EmDef → List Value → Meaning
called None vs = stuck 0
called (Some d) vs = of_type d.returns (more 1 (meaning_of (entered d.params vs d.body)))

-- a call of the definition at this place of the module
abbrev pub means : Module → ℕ → List Value → Meaning
means m i vs = called (slice_get m.defs i) vs
