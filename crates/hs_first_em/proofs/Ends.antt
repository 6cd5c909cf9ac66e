-- A scoped module that a text can write gives a value or a panic for all arguments of its types.
use Rattle.std.proofs.Common.{◌≡◌, ℕ, zero, suc, ◌+◌, ◌^◌, List, [], ◌∷◌, map, Option, Some, None, Bool, true, false, ◌||◌, cond, ltb, codes, refl, sym, ap, ◌∙◌, subst, arith}
use Rattle.std.specs.Prelude.{option_map, slice_get}
use Rattle.std.proofs.lemmas.Bool.{true≢false, lt-ltb, ltb-true}
use Rattle.hs_first_tree.specs.Value.{ValType, U32, Value, Number, Overflow, Fits, FitsAll}
use Rattle.hs_first_tree.specs.Operation.{Is, Fails, applied}
use Rattle.hs_first_em.specs.Plain.{EmVar, Em, local, number, op, bind, given, Ems, no_ems, em, EmPar, EmDef, Module}
use Rattle.hs_first_em.specs.Spelled.{SpelledEm, SpelledEms, SpelledDefs, Spelled}
use Rattle.hs_first_em.specs.Scoped.{has_var, count, ScopedEm, ScopedEms, vars_of, ScopedDefs, Scoped}
use Rattle.hs_first_em.specs.Means.{Meaning, value, panic, stuck, more, and_then, operated, same_var, of_type, means}
use Rattle.hs_first_em.specs.Environment.{Env, unbound, bound, looked, evaluated, all_evaluated, env_of, evaluated_in, called_in}
use Rattle.hs_first_em.specs.Ended.{Ended}
use Rattle.hs_first_em.proofs.Environment.{same_var-true, same_var-same, means_env}

-- a local with a value of u32
abbrev Holds : Option Value → Type 0
Holds None = ⊥
Holds (Some v) = Fits v U32

-- the environment has such a value for each of the locals
abbrev HasAll : List EmVar → Env → Type 0
HasAll xs r = (y : EmVar) → has_var y xs ≡ true → Holds (r y)

-- more turns change no end
ended_more : (n : ℕ) (x : Meaning) → Ended x → Ended (more n x)
ended_more n (value v k) h = h
ended_more n (panic p k) h = h
ended_more n (stuck k) h = h

-- what goes on from an end to ends has ended
ended_then : (x : Meaning) (f : Value → Meaning) → Ended x → ((v : Value) → Fits v U32 → Ended (f v)) → Ended (and_then x f)
ended_then (value v n) f h g = ended_more n (f v) (g v h)
ended_then (panic p n) f h g = tt
ended_then (stuck n) f h g = h

-- a local of the environment
looked_ended : (x : Option Value) → Holds x → Ended (looked x)
looked_ended None h = h
looked_ended (Some v) h = h

-- a sum
sum_ended : (u v : Value) → Ended (operated (applied (codes "u32_add") (u ∷ v ∷ [])))
sum_ended (Number a) (Number b) = go (ltb (a + b) (2 ^ 32)) refl
  where
    go : (q : Bool) → ltb (a + b) (2 ^ 32) ≡ q → Ended (operated (cond q (Is (Number (a + b))) (Fails Overflow)))
    go true e = ltb-true (a + b) (2 ^ 32) e
    go false e = tt

-- one more local
has_more : (xs : List EmVar) (r : Env) (x : EmVar) (v : Value) → HasAll xs r → Fits v U32 → HasAll (x ∷ xs) (bound r x v)
has_more xs r x v h f y e = go (same_var x y) refl
  where
    go : (q : Bool) → same_var x y ≡ q → Holds (cond q (Some v) (r y))
    go true d = f
    go false d = h y (later (same_var y x) refl e)
      where
        later : (q : Bool) → same_var y x ≡ q → (q || has_var y xs) ≡ true → has_var y xs ≡ true
        later true c k = absurd (true≢false (sym (same_var-same x y (sym (same_var-true y x c))) ∙ d))
        later false c k = k

mutual
  -- an expression
  ended_em : (e : Em) (xs : List EmVar) (r : Env) → ScopedEm xs e → SpelledEm e → HasAll xs r → Ended (evaluated e r)
  ended_em (local x) xs r s p h = looked_ended (r x) (h x s)
  ended_em (number n) xs r s p h = p
  ended_em (op w es) xs r s p h = subst (λ u. Ended (all_evaluated es r (λ vs. operated (applied u vs)))) (sym p.0) (ended_ems es xs r s.0 s.1 p.2 h)
  ended_em (bind x a b) xs r s p h =
      ended_then (evaluated a r) (λ v. evaluated b (bound r x v)) (ended_em a xs r s.0 p.1 h)
      (λ v f. ended_em b (x ∷ xs) (bound r x v) s.1 p.2 (has_more xs r x v h f))
  ended_em (given v) xs r s p h = absurd p

  -- two operands of a sum
  ended_ems : (es : Ems) (xs : List EmVar) (r : Env) → count es ≡ 2 → ScopedEms xs es → SpelledEms es → HasAll xs r → Ended (all_evaluated es r (λ vs. operated (applied (codes "u32_add") vs)))
  ended_ems no_ems xs r c s p h = absurd (omega arith)
  ended_ems (em a no_ems) xs r c s p h = absurd (omega arith)
  ended_ems (em a (em b no_ems)) xs r c s p h =
      ended_then (evaluated a r) _ (ended_em a xs r s.0 p.1 h) (λ u f. ended_then (evaluated b r) _ (ended_em b xs r s.1.0 p.2.1 h) (λ v g. sum_ended u v))
  ended_ems (em a (em b (em d es))) xs r c s p h = absurd (omega arith)

-- the one type
fits_u32 : (v : Value) (t : ValType) → Fits v t → Fits v U32
fits_u32 v U32 h = h

-- the arguments' environment
env_has : (ps : List EmPar) (vs : List Value) → FitsAll vs (map (λ (p : EmPar). p.type) ps) → (r : Env) × (env_of ps vs ≡ Some r) × HasAll (vars_of ps) r
env_has [] [] h = (unbound, refl, λ y e. absurd (true≢false (sym e)))
env_has [] (v ∷ vs) h = absurd h
env_has (p ∷ ps) [] h = absurd h
env_has (p ∷ ps) (v ∷ vs) h =
    let q : (r : Env) × (env_of ps vs ≡ Some r) × HasAll (vars_of ps) r = env_has ps vs h.1 in
    (bound q.0 p.var v, ap (option_map (λ r. bound r p.var v)) q.1, has_more (vars_of ps) q.0 p.var v q.2 (fits_u32 v p.type h.0))

-- an end is of the type
ended_of_type : (t : ValType) (x : Meaning) → Ended x → Ended (of_type t x)
ended_of_type U32 (value (Number n) k) h = subst (λ q. Ended (cond q (value (Number n) k) (stuck k))) (sym (lt-ltb n (2 ^ 32) h)) h
ended_of_type t (panic p k) h = tt
ended_of_type t (stuck k) h = h

-- a definition
ended_def : (d : EmDef) (vs : List Value) → ScopedEm (vars_of d.params) d.body → SpelledEm d.body → FitsAll vs (map (λ (p : EmPar). p.type) d.params) → Ended (called_in (Some d) vs)
ended_def d vs s p h =
    let q : (r : Env) × (env_of d.params vs ≡ Some r) × HasAll (vars_of d.params) r = env_has d.params vs h in
    ended_of_type d.returns (more 1 (evaluated_in d.body (env_of d.params vs)))
    (ended_more 1 (evaluated_in d.body (env_of d.params vs))
    (subst (λ x. Ended (evaluated_in d.body x)) (sym q.1) (ended_em d.body (vars_of d.params) q.0 s p q.2)))

-- the definition at a place of a list
ended_at : (ds : List EmDef) (i : ℕ) (d : EmDef) (vs : List Value) → ScopedDefs ds → SpelledDefs ds → slice_get ds i ≡ Some d → FitsAll vs (map (λ (p : EmPar). p.type) d.params) → Ended (called_in (slice_get ds i) vs)
ended_at [] i d vs s p e h = absurd (cc)
ended_at (g ∷ ds) zero d vs s p e h =
    let z : g ≡ d = cc in
    ended_def g vs s.0.1 p.0.2 (subst (λ x. FitsAll vs (map (λ (p : EmPar). p.type) x.params)) (sym z) h)
ended_at (g ∷ ds) (suc i) d vs s p e h = ended_at ds i d vs s.1 p.1 e h

-- for all arguments of its parameters' types, a definition of the module gives a value of u32 or panics
pub means_ended : (m : Module) (i : ℕ) (d : EmDef) (vs : List Value) → Scoped m → Spelled m → slice_get m.defs i ≡ Some d → FitsAll vs (map (λ (p : EmPar). p.type) d.params) → Ended (means m i vs)
means_ended m i d vs s p e h = subst Ended (sym (means_env m i vs)) (ended_at m.defs i d vs s.defs p.defs e h)
