-- Meaning by substitution is evaluation with an environment.
use Rattle.std.proofs.Common.{◌≡◌, ℕ, zero, suc, ◌<◌, ◌≤◌, max, List, [], ◌∷◌, Option, Some, None, Bool, true, false, cond, eqb, refl, sym, ap, ◌∙◌, arith}
use Rattle.std.specs.Prelude.{bytes_eq, option_map, slice_get}
use Rattle.std.proofs.Math.Path.{fun_ext}
use Rattle.std.proofs.lemmas.Bool.{true≢false, eqb-true, eq-eqb, and_parts, and_from}
use Rattle.std.proofs.lemmas.Slice.Eq.{bytes_eq-Decides}
use Rattle.hs_first_tree.specs.Value.{Value}
use Rattle.hs_first_tree.specs.Operation.{applied}
use Rattle.hs_first_em.specs.Plain.{EmVar, Em, local, number, op, bind, given, Ems, no_ems, em, EmPar, EmDef, Module}
use Rattle.hs_first_em.specs.Environment.{Env, unbound, bound, looked, evaluated, all_evaluated, env_of, evaluated_in, called_in}
use Rattle.hs_first_em.specs.Means.{Meaning, stuck, more, and_then, operated, same_var, substituted, all_substituted, height, heights, meanings, meaning_within, meaning, entered, meaning_of, of_type, called, means}

-- a local from its parts
abbrev mk_var : List ℕ → ℕ → EmVar
mk_var n k = record { name = n; number = k }

-- locals that are printed alike are the same
pub same_var-true : (x y : EmVar) → same_var x y ≡ true → x ≡ y
same_var-true x y e =
    let p : (bytes_eq x.name y.name ≡ true) × (eqb x.number y.number ≡ true) = and_parts (bytes_eq x.name y.name) (eqb x.number y.number) e in
    ap (λ n. mk_var n x.number) ((bytes_eq-Decides x.name y.name).0 p.0) ∙ ap (mk_var y.name) (eqb-true x.number y.number p.1)

-- and a local is printed as itself
pub same_var-same : (x y : EmVar) → x ≡ y → same_var x y ≡ true
same_var-same x y e =
    and_from (bytes_eq x.name y.name) (eqb x.number y.number) ((bytes_eq-Decides x.name y.name).1 (ap (λ z. z.name) e)) (eq-eqb x.number y.number (ap (λ z. z.number) e))

-- equal meanings go on to equal meanings
pub then_same : (x y : Meaning) (f g : Value → Meaning) → x ≡ y → ((v : Value) → f v ≡ g v) → and_then x f ≡ and_then y g
then_same x y f g e h = ap (λ z. and_then z f) e ∙ ap (and_then y) (fun_ext h)

-- a later binding hides an earlier one of the same local
bound_twice : (r : Env) (x y : EmVar) (v w : Value) → same_var x y ≡ true → bound (bound r x v) y w ≡ bound r y w
bound_twice r x y v w e = fun_ext (λ z. go z (same_var y z) (same_var x z) refl refl)
  where
    go : (z : EmVar) (a b : Bool) → same_var y z ≡ a → same_var x z ≡ b → cond a (Some w) (cond b (Some v) (r z)) ≡ cond a (Some w) (r z)
    go z true b d f = refl
    go z false true d f = absurd (true≢false (sym (same_var-same y z (sym (same_var-true x y e) ∙ same_var-true x z f)) ∙ d))
    go z false false d f = refl

-- bindings of two locals change their order
bound_swap : (r : Env) (x y : EmVar) (v w : Value) → same_var x y ≡ false → bound (bound r y w) x v ≡ bound (bound r x v) y w
bound_swap r x y v w e = fun_ext (λ z. go z (same_var y z) (same_var x z) refl refl)
  where
    go : (z : EmVar) (a b : Bool) → same_var y z ≡ a → same_var x z ≡ b → cond b (Some v) (cond a (Some w) (r z)) ≡ cond a (Some w) (cond b (Some v) (r z))
    go z true true d f = absurd (true≢false (sym (same_var-same x y (same_var-true x z f ∙ sym (same_var-true y z d))) ∙ e))
    go z true false d f = refl
    go z false true d f = refl
    go z false false d f = refl

-- below a `let`
under : (b : Em) (r : Env) (x y : EmVar) (v : Value) → ((r : Env) → evaluated (substituted x v b) r ≡ evaluated b (bound r x v)) → (w : Value) → evaluated (cond (same_var x y) b (substituted x v b)) (bound r y w) ≡ evaluated b (bound (bound r x v) y w)
under b r x y v h w = go (same_var x y) refl
  where
    go : (q : Bool) → same_var x y ≡ q → evaluated (cond q b (substituted x v b)) (bound r y w) ≡ evaluated b (bound (bound r x v) y w)
    go true d = ap (evaluated b) (sym (bound_twice r x y v w d))
    go false d = h (bound r y w) ∙ ap (evaluated b) (bound_swap r x y v w d)

mutual
  -- a value in the place of a local is the local bound to the value
  pub evaluated-substituted : (e : Em) (x : EmVar) (v : Value) (r : Env) → evaluated (substituted x v e) r ≡ evaluated e (bound r x v)
  evaluated-substituted (local y) x v r = go (same_var x y)
    where
      go : (q : Bool) → evaluated (cond q (given v) (local y)) r ≡ looked (cond q (Some v) (r y))
      go true = refl
      go false = refl
  evaluated-substituted (number n) x v r = refl
  evaluated-substituted (op w es) x v r = all_evaluated-substituted es x v r (λ vs. operated (applied w vs))
  evaluated-substituted (bind y a b) x v r = then_same _ _ _ _ (evaluated-substituted a x v r) (under b r x y v (evaluated-substituted b x v))
  evaluated-substituted (given w) x v r = refl

  pub all_evaluated-substituted : (es : Ems) (x : EmVar) (v : Value) (r : Env) (f : List Value → Meaning) → all_evaluated (all_substituted x v es) r f ≡ all_evaluated es (bound r x v) f
  all_evaluated-substituted no_ems x v r f = refl
  all_evaluated-substituted (em e es) x v r f = then_same _ _ _ _ (evaluated-substituted e x v r) (λ u. all_evaluated-substituted es x v r (λ vs. f (u ∷ vs)))

mutual
  -- a value in the place of a local changes no height
  pub height-substituted : (e : Em) (x : EmVar) (v : Value) → height (substituted x v e) ≡ height e
  height-substituted (local y) x v = go (same_var x y)
    where
      go : (q : Bool) → height (cond q (given v) (local y)) ≡ 1
      go true = refl
      go false = refl
  height-substituted (number n) x v = refl
  height-substituted (op w es) x v = ap suc (heights-substituted es x v)
  height-substituted (bind y a b) x v =
      ap (λ n. suc (max n (height (cond (same_var x y) b (substituted x v b))))) (height-substituted a x v)
      ∙ ap (λ n. suc (max (height a) n)) (go (same_var x y) b (height-substituted b x v))
    where
      go : (q : Bool) (b : Em) → height (substituted x v b) ≡ height b → height (cond q b (substituted x v b)) ≡ height b
      go true b h = refl
      go false b h = h
  height-substituted (given w) x v = refl

  pub heights-substituted : (es : Ems) (x : EmVar) (v : Value) → heights (all_substituted x v es) ≡ heights es
  heights-substituted no_ems x v = refl
  heights-substituted (em e es) x v =
      ap (λ n. max n (heights (all_substituted x v es))) (height-substituted e x v) ∙ ap (max (height e)) (heights-substituted es x v)

-- an expression has a height
height_some : (e : Em) → 0 < height e
height_some (local x) = omega arith
height_some (number n) = omega arith
height_some (op w es) = omega arith
height_some (bind x a b) = omega arith
height_some (given v) = omega arith

-- operands, where their own meanings are so
operands_env : (m : Em → Meaning) (k : ℕ) → ((e : Em) → height e ≤ k → m e ≡ evaluated e unbound) → (es : Ems) → heights es ≤ k → (f : List Value → Meaning) → meanings m es f ≡ all_evaluated es unbound f
operands_env m k h no_ems l f = refl
operands_env m k h (em e es) l f = then_same _ _ _ _ (h e (omega arith)) (λ v. operands_env m k h es (omega arith) (λ vs. f (v ∷ vs)))

-- the meaning of an expression, within any bound of its height, is its evaluation where no local has a value
pub meaning_within_env : (k : ℕ) (e : Em) → height e ≤ k → meaning_within k e ≡ evaluated e unbound
meaning_within_env zero e l = let p : 0 < height e = height_some e in absurd (omega arith)
meaning_within_env (suc k) (local x) l = refl
meaning_within_env (suc k) (number n) l = refl
meaning_within_env (suc k) (op w es) l = operands_env (meaning_within k) k (meaning_within_env k) es (omega arith) (λ vs. operated (applied w vs))
meaning_within_env (suc k) (bind x a b) l =
    then_same _ _ _ _ (meaning_within_env k a (omega arith))
    (λ v. meaning_within_env k (substituted x v b) (omega (arith, height-substituted b x v)) ∙ evaluated-substituted b x v unbound)
meaning_within_env (suc k) (given v) l = refl

-- within its own height
pub meaning_env : (e : Em) → meaning e ≡ evaluated e unbound
meaning_env e = meaning_within_env (height e) e (omega arith)

-- the body with the arguments in it is the body in their environment
pub entered_env : (ps : List EmPar) (vs : List Value) (e : Em) → meaning_of (entered ps vs e) ≡ evaluated_in e (env_of ps vs)
entered_env ps vs e = closed (entered ps vs e) ∙ go ps vs e
  where
    at_once : Option Em → Meaning
    at_once None = stuck 0
    at_once (Some e) = evaluated e unbound

    closed : (x : Option Em) → meaning_of x ≡ at_once x
    closed None = refl
    closed (Some e) = meaning_env e

    last : (e : Em) (x : EmVar) (v : Value) (q : Option Env) → evaluated_in (substituted x v e) q ≡ evaluated_in e (option_map (λ r. bound r x v) q)
    last e x v None = refl
    last e x v (Some r) = evaluated-substituted e x v r

    go : (ps : List EmPar) (vs : List Value) (e : Em) → at_once (entered ps vs e) ≡ evaluated_in e (env_of ps vs)
    go [] [] e = refl
    go [] (v ∷ vs) e = refl
    go (p ∷ ps) [] e = refl
    go (p ∷ ps) (v ∷ vs) e = go ps vs (substituted p.var v e) ∙ last e p.var v (env_of ps vs)

-- THE BRIDGE: what a module means needs no substitution
pub means_env : (m : Module) (i : ℕ) (vs : List Value) → means m i vs ≡ called_in (slice_get m.defs i) vs
means_env m i vs = go (slice_get m.defs i)
  where
    go : (d : Option EmDef) → called d vs ≡ called_in d vs
    go None = refl
    go (Some d) = ap (λ x. of_type d.returns (more 1 x)) (entered_env d.params vs d.body)
