-- Meaning by substitution is evaluation with an environment.
use Rattle.std.proofs.Common.{◌≡◌, ℕ, zero, suc, ◌<◌, ◌≤◌, max, List, [], ◌∷◌, reverse, Option, Some, None, Bool, refl, sym, ap, ◌∙◌, arith}
use Rattle.std.specs.Prelude.{bytes_eq, if◌then◌else◌}
use Rattle.std.proofs.Math.Path.{fun_ext}
use Rattle.hs_control.specs.Control.{Val, applied, vals_of, Tuple}
use Rattle.hs_em.specs.Plain.{Name, Var, Pat, Arm, Em, lets, local, const, ctor, none, truth, unit, lit, build, op, wrap, call, tuple, list, if_else, match_on, bind, fold, Ems, no_ems, em, Cases, no_cases, case, Lets, no_lets, bound, TypeDef, Const, Par, Def, Module}
use Rattle.hs_em.specs.Match.{vars_of, arm_vars, Env, unbound, only, first_of_two, over, matched, arm_matched}
use Rattle.hs_em.specs.Steps.{Meaning, gives, Calls, more, and_then, nothing, when, choose, on_control, ended, size, from_to, rounds}
use Rattle.hs_em.specs.Means.{Held, open_local, given, Term, in_place, place_var, place_held, without, behind, substituted, all_substituted, cases_substituted, lets_substituted, depth, all_depth, cases_depth, lets_depth, all_mean, held, taken_by, chosen, within, meaning, entered, no_calls, consts_of, called, calls_of, def_named, constants, outermost, means}
use Rattle.hs_em.specs.Environment.{looked, evaluated, all_evaluated, cases_evaluated, lets_evaluated, consts_evaluated, entered_evaluated, calls_evaluated, constants_evaluated, means_evaluated}
use Rattle.hs_em.proofs.Covers.{Covers, Covered, covers, covers_arm, hidden, hidden_twice, over_unbound}

-- the value at a place where a definition runs
abbrev look_held : Env → Held → Option Val
look_held r (open_local x) = r x
look_held r (given v) = Some v

-- equal meanings go on to equal meanings
then_same : (x y : Meaning) (f g : Val → Meaning) → x ≡ y → ((v : Val) → f v ≡ g v) → and_then x f ≡ and_then y g
then_same x y f g e h = ap (λ z. and_then z f) e ∙ ap (and_then y) (fun_ext h)

when_same : (xs : List Var) (o : Option Env) (f g : Env → Meaning) → Covered xs o → ((m : Env) → Covers xs m → f m ≡ g m) → when o f ≡ when o g
when_same xs None f g c h = refl
when_same xs (Some m) f g c h = h m c

taken_same : (xs : List Var) (o : Option Env) (f g : Env → Meaning) (a b : Meaning) → Covered xs o → ((m : Env) → Covers xs m → f m ≡ g m) → a ≡ b → taken_by o f a ≡ taken_by o g b
taken_same xs None f g a b c h e = e
taken_same xs (Some m) f g a b c h e = h m c

choose_same : (v : Val) (a b c d : Meaning) → a ≡ b → c ≡ d → choose v a c ≡ choose v b d
choose_same v a b c d e h = ap (λ z. choose v z c) e ∙ ap (choose v b) h

module _ (types : List TypeDef) (known : Name → Meaning) (calls : Calls) where
  module _ {X : Type 0} (put : Env → X → Held) (look : Env → X → Option Val) (agree : (s r : Env) (x : X) → look_held r (put s x) ≡ look (over s r) x) where
    -- below a pattern
    under : (p : Pat) (x : Val) (b : Em X) (s r : Env) → ((q : Env) → evaluated look_held types known calls (substituted put (without (vars_of p) s) b) q ≡ evaluated look types known calls b (over (without (vars_of p) s) q)) → when (matched types p x) (λ m. evaluated look_held types known calls (substituted put (without (vars_of p) s) b) (over m r)) ≡ when (matched types p x) (λ m. evaluated look types known calls b (over m (over s r)))
    under p x b s r h =
        when_same (vars_of p) (matched types p x) _ _ (covers types p x)
        (λ m c. h (over m r) ∙ ap (evaluated look types known calls b) (hidden (vars_of p) m s r c))

    -- a turn of a fold
    turn : (x : Var) (p : Pat) (b : Em X) (s r : Env) (j : ℕ) (y : Val) → ((q : Env) → evaluated look_held types known calls (substituted put (without (vars_of p) (without (x ∷ []) s)) b) q ≡ evaluated look types known calls b (over (without (vars_of p) (without (x ∷ []) s)) q)) → when (matched types p y) (λ m. evaluated look_held types known calls (substituted put (without (vars_of p) (without (x ∷ []) s)) b) (over (over m (only x (size j))) r)) ≡ when (matched types p y) (λ m. evaluated look types known calls b (over (over m (only x (size j))) (over s r)))
    turn x p b s r j y h =
        when_same (vars_of p) (matched types p y) _ _ (covers types p y)
        (λ m c. h (over (over m (only x (size j))) r)
        ∙ ap (evaluated look types known calls b) (hidden_twice (vars_of p) x (size j) m s r c))

    mutual
      -- a value in the place of a local is the local in an environment that has the value
      pub put_in : (e : Em X) (s r : Env) → evaluated look_held types known calls (substituted put s e) r ≡ evaluated look types known calls e (over s r)
      put_in (lets ls e) s r =
          lets_in ls s r (evaluated look_held types known calls (substituted put (behind ls s) e)) (evaluated look types known calls e)
          (put_in e (behind ls s))
      put_in (local x) s r = ap (λ o. when o (λ v. gives v 0)) (agree s r x)
      put_in (const name) s r = refl
      put_in (ctor t name) s r = refl
      put_in none s r = refl
      put_in (truth b) s r = refl
      put_in unit s r = refl
      put_in (lit n) s r = refl
      put_in (build t name es) s r = all_in es s r _
      put_in (op name es) s r = all_in es s r _
      put_in (wrap w e) s r = then_same _ _ _ _ (put_in e s r) (λ v. refl)
      put_in (call name es) s r = all_in es s r (calls name)
      put_in (tuple es) s r = all_in es s r _
      put_in (list es) s r = all_in es s r _
      put_in (if_else a b c) s r = then_same _ _ _ _ (put_in a s r) (λ v. choose_same v _ _ _ _ (put_in b s r) (put_in c s r))
      put_in (match_on e cs) s r = then_same _ _ _ _ (put_in e s r) (cases_in cs s r)
      put_in (bind z e p b) s r =
          then_same _ _ _ _ (put_in e s r)
          (λ v. ap (on_control v (λ x. gives (ended z x) 0)) (fun_ext (λ x. under p x b s r (put_in b (without (vars_of p) s)))))
      put_in (fold how low high first x p b) s r =
          then_same _ _ _ _ (put_in low s r) (λ u. then_same _ _ _ _ (put_in high s r) (λ w. then_same _ _ _ _ (put_in first s r) (λ v.
          ap (λ (f : ℕ → Val → Meaning). from_to u w (λ i n. rounds how f i n v))
          (fun_ext (λ j. fun_ext (λ y. turn x p b s r j y (put_in b (without (vars_of p) (without (x ∷ []) s)))))))))

      all_in : (es : Ems X) (s r : Env) (f : List Val → Meaning) → all_evaluated look_held types known calls (all_substituted put s es) r f ≡ all_evaluated look types known calls es (over s r) f
      all_in no_ems s r f = refl
      all_in (em e es) s r f = then_same _ _ _ _ (put_in e s r) (λ v. all_in es s r (λ vs. f (v ∷ vs)))

      cases_in : (cs : Cases X) (s r : Env) (v : Val) → cases_evaluated look_held types known calls (cases_substituted put s cs) r v ≡ cases_evaluated look types known calls cs (over s r) v
      cases_in no_cases s r v = refl
      cases_in (case a e cs) s r v =
          taken_same (arm_vars a) (arm_matched types a v) _ _ _ _ (covers_arm types a v)
          (λ m c. put_in e (without (arm_vars a) s) (over m r) ∙ ap (evaluated look types known calls e) (hidden (arm_vars a) m s r c))
          (cases_in cs s r v)

      lets_in : (ls : Lets X) (s r : Env) (f g : Env → Meaning) → ((q : Env) → f q ≡ g (over (behind ls s) q)) → lets_evaluated look_held types known calls (lets_substituted put s ls) r f ≡ lets_evaluated look types known calls ls (over s r) g
      lets_in no_lets s r f g h = h r
      lets_in (bound p a ls) s r f g h =
          then_same _ _ _ _ (put_in a s r) (λ v. when_same (vars_of p) (matched types p v) _ _ (covers types p v)
          (λ m c. lets_in ls (without (vars_of p) s) (over m r) f g h
          ∙ ap (λ q. lets_evaluated look types known calls ls q g) (hidden (vars_of p) m s r c)))

-- a value in the place of a local changes no depth
module _ {X : Type 0} (put : Env → X → Held) where
  mutual
    pub depth_in : (e : Em X) (s : Env) → depth (substituted put s e) ≡ depth e
    depth_in (lets ls e) s =
        ap (λ n. suc (lets_depth (lets_substituted put s ls) n)) (depth_in e (behind ls s)) ∙ ap suc (lets_depth_in ls s (depth e))
    depth_in (local x) s = refl
    depth_in (const name) s = refl
    depth_in (ctor t name) s = refl
    depth_in none s = refl
    depth_in (truth b) s = refl
    depth_in unit s = refl
    depth_in (lit n) s = refl
    depth_in (build t name es) s = ap suc (all_depth_in es s)
    depth_in (op name es) s = ap suc (all_depth_in es s)
    depth_in (wrap w e) s = ap suc (depth_in e s)
    depth_in (call name es) s = ap suc (all_depth_in es s)
    depth_in (tuple es) s = ap suc (all_depth_in es s)
    depth_in (list es) s = ap suc (all_depth_in es s)
    depth_in (if_else a b c) s =
        ap (λ n. suc (max n (max (depth (substituted put s b)) (depth (substituted put s c))))) (depth_in a s)
        ∙ ap (λ n. suc (max (depth a) (max n (depth (substituted put s c))))) (depth_in b s)
        ∙ ap (λ n. suc (max (depth a) (max (depth b) n))) (depth_in c s)
    depth_in (match_on e cs) s =
        ap (λ n. suc (max n (cases_depth (cases_substituted put s cs)))) (depth_in e s) ∙ ap (λ n. suc (max (depth e) n)) (cases_depth_in cs s)
    depth_in (bind z e p b) s =
        ap (λ n. suc (max n (depth (substituted put (without (vars_of p) s) b)))) (depth_in e s)
        ∙ ap (λ n. suc (max (depth e) n)) (depth_in b (without (vars_of p) s))
    depth_in (fold how low high first x p b) s =
        ap (λ n. suc (max n (max (depth (substituted put s high)) (max (depth (substituted put s first)) (depth (substituted put (without (vars_of p) (without (x ∷ []) s)) b)))))) (depth_in low s)
        ∙ ap (λ n. suc (max (depth low) (max n (max (depth (substituted put s first)) (depth (substituted put (without (vars_of p) (without (x ∷ []) s)) b)))))) (depth_in high s)
        ∙ ap (λ n. suc (max (depth low) (max (depth high) (max n (depth (substituted put (without (vars_of p) (without (x ∷ []) s)) b)))))) (depth_in first s)
        ∙ ap (λ n. suc (max (depth low) (max (depth high) (max (depth first) n)))) (depth_in b (without (vars_of p) (without (x ∷ []) s)))

    all_depth_in : (es : Ems X) (s : Env) → all_depth (all_substituted put s es) ≡ all_depth es
    all_depth_in no_ems s = refl
    all_depth_in (em e es) s = ap (λ n. max n (all_depth (all_substituted put s es))) (depth_in e s) ∙ ap (max (depth e)) (all_depth_in es s)

    cases_depth_in : (cs : Cases X) (s : Env) → cases_depth (cases_substituted put s cs) ≡ cases_depth cs
    cases_depth_in no_cases s = refl
    cases_depth_in (case a e cs) s =
        ap (λ n. max n (cases_depth (cases_substituted put s cs))) (depth_in e (without (arm_vars a) s)) ∙ ap (max (depth e)) (cases_depth_in cs s)

    lets_depth_in : (ls : Lets X) (s : Env) (n : ℕ) → lets_depth (lets_substituted put s ls) n ≡ lets_depth ls n
    lets_depth_in no_lets s n = refl
    lets_depth_in (bound p a ls) s n =
        ap (λ k. suc (max k (lets_depth (lets_substituted put (without (vars_of p) s) ls) n))) (depth_in a s)
        ∙ ap (λ k. suc (max (depth a) k)) (lets_depth_in ls (without (vars_of p) s) n)

-- a place is looked up as its local is, or has its value
agree_held : (s r : Env) (x : Held) → look_held r (place_held s x) ≡ look_held (over s r) x
agree_held s r (open_local x) = go (s x)
  where
    go : (o : Option Val) → look_held r (in_place o x) ≡ first_of_two o (r x)
    go None = refl
    go (Some v) = refl
agree_held s r (given v) = refl

agree_var : (s r : Env) (x : Var) → look_held r (place_var s x) ≡ looked (over s r) x
agree_var s r x = agree_held s r (open_local x)

-- a term has a depth
depth_some : (e : Term) → 0 < depth e
depth_some (lets ls e) = omega arith
depth_some (local x) = omega arith
depth_some (const name) = omega arith
depth_some (ctor t name) = omega arith
depth_some none = omega arith
depth_some (truth b) = omega arith
depth_some unit = omega arith
depth_some (lit n) = omega arith
depth_some (build t name es) = omega arith
depth_some (op name es) = omega arith
depth_some (wrap w e) = omega arith
depth_some (call name es) = omega arith
depth_some (tuple es) = omega arith
depth_some (list es) = omega arith
depth_some (if_else a b c) = omega arith
depth_some (match_on e cs) = omega arith
depth_some (bind z e p b) = omega arith
depth_some (fold how low high first x p b) = omega arith

module _ (types : List TypeDef) (known : Name → Meaning) (calls : Calls) where
  -- operands, where their own meanings are so
  all_env : (m : Term → Meaning) (k : ℕ) → ((e : Term) → depth e ≤ k → m e ≡ evaluated look_held types known calls e unbound) → (es : Ems Held) → all_depth es ≤ k → (f : List Val → Meaning) → all_mean m es f ≡ all_evaluated look_held types known calls es unbound f
  all_env m k h no_ems l f = refl
  all_env m k h (em e es) l f = then_same _ _ _ _ (h e (omega arith)) (λ v. all_env m k h es (omega arith) (λ vs. f (v ∷ vs)))

  cases_env : (m : Env → Term → Meaning) (k : ℕ) → ((s : Env) (e : Term) → depth e ≤ k → m s e ≡ evaluated look_held types known calls e (over s unbound)) → (cs : Cases Held) → cases_depth cs ≤ k → (v : Val) → chosen types m cs v ≡ cases_evaluated look_held types known calls cs unbound v
  cases_env m k h no_cases l v = refl
  cases_env m k h (case a e cs) l v =
      taken_same (arm_vars a) (arm_matched types a v) _ _ _ _ (covers_arm types a v) (λ s c. h s e (omega arith)) (cases_env m k h cs (omega arith) v)

  held_env : (x : Held) → held x ≡ when (look_held unbound x) (λ v. gives v 0)
  held_env (open_local x) = refl
  held_env (given v) = refl

  -- a term with values in it, where the meanings of terms of its depth are so
  placed : (k : ℕ) → ((e : Term) → depth e ≤ k → within types known calls k e ≡ evaluated look_held types known calls e unbound) → (b : Term) → depth b ≤ k → (m : Env) → within types known calls k (substituted place_held m b) ≡ evaluated look_held types known calls b (over m unbound)
  placed k h b l m =
      h (substituted place_held m b) (omega (arith, depth_in place_held b m))
      ∙ put_in types known calls place_held look_held agree_held b m unbound

  -- the meaning of a term, within any bound of its depth, is its evaluation where no local has a value
  pub within_env : (k : ℕ) (e : Term) → depth e ≤ k → within types known calls k e ≡ evaluated look_held types known calls e unbound
  within_env zero e l = let p : 0 < depth e = depth_some e in absurd (omega arith)
  within_env (suc k) (lets no_lets e) l = within_env k e (omega arith)
  within_env (suc k) (lets (bound p a ls) e) l =
      then_same _ _ _ _ (within_env k a (omega arith)) (λ v. when_same (vars_of p) (matched types p v) _ _ (covers types p v)
      (λ m c. placed k (within_env k) (lets ls e) (omega arith) m))
  within_env (suc k) (local x) l = held_env x
  within_env (suc k) (const name) l = refl
  within_env (suc k) (ctor t name) l = refl
  within_env (suc k) none l = refl
  within_env (suc k) (truth b) l = refl
  within_env (suc k) unit l = refl
  within_env (suc k) (lit n) l = refl
  within_env (suc k) (build t name es) l = all_env (within types known calls k) k (within_env k) es (omega arith) _
  within_env (suc k) (op name es) l = all_env (within types known calls k) k (within_env k) es (omega arith) _
  within_env (suc k) (wrap w e) l = then_same _ _ _ _ (within_env k e (omega arith)) (λ v. refl)
  within_env (suc k) (call name es) l = all_env (within types known calls k) k (within_env k) es (omega arith) _
  within_env (suc k) (tuple es) l = all_env (within types known calls k) k (within_env k) es (omega arith) _
  within_env (suc k) (list es) l = all_env (within types known calls k) k (within_env k) es (omega arith) _
  within_env (suc k) (if_else a b c) l =
      then_same _ _ _ _ (within_env k a (omega arith)) (λ v. choose_same v _ _ _ _ (within_env k b (omega arith)) (within_env k c (omega arith)))
  within_env (suc k) (match_on e cs) l =
      then_same _ _ _ _ (within_env k e (omega arith)) (cases_env (λ s b. within types known calls k (substituted place_held s b)) k
      (λ m b h. placed k (within_env k) b h m) cs (omega arith))
  within_env (suc k) (bind z e p b) l =
      then_same _ _ _ _ (within_env k e (omega arith)) (λ v. ap (on_control v (λ x. gives (ended z x) 0)) (fun_ext (λ x.
      when_same (vars_of p) (matched types p x) _ _ (covers types p x) (λ m c. placed k (within_env k) b (omega arith) m))))
  within_env (suc k) (fold how low high first x p b) l =
      then_same _ _ _ _ (within_env k low (omega arith)) (λ u. then_same _ _ _ _ (within_env k high (omega arith)) (λ w. then_same _ _ _ _ (within_env k first (omega arith)) (λ v.
      ap (λ (f : ℕ → Val → Meaning). from_to u w (λ i n. rounds how f i n v)) (fun_ext (λ j. fun_ext (λ y.
      when_same (vars_of p) (matched types p y) _ _ (covers types p y) (λ m c. placed k (within_env k) b (omega arith) (over m (only x (size j))))))))))

-- a body with values in it is the body in their environment
body_env : (types : List TypeDef) (known : Name → Meaning) (calls : Calls) (e : Em Var) (s : Env) → meaning types known calls (substituted place_var s e) ≡ evaluated looked types known calls e s
body_env types known calls e s =
    within_env types known calls (depth (substituted place_var s e)) (substituted place_var s e) (omega arith)
    ∙ put_in types known calls place_var looked agree_var e s unbound
    ∙ ap (evaluated looked types known calls e) (over_unbound s)

if_same : (b : Bool) (x y z w : Meaning) → x ≡ y → z ≡ w → (if b then x else z) ≡ (if b then y else w)
if_same b x y z w e h = ap (λ q. if b then q else z) e ∙ ap (λ q. if b then y else q) h

-- constants
consts_env : (types : List TypeDef) (cs : List Const) → consts_of types cs ≡ consts_evaluated types cs
consts_env types [] = refl
consts_env types (c ∷ cs) = fun_ext (λ name. if_same (bytes_eq c.name name) _ _ _ _
    (body_env types (consts_of types cs) no_calls c.body unbound ∙ ap (λ k. evaluated looked types k no_calls c.body unbound) (consts_env types cs))
    (ap (λ (k : Name → Meaning). k name) (consts_env types cs)))

-- a call
called_env : (types : List TypeDef) (known : Name → Meaning) (calls : Calls) (d : Def) (vs : List Val) → called types known calls d vs ≡ entered_evaluated types known calls d vs
called_env types known calls d vs = ap (more 1) (go (entered d.params vs))
  where
    go : (o : Option Env) → when o (λ s. meaning types known calls (substituted place_var s d.body)) ≡ when o (evaluated looked types known calls d.body)
    go None = refl
    go (Some s) = body_env types known calls d.body s

-- calls
calls_env : (types : List TypeDef) (known : Name → Meaning) (ds : List Def) → calls_of types known ds ≡ calls_evaluated types known ds
calls_env types known [] = refl
calls_env types known (d ∷ ds) = fun_ext (λ name. fun_ext (λ vs. if_same (bytes_eq d.name name) _ _ _ _
    (called_env types known (calls_of types known ds) d vs ∙ ap (λ (c : Calls). entered_evaluated types known c d vs) (calls_env types known ds))
    (ap (λ (c : Calls). c name vs) (calls_env types known ds))))

-- THE BRIDGE: what a module means needs no substitution
pub means_env : (m : Module) (name : Name) (vs : List Val) → means m name vs ≡ means_evaluated m name vs
means_env m name vs =
    ap (λ (c : Calls). outermost m (def_named m.defs name) (c name vs)) (calls_env m.types (constants m) (reverse m.defs))
    ∙ ap (λ (k : Name → Meaning). outermost m (def_named m.defs name) (calls_evaluated m.types k (reverse m.defs) name vs))
    (consts_env m.types (reverse m.consts))
