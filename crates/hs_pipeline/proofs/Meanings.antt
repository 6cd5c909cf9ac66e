-- The meaning of a definition's body is the run of the function's block.
use Rattle.std.proofs.Common.{◌≡◌, ◌≢◌, ◌↔◌, ℕ, ◌+◌, List, [], ◌∷◌, map, Bool, true, false, cond, eqb, ◌&&◌, bytes_eq, get_or, Option, Some, None, option_map, slice_get, refl, sym, ap, ◌∙◌, subst, arith}
use Rattle.std.proofs.lemmas.Bool.{eqb-true, eq-eqb}
use Rattle.std.proofs.lemmas.Slice.Eq.{bytes_eq-Decides}
use Rattle.std.proofs.lemmas.Option.{slice_get-map}
use Rattle.hs_first_tree.specs.Value.{ValType, Value}
use Rattle.hs_first_tree.specs.Operation.{Applied, Is, Fails, Kind, applied}
use Rattle.hs_first_tree.specs.Plain as tree
use Rattle.hs_first_tree.specs.Store.{Slot, Empty, Moved, Has, Store, put, Gives, Exits, Panics}
use Rattle.hs_first_tree.specs.Call as call
use Rattle.hs_first_tree.specs.Call.{Calls}
use Rattle.hs_first_tree.specs.Compute as compute
use Rattle.hs_first_tree.specs.Compute.{Out, Stuck, Ran, Process, follow, next, read, apply, run_exp, run_exps, run_rhs, run_stmt, run_stmts, run_block, Answer, NoCall, Ended, ended, result_of, answer_at, run_function, run_found, run_call}
use Rattle.hs_first_em.specs.Means.{Meaning, value, panic, stuck, more, and_then, operated, same_var, fits, of_type, means}
use Rattle.hs_pipeline.specs.Lower.{lowered_var, lowered_exp, lowered_exps, lowered_rhs, lowered_stmts, lowered_block, lowered_param, lowered_function, lowered}
use Rattle.hs_first_em.specs.Ended as Ends
use Rattle.hs_first_em.specs.Plain.{Module}
use Rattle.hs_first_em.specs.Environment.{Env, bound, looked, evaluated, all_evaluated, env_of, evaluated_in, called_in}

-- a meaning says what a run says; a run of an expression leaves its store as it was
abbrev pub Alike : Meaning → Out → Type 0
Alike (value v n) Stuck = ⊥
Alike (value v n) (Ran (Gives w) s m) = (v ≡ w) × (n ≡ m)
Alike (value v n) (Ran (Exits w) s m) = ⊥
Alike (value v n) (Ran (Panics q) s m) = ⊥
Alike (panic p n) Stuck = ⊥
Alike (panic p n) (Ran (Gives w) s m) = ⊥
Alike (panic p n) (Ran (Exits w) s m) = ⊥
Alike (panic p n) (Ran (Panics q) s m) = (p ≡ q) × (n ≡ m)
Alike (stuck n) Stuck = Unit {0}
Alike (stuck n) (Ran o s m) = ⊥

-- the store is that one, where there is a run
abbrev Left : Store → Out → Type 0
Left s Stuck = Unit {0}
Left s (Ran o s' n) = s' ≡ s

more_alike : (a b : ℕ) → a ≡ b → (x : Meaning) (y : Out) → Alike x y → Alike (more a x) (compute.more b y)
more_alike a b e (value v n) Stuck h = h
more_alike a b e (value v n) (Ran (Gives w) s m) (p, q) = (p, omega (arith, e, q))
more_alike a b e (value v n) (Ran (Exits w) s m) h = h
more_alike a b e (value v n) (Ran (Panics w) s m) h = h
more_alike a b e (panic v n) Stuck h = h
more_alike a b e (panic v n) (Ran (Gives w) s m) h = h
more_alike a b e (panic v n) (Ran (Exits w) s m) h = h
more_alike a b e (panic v n) (Ran (Panics w) s m) (p, q) = (p, omega (arith, e, q))
more_alike a b e (stuck n) Stuck h = h
more_alike a b e (stuck n) (Ran o s m) h = h

more_left : (a : ℕ) (s : Store) (y : Out) → Left s y → Left s (compute.more a y)
more_left a s Stuck h = h
more_left a s (Ran o s' n) h = h

follow_alike : (x : Meaning) (y : Out) (s : Store) (f : Value → Meaning) (g : Value → Process) → Alike x y → Left s y → ((v : Value) → Alike (f v) (g v s)) → Alike (and_then x f) (follow y g)
follow_alike (value v n) Stuck s f g h l k = absurd h
follow_alike (value v n) (Ran (Gives w) t m) s f g (p, q) l k =
    more_alike n m q (f v) (g w t) (subst (λ (u : Store). Alike (f v) (g w u)) (sym l) (subst (λ (u : Value). Alike (f v) (g u s)) p (k v)))
follow_alike (value v n) (Ran (Exits w) t m) s f g h l k = absurd h
follow_alike (value v n) (Ran (Panics w) t m) s f g h l k = absurd h
follow_alike (panic v n) Stuck s f g h l k = absurd h
follow_alike (panic v n) (Ran (Gives w) t m) s f g h l k = absurd h
follow_alike (panic v n) (Ran (Exits w) t m) s f g h l k = absurd h
follow_alike (panic v n) (Ran (Panics w) t m) s f g h l k = h
follow_alike (stuck n) Stuck s f g h l k = tt
follow_alike (stuck n) (Ran o t m) s f g h l k = absurd h

follow_left : (y : Out) (s : Store) (g : Value → Process) → Left s y → ((v : Value) → Left s (g v s)) → Left s (follow y g)
follow_left Stuck s g l k = tt
follow_left (Ran (Gives w) t m) s g l k = more_left m s (g w t) (subst (λ (u : Store). Left s (g w u)) (sym l) (k w))
follow_left (Ran (Exits w) t m) s g l k = l
follow_left (Ran (Panics w) t m) s g l k = l

apply_alike : (a : Applied) (s : Store) → Alike (operated a) (apply a s)
apply_alike (Is v) s = (refl, refl)
apply_alike (Fails p) s = (refl, refl)
apply_alike Kind s = tt

apply_left : (a : Applied) (s : Store) → Left s (apply a s)
apply_left (Is v) s = refl
apply_left (Fails p) s = refl
apply_left Kind s = tt

read_left : (x : Slot) (s : Store) → Left s (read x s)
read_left Empty s = tt
read_left Moved s = tt
read_left (Has v) s = refl

mutual
  exp_left : (e : tree.Exp) (s : Store) → Left s (run_exp e s)
  exp_left (tree.var k) s = read_left (s k) s
  exp_left (tree.lit n) s = refl
  exp_left (tree.op w es) s = exps_left es (λ vs. apply (applied w vs)) s (λ vs. apply_left (applied w vs) s)

  exps_left : (es : tree.Exps) (g : List Value → Process) (s : Store) → ((vs : List Value) → Left s (g vs s)) → Left s (run_exps es g s)
  exps_left tree.no_exps g s h = h []
  exps_left (tree.exp e es) g s h = follow_left (run_exp e s) s _ (exp_left e s) (λ v. exps_left es (λ vs. g (v ∷ vs)) s (λ vs. h (v ∷ vs)))

-- a slot as what a local stands for
abbrev held : Slot → Option Value
held Empty = None
held Moved = None
held (Has v) = Some v

-- the environment is the store
abbrev Fits : List (List ℕ) → Env → Store → Type 0
Fits names r s = (k : ℕ) → r (lowered_var names k) ≡ held (s k)

looked_alike : (x : Slot) (s : Store) → Alike (looked (held x)) (read x s)
looked_alike Empty s = tt
looked_alike Moved s = tt
looked_alike (Has v) s = (refl, refl)

mutual
  exp_alike : (names : List (List ℕ)) (e : tree.Exp) (r : Env) (s : Store) → Fits names r s → Alike (evaluated (lowered_exp names e) r) (run_exp e s)
  exp_alike names (tree.var k) r s h = subst (λ x. Alike (looked x) (read (s k) s)) (sym (h k)) (looked_alike (s k) s)
  exp_alike names (tree.lit n) r s h = (refl, refl)
  exp_alike names (tree.op w es) r s h = exps_alike names es r s h (λ vs. operated (applied w vs)) (λ vs. apply (applied w vs)) (λ vs. apply_alike (applied w vs) s)

  exps_alike : (names : List (List ℕ)) (es : tree.Exps) (r : Env) (s : Store) → Fits names r s → (f : List Value → Meaning) (g : List Value → Process)
      → ((vs : List Value) → Alike (f vs) (g vs s)) → Alike (all_evaluated (lowered_exps names es) r f) (run_exps es g s)
  exps_alike names tree.no_exps r s h f g k = k []
  exps_alike names (tree.exp e es) r s h f g k =
      follow_alike (evaluated (lowered_exp names e) r) (run_exp e s) s _ _ (exp_alike names e r s h) (exp_left e s) (λ v. exps_alike names es r s h (λ vs. f (v ∷ vs)) (λ vs. g (v ∷ vs)) (λ vs. k (v ∷ vs)))

rhs_alike : (names : List (List ℕ)) (x : tree.Rhs) (r : Env) (s : Store) → Fits names r s → Alike (evaluated (lowered_rhs names x) r) (run_rhs x s)
rhs_alike names (tree.plain e) r s h = exp_alike names e r s h

rhs_left : (x : tree.Rhs) (s : Store) → Left s (run_rhs x s)
rhs_left (tree.plain e) s = exp_left e s

bytes_same : (w : List ℕ) → bytes_eq w w ≡ true
bytes_same w = grind (arith, bytes_eq-Decides w w)

-- locals with one list of names are printed alike where their numbers are the same
pub same_lowered : (names : List (List ℕ)) (j k : ℕ) → same_var (lowered_var names j) (lowered_var names k) ≡ eqb k j
same_lowered names j k = go (eqb j k) refl (eqb k j) refl
  where
    go : (a : Bool) → eqb j k ≡ a → (b : Bool) → eqb k j ≡ b → (bytes_eq (get_or names j []) (get_or names k []) && eqb j k) ≡ eqb k j
    go true d true f = let same : j ≡ k = eqb-true j k d in rw (d, f) (ap (λ w. w && true) (ap (λ i. bytes_eq (get_or names j []) (get_or names i [])) (sym same) ∙ bytes_same (get_or names j [])))
    go true d false f = let same : k ≡ j = sym (eqb-true j k d) in absurd (cc (eq-eqb k j same))
    go false d true f = let same : j ≡ k = sym (eqb-true k j f) in absurd (cc (eq-eqb j k same))
    go false d false f = rw (d, f) (last (bytes_eq (get_or names j []) (get_or names k [])))
      where
        last : (x : Bool) → (x && false) ≡ false
        last true = refl
        last false = refl

fits_bound : (names : List (List ℕ)) (r : Env) (s : Store) (j : ℕ) (v : Value) → Fits names r s → Fits names (bound r (lowered_var names j) v) (put s j (Has v))
fits_bound names r s j v h k =
    ap (λ b. cond b (Some v) (r (lowered_var names k))) (same_lowered names j k) ∙ (ap (cond (eqb k j) (Some v)) (h k) ∙ go (eqb k j))
  where
    go : (b : Bool) → cond b (Some v) (held (s k)) ≡ held (cond b (Has v) (s k))
    go true = refl
    go false = refl

unbound_alike : (x : Meaning) (y : Out) (k : ℕ) (z : Slot) → Alike x y → Alike x (compute.unbound k z y)
unbound_alike (value v n) Stuck k z h = h
unbound_alike (value v n) (Ran (Gives w) s m) k z h = h
unbound_alike (value v n) (Ran (Exits w) s m) k z h = h
unbound_alike (value v n) (Ran (Panics w) s m) k z h = h
unbound_alike (panic v n) Stuck k z h = h
unbound_alike (panic v n) (Ran (Gives w) s m) k z h = h
unbound_alike (panic v n) (Ran (Exits w) s m) k z h = h
unbound_alike (panic v n) (Ran (Panics w) s m) k z h = h
unbound_alike (stuck n) Stuck k z h = h
unbound_alike (stuck n) (Ran o s m) k z h = h

stmts_alike : (names : List (List ℕ)) (xs : tree.Stmts) (t : tree.Rhs) (r : Env) (s : Store) → Fits names r s
    → Alike (evaluated (lowered_stmts names xs (lowered_rhs names t)) r) (run_stmts xs (run_rhs t) s)
stmts_alike names tree.no_stmts t r s h = rhs_alike names t r s h
stmts_alike names (tree.stmt (tree.bind k x) xs) t r s h =
    follow_alike (evaluated (lowered_rhs names x) r) (run_rhs x s) s _ _ (rhs_alike names x r s h) (rhs_left x s)
    (λ v. unbound_alike (evaluated (lowered_stmts names xs (lowered_rhs names t)) (bound r (lowered_var names k) v)) (run_stmts xs (run_rhs t) (put s k (Has v))) k (s k) (stmts_alike names xs t (bound r (lowered_var names k) v) (put s k (Has v)) (fits_bound names r s k v h)))
stmts_alike names (tree.stmt (tree.set k x) xs) t r s h =
    follow_alike (evaluated (lowered_rhs names x) r) (run_rhs x s) s _ _ (rhs_alike names x r s h) (rhs_left x s)
    (λ v. stmts_alike names xs t (bound r (lowered_var names k) v) (put s k (Has v)) (fits_bound names r s k v h))

block_alike : (names : List (List ℕ)) (b : tree.Block) (r : Env) (s : Store) → Fits names r s → Alike (evaluated (lowered_block names b) r) (run_block b s)
block_alike names (tree.ends xs t) r s h = stmts_alike names xs t r s h

-- the parameters' store and their environment
abbrev FitsAt : List (List ℕ) → Option Env → Option Store → Type 0
FitsAt names None None = Unit {0}
FitsAt names None (Some s) = ⊥
FitsAt names (Some r) None = ⊥
FitsAt names (Some r) (Some s) = Fits names r s

params_fit : (names : List (List ℕ)) (ps : List tree.Param) (vs : List Value) → FitsAt names (env_of (map (lowered_param names) ps) vs) (compute.entered ps vs)
params_fit names [] [] = λ k. refl
params_fit names [] (v ∷ vs) = tt
params_fit names (p ∷ ps) [] = tt
params_fit names (p ∷ ps) (v ∷ vs) = go (env_of (map (lowered_param names) ps) vs) (compute.entered ps vs) (params_fit names ps vs)
  where
    go : (r : Option Env) (s : Option Store) → FitsAt names r s → FitsAt names (option_map (λ q. bound q (lowered_var names p.local) v) r) (option_map (λ m. put m p.local (Has v)) s)
    go None None h = tt
    go None (Some s) h = absurd h
    go (Some r) None h = absurd h
    go (Some r) (Some s) h = fits_bound names r s p.local v h

-- a call's answer as a meaning
abbrev pub EndsIn : call.Result → ℕ → Meaning
EndsIn (call.value v) n = value v n
EndsIn (call.panic k) n = panic k n

-- what a call's answer says
abbrev Says : Answer → Meaning → Type 0
Says NoCall x = (r : call.Result) (n : ℕ) → x ≢ EndsIn r n
Says (Ended r n) x = x ≡ EndsIn r n

ended_says : (x : Meaning) (y : Out) → Alike x y → Says (ended y) (more 1 x)
ended_says (value v a) Stuck h = absurd h
ended_says (value v a) (Ran (Gives w) s m) (p, q) = ap (λ u. value u (1 + a)) p ∙ ap (λ i. value w (1 + i)) q
ended_says (value v a) (Ran (Exits w) s m) h = absurd h
ended_says (value v a) (Ran (Panics w) s m) h = absurd h
ended_says (panic v a) Stuck h = absurd h
ended_says (panic v a) (Ran (Gives w) s m) h = absurd h
ended_says (panic v a) (Ran (Exits w) s m) h = absurd h
ended_says (panic v a) (Ran (Panics w) s m) (p, q) = ap (λ u. panic u (1 + a)) p ∙ ap (λ i. panic w (1 + i)) q
ended_says (stuck a) Stuck h = never
  where
    never : (r : call.Result) (n : ℕ) → stuck (1 + a) ≢ EndsIn r n
    never (call.value v) n = λ e. cc e
    never (call.panic k) n = λ e. cc e
ended_says (stuck a) (Ran o s m) h = absurd h

ends_once : (r u : call.Result) (n m : ℕ) → EndsIn r n ≡ EndsIn u m → Ended r n ≡ Ended u m
ends_once (call.value v) (call.value w) n m e = let p : v ≡ w = cc e in let q : n ≡ m = cc e in rw (p, q) refl
ends_once (call.value v) (call.panic w) n m e = absurd (cc e)
ends_once (call.panic v) (call.value w) n m e = absurd (cc e)
ends_once (call.panic v) (call.panic w) n m e = let p : v ≡ w = cc e in let q : n ≡ m = cc e in rw (p, q) refl

says_iff : (a : Answer) (x : Meaning) (r : call.Result) (n : ℕ) → Says a x → (a ≡ Ended r n) ↔ (x ≡ EndsIn r n)
says_iff NoCall x r n h = (λ e. absurd (cc e), λ e. absurd (h r n e))
says_iff (Ended u m) x r n h = (there, λ e. ends_once u r m n (sym h ∙ e))
  where
    there : Ended u m ≡ Ended r n → x ≡ EndsIn r n
    there e = let p : u ≡ r = cc e in let q : m ≡ n = cc e in h ∙ (ap (λ z. EndsIn z m) p ∙ ap (EndsIn r) q)

-- the body of a function, at the environment of its parameters
body_says : (f : tree.Function) (vs : List Value) → Says (run_function f vs) (more 1 (evaluated_in (lowered_block f.locals f.block) (env_of (map (lowered_param f.locals) f.params) vs)))
body_says f vs = go (env_of (map (lowered_param f.locals) f.params) vs) (compute.entered f.params vs) (params_fit f.locals f.params vs)
  where
    go : (r : Option Env) (s : Option Store) → FitsAt f.locals r s → Says (answer_at f.block s) (more 1 (evaluated_in (lowered_block f.locals f.block) r))
    go None None h = never
      where
        never : (r : call.Result) (n : ℕ) → stuck 1 ≢ EndsIn r n
        never (call.value v) n = λ e. cc e
        never (call.panic k) n = λ e. cc e
    go None (Some s) h = absurd h
    go (Some r) None h = absurd h
    go (Some r) (Some s) h = ended_says (evaluated (lowered_block f.locals f.block) r) (run_block f.block s) (block_alike f.locals f.block r s h)

-- a meaning of the right type is what it was
of_ended : (t : ValType) (x : Meaning) (r : call.Result) (n : ℕ) → Ends.Ended (of_type t x) → of_type t x ≡ x
of_ended t (value v a) r n h = go (fits t v) h
  where
    go : (b : Bool) → Ends.Ended (cond b (value v a) (stuck a)) → cond b (value v a) (stuck a) ≡ value v a
    go true k = refl
    go false k = absurd k
of_ended t (panic p a) r n h = refl
of_ended t (stuck a) r n h = refl

-- a module means what an environment gives
abbrev pub Environments : Type 0
Environments = (m : Module) (i : ℕ) (vs : List Value) → means m i vs ≡ called_in (slice_get m.defs i) vs

-- calls of the program are what the module means, where arguments fit and the module is such that it always ends
pub lowered_runs : Environments → (name : List ℕ) (p : List tree.Function) (i : ℕ) (f : tree.Function) (vs : List Value) (r : call.Result) (n : ℕ) → slice_get p i ≡ Some f
    → Ends.Ended (means (lowered name p) i vs) → (run_call p i vs ≡ Ended r n) ↔ (means (lowered name p) i vs ≡ EndsIn r n)
lowered_runs environments name p i f vs r n at ends =
    let found : slice_get (lowered name p).defs i ≡ Some (lowered_function f) = slice_get-map lowered_function p i ∙ ap (option_map lowered_function) at in
    let x : Meaning = more 1 (evaluated_in (lowered_block f.locals f.block) (env_of (map (lowered_param f.locals) f.params) vs)) in
    let m : means (lowered name p) i vs ≡ of_type f.returns x = environments (lowered name p) i vs ∙ ap (λ d. called_in d vs) found in
    let same : means (lowered name p) i vs ≡ x = m ∙ of_ended f.returns x r n (subst Ends.Ended m ends) in
    let (there, back) = says_iff (run_function f vs) x r n (body_says f vs) in
    let runs : run_call p i vs ≡ run_function f vs = ap (λ g. run_found g vs) at in
    (λ e. same ∙ there (sym runs ∙ e), λ e. runs ∙ back (sym same ∙ e))
