-- The relation of runs and the function give the same.
use Rattle.std.proofs.Common.{◌≡◌, ◌↔◌, inl, inr, ℕ, ◌+◌, List, [], ◌∷◌, Option, Some, None, refl, sym, ap, ◌∙◌, subst, ⊎_elim, option_map, slice_get}
use Rattle.std.specs.Bool.{⊤}
use Rattle.hs_first_tree.specs.Value.{Value, Number}
use Rattle.hs_first_tree.specs.Operation.{Applied, Is, Fails, Kind, applied}
use Rattle.hs_first_tree.specs.Plain.{Exp, var, lit, op, Exps, no_exps, exp, Rhs, plain, Stmt, bind, set, Stmts, no_stmts, stmt, Block, ends, Param, Function}
use Rattle.hs_first_tree.specs.Store.{Slot, Empty, Moved, Has, Store, put, Outcome, Gives, Exits, Panics}
use Rattle.hs_first_tree.specs.Run.{Rel, Ends, Just, Then, Applies, Binds, RunsExp, RunsExps, RunsRhs, RunsStmt, RunsStmts, RunsBlock}
use Rattle.hs_first_tree.specs.Call.{Result, Entered, Returned, Called, Calls}
use Rattle.hs_first_tree.specs.Compute.{Out, Stuck, Ran, Process, more, next, follow, read, apply, unbound, run_exp, run_exps, run_rhs, run_stmt, run_stmts, run_block, entered, Ended, result_of, ended, answer_at, run_function, run_found, run_call}

-- the relation holds exactly of what the function gives
abbrev pub Same : Rel → Process → Type 0
Same R f = (s : Store) (o : Outcome) (s' : Store) (n : ℕ) → R s o s' n ↔ (f s ≡ Ran o s' n)

same_just : (p : Outcome) → Same (Just p) (λ s. Ran p s 0)
same_just p s o s' n = (λ h. cc (h.0, h.1, h.2), λ e. ((cc), (cc), (cc)))

-- a run that goes on, from its equation
then_from : (R : Rel) (K : Value → Rel) (g : Value → Process) (s : Store) → (x : Out) → ((o : Outcome) (s' : Store) (n : ℕ) → (x ≡ Ran o s' n) → R s o s' n) → ((v : Value) → Same (K v) (g v)) → (o : Outcome) (s' : Store) (n : ℕ) → follow x g ≡ Ran o s' n → Then R K s o s' n
then_from R K g s Stuck r k o s' n e = absurd (cc)
then_from R K g s (Ran (Gives v) m a) r k o s' n e = go (g v m) refl e
  where
    go : (y : Out) → g v m ≡ y → more a y ≡ Ran o s' n → Then R K s o s' n
    go Stuck d e' = absurd (cc)
    go (Ran p t b) d e' =
        let eo : o ≡ p = cc in
        let es : s' ≡ t = cc in
        let en : n ≡ a + b = cc in
        inl (v, m, a, b, r (Gives v) m a refl, (k v m o s' b).1 (cc), en)
then_from R K g s (Ran (Exits v) m a) r k o s' n e =
    let eo : Exits v ≡ o = cc in inr (subst Ends eo tt, r o s' n e)
then_from R K g s (Ran (Panics p) m a) r k o s' n e =
    let eo : Panics p ≡ o = cc in inr (subst Ends eo tt, r o s' n e)

ends_next : (o : Outcome) (s' : Store) (n : ℕ) (g : Value → Process) → Ends o → next o s' n g ≡ Ran o s' n
ends_next (Gives v) s' n g h = absurd h
ends_next (Exits v) s' n g h = refl
ends_next (Panics v) s' n g h = refl

same_then : (R : Rel) (f : Process) (K : Value → Rel) (g : Value → Process) → Same R f → ((v : Value) → Same (K v) (g v)) → Same (Then R K) (λ s. follow (f s) g)
same_then R f K g r k s o s' n = (
  ⊎_elim
      (λ h. ap (λ x. follow x g) ((r s (Gives h.0) h.1 h.2).0 h.4) ∙ ap (more h.2) ((k h.0 h.1 o s' h.3).0 h.5) ∙ ap (Ran o s') (sym h.6))
      (λ h. ap (λ x. follow x g) ((r s o s' n).0 h.1) ∙ ends_next o s' n g h.0),
  then_from R K g s (f s) (λ p t m. (r s p t m).1) k o s' n,
)

reads_from : (x : Slot) (s : Store) (o : Outcome) (s' : Store) (n : ℕ) → ((v : Value) × (x ≡ Has v) × Just (Gives v) s o s' n) ↔ (read x s ≡ Ran o s' n)
reads_from Empty s o s' n = (λ h. absurd (cc (h.1)), λ e. absurd (cc))
reads_from Moved s o s' n = (λ h. absurd (cc (h.1)), λ e. absurd (cc))
reads_from (Has v) s o s' n = (λ h. cc (h.1, h.2.0, h.2.1, h.2.2), λ e. (v, refl, (same_just (Gives v) s o s' n).1 e))

same_applies : (a : Applied) → Same (Applies a) (apply a)
same_applies (Is v) = same_just (Gives v)
same_applies (Fails p) = same_just (Panics p)
same_applies Kind = λ s o s' n. (λ h. absurd h, λ e. absurd (cc))

binds_from : (k : ℕ) (x : Slot) (R : Store → Type 0) (y : Out) (o : Outcome) (s' : Store) (n : ℕ) → ((m : Store) → R m ↔ (y ≡ Ran o m n)) → ((m : Store) × R m × (s' ≡ put m k x)) ↔ (unbound k x y ≡ Ran o s' n)
binds_from k x R Stuck o s' n r = (λ h. absurd (let e : Stuck ≡ Ran o h.0 n = (r h.0).0 h.1 in cc), λ e. absurd (cc))
binds_from k x R (Ran p t m) o s' n r = (
  λ h. let e : Ran p t m ≡ Ran o h.0 n = (r h.0).0 h.1 in ap (unbound k x) e ∙ ap (λ z. Ran o z n) (sym h.2),
  λ e. (t, (r t).1 (cc), (cc)),
)

same_binds : (k : ℕ) (v : Value) (R : Rel) (f : Process) → Same R f → Same (Binds k v R) (λ s. unbound k (s k) (f (put s k (Has v))))
same_binds k v R f r s o s' n = binds_from k (s k) _ (f (put s k (Has v))) o s' n (λ m. r (put s k (Has v)) o m n)

mutual
  -- `X` lifts the statement to the universe of the next one
  same_exp : (e : Exp) (X : Type 0) → Same (RunsExp e) (run_exp e)
  same_exp (var k) X = λ s. reads_from (s k) s
  same_exp (lit n) X = same_just (Gives (Number n))
  same_exp (op name es) X = same_exps es _ _ (λ vs. same_applies (applied name vs))

  same_exps : (es : Exps) (K : List Value → Rel) (k : List Value → Process) → ((vs : List Value) → Same (K vs) (k vs)) → Same (RunsExps es K) (run_exps es k)
  same_exps no_exps K k h = h []
  same_exps (exp e es) K k h = same_then _ (run_exp e) _ _ (same_exp e ⊤) (λ v. same_exps es _ _ (λ vs. h (v ∷ vs)))

same_rhs : (r : Rhs) → Same (RunsRhs r) (run_rhs r)
same_rhs (plain e) = same_exp e ⊤

same_stmt : (x : Stmt) (R : Rel) (f : Process) → Same R f → Same (RunsStmt x R) (run_stmt x f)
same_stmt (bind k r) R f h = same_then _ (run_rhs r) _ _ (same_rhs r) (λ v. same_binds k v R f h)
same_stmt (set k r) R f h = same_then _ (run_rhs r) _ _ (same_rhs r) (λ v s. h (put s k (Has v)))

same_stmts : (xs : Stmts) (R : Rel) (f : Process) → Same R f → Same (RunsStmts xs R) (run_stmts xs f)
same_stmts no_stmts R f h = h
same_stmts (stmt x xs) R f h = same_stmt x _ _ (same_stmts xs R f h)

pub same_block : (b : Block) → Same (RunsBlock b) (run_block b)
same_block (ends xs r) = same_stmts xs _ _ (same_rhs r)

more_entered : (p : Param) (v : Value) (E : Store → Type 0) (x : Option Store) → ((m : Store) → E m ↔ (x ≡ Some m)) → (s : Store) → ((m : Store) × E m × (s ≡ put m p.local (Has v))) ↔ (option_map (λ m. put m p.local (Has v)) x ≡ Some s)
more_entered p v E None h s = (λ q. absurd (let e : None ≡ Some q.0 = (h q.0).0 q.1 in cc), λ e. absurd (cc))
more_entered p v E (Some t) h s = (
  λ q. let e : Some t ≡ Some q.0 = (h q.0).0 q.1 in ap (option_map (λ m. put m p.local (Has v))) e ∙ ap Some (sym q.2),
  λ e. (t, (h t).1 refl, (cc)),
)

same_entered : (ps : List Param) (vs : List Value) (s : Store) → Entered ps vs s ↔ (entered ps vs ≡ Some s)
same_entered [] [] s = (λ h. cc, λ e. cc)
same_entered [] (v ∷ vs) s = (λ h. absurd h, λ e. absurd (cc))
same_entered (p ∷ ps) [] s = (λ h. absurd h, λ e. absurd (cc))
same_entered (p ∷ ps) (v ∷ vs) s = more_entered p v _ (entered ps vs) (same_entered ps vs) s

same_result : (o : Outcome) (r : Result) → Returned o r ↔ (r ≡ result_of o)
same_result (Gives v) r = (λ h. h, λ h. h)
same_result (Exits v) r = (λ h. h, λ h. h)
same_result (Panics p) r = (λ h. h, λ h. h)

ended_from : (x : Out) (r : Result) (n : ℕ) → ((o : Outcome) × (s : Store) × (m : ℕ) × (x ≡ Ran o s m) × Returned o r × (n ≡ 1 + m)) ↔ (ended x ≡ Ended r n)
ended_from Stuck r n = (λ h. absurd (cc (h.3)), λ e. absurd (cc))
ended_from (Ran o s m) r n = (
  λ h. let e : r ≡ result_of h.0 = (same_result h.0 r).0 h.4 in ap ended h.3 ∙ cc (e, h.5),
  λ e. (o, s, m, refl, (same_result o r).1 (cc), (cc)),
)

called_from : (f : Function) (vs : List Value) (r : Result) (n : ℕ) (x : Option Store) → ((s : Store) → Entered f.params vs s ↔ (x ≡ Some s)) → Called f vs r n ↔ (answer_at f.block x ≡ Ended r n)
called_from f vs r n None h = (λ q. absurd (let e : None ≡ Some q.0 = (h q.0).0 q.4 in cc), λ e. absurd (cc))
called_from f vs r n (Some s) h = (
  λ q.
      let e : Some s ≡ Some q.0 = (h q.0).0 q.4 in
      let d : s ≡ q.0 = cc in
      ap (λ z. ended (run_block f.block z)) d ∙ (ended_from _ r n).0 (q.1, q.2, q.3, (same_block f.block q.0 q.1 q.2 q.3).0 q.5, q.6, q.7),
  λ e.
      let q = (ended_from (run_block f.block s) r n).1 e in
      (s, q.0, q.1, q.2, (h s).1 refl, (same_block f.block s q.0 q.1 q.2).1 q.3, q.4, q.5),
)

found_from : (x : Option Function) (vs : List Value) (r : Result) (n : ℕ) → ((f : Function) × (x ≡ Some f) × Called f vs r n) ↔ (run_found x vs ≡ Ended r n)
found_from None vs r n = (λ h. absurd (cc (h.1)), λ e. absurd (cc))
found_from (Some f) vs r n = (
  λ h. let d : f ≡ h.0 = cc (h.1) in ap (λ g. run_function g vs) d ∙ (called_from h.0 vs r n _ (same_entered h.0.params vs)).0 h.2,
  λ e. (f, refl, (called_from f vs r n _ (same_entered f.params vs)).1 e),
)

-- a call holds exactly where the function gives it
pub same_call : (p : List Function) (i : ℕ) (vs : List Value) (r : Result) (n : ℕ) → Calls p i vs r n ↔ (run_call p i vs ≡ Ended r n)
same_call p i vs r n = found_from (slice_get p i) vs r n
