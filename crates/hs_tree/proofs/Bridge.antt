-- The relation of runs and the function give the same, form by form.
use Rattle.std.proofs.Common.{◌≡◌, ◌⊎◌, ◌↔◌, inl, inr, ℕ, zero, suc, ◌+◌, ◌-◌, Bool, true, false, ◌&&◌, not, List, [], ◌∷◌, Option, Some, None, refl, sym, ap, ◌∙◌, subst, ⊎_elim}
use Rattle.std.specs.Bool.{⊤}
use Rattle.hs_values.specs.declared.value.Sort.TheVariants as sort
use Rattle.hs_tree.specs.Plain.{Name, Local, Carrying, turns, turnscf, fold, foldcf, Pattern, Exp, var, lit, truth, unit, const, tuple, list, ctor, op, call, and, or, in_side, exit, cont, Exps, no_exps, exp, Args, no_args, arg, lend, Rhs, plain, if_else, match_on, block, lendcall, quest, forcf, carry, Arms, no_arms, arm, Steps, here, at, part, Block, let_in, do_in, set_in, place_in, for_in, ends, returns, bind}
use Rattle.hs_control.specs.Control.{Val, Nothing, Truth, Number, Row, Tuple, Ctor, Exit, Cont, NoVals, Also, vals_of, Reply, Is, Fails, NoReply, applied}
use Rattle.hs_tree.specs.Store.{Slot, Empty, Moved, Has, Store, put, Returned, Panicked, Outcome, Gives, Stops, Out, Stuck, Ran, Result, value, panic, Back, NoCall, Ended, Calls, CallRel}
use Rattle.hs_tree.specs.Match.{ctor_named, matched, bound}
use Rattle.hs_tree.specs.Way.{Pick, item, part_no, replaced, became}
use Rattle.hs_tree.specs.World.{World, operand_lent, none_lent, built}
use Rattle.hs_tree.specs.Steps.{more, next, follow, give, leave, read, having_value, replies, given, at_store, choose, on_control, size_in, size, span, from_to, caught, turns_of, turns_cf, folds, folds_cf, asked, back_in, gives_back, called}
use Rattle.hs_tree.specs.Run.{lent_by, rounds, ended_by, with_bound, with_number, if_fits, assigned_in, assigned, run_exp, run_exps, run_args, run_rhs, run_arms, run_steps, run_block}
use Rattle.hs_tree.specs.Relations.{Rel, Just, Give, Never, Ends, Then, Leaves, Turn, after_read, Replies, Given, Chooses, OnControl, FromTo, Caught, Turns, TurnsCf, Folds, FoldsCf, result, Asks, Called}
use Rattle.hs_tree.specs.Meaning.{Rounds, Fitting, WithBound, WithNumber, AssignsIn, Assigns, RunsExp, RunsExps, RunsArgs, RunsRhs, RunsArms, RunsSteps, RunsBlock}

-- the relation holds exactly of what the function gives
abbrev pub Same : Rel → (Store → Out) → Type 0
Same R f = (s : Store) (o : Outcome) (s' : Store) (n : ℕ) → R s o s' n ↔ (f s ≡ Ran o s' n)

same_just : (p : Outcome) → Same (Just p) (λ s. Ran p s 0)
same_just p s o s' n = (λ h. cc (h.0, h.1, h.2), λ e. ((cc), (cc), (cc)))

same_never : Same Never (λ s. Stuck)
same_never s o s' n = (λ h. absurd h, λ e. absurd (cc))

-- a run that goes on, from its equation
then_from : (R : Rel) (K : Val → Rel) (g : Val → Store → Out) (s : Store) → (x : Out) → ((o : Outcome) (s' : Store) (n : ℕ) → (x ≡ Ran o s' n) → R s o s' n) → ((v : Val) → Same (K v) (g v)) → (o : Outcome) (s' : Store) (n : ℕ) → follow x g ≡ Ran o s' n → Then R K s o s' n
then_from R K g s Stuck r k o s' n e = absurd (cc)
then_from R K g s (Ran (Gives v) m a) r k o s' n e = go (g v m) refl e
  where
    go : (y : Out) → g v m ≡ y → more a y ≡ Ran o s' n → Then R K s o s' n
    go Stuck d e' = absurd (cc)
    go (Ran p t b) d e' =
        let eo : o ≡ p = cc in
        let es : s' ≡ t = cc in
        let en : n ≡ a + b = cc in
        inl (v, m, a, b, r (Gives v) m a refl, (k v m o s' b).1 (cc), en)
then_from R K g s (Ran (Stops y) m a) r k o s' n e =
    let eo : Stops y ≡ o = cc in inr (subst Ends eo tt, r o s' n e)

ends_next : (o : Outcome) (s' : Store) (n : ℕ) (g : Val → Store → Out) → Ends o → next o s' n g ≡ Ran o s' n
ends_next (Gives v) s' n g h = absurd h
ends_next (Stops y) s' n g h = refl

same_then : (R : Rel) (f : Store → Out) (K : Val → Rel) (g : Val → Store → Out) → Same R f → ((v : Val) → Same (K v) (g v)) → Same (Then R K) (λ s. follow (f s) g)
same_then R f K g r k s o s' n = (
  ⊎_elim
      (λ h. ap (λ x. follow x g) ((r s (Gives h.0) h.1 h.2).0 h.4) ∙ ap (more h.2) ((k h.0 h.1 o s' h.3).0 h.5) ∙ ap (Ran o s') (sym h.6))
      (λ h. ap (λ x. follow x g) ((r s o s' n).0 h.1) ∙ ends_next o s' n g h.0),
  then_from R K g s (f s) (λ p t m. (r s p t m).1) k o s' n,
)

leave_from : (R : Rel) (ks : List ℕ) (s : Store) (x : Out) → ((o : Outcome) (s' : Store) (n : ℕ) → (x ≡ Ran o s' n) → R s o s' n) → (o : Outcome) (s' : Store) (n : ℕ) → leave ks s x ≡ Ran o s' n → Leaves ks R s o s' n
leave_from R ks s Stuck r o s' n e = absurd (cc)
leave_from R ks s (Ran p m a) r o s' n e = (m, r o m n (cc), (cc))

same_leave : (ks : List ℕ) (R : Rel) (f : Store → Out) → Same R f → Same (Leaves ks R) (λ s. leave ks s (f s))
same_leave ks R f r s o s' n = (
  λ h. ap (leave ks s) ((r s o h.0 n).0 h.1) ∙ ap (λ t. Ran o t n) (sym h.2),
  leave_from R ks s (f s) (λ p t m. (r s p t m).1) o s' n,
)

turn_from : (R : Rel) (s : Store) (x : Out) → ((o : Outcome) (s' : Store) (n : ℕ) → (x ≡ Ran o s' n) → R s o s' n) → (o : Outcome) (s' : Store) (n : ℕ) → more 1 x ≡ Ran o s' n → Turn R s o s' n
turn_from R s Stuck r o s' n e = absurd (cc)
turn_from R s (Ran p m a) r o s' n e = (a, r o s' a (cc), (cc))

same_turn : (R : Rel) (f : Store → Out) → Same R f → Same (Turn R) (λ s. more 1 (f s))
same_turn R f r s o s' n = (
  λ h. ap (more 1) ((r s o s' h.0).0 h.1) ∙ ap (Ran o s') (sym h.2),
  turn_from R s (f s) (λ p t m. (r s p t m).1) o s' n,
)

read_from : (moving : Bool) (k : ℕ) (x : Slot) (s : Store) (o : Outcome) (s' : Store) (n : ℕ) → ((v : Val) × (x ≡ Has v) × (o ≡ Gives v) × (s' ≡ after_read moving k s) × (n ≡ 0)) ↔ (read moving k x s ≡ Ran o s' n)
read_from moving k Empty s o s' n = (λ h. absurd (cc (h.1)), λ e. absurd (cc))
read_from moving k Moved s o s' n = (λ h. absurd (cc (h.1)), λ e. absurd (cc))
read_from true k (Has v) s o s' n = (λ h. cc (h.1, h.2, h.3, h.4), λ e. (v, refl, (cc), (cc), (cc)))
read_from false k (Has v) s o s' n = (λ h. cc (h.1, h.2, h.3, h.4), λ e. (v, refl, (cc), (cc), (cc)))

holding_from : (K : Val → Rel) (f : Val → Store → Out) → ((v : Val) → Same (K v) (f v)) → (x : Slot) (s : Store) (o : Outcome) (s' : Store) (n : ℕ) → ((v : Val) × (x ≡ Has v) × K v s o s' n) ↔ (having_value x f s ≡ Ran o s' n)
holding_from K f h Empty s o s' n = (λ p. absurd (cc (p.1)), λ e. absurd (cc))
holding_from K f h Moved s o s' n = (λ p. absurd (cc (p.1)), λ e. absurd (cc))
holding_from K f h (Has v) s o s' n = (
  λ p. let d : v ≡ p.0 = cc (p.1) in ap (λ y. f y s) d ∙ (h p.0 s o s' n).0 p.2,
  λ e. (v, refl, (h v s o s' n).1 e),
)

same_replies : (r : Reply) (K : Val → Rel) (f : Val → Store → Out) → ((v : Val) → Same (K v) (f v)) → Same (Replies r K) (replies r f)
same_replies (Is v) K f h = h v
same_replies (Fails p) K f h = same_just (Stops (Panicked p))
same_replies NoReply K f h = same_never

same_given : (x : Option Val) (K : Val → Rel) (f : Val → Store → Out) → ((v : Val) → Same (K v) (f v)) → Same (Given x K) (given x f)
same_given None K f h s o s' n = (λ p. absurd (cc (p.1)), λ e. absurd (cc))
same_given (Some v) K f h s o s' n = (
  λ p. let d : v ≡ p.0 = cc (p.1) in ap (λ y. f y s) d ∙ (h p.0 s o s' n).0 p.2,
  λ e. (v, refl, (h v s o s' n).1 e),
)

same_choose : (A B : Rel) (f g : Store → Out) → Same A f → Same B g → (v : Val) → Same (Chooses A B v) (λ s. choose v (f s) (g s))
same_choose A B f g a b (Truth true) s o s' n = (⊎_elim (λ h. (a s o s' n).0 h.1) (λ h. absurd (cc (h.0))), λ e. inl (refl, (a s o s' n).1 e))
same_choose A B f g a b (Truth false) s o s' n = (⊎_elim (λ h. absurd (cc (h.0))) (λ h. (b s o s' n).0 h.1), λ e. inr (refl, (b s o s' n).1 e))
same_choose A B f g a b Nothing s o s' n = (⊎_elim (λ h. absurd (cc (h.0))) (λ h. absurd (cc (h.0))), λ e. absurd (cc))
same_choose A B f g a b (Number x) s o s' n = (⊎_elim (λ h. absurd (cc (h.0))) (λ h. absurd (cc (h.0))), λ e. absurd (cc))
same_choose A B f g a b (Row x) s o s' n = (⊎_elim (λ h. absurd (cc (h.0))) (λ h. absurd (cc (h.0))), λ e. absurd (cc))
same_choose A B f g a b (Tuple x) s o s' n = (⊎_elim (λ h. absurd (cc (h.0))) (λ h. absurd (cc (h.0))), λ e. absurd (cc))
same_choose A B f g a b (Ctor x y z) s o s' n = (⊎_elim (λ h. absurd (cc (h.0))) (λ h. absurd (cc (h.0))), λ e. absurd (cc))
same_choose A B f g a b (Exit x) s o s' n = (⊎_elim (λ h. absurd (cc (h.0))) (λ h. absurd (cc (h.0))), λ e. absurd (cc))
same_choose A B f g a b (Cont x) s o s' n = (⊎_elim (λ h. absurd (cc (h.0))) (λ h. absurd (cc (h.0))), λ e. absurd (cc))

same_control : (E K : Val → Rel) (e k : Val → Store → Out) → ((w : Val) → Same (E w) (e w)) → ((w : Val) → Same (K w) (k w)) → (v : Val) → Same (OnControl E K v) (λ s. on_control v (λ w. e w s) (λ w. k w s))
same_control E K e k fe fk (Exit x) s o s' n = (
  ⊎_elim (λ h. let d : x ≡ h.0 = cc (h.1) in ap (λ y. e y s) d ∙ (fe h.0 s o s' n).0 h.2) (λ h. absurd (cc (h.1))),
  λ d. inl (x, refl, (fe x s o s' n).1 d),
)
same_control E K e k fe fk (Cont x) s o s' n = (
  ⊎_elim (λ h. absurd (cc (h.1))) (λ h. let d : x ≡ h.0 = cc (h.1) in ap (λ y. k y s) d ∙ (fk h.0 s o s' n).0 h.2),
  λ d. inr (x, refl, (fk x s o s' n).1 d),
)
same_control E K e k fe fk Nothing s o s' n = (⊎_elim (λ h. absurd (cc (h.1))) (λ h. absurd (cc (h.1))), λ d. absurd (cc))
same_control E K e k fe fk (Truth x) s o s' n = (⊎_elim (λ h. absurd (cc (h.1))) (λ h. absurd (cc (h.1))), λ d. absurd (cc))
same_control E K e k fe fk (Number x) s o s' n = (⊎_elim (λ h. absurd (cc (h.1))) (λ h. absurd (cc (h.1))), λ d. absurd (cc))
same_control E K e k fe fk (Row x) s o s' n = (⊎_elim (λ h. absurd (cc (h.1))) (λ h. absurd (cc (h.1))), λ d. absurd (cc))
same_control E K e k fe fk (Tuple x) s o s' n = (⊎_elim (λ h. absurd (cc (h.1))) (λ h. absurd (cc (h.1))), λ d. absurd (cc))
same_control E K e k fe fk (Ctor x y z) s o s' n = (⊎_elim (λ h. absurd (cc (h.1))) (λ h. absurd (cc (h.1))), λ d. absurd (cc))

span_from : (K : ℕ → ℕ → Rel) (k : ℕ → ℕ → Store → Out) → ((a n : ℕ) → Same (K a n) (k a n)) → (x y : Option ℕ) (s : Store) (o : Outcome) (s' : Store) (n : ℕ) → ((a : ℕ) × (b : ℕ) × (x ≡ Some a) × (y ≡ Some b) × K a (b - a) s o s' n) ↔ (span x y (λ a n. k a n s) ≡ Ran o s' n)
span_from K k h None y s o s' n = (λ p. absurd (cc (p.2)), λ e. absurd (cc))
span_from K k h (Some a) None s o s' n = (λ p. absurd (cc (p.3)), λ e. absurd (cc))
span_from K k h (Some a) (Some b) s o s' n = (
  λ p.
      let ea : a ≡ p.0 = cc (p.2) in
      let eb : b ≡ p.1 = cc (p.3) in
      ap (λ y. k y (b - y) s) ea ∙ ap (λ y. k p.0 (y - p.0) s) eb ∙ (h p.0 (p.1 - p.0) s o s' n).0 p.4,
  λ e. (a, b, refl, refl, (h a (b - a) s o s' n).1 e),
)

same_from_to : (K : ℕ → ℕ → Rel) (k : ℕ → ℕ → Store → Out) → ((a n : ℕ) → Same (K a n) (k a n)) → (v w : Val) → Same (FromTo K v w) (λ s. from_to v w (λ a n. k a n s))
same_from_to K k h v w s = span_from K k h (size_in v) (size_in w) s

caught_from : (x : Out) (o : Outcome) (s' : Store) (n : ℕ) → (((v : Val) × (x ≡ Ran (Gives v) s' n) × (o ≡ Gives (Cont Nothing))) ⊎ (Ends o × (x ≡ Ran o s' n))) ↔ (caught x ≡ Ran o s' n)
caught_from x o s' n = (
  ⊎_elim (λ h. ap caught h.1 ∙ ap (λ p. Ran p s' n) (sym h.2)) (λ h. ap caught h.1 ∙ pass o h.0),
  from x,
)
  where
    pass : (p : Outcome) → Ends p → caught (Ran p s' n) ≡ Ran p s' n
    pass (Gives v) q = absurd q
    pass (Stops y) q = refl

    from : (y : Out) → caught y ≡ Ran o s' n → ((v : Val) × (y ≡ Ran (Gives v) s' n) × (o ≡ Gives (Cont Nothing))) ⊎ (Ends o × (y ≡ Ran o s' n))
    from Stuck e = absurd (cc)
    from (Ran (Gives v) t m) e = inl (v, cc (e), cc (e))
    from (Ran (Stops w) t m) e = let d : Stops w ≡ o = cc in inr (subst Ends d tt, cc (e))

same_caught : (R : Rel) (f : Store → Out) → Same R f → Same (Caught R) (λ s. caught (f s))
same_caught R f r s o s' n =
    let k = caught_from (f s) o s' n in (
      ⊎_elim (λ h. k.0 (inl (h.0, (r s (Gives h.0) s' n).0 h.1, h.2))) (λ h. k.0 (inr (h.0, (r s o s' n).0 h.1))),
      λ e. ⊎_elim (λ h. inl (h.0, (r s (Gives h.0) s' n).1 h.1, h.2)) (λ h. inr (h.0, (r s o s' n).1 h.1)) (k.1 e),
    )

same_turns : (B : ℕ → Rel) (f : ℕ → Store → Out) → ((j : ℕ) → Same (B j) (f j)) → (n i : ℕ) → Same (Turns B i n) (turns_of f i n)
same_turns B f b zero i = same_just (Gives Nothing)
same_turns B f b (suc n) i =
    same_turn _ _ (same_then (Caught (B i)) (λ s. caught (f i s)) _ _ (same_caught (B i) (f i) (b i)) (same_control _ _ _ _ (λ w. same_just (Gives Nothing)) (λ w. same_turns B f b n (suc i))))

same_turns_cf : (B : ℕ → Rel) (f : ℕ → Store → Out) → ((j : ℕ) → Same (B j) (f j)) → (n i : ℕ) → Same (TurnsCf B i n) (turns_cf f i n)
same_turns_cf B f b zero i = same_just (Gives (Cont Nothing))
same_turns_cf B f b (suc n) i =
    same_turn _ _ (same_then (B i) (f i) _ _ (b i) (same_control _ _ _ _ (λ w. same_just (Gives (Exit w))) (λ w. same_turns_cf B f b n (suc i))))

same_folds : (B : ℕ → Val → Rel) (f : ℕ → Val → Store → Out) → ((j : ℕ) (a : Val) → Same (B j a) (f j a)) → (n i : ℕ) (a : Val) → Same (Folds B i n a) (folds f i n a)
same_folds B f b zero i a = same_just (Gives a)
same_folds B f b (suc n) i a =
    same_turn _ _ (same_then (B i a) (f i a) (Folds B (suc i) n) (folds f (suc i) n) (b i a) (λ v. same_folds B f b n (suc i) v))

same_folds_cf : (B : ℕ → Val → Rel) (f : ℕ → Val → Store → Out) → ((j : ℕ) (a : Val) → Same (B j a) (f j a)) → (n i : ℕ) (a : Val) → Same (FoldsCf B i n a) (folds_cf f i n a)
same_folds_cf B f b zero i a = same_just (Gives (Cont a))
same_folds_cf B f b (suc n) i a =
    same_turn _ _ (same_then (B i a) (f i a) _ _ (b i a) (same_control _ _ _ _ (λ w. same_just (Gives (Exit w))) (λ w. same_folds_cf B f b n (suc i) w)))

same_rounds : (how : Carrying) (B : ℕ → Val → Rel) (f : ℕ → Val → Store → Out) → ((j : ℕ) (a : Val) → Same (B j a) (f j a)) → (n i : ℕ) (a : Val) → Same (Rounds how B i n a) (rounds how f i n a)
same_rounds turns = same_folds
same_rounds fold = same_folds
same_rounds turnscf = same_folds_cf
same_rounds foldcf = same_folds_cf

at_from : (R : Rel) (f : Store → Out) → Same R f → (x : Option Store) (o : Outcome) (s' : Store) (n : ℕ) → ((m : Store) × (x ≡ Some m) × R m o s' n) ↔ (at_store x f ≡ Ran o s' n)
at_from R f r None o s' n = (λ h. absurd (cc (h.1)), λ e. absurd (cc))
at_from R f r (Some t) o s' n = (
  λ h. let d : t ≡ h.0 = cc (h.1) in ap f d ∙ (r h.0 o s' n).0 h.2,
  λ e. (t, refl, (r t o s' n).1 e),
)

module _ (w : World) where
  same_fitting : (p : Pattern) (v : Val) (R : Rel) (f : Store → Out) → Same R f → Same (Fitting w p v R) (λ s. at_store (matched w.types p v s) f)
  same_fitting p v R f r s = at_from R f r (matched w.types p v s)

  same_bound : (p : Pattern) (v : Val) (R : Rel) (f : Store → Out) → Same R f → Same (WithBound w p v R) (with_bound w p v f)
  same_bound p v R f r = same_leave (bound p) _ _ (same_fitting p v R f r)

same_number : (i : Local) (j : ℕ) (R : Rel) (f : Store → Out) → Same R f → Same (WithNumber i j R) (with_number i j f)
same_number i j R f r = same_leave (i.number ∷ []) _ _ (λ s. r (put s i.number (Has (size j))))

-- an arm at a store, by whether its pattern fits
fits_from : (ks : List ℕ) (R Other : Rel) (f g : Store → Out) → Same R f → Same Other g → (x : Option Store) (s : Store) (o : Outcome) (s' : Store) (n : ℕ) → (Leaves ks (λ s o s' n. (m : Store) × (x ≡ Some m) × R m o s' n) s o s' n ⊎ ((x ≡ None) × Other s o s' n)) ↔ (if_fits x ks s f (g s) ≡ Ran o s' n)
fits_from ks R Other f g r q None s o s' n = (⊎_elim (λ h. absurd (cc (h.1.1))) (λ h. (q s o s' n).0 h.1), λ e. inr (refl, (q s o s' n).1 e))
fits_from ks R Other f g r q (Some t) s o s' n = (
  ⊎_elim
      (λ h.
      let d : t ≡ h.1.0 = cc (h.1.1) in
      ap (λ y. leave ks s (f y)) d ∙ ap (leave ks s) ((r h.1.0 o h.0 n).0 h.1.2) ∙ ap (λ y. Ran o y n) (sym h.2))
      (λ h. absurd (cc (h.0))),
  λ e. let h = leave_from (λ u. R t) ks s (f t) (λ p u m. (r t p u m).1) o s' n e in inl (h.0, (t, refl, h.1), h.2),
)

asks_from : (v : Val) → Same (Asks v) (asked v)
asks_from (Ctor sort.Result zero (Also v NoVals)) s o s' n = (
  ⊎_elim (λ h. let d : v ≡ h.0 = cc (h.1) in cc (d, h.2.0, h.2.1, h.2.2)) (λ h. absurd (cc (h.1))),
  λ e. inl (v, refl, (same_just (Gives v) s o s' n).1 e),
)
asks_from (Ctor sort.Result (suc zero) (Also v NoVals)) s o s' n = (
  ⊎_elim (λ h. absurd (cc (h.1))) (λ h. let d : v ≡ h.0 = cc (h.1) in cc (d, h.2.0, h.2.1, h.2.2)),
  λ e. inr (v, refl, (same_just (Stops (Returned (result 1 v))) s o s' n).1 e),
)
asks_from (Ctor sort.Result (suc (suc i)) (Also v NoVals)) s o s' n = (⊎_elim (λ h. absurd (cc (h.1))) (λ h. absurd (cc (h.1))), λ e. absurd (cc))
asks_from (Ctor sort.Result i NoVals) s o s' n = (⊎_elim (λ h. absurd (cc (h.1))) (λ h. absurd (cc (h.1))), λ e. absurd (none i e))
  where
    none : (i : ℕ) → asked (Ctor sort.Result i NoVals) s ≡ Ran o s' n → ⊥
    none zero d = cc
    none (suc zero) d = cc
    none (suc (suc j)) d = cc
asks_from (Ctor sort.Result i (Also v (Also x xs))) s o s' n = (⊎_elim (λ h. absurd (cc (h.1))) (λ h. absurd (cc (h.1))), λ e. absurd (none i e))
  where
    none : (i : ℕ) → asked (Ctor sort.Result i (Also v (Also x xs))) s ≡ Ran o s' n → ⊥
    none zero d = cc
    none (suc zero) d = cc
    none (suc (suc j)) d = cc
asks_from (Ctor sort.Option i vs) s o s' n = (⊎_elim (λ h. absurd (cc (h.1))) (λ h. absurd (cc (h.1))), λ e. absurd (cc))
asks_from (Ctor (sort.Named k) i vs) s o s' n = (⊎_elim (λ h. absurd (cc (h.1))) (λ h. absurd (cc (h.1))), λ e. absurd (cc))
asks_from Nothing s o s' n = (⊎_elim (λ h. absurd (cc (h.1))) (λ h. absurd (cc (h.1))), λ e. absurd (cc))
asks_from (Truth x) s o s' n = (⊎_elim (λ h. absurd (cc (h.1))) (λ h. absurd (cc (h.1))), λ e. absurd (cc))
asks_from (Number x) s o s' n = (⊎_elim (λ h. absurd (cc (h.1))) (λ h. absurd (cc (h.1))), λ e. absurd (cc))
asks_from (Row x) s o s' n = (⊎_elim (λ h. absurd (cc (h.1))) (λ h. absurd (cc (h.1))), λ e. absurd (cc))
asks_from (Tuple x) s o s' n = (⊎_elim (λ h. absurd (cc (h.1))) (λ h. absurd (cc (h.1))), λ e. absurd (cc))
asks_from (Exit x) s o s' n = (⊎_elim (λ h. absurd (cc (h.1))) (λ h. absurd (cc (h.1))), λ e. absurd (cc))
asks_from (Cont x) s o s' n = (⊎_elim (λ h. absurd (cc (h.1))) (λ h. absurd (cc (h.1))), λ e. absurd (cc))

-- what a call gives
abbrev pub Gave : Back → Result → ℕ → Type 0
Gave b r n = b ≡ Ended r n

abbrev pub CallsSame : CallRel → Calls → Type 0
CallsSame C c = (f : Name) (vs : List Val) (r : Result) (n : ℕ) → C f vs r n ↔ Gave (c f vs) r n

gives_from : (y : Option (Store × Val)) (a : ℕ) (o : Outcome) (s' : Store) (n : ℕ) → gives_back y a ≡ Ran o s' n → (x : Val) × (y ≡ Some (s', x)) × (o ≡ Gives x) × (n ≡ a)
gives_from None a o s' n e = absurd (cc)
gives_from (Some z) a o s' n e = let d : z.0 ≡ s' = cc in (z.1, ap (λ t. Some (t, z.1)) d, (cc), (cc))

called_from : (ks : List ℕ) (b : Back) (C : Result → ℕ → Type 0) → ((r : Result) (n : ℕ) → C r n ↔ Gave b r n) → Same (Called ks C) (called ks b)
called_from ks NoCall C h s o s' n = (
  ⊎_elim (λ p. absurd (let e : NoCall ≡ Ended (value p.0) n = (h (value p.0) n).0 p.2 in cc)) (λ p. absurd (let e : NoCall ≡ Ended (panic p.0) n = (h (panic p.0) n).0 p.1 in cc)),
  λ e. absurd (cc),
)
called_from ks (Ended (value v) a) C h s o s' n = (
  ⊎_elim
      (λ p.
      let e : Ended (value v) a ≡ Ended (value p.0) n = (h (value p.0) n).0 p.2 in
      let d : v ≡ p.0 = cc in
      let i : a ≡ n = cc in
      ap (λ y. gives_back (back_in ks y s) a) d ∙ ap (λ y. gives_back y a) p.3 ∙ cc (p.4, i))
      (λ p. absurd (let e : Ended (value v) a ≡ Ended (panic p.0) n = (h (panic p.0) n).0 p.1 in cc)),
  λ e.
      let g = gives_from (back_in ks v s) a o s' n e in
      inl (v, g.0, (h (value v) n).1 (ap (Ended (value v)) (sym g.3)), g.1, g.2),
)
called_from ks (Ended (panic k) a) C h s o s' n = (
  ⊎_elim
      (λ p. absurd (let e : Ended (panic k) a ≡ Ended (value p.0) n = (h (value p.0) n).0 p.2 in cc))
      (λ p.
      let e : Ended (panic k) a ≡ Ended (panic p.0) n = (h (panic p.0) n).0 p.1 in
      cc (e, p.2, p.3)),
  λ e. let i : n ≡ a = cc in inr (k, (h (panic k) n).1 (ap (Ended (panic k)) (sym i)), (cc), (cc)),
)

same_assigned_in : (k : Local) (o : Option Name) (way : List Pick) (v : Val) (R : Rel) (f : Store → Out) → Same R f → Same (AssignsIn k o way v R) (assigned_in k o way v f)
same_assigned_in k o way v R f r = λ s. holding_from _ _ (λ old. same_replies (replaced way (became o v) old) _ _ (λ new m. r (put m k.number (Has new)))) (s k.number) s

same_assigned : (k : Local) (o : Option Name) (way : List Pick) (v : Val) (R : Rel) (f : Store → Out) → Same R f → Same (Assigns k o way v R) (assigned k o way v f)
same_assigned k None [] v R f r = λ s. r (put s k.number (Has v))
same_assigned k None (pick ∷ way) v R f r = same_assigned_in k None (pick ∷ way) v R f r
same_assigned k (Some o) way v R f r = same_assigned_in k (Some o) way v R f r

module _ (w : World) (C : CallRel) (c : Calls) (h : CallsSame C c) where
  mutual
    -- `X` lifts the statement to the universe of those that take what follows
    pub same_exp : (e : Exp) (lent : Bool) (X : Type 0) → Same (RunsExp w C e lent) (run_exp w c e lent)
    same_exp (var k) lent X = λ s. read_from (w.moves k.number && not lent) k.number (s k.number) s
    same_exp (lit n) lent X = same_just (Gives (Number n))
    same_exp (truth b) lent X = same_just (Gives (Truth b))
    same_exp unit lent X = same_just (Gives Nothing)
    same_exp (const name) lent X = same_given (w.constants name) _ _ (λ v. same_just (Gives v))
    same_exp (tuple es) lent X = same_exps es none_lent _ _ (λ vs. same_just (Gives (Tuple (vals_of vs))))
    same_exp (list es) lent X = same_exps es none_lent _ _ (λ vs. same_just (Gives (Row (vals_of vs))))
    same_exp (ctor t name es) lent X = same_exps es none_lent _ _ (λ vs. same_given (built (ctor_named w.types t name) vs) _ _ (λ v. same_just (Gives v)))
    same_exp (op name es) lent X = same_exps es (operand_lent name) _ _ (λ vs. same_replies (applied name vs) _ _ (λ v. same_just (Gives v)))
    same_exp (call f es) lent X = same_exps es (w.lent f) _ _ (λ vs. called_from [] (c f vs) (C f vs) (h f vs))
    same_exp (and a b) lent X =
        same_then _ (run_exp w c a false) _ _ (same_exp a false ⊤) (same_choose (RunsExp w C b false) (Give (Truth false)) (run_exp w c b false) (give (Truth false)) (same_exp b false ⊤) (same_just (Gives (Truth false))))
    same_exp (or a b) lent X =
        same_then _ (run_exp w c a false) _ _ (same_exp a false ⊤) (same_choose (Give (Truth true)) (RunsExp w C b false) (give (Truth true)) (run_exp w c b false) (same_just (Gives (Truth true))) (same_exp b false ⊤))
    same_exp (in_side r) lent X = same_rhs r ⊤
    same_exp (exit e) lent X = same_then _ (run_exp w c e false) _ _ (same_exp e false ⊤) (λ v. same_just (Gives (Exit v)))
    same_exp (cont e) lent X = same_then _ (run_exp w c e false) _ _ (same_exp e false ⊤) (λ v. same_just (Gives (Cont v)))

    same_exps : (es : Exps) (lent : ℕ → Bool) (K : List Val → Rel) (k : List Val → Store → Out) → ((vs : List Val) → Same (K vs) (k vs)) → Same (RunsExps w C es lent K) (run_exps w c es lent k)
    same_exps no_exps lent K k q = q []
    same_exps (exp e es) lent K k q =
        same_then _ (run_exp w c e (lent 0)) _ _ (same_exp e (lent 0) ⊤) (λ v. same_exps es (λ i. lent (suc i)) _ _ (λ vs. q (v ∷ vs)))

    same_args : (es : Args) (lent : ℕ → Bool) (K : List Val → Rel) (k : List Val → Store → Out) → ((vs : List Val) → Same (K vs) (k vs)) → Same (RunsArgs w C es lent K) (run_args w c es lent k)
    same_args no_args lent K k q = q []
    same_args (arg e es) lent K k q =
        same_then _ (run_exp w c e (lent 0)) _ _ (same_exp e (lent 0) ⊤) (λ v. same_args es (λ i. lent (suc i)) _ _ (λ vs. q (v ∷ vs)))
    same_args (lend x es) lent K k q = λ s. holding_from _ _ (λ v. same_args es (λ i. lent (suc i)) _ _ (λ vs. q (v ∷ vs))) (s x.number) s

    pub same_rhs : (r : Rhs) (X : Type 0) → Same (RunsRhs w C r) (run_rhs w c r)
    same_rhs (plain e) X = same_exp e false ⊤
    same_rhs (if_else e a b) X =
        same_then _ (run_exp w c e false) _ _ (same_exp e false ⊤) (same_choose (RunsBlock w C a) (RunsBlock w C b) (run_block w c a) (run_block w c b) (same_block a ⊤) (same_block b ⊤))
    same_rhs (match_on e xs) X = same_then _ (run_exp w c e false) _ _ (same_exp e false ⊤) (λ v. same_arms xs v ⊤)
    same_rhs (block b) X = same_block b ⊤
    same_rhs (lendcall f es) X = same_args es (w.lent f) _ _ (λ vs. called_from (lent_by es) (c f vs) (C f vs) (h f vs))
    same_rhs (quest e) X = same_then _ (run_exp w c e false) _ _ (same_exp e false ⊤) asks_from
    same_rhs (forcf i lo hi b) X =
        same_then _ (run_exp w c lo false) _ _ (same_exp lo false ⊤) (λ x. same_then _ (run_exp w c hi false) _ _ (same_exp hi false ⊤) (λ y.
        same_from_to _ _ (λ a n. same_turns_cf _ _ (λ j. same_number i j _ _ (same_block b ⊤)) n a) x y))
    same_rhs (carry how i lo hi first p b) X =
        same_then _ (run_exp w c lo false) _ _ (same_exp lo false ⊤) (λ x. same_then _ (run_exp w c hi false) _ _ (same_exp hi false ⊤) (λ y.
        same_then _ (run_exp w c first false) _ _ (same_exp first false ⊤) (λ v.
        same_from_to _ _ (λ a n. same_rounds how _ _ (λ j u. same_number i j _ _ (same_bound w p u _ _ (same_block b ⊤))) n a v) x y)))

    same_arms : (xs : Arms) (v : Val) (X : Type 0) → Same (RunsArms w C xs v) (run_arms w c xs v)
    same_arms no_arms v X = same_never
    same_arms (arm p b xs) v X =
        λ s. fits_from (bound p) (RunsBlock w C b) (RunsArms w C xs v) (run_block w c b) (run_arms w c xs v) (same_block b ⊤) (same_arms xs v ⊤) (matched w.types p v s) s

    same_steps : (steps : Steps) (K : List Pick → Rel) (k : List Pick → Store → Out) → ((way : List Pick) → Same (K way) (k way)) → Same (RunsSteps w C steps K) (run_steps w c steps k)
    same_steps here K k q = q []
    same_steps (at e steps) K k q = same_then _ (run_exp w c e false) _ _ (same_exp e false ⊤) (λ v. same_steps steps _ _ (λ way. q (item v ∷ way)))
    same_steps (part i steps) K k q = same_steps steps _ _ (λ way. q (part_no i ∷ way))

    pub same_block : (b : Block) (X : Type 0) → Same (RunsBlock w C b) (run_block w c b)
    same_block (let_in p r b) X = same_then _ (run_rhs w c r) _ _ (same_rhs r ⊤) (λ v. same_bound w p v _ _ (same_block b ⊤))
    same_block (do_in r b) X = same_then _ (run_rhs w c r) _ _ (same_rhs r ⊤) (λ v. same_block b ⊤)
    same_block (set_in k r b) X = same_then _ (run_rhs w c r) _ _ (same_rhs r ⊤) (λ v s. same_block b ⊤ (put s k.number (Has v)))
    same_block (place_in o k steps r b) X =
        same_then _ (run_rhs w c r) _ _ (same_rhs r ⊤) (λ v. same_steps steps _ _ (λ way. same_assigned k o way v _ _ (same_block b ⊤)))
    same_block (for_in i lo hi body b) X =
        same_then _ _ _ _
        (same_then _ (run_exp w c lo false) _ _ (same_exp lo false ⊤) (λ x. same_then _ (run_exp w c hi false) _ _ (same_exp hi false ⊤) (λ y.
        same_from_to _ _ (λ a n. same_turns _ _ (λ j. same_number i j _ _ (same_block body ⊤)) n a) x y)))
        (λ v. same_block b ⊤)
    same_block (ends r) X = same_rhs r ⊤
    same_block (returns e) X = same_then _ (run_exp w c e false) _ _ (same_exp e false ⊤) (λ v. same_just (Stops (Returned v)))
    same_block (bind z p r b) X =
        same_then _ (run_rhs w c r) _ _ (same_rhs r ⊤) (same_control _ _ _ _ (λ x. same_just (Gives (ended_by z x))) (λ x. same_bound w p x _ _ (same_block b ⊤)))
