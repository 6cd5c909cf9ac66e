-- A run leaves each local as it was that it neither assigns nor lends nor moves.
use Rattle.std.proofs.Common.{◌≡◌, ℕ, zero, suc, ◌-◌, Bool, true, false, ◌&&◌, ◌||◌, not, cond, eqb, List, [], ◌∷◌, ◌++◌, Option, Some, None, refl, ap, ◌∙◌, arith, subst}
use Rattle.std.proofs.lemmas.Bool.Decides.{nat_tests}
use Rattle.std.specs.Prelude.{◌≢◌, if◌then◌else◌}
use Rattle.std.specs.Bool.{⊤}
use Rattle.hs_values.specs.declared.types.TypeDef.{TypeDef}
use Rattle.hs_values.specs.declared.value.Sort.TheVariants as sort
use Rattle.hs_tree.specs.Plain.{Name, Local, Carrying, turns, turnscf, fold, foldcf, Pattern, binds, anything, parts, taken, Patterns, no_patterns, pattern, Exp, var, lit, truth, unit, const, tuple, list, ctor, op, call, and, or, in_side, exit, cont, Exps, no_exps, exp, Args, no_args, arg, lend, Rhs, plain, if_else, match_on, block, lendcall, quest, forcf, carry, Arms, no_arms, arm, Steps, here, at, part, Block, let_in, do_in, set_in, place_in, for_in, ends, returns, bind}
use Rattle.hs_control.specs.Control.{Val, Nothing, Truth, Number, Row, Tuple, Ctor, Exit, Cont, Vals, NoVals, Also, Reply, Is, Fails, NoReply, applied}
use Rattle.hs_tree.specs.Store.{Slot, Empty, Moved, Has, Store, put, among, Gives, Stops, Out, Stuck, Ran, value, panic, Back, NoCall, Ended, Calls}
use Rattle.hs_tree.specs.Match.{ctor_named, is_ctor, matched, matched_all, and_then, bound, bound_all}
use Rattle.hs_tree.specs.Way.{Pick, item, part_no, replaced, became}
use Rattle.hs_tree.specs.World.{World, operand_lent, none_lent, built}
use Rattle.hs_tree.specs.Steps.{more, follow, give, leave, read, having_value, replies, given, at_store, choose, on_control, size_in, size, span, from_to, caught, turns_of, turns_cf, folds, folds_cf, asked, taken_back, tuple_back, back_in, gives_back, called}
use Rattle.hs_tree.specs.Run.{lent_by, rounds, with_bound, with_number, if_fits, assigned_in, assigned, run_exp, run_exps, run_args, run_rhs, run_arms, run_steps, run_block}
use Rattle.hs_tree.specs.Named.{EachExp, EachExps, EachArgs, EachRhs, EachArms, EachSteps, EachBlock, UnwrittenStays}

module _ (t : ℕ) where
  -- the local is behind the run as it is in the store
  abbrev pub Kept : Store → Out → Type 0
  Kept s Stuck = ⊤
  Kept s (Ran o s' n) = s' t ≡ s t

  kept_from : (s m : Store) → m t ≡ s t → (y : Out) → Kept m y → Kept s y
  kept_from s m e Stuck h = tt
  kept_from s m e (Ran o s' n) h = h ∙ e

  kept_more : (s : Store) (n : ℕ) (y : Out) → Kept s y → Kept s (more n y)
  kept_more s n Stuck h = tt
  kept_more s n (Ran o s' m) h = h

  kept_follow : (s : Store) (y : Out) → Kept s y → (f : Val → Store → Out) → ((v : Val) (m : Store) → Kept m (f v m)) → Kept s (follow y f)
  kept_follow s Stuck h f g = tt
  kept_follow s (Ran (Gives v) m n) h f g = kept_more s n (f v m) (kept_from s m h (f v m) (g v m))
  kept_follow s (Ran (Stops w) m n) h f g = h

  other_put : (k : ℕ) (x : Slot) (s : Store) → k ≢ t → put s k x t ≡ s t
  other_put k x s h = grind (arith, nat_tests)

  kept_leave : (ks : List ℕ) (s : Store) (y : Out) → (among t ks ≡ false → Kept s y) → Kept s (leave ks s y)
  kept_leave ks s Stuck h = tt
  kept_leave ks s (Ran o s' n) h = go (among t ks) h
    where
      go : (b : Bool) → (b ≡ false → s' t ≡ s t) → cond b (s t) (s' t) ≡ s t
      go true e = refl
      go false e = e refl

  kept_read : (moving : Bool) (k : ℕ) → (moving ≡ true → k ≢ t) → (y : Slot) (s : Store) → Kept s (read moving k y s)
  kept_read true k h Empty s = tt
  kept_read true k h Moved s = tt
  kept_read true k h (Has v) s = other_put k Moved s (h refl)
  kept_read false k h Empty s = tt
  kept_read false k h Moved s = tt
  kept_read false k h (Has v) s = refl

  kept_holding : (y : Slot) (f : Val → Store → Out) → ((v : Val) (m : Store) → Kept m (f v m)) → (s : Store) → Kept s (having_value y f s)
  kept_holding Empty f h s = tt
  kept_holding Moved f h s = tt
  kept_holding (Has v) f h s = h v s

  kept_replies : (r : Reply) (f : Val → Store → Out) → ((v : Val) (m : Store) → Kept m (f v m)) → (s : Store) → Kept s (replies r f s)
  kept_replies (Is v) f h s = h v s
  kept_replies (Fails p) f h s = refl
  kept_replies NoReply f h s = tt

  kept_given : (o : Option Val) (s : Store) → Kept s (given o give s)
  kept_given None s = tt
  kept_given (Some v) s = refl

  kept_choose : (s : Store) (v : Val) (y z : Out) → Kept s y → Kept s z → Kept s (choose v y z)
  kept_choose s (Truth true) y z h k = h
  kept_choose s (Truth false) y z h k = k
  kept_choose s Nothing y z h k = tt
  kept_choose s (Number n) y z h k = tt
  kept_choose s (Row vs) y z h k = tt
  kept_choose s (Tuple vs) y z h k = tt
  kept_choose s (Ctor a b vs) y z h k = tt
  kept_choose s (Exit v) y z h k = tt
  kept_choose s (Cont v) y z h k = tt

  kept_control : (s : Store) (v : Val) (e k : Val → Out) → ((w : Val) → Kept s (e w)) → ((w : Val) → Kept s (k w)) → Kept s (on_control v e k)
  kept_control s (Exit w) e k f g = f w
  kept_control s (Cont w) e k f g = g w
  kept_control s Nothing e k f g = tt
  kept_control s (Truth b) e k f g = tt
  kept_control s (Number n) e k f g = tt
  kept_control s (Row vs) e k f g = tt
  kept_control s (Tuple vs) e k f g = tt
  kept_control s (Ctor a b vs) e k f g = tt

  kept_span : (s : Store) (a b : Option ℕ) (f : ℕ → ℕ → Out) → ((i n : ℕ) → Kept s (f i n)) → Kept s (span a b f)
  kept_span s None b f h = tt
  kept_span s (Some a) None f h = tt
  kept_span s (Some a) (Some b) f h = h a (b - a)

  kept_from_to : (s : Store) (v w : Val) (f : ℕ → ℕ → Out) → ((i n : ℕ) → Kept s (f i n)) → Kept s (from_to v w f)
  kept_from_to s v w f h = kept_span s (size_in v) (size_in w) f h

  kept_caught : (s : Store) (y : Out) → Kept s y → Kept s (caught y)
  kept_caught s Stuck h = tt
  kept_caught s (Ran (Gives v) m n) h = h
  kept_caught s (Ran (Stops w) m n) h = h

  kept_turns : (body : ℕ → Store → Out) → ((j : ℕ) (s : Store) → Kept s (body j s)) → (n i : ℕ) (s : Store) → Kept s (turns_of body i n s)
  kept_turns body h zero i s = refl
  kept_turns body h (suc n) i s =
      kept_more s 1 (follow (caught (body i s)) (λ v m. on_control v (λ w. give Nothing m) (λ w. turns_of body (suc i) n m)))
      (kept_follow s (caught (body i s)) (kept_caught s (body i s) (h i s)) _ (λ v m. kept_control m v _ _ (λ w. refl) (λ w. kept_turns body h n (suc i) m)))

  kept_turns_cf : (body : ℕ → Store → Out) → ((j : ℕ) (s : Store) → Kept s (body j s)) → (n i : ℕ) (s : Store) → Kept s (turns_cf body i n s)
  kept_turns_cf body h zero i s = refl
  kept_turns_cf body h (suc n) i s =
      kept_more s 1 (follow (body i s) (λ v m. on_control v (λ w. give (Exit w) m) (λ w. turns_cf body (suc i) n m)))
      (kept_follow s (body i s) (h i s) _ (λ v m. kept_control m v _ _ (λ w. refl) (λ w. kept_turns_cf body h n (suc i) m)))

  kept_folds : (body : ℕ → Val → Store → Out) → ((j : ℕ) (a : Val) (s : Store) → Kept s (body j a s)) → (n i : ℕ) (a : Val) (s : Store) → Kept s (folds body i n a s)
  kept_folds body h zero i a s = refl
  kept_folds body h (suc n) i a s =
      kept_more s 1 (follow (body i a s) (λ v m. folds body (suc i) n v m))
      (kept_follow s (body i a s) (h i a s) _ (λ v m. kept_folds body h n (suc i) v m))

  kept_folds_cf : (body : ℕ → Val → Store → Out) → ((j : ℕ) (a : Val) (s : Store) → Kept s (body j a s)) → (n i : ℕ) (a : Val) (s : Store) → Kept s (folds_cf body i n a s)
  kept_folds_cf body h zero i a s = refl
  kept_folds_cf body h (suc n) i a s =
      kept_more s 1 (follow (body i a s) (λ v m. on_control v (λ w. give (Exit w) m) (λ w. folds_cf body (suc i) n w m)))
      (kept_follow s (body i a s) (h i a s) _ (λ v m. kept_control m v _ _ (λ w. refl) (λ w. kept_folds_cf body h n (suc i) w m)))

  kept_rounds : (how : Carrying) (body : ℕ → Val → Store → Out) → ((j : ℕ) (a : Val) (s : Store) → Kept s (body j a s)) → (n i : ℕ) (a : Val) (s : Store) → Kept s (rounds how body i n a s)
  kept_rounds turns = kept_folds
  kept_rounds fold = kept_folds
  kept_rounds turnscf = kept_folds_cf
  kept_rounds foldcf = kept_folds_cf

  kept_asked : (v : Val) (s : Store) → Kept s (asked v s)
  kept_asked (Ctor sort.Result zero NoVals) s = tt
  kept_asked (Ctor sort.Result zero (Also v NoVals)) s = refl
  kept_asked (Ctor sort.Result zero (Also v (Also w vs))) s = tt
  kept_asked (Ctor sort.Result (suc zero) NoVals) s = tt
  kept_asked (Ctor sort.Result (suc zero) (Also v NoVals)) s = refl
  kept_asked (Ctor sort.Result (suc zero) (Also v (Also w vs))) s = tt
  kept_asked (Ctor sort.Result (suc (suc n)) NoVals) s = tt
  kept_asked (Ctor sort.Result (suc (suc n)) (Also v NoVals)) s = tt
  kept_asked (Ctor sort.Result (suc (suc n)) (Also v (Also w vs))) s = tt
  kept_asked (Ctor sort.Option n vs) s = tt
  kept_asked (Ctor (sort.Named k) n vs) s = tt
  kept_asked Nothing s = tt
  kept_asked (Truth b) s = tt
  kept_asked (Number n) s = tt
  kept_asked (Row vs) s = tt
  kept_asked (Tuple vs) s = tt
  kept_asked (Exit v) s = tt
  kept_asked (Cont v) s = tt

  -- numbers other than that of the local
  abbrev Others : List ℕ → Type 0
  Others [] = ⊤
  Others (k ∷ ks) = (k ≢ t) × Others ks

  lent_others : (es : Args) → EachArgs (λ k. ⊤) (λ k. k ≢ t) es → Others (lent_by es)
  lent_others no_args h = tt
  lent_others (arg e es) h = lent_others es h.1
  lent_others (lend k es) h = (h.0, lent_others es h.1)

  abbrev KeptPair : Store → Option (Store × Val) → Type 0
  KeptPair s None = ⊤
  KeptPair s (Some y) = y.0 t ≡ s t

  pair_from : (s m : Store) → m t ≡ s t → (o : Option (Store × Val)) → KeptPair m o → KeptPair s o
  pair_from s m e None h = tt
  pair_from s m e (Some y) h = h ∙ e

  kept_taken : (ks : List ℕ) → Others ks → (vs : Vals) (s : Store) → KeptPair s (taken_back ks vs s)
  kept_taken [] h NoVals s = tt
  kept_taken [] h (Also v NoVals) s = refl
  kept_taken [] h (Also v (Also w vs)) s = tt
  kept_taken (k ∷ ks) h NoVals s = tt
  kept_taken (k ∷ ks) h (Also v vs) s =
      pair_from s (put s k (Has v)) (other_put k (Has v) s h.0) (taken_back ks vs (put s k (Has v))) (kept_taken ks h.1 vs (put s k (Has v)))

  kept_tuple : (ks : List ℕ) → Others ks → (v : Val) (s : Store) → KeptPair s (tuple_back ks v s)
  kept_tuple ks h (Tuple vs) s = kept_taken ks h vs s
  kept_tuple ks h Nothing s = tt
  kept_tuple ks h (Truth b) s = tt
  kept_tuple ks h (Number n) s = tt
  kept_tuple ks h (Row vs) s = tt
  kept_tuple ks h (Ctor a b vs) s = tt
  kept_tuple ks h (Exit v) s = tt
  kept_tuple ks h (Cont v) s = tt

  kept_back : (ks : List ℕ) → Others ks → (v : Val) (s : Store) → KeptPair s (back_in ks v s)
  kept_back [] h v s = refl
  kept_back (k ∷ ks) h v s = kept_tuple (k ∷ ks) h v s

  kept_gives : (s : Store) (o : Option (Store × Val)) (n : ℕ) → KeptPair s o → Kept s (gives_back o n)
  kept_gives s None n h = tt
  kept_gives s (Some y) n h = h

  kept_called : (ks : List ℕ) → Others ks → (b : Back) (s : Store) → Kept s (called ks b s)
  kept_called ks h NoCall s = tt
  kept_called ks h (Ended (value v) n) s = kept_gives s (back_in ks v s) n (kept_back ks h v s)
  kept_called ks h (Ended (panic p) n) s = refl

  abbrev KeptStore : Store → Option Store → Type 0
  KeptStore s None = ⊤
  KeptStore s (Some m) = m t ≡ s t

  store_from : (s m : Store) → m t ≡ s t → (o : Option Store) → KeptStore m o → KeptStore s o
  store_from s m e None h = tt
  store_from s m e (Some u) h = h ∙ e

  among_left : (a b : List ℕ) → among t (a ++ b) ≡ false → among t a ≡ false
  among_left [] b h = refl
  among_left (k ∷ a) b h = go (eqb t k) h (among_left a b)
    where
      go : (c : Bool) → (c || among t (a ++ b)) ≡ false → (among t (a ++ b) ≡ false → among t a ≡ false) → (c || among t a) ≡ false
      go true e f = absurd (cc)
      go false e f = f e

  among_right : (a b : List ℕ) → among t (a ++ b) ≡ false → among t b ≡ false
  among_right [] b h = h
  among_right (k ∷ a) b h = go (eqb t k) h (among_right a b)
    where
      go : (c : Bool) → (c || among t (a ++ b)) ≡ false → (among t (a ++ b) ≡ false → among t b ≡ false) → among t b ≡ false
      go true e f = absurd (cc)
      go false e f = f e

  module _ (table : List TypeDef) where
    mutual
      kept_matched : (p : Pattern) → among t (bound p) ≡ false → (v : Val) (s : Store) → KeptStore s (matched table p v s)
      kept_matched (binds k) h v s = one (eqb t k.number) h
        where
          one : (c : Bool) → (c || false) ≡ false → cond c (Has v) (s t) ≡ s t
          one true e = absurd (cc)
          one false e = refl
      kept_matched anything h v s = refl
      kept_matched (parts ps) h (Tuple vs) s = kept_matched_all ps h vs s
      kept_matched (parts ps) h Nothing s = tt
      kept_matched (parts ps) h (Truth b) s = tt
      kept_matched (parts ps) h (Number n) s = tt
      kept_matched (parts ps) h (Row vs) s = tt
      kept_matched (parts ps) h (Ctor a b vs) s = tt
      kept_matched (parts ps) h (Exit v) s = tt
      kept_matched (parts ps) h (Cont v) s = tt
      kept_matched (taken u name ps) h (Ctor a b vs) s = either (is_ctor (ctor_named table u name) a b) _ (kept_matched_all ps h vs s)
        where
          either : (c : Bool) (y : Option Store) → KeptStore s y → KeptStore s (if c then y else None)
          either true y e = e
          either false y e = tt
      kept_matched (taken u name ps) h Nothing s = tt
      kept_matched (taken u name ps) h (Truth b) s = tt
      kept_matched (taken u name ps) h (Number n) s = tt
      kept_matched (taken u name ps) h (Row vs) s = tt
      kept_matched (taken u name ps) h (Tuple vs) s = tt
      kept_matched (taken u name ps) h (Exit v) s = tt
      kept_matched (taken u name ps) h (Cont v) s = tt

      kept_matched_all : (ps : Patterns) → among t (bound_all ps) ≡ false → (vs : Vals) (s : Store) → KeptStore s (matched_all table ps vs s)
      kept_matched_all no_patterns h NoVals s = refl
      kept_matched_all no_patterns h (Also v vs) s = tt
      kept_matched_all (pattern p ps) h NoVals s = tt
      kept_matched_all (pattern p ps) h (Also v vs) s =
          rest (matched table p v s) (kept_matched p (among_left (bound p) (bound_all ps) h) v s) (kept_matched_all ps (among_right (bound p) (bound_all ps) h) vs)
        where
          rest : (o : Option Store) → KeptStore s o → ((m : Store) → KeptStore m (matched_all table ps vs m)) → KeptStore s (and_then o (matched_all table ps vs))
          rest None e f = tt
          rest (Some m) e f = store_from s m e (matched_all table ps vs m) (f m)

  kept_at : (s : Store) (o : Option Store) → KeptStore s o → (f : Store → Out) → ((m : Store) → Kept m (f m)) → Kept s (at_store o f)
  kept_at s None e f h = tt
  kept_at s (Some m) e f h = kept_from s m e (f m) (h m)

  kept_bound : (w : World) (p : Pattern) (v : Val) (f : Store → Out) → ((m : Store) → Kept m (f m)) → (s : Store) → Kept s (with_bound w p v f s)
  kept_bound w p v f h s =
      kept_leave (bound p) s (at_store (matched w.types p v s) f) (λ e. kept_at s (matched w.types p v s) (kept_matched w.types p e v s) f h)

  kept_number : (i : Local) (j : ℕ) (f : Store → Out) → ((m : Store) → Kept m (f m)) → (s : Store) → Kept s (with_number i j f s)
  kept_number i j f h s =
      kept_leave (i.number ∷ []) s (f (put s i.number (Has (size j))))
      (λ e. kept_from s (put s i.number (Has (size j))) (one (eqb t i.number) e) (f (put s i.number (Has (size j)))) (h (put s i.number (Has (size j)))))
    where
      one : (c : Bool) → (c || false) ≡ false → cond c (Has (size j)) (s t) ≡ s t
      one true e = absurd (cc)
      one false e = refl

  kept_fits : (w : World) (p : Pattern) (v : Val) (s : Store) (f : Store → Out) (y : Out) → ((m : Store) → Kept m (f m)) → Kept s y → Kept s (if_fits (matched w.types p v s) (bound p) s f y)
  kept_fits w p v s f y h e = go (matched w.types p v s) (λ b. kept_matched w.types p b v s)
    where
      go : (o : Option Store) → (among t (bound p) ≡ false → KeptStore s o) → Kept s (if_fits o (bound p) s f y)
      go None g = e
      go (Some m) g = kept_leave (bound p) s (f m) (λ b. kept_from s m (g b) (f m) (h m))

  kept_set : (k : Local) → k.number ≢ t → (v : Val) (f : Store → Out) → ((m : Store) → Kept m (f m)) → (s : Store) → Kept s (f (put s k.number (Has v)))
  kept_set k h v f g s = kept_from s (put s k.number (Has v)) (other_put k.number (Has v) s h) (f (put s k.number (Has v))) (g (put s k.number (Has v)))

  kept_assigned_in : (k : Local) → k.number ≢ t → (o : Option Name) (way : List Pick) (v : Val) (f : Store → Out) → ((m : Store) → Kept m (f m)) → (s : Store) → Kept s (assigned_in k o way v f s)
  kept_assigned_in k h o way v f g s =
      kept_holding (s k.number) _ (λ old. kept_replies (replaced way (became o v) old) _ (λ new. kept_set k h new f g)) s

  kept_assigned : (k : Local) → k.number ≢ t → (o : Option Name) (way : List Pick) (v : Val) (f : Store → Out) → ((m : Store) → Kept m (f m)) → (s : Store) → Kept s (assigned k o way v f s)
  kept_assigned k h None [] v f g s = kept_set k h v f g s
  kept_assigned k h None (pick ∷ way) v f g s = kept_assigned_in k h None (pick ∷ way) v f g s
  kept_assigned k h (Some o) way v f g s = kept_assigned_in k h (Some o) way v f g s

  module _ (w : World) (c : Calls) (still : w.moves t ≡ false) where
    moves_other : (k : ℕ) (lent : Bool) → (w.moves k && not lent) ≡ true → k ≢ t
    moves_other k lent h e = go (w.moves k) (ap w.moves e ∙ still) h
      where
        go : (b : Bool) → b ≡ false → (b && not lent) ≡ true → ⊥
        go true d g = cc
        go false d g = cc

    mutual
      kept_exp : (e : Exp) → EachExp (λ k. ⊤) (λ k. k ≢ t) e → (lent : Bool) (s : Store) → Kept s (run_exp w c e lent s)
      kept_exp (var k) h lent s = kept_read (w.moves k.number && not lent) k.number (moves_other k.number lent) (s k.number) s
      kept_exp (lit n) h lent s = refl
      kept_exp (truth b) h lent s = refl
      kept_exp unit h lent s = refl
      kept_exp (const name) h lent s = kept_given (w.constants name) s
      kept_exp (tuple es) h lent s = kept_exps es h none_lent _ (λ vs m. refl) s
      kept_exp (list es) h lent s = kept_exps es h none_lent _ (λ vs m. refl) s
      kept_exp (ctor u name es) h lent s = kept_exps es h none_lent _ (λ vs. kept_given (built (ctor_named w.types u name) vs)) s
      kept_exp (op name es) h lent s = kept_exps es h (operand_lent name) _ (λ vs. kept_replies (applied name vs) give (λ v m. refl)) s
      kept_exp (call f es) h lent s = kept_exps es h (w.lent f) _ (λ vs. kept_called [] tt (c f vs)) s
      kept_exp (and a b) h lent s =
          kept_follow s (run_exp w c a false s) (kept_exp a h.0 false s) _ (λ v m. kept_choose m v (run_exp w c b false m) (give (Truth false) m) (kept_exp b h.1 false m) refl)
      kept_exp (or a b) h lent s =
          kept_follow s (run_exp w c a false s) (kept_exp a h.0 false s) _ (λ v m. kept_choose m v (give (Truth true) m) (run_exp w c b false m) refl (kept_exp b h.1 false m))
      kept_exp (in_side r) h lent s = kept_rhs r h s
      kept_exp (exit e) h lent s = kept_follow s (run_exp w c e false s) (kept_exp e h false s) _ (λ v m. refl)
      kept_exp (cont e) h lent s = kept_follow s (run_exp w c e false s) (kept_exp e h false s) _ (λ v m. refl)

      kept_exps : (es : Exps) → EachExps (λ k. ⊤) (λ k. k ≢ t) es → (lent : ℕ → Bool) (k : List Val → Store → Out) → ((vs : List Val) (m : Store) → Kept m (k vs m)) → (s : Store) → Kept s (run_exps w c es lent k s)
      kept_exps no_exps h lent k q s = q [] s
      kept_exps (exp e es) h lent k q s =
          kept_follow s (run_exp w c e (lent 0) s) (kept_exp e h.0 (lent 0) s) _ (λ v. kept_exps es h.1 (λ i. lent (suc i)) _ (λ vs. q (v ∷ vs)))

      kept_args : (es : Args) → EachArgs (λ k. ⊤) (λ k. k ≢ t) es → (lent : ℕ → Bool) (k : List Val → Store → Out) → ((vs : List Val) (m : Store) → Kept m (k vs m)) → (s : Store) → Kept s (run_args w c es lent k s)
      kept_args no_args h lent k q s = q [] s
      kept_args (arg e es) h lent k q s =
          kept_follow s (run_exp w c e (lent 0) s) (kept_exp e h.0 (lent 0) s) _ (λ v. kept_args es h.1 (λ i. lent (suc i)) _ (λ vs. q (v ∷ vs)))
      kept_args (lend y es) h lent k q s = kept_holding (s y.number) _ (λ v. kept_args es h.1 (λ i. lent (suc i)) _ (λ vs. q (v ∷ vs))) s

      kept_rhs : (r : Rhs) → EachRhs (λ k. ⊤) (λ k. k ≢ t) r → (s : Store) → Kept s (run_rhs w c r s)
      kept_rhs (plain e) h s = kept_exp e h false s
      kept_rhs (if_else e a b) h s =
          kept_follow s (run_exp w c e false s) (kept_exp e h.0 false s) _ (λ v m. kept_choose m v (run_block w c a m) (run_block w c b m) (kept_block a h.1 m) (kept_block b h.2 m))
      kept_rhs (match_on e xs) h s = kept_follow s (run_exp w c e false s) (kept_exp e h.0 false s) _ (λ v. kept_arms xs h.1 v)
      kept_rhs (block b) h s = kept_block b h s
      kept_rhs (lendcall f es) h s = kept_args es h (w.lent f) _ (λ vs. kept_called (lent_by es) (lent_others es h) (c f vs)) s
      kept_rhs (quest e) h s = kept_follow s (run_exp w c e false s) (kept_exp e h false s) _ kept_asked
      kept_rhs (forcf i lo hi b) h s =
          kept_follow s (run_exp w c lo false s) (kept_exp lo h.1 false s) _ (λ y m. kept_follow m (run_exp w c hi false m) (kept_exp hi h.2 false m) _ (λ z m'.
          kept_from_to m' y z _ (λ a n. kept_turns_cf _ (λ j. kept_number i j _ (kept_block b h.3)) n a m')))
      kept_rhs (carry how i lo hi first p b) h s =
          kept_follow s (run_exp w c lo false s) (kept_exp lo h.1 false s) _ (λ y m. kept_follow m (run_exp w c hi false m) (kept_exp hi h.2 false m) _ (λ z m'.
          kept_follow m' (run_exp w c first false m') (kept_exp first h.3 false m') _ (λ v m''.
          kept_from_to m'' y z _ (λ a n. kept_rounds how _ (λ j u. kept_number i j _ (kept_bound w p u _ (kept_block b h.5))) n a v m''))))

      kept_arms : (xs : Arms) → EachArms (λ k. ⊤) (λ k. k ≢ t) xs → (v : Val) (s : Store) → Kept s (run_arms w c xs v s)
      kept_arms no_arms h v s = tt
      kept_arms (arm p b xs) h v s = kept_fits w p v s (run_block w c b) (run_arms w c xs v s) (kept_block b h.1) (kept_arms xs h.2 v s)

      kept_steps : (steps : Steps) → EachSteps (λ k. ⊤) (λ k. k ≢ t) steps → (k : List Pick → Store → Out) → ((way : List Pick) (m : Store) → Kept m (k way m)) → (s : Store) → Kept s (run_steps w c steps k s)
      kept_steps here h k q s = q [] s
      kept_steps (at e steps) h k q s = kept_follow s (run_exp w c e false s) (kept_exp e h.0 false s) _ (λ v. kept_steps steps h.1 _ (λ way. q (item v ∷ way)))
      kept_steps (part i steps) h k q s = kept_steps steps h _ (λ way. q (part_no i ∷ way)) s

      kept_block : (b : Block) → EachBlock (λ k. ⊤) (λ k. k ≢ t) b → (s : Store) → Kept s (run_block w c b s)
      kept_block (let_in p r b) h s = kept_follow s (run_rhs w c r s) (kept_rhs r h.1 s) _ (λ v. kept_bound w p v _ (kept_block b h.2))
      kept_block (do_in r b) h s = kept_follow s (run_rhs w c r s) (kept_rhs r h.0 s) _ (λ v. kept_block b h.1)
      kept_block (set_in k r b) h s = kept_follow s (run_rhs w c r s) (kept_rhs r h.1 s) _ (λ v. kept_set k h.0 v _ (kept_block b h.2))
      kept_block (place_in o k steps r b) h s =
          kept_follow s (run_rhs w c r s) (kept_rhs r h.1 s) _ (λ v. kept_steps steps h.2 _ (λ way. kept_assigned k h.0 o way v _ (kept_block b h.3)))
      kept_block (for_in i lo hi body b) h s =
          kept_follow s
          (follow (run_exp w c lo false s) (λ y m. follow (run_exp w c hi false m) (λ z m'. from_to y z (λ a n. turns_of (λ j. with_number i j (run_block w c body)) a n m'))))
          (kept_follow s (run_exp w c lo false s) (kept_exp lo h.1 false s) _ (λ y m. kept_follow m (run_exp w c hi false m) (kept_exp hi h.2 false m) _ (λ z m'.
          kept_from_to m' y z _ (λ a n. kept_turns _ (λ j. kept_number i j _ (kept_block body h.3)) n a m'))))
          _ (λ v. kept_block b h.4)
      kept_block (ends r) h s = kept_rhs r h s
      kept_block (returns e) h s = kept_follow s (run_exp w c e false s) (kept_exp e h false s) _ (λ v m. refl)
      kept_block (bind z p r b) h s =
          kept_follow s (run_rhs w c r s) (kept_rhs r h.1 s) _ (λ v m. kept_control m v _ _ (λ y. refl) (λ y. kept_bound w p y _ (kept_block b h.2) m))

-- a local that a block neither assigns nor lends, and that no read moves, is behind its run as it was before
pub unwritten_block : (w : World) (c : Calls) (b : Block) → UnwrittenStays w c b
unwritten_block w c b t still h s s' o n e = subst (λ (y : Out). Kept t s y) e (kept_block t w c still b h s)
