-- A local that a node does not name changes nothing in its run.
use Rattle.std.proofs.Common.{◌≡◌, ℕ, zero, suc, ◌-◌, Bool, true, false, ◌&&◌, not, cond, eqb, List, [], ◌∷◌, Option, Some, None, refl, sym, ap, ◌∙◌, arith}
use Rattle.std.proofs.Math.Path.{fun_ext}
use Rattle.std.proofs.lemmas.Bool.Decides.{nat_tests}
use Rattle.std.specs.Prelude.{◌≢◌, if◌then◌else◌}
use Rattle.std.specs.Bool.{⊤}
use Rattle.hs_values.specs.declared.types.TypeDef.{TypeDef}
use Rattle.hs_values.specs.declared.value.Sort.TheVariants as sort
use Rattle.hs_tree.specs.Plain.{Name, Local, Carrying, turns, turnscf, fold, foldcf, Pattern, binds, anything, parts, taken, Patterns, no_patterns, pattern, Exp, var, lit, truth, unit, const, tuple, list, ctor, op, call, and, or, in_side, exit, cont, Exps, no_exps, exp, Args, no_args, arg, lend, Rhs, plain, if_else, match_on, block, lendcall, quest, forcf, carry, Arms, no_arms, arm, Steps, here, at, part, Block, let_in, do_in, set_in, place_in, for_in, ends, returns, bind}
use Rattle.hs_control.specs.Control.{Val, Nothing, Truth, Number, Row, Tuple, Ctor, Exit, Cont, Vals, NoVals, Also, Reply, Is, Fails, NoReply, applied}
use Rattle.hs_tree.specs.Store.{Slot, Empty, Moved, Has, Store, put, among, back, Gives, Stops, Out, Stuck, Ran, value, panic, Back, NoCall, Ended, Calls}
use Rattle.hs_tree.specs.Match.{ctor_named, is_ctor, matched, matched_all, and_then, bound}
use Rattle.hs_tree.specs.Way.{Pick, item, part_no, replaced, became}
use Rattle.hs_tree.specs.World.{World, operand_lent, none_lent, built}
use Rattle.hs_tree.specs.Steps.{more, follow, give, leave, read, having_value, replies, given, at_store, choose, on_control, size_in, size, span, from_to, caught, turns_of, turns_cf, folds, folds_cf, asked, taken_back, tuple_back, back_in, gives_back, called}
use Rattle.hs_tree.specs.Run.{lent_by, rounds, with_bound, with_number, if_fits, assigned_in, assigned, run_exp, run_exps, run_args, run_rhs, run_arms, run_steps, run_block}
use Rattle.hs_tree.specs.Named.{EachPattern, EachPatterns, EachExp, EachExps, EachArgs, EachRhs, EachArms, EachSteps, EachBlock, slot, FreshChangesNothing}

pub put_swap : (t k : ℕ) (x y : Slot) (s : Store) → k ≢ t → put (put s t x) k y ≡ put (put s k y) t x
put_swap t k x y s h = fun_ext (λ j. grind (arith, nat_tests))

pub put_other : (t k : ℕ) (x : Slot) (s : Store) → k ≢ t → put s t x k ≡ s k
put_other t k x s h = grind (arith, nat_tests)

pub back_put : (ks : List ℕ) (t : ℕ) (x : Slot) (s s' : Store) → back ks (put s t x) (put s' t x) ≡ put (back ks s s') t x
back_put ks t x s s' = fun_ext (λ j. go (among j ks) (eqb j t) (s j) (s' j))
  where
    go : (m b : Bool) (y z : Slot) → cond m (cond b x y) (cond b x z) ≡ cond b x (cond m y z)
    go true true y z = refl
    go true false y z = refl
    go false true y z = refl
    go false false y z = refl

module _ (t : ℕ) (x : Slot) where
  slot_more : (n : ℕ) (y : Out) → slot t x (more n y) ≡ more n (slot t x y)
  slot_more n Stuck = refl
  slot_more n (Ran o s m) = refl

  slot_follow : (y : Out) (f g : Val → Store → Out) → ((v : Val) (s : Store) → f v (put s t x) ≡ slot t x (g v s)) → follow (slot t x y) f ≡ slot t x (follow y g)
  slot_follow Stuck f g h = refl
  slot_follow (Ran (Gives v) s n) f g h = ap (more n) (h v s) ∙ sym (slot_more n (g v s))
  slot_follow (Ran (Stops y) s n) f g h = refl

  -- the form that each node's proof takes
  pub slot_then : (z y : Out) (f g : Val → Store → Out) → z ≡ slot t x y → ((v : Val) (s : Store) → f v (put s t x) ≡ slot t x (g v s)) → follow z f ≡ slot t x (follow y g)
  slot_then z y f g e h = ap (λ o. follow o f) e ∙ slot_follow y f g h

  pub slot_leave : (ks : List ℕ) (s : Store) (z y : Out) → z ≡ slot t x y → leave ks (put s t x) z ≡ slot t x (leave ks s y)
  slot_leave ks s z y e = ap (leave ks (put s t x)) e ∙ go y
    where
      go : (y : Out) → leave ks (put s t x) (slot t x y) ≡ slot t x (leave ks s y)
      go Stuck = refl
      go (Ran o s' n) = ap (λ u. Ran o u n) (back_put ks t x s s')

  slot_read : (moving : Bool) (k : ℕ) → k ≢ t → (y : Slot) (s : Store) → read moving k y (put s t x) ≡ slot t x (read moving k y s)
  slot_read true k h Empty s = refl
  slot_read true k h Moved s = refl
  slot_read true k h (Has v) s = ap (λ u. Ran (Gives v) u 0) (put_swap t k x Moved s h)
  slot_read false k h Empty s = refl
  slot_read false k h Moved s = refl
  slot_read false k h (Has v) s = refl

  slot_holding : (y : Slot) (f : Val → Store → Out) → ((v : Val) (s : Store) → f v (put s t x) ≡ slot t x (f v s)) → (s : Store) → having_value y f (put s t x) ≡ slot t x (having_value y f s)
  slot_holding Empty f h s = refl
  slot_holding Moved f h s = refl
  slot_holding (Has v) f h s = h v s

  slot_replies : (r : Reply) (f : Val → Store → Out) → ((v : Val) (s : Store) → f v (put s t x) ≡ slot t x (f v s)) → (s : Store) → replies r f (put s t x) ≡ slot t x (replies r f s)
  slot_replies (Is v) f h s = h v s
  slot_replies (Fails p) f h s = refl
  slot_replies NoReply f h s = refl

  slot_given : (o : Option Val) (s : Store) → given o give (put s t x) ≡ slot t x (given o give s)
  slot_given None s = refl
  slot_given (Some v) s = refl

  slot_choose : (v : Val) (y z y' z' : Out) → y' ≡ slot t x y → z' ≡ slot t x z → choose v y' z' ≡ slot t x (choose v y z)
  slot_choose (Truth true) y z y' z' d e = d
  slot_choose (Truth false) y z y' z' d e = e
  slot_choose Nothing y z y' z' d e = refl
  slot_choose (Number n) y z y' z' d e = refl
  slot_choose (Row vs) y z y' z' d e = refl
  slot_choose (Tuple vs) y z y' z' d e = refl
  slot_choose (Ctor a b vs) y z y' z' d e = refl
  slot_choose (Exit v) y z y' z' d e = refl
  slot_choose (Cont v) y z y' z' d e = refl

  slot_control : (v : Val) (e k e' k' : Val → Out) → ((w : Val) → e' w ≡ slot t x (e w)) → ((w : Val) → k' w ≡ slot t x (k w)) → on_control v e' k' ≡ slot t x (on_control v e k)
  slot_control (Exit w) e k e' k' f g = f w
  slot_control (Cont w) e k e' k' f g = g w
  slot_control Nothing e k e' k' f g = refl
  slot_control (Truth b) e k e' k' f g = refl
  slot_control (Number n) e k e' k' f g = refl
  slot_control (Row vs) e k e' k' f g = refl
  slot_control (Tuple vs) e k e' k' f g = refl
  slot_control (Ctor a b vs) e k e' k' f g = refl

  slot_span : (a b : Option ℕ) (f g : ℕ → ℕ → Out) → ((a n : ℕ) → f a n ≡ slot t x (g a n)) → span a b f ≡ slot t x (span a b g)
  slot_span None b f g h = refl
  slot_span (Some a) None f g h = refl
  slot_span (Some a) (Some b) f g h = h a (b - a)

  slot_from_to : (v w : Val) (f g : ℕ → ℕ → Out) → ((a n : ℕ) → f a n ≡ slot t x (g a n)) → from_to v w f ≡ slot t x (from_to v w g)
  slot_from_to v w f g h = slot_span (size_in v) (size_in w) f g h

  slot_caught : (z y : Out) → z ≡ slot t x y → caught z ≡ slot t x (caught y)
  slot_caught z y e = ap caught e ∙ go y
    where
      go : (y : Out) → caught (slot t x y) ≡ slot t x (caught y)
      go Stuck = refl
      go (Ran (Gives v) s n) = refl
      go (Ran (Stops w) s n) = refl

  slot_turns : (body : ℕ → Store → Out) → ((j : ℕ) (s : Store) → body j (put s t x) ≡ slot t x (body j s)) → (n i : ℕ) (s : Store) → turns_of body i n (put s t x) ≡ slot t x (turns_of body i n s)
  slot_turns body h zero i s = refl
  slot_turns body h (suc n) i s =
      ap (more 1) (slot_then (caught (body i (put s t x))) (caught (body i s)) _ (λ v m. on_control v (λ w. give Nothing m) (λ w. turns_of body (suc i) n m)) (slot_caught _ (body i s) (h i s)) (λ v m. slot_control v _ _ _ _ (λ w. refl) (λ w. slot_turns body h n (suc i) m)))
      ∙ sym (slot_more 1 (follow (caught (body i s)) (λ v m. on_control v (λ w. give Nothing m) (λ w. turns_of body (suc i) n m))))

  slot_turns_cf : (body : ℕ → Store → Out) → ((j : ℕ) (s : Store) → body j (put s t x) ≡ slot t x (body j s)) → (n i : ℕ) (s : Store) → turns_cf body i n (put s t x) ≡ slot t x (turns_cf body i n s)
  slot_turns_cf body h zero i s = refl
  slot_turns_cf body h (suc n) i s =
      ap (more 1) (slot_then _ (body i s) _ (λ v m. on_control v (λ w. give (Exit w) m) (λ w. turns_cf body (suc i) n m)) (h i s) (λ v m. slot_control v _ _ _ _ (λ w. refl) (λ w. slot_turns_cf body h n (suc i) m)))
      ∙ sym (slot_more 1 (follow (body i s) (λ v m. on_control v (λ w. give (Exit w) m) (λ w. turns_cf body (suc i) n m))))

  slot_folds : (body : ℕ → Val → Store → Out) → ((j : ℕ) (a : Val) (s : Store) → body j a (put s t x) ≡ slot t x (body j a s)) → (n i : ℕ) (a : Val) (s : Store) → folds body i n a (put s t x) ≡ slot t x (folds body i n a s)
  slot_folds body h zero i a s = refl
  slot_folds body h (suc n) i a s =
      ap (more 1) (slot_then _ (body i a s) _ (λ v m. folds body (suc i) n v m) (h i a s) (λ v m. slot_folds body h n (suc i) v m))
      ∙ sym (slot_more 1 (follow (body i a s) (λ v m. folds body (suc i) n v m)))

  slot_folds_cf : (body : ℕ → Val → Store → Out) → ((j : ℕ) (a : Val) (s : Store) → body j a (put s t x) ≡ slot t x (body j a s)) → (n i : ℕ) (a : Val) (s : Store) → folds_cf body i n a (put s t x) ≡ slot t x (folds_cf body i n a s)
  slot_folds_cf body h zero i a s = refl
  slot_folds_cf body h (suc n) i a s =
      ap (more 1) (slot_then _ (body i a s) _ (λ v m. on_control v (λ w. give (Exit w) m) (λ w. folds_cf body (suc i) n w m)) (h i a s) (λ v m. slot_control v _ _ _ _ (λ w. refl) (λ w. slot_folds_cf body h n (suc i) w m)))
      ∙ sym (slot_more 1 (follow (body i a s) (λ v m. on_control v (λ w. give (Exit w) m) (λ w. folds_cf body (suc i) n w m))))

  slot_rounds : (how : Carrying) (body : ℕ → Val → Store → Out) → ((j : ℕ) (a : Val) (s : Store) → body j a (put s t x) ≡ slot t x (body j a s)) → (n i : ℕ) (a : Val) (s : Store) → rounds how body i n a (put s t x) ≡ slot t x (rounds how body i n a s)
  slot_rounds turns = slot_folds
  slot_rounds fold = slot_folds
  slot_rounds turnscf = slot_folds_cf
  slot_rounds foldcf = slot_folds_cf

  slot_asked : (v : Val) (s : Store) → asked v (put s t x) ≡ slot t x (asked v s)
  slot_asked (Ctor sort.Result zero NoVals) s = refl
  slot_asked (Ctor sort.Result zero (Also v NoVals)) s = refl
  slot_asked (Ctor sort.Result zero (Also v (Also w vs))) s = refl
  slot_asked (Ctor sort.Result (suc zero) NoVals) s = refl
  slot_asked (Ctor sort.Result (suc zero) (Also v NoVals)) s = refl
  slot_asked (Ctor sort.Result (suc zero) (Also v (Also w vs))) s = refl
  slot_asked (Ctor sort.Result (suc (suc n)) NoVals) s = refl
  slot_asked (Ctor sort.Result (suc (suc n)) (Also v NoVals)) s = refl
  slot_asked (Ctor sort.Result (suc (suc n)) (Also v (Also w vs))) s = refl
  slot_asked (Ctor sort.Option n vs) s = refl
  slot_asked (Ctor (sort.Named k) n vs) s = refl
  slot_asked Nothing s = refl
  slot_asked (Truth b) s = refl
  slot_asked (Number n) s = refl
  slot_asked (Row vs) s = refl
  slot_asked (Tuple vs) s = refl
  slot_asked (Exit v) s = refl
  slot_asked (Cont v) s = refl

  -- numbers other than that of the local
  abbrev Others : List ℕ → Type 0
  Others [] = ⊤
  Others (k ∷ ks) = (k ≢ t) × Others ks

  lent_others : (es : Args) → EachArgs (λ k. k ≢ t) (λ k. k ≢ t) es → Others (lent_by es)
  lent_others no_args h = tt
  lent_others (arg e es) h = lent_others es h.1
  lent_others (lend k es) h = (h.0, lent_others es h.1)

  -- the same store and value, with the slot written
  abbrev slot_pair : Option (Store × Val) → Option (Store × Val)
  slot_pair None = None
  slot_pair (Some y) = Some (put y.0 t x, y.1)

  slot_taken : (ks : List ℕ) → Others ks → (vs : Vals) (s : Store) → taken_back ks vs (put s t x) ≡ slot_pair (taken_back ks vs s)
  slot_taken [] h NoVals s = refl
  slot_taken [] h (Also v NoVals) s = refl
  slot_taken [] h (Also v (Also w vs)) s = refl
  slot_taken (k ∷ ks) h NoVals s = refl
  slot_taken (k ∷ ks) h (Also v vs) s =
      ap (taken_back ks vs) (put_swap t k x (Has v) s h.0) ∙ slot_taken ks h.1 vs (put s k (Has v))

  slot_tuple : (ks : List ℕ) → Others ks → (v : Val) (s : Store) → tuple_back ks v (put s t x) ≡ slot_pair (tuple_back ks v s)
  slot_tuple ks h (Tuple vs) s = slot_taken ks h vs s
  slot_tuple ks h Nothing s = refl
  slot_tuple ks h (Truth b) s = refl
  slot_tuple ks h (Number n) s = refl
  slot_tuple ks h (Row vs) s = refl
  slot_tuple ks h (Ctor a b vs) s = refl
  slot_tuple ks h (Exit v) s = refl
  slot_tuple ks h (Cont v) s = refl

  slot_back : (ks : List ℕ) → Others ks → (v : Val) (s : Store) → back_in ks v (put s t x) ≡ slot_pair (back_in ks v s)
  slot_back [] h v s = refl
  slot_back (k ∷ ks) h v s = slot_tuple (k ∷ ks) h v s

  slot_gives : (o : Option (Store × Val)) (n : ℕ) → gives_back (slot_pair o) n ≡ slot t x (gives_back o n)
  slot_gives None n = refl
  slot_gives (Some y) n = refl

  slot_called : (ks : List ℕ) → Others ks → (b : Back) (s : Store) → called ks b (put s t x) ≡ slot t x (called ks b s)
  slot_called ks h NoCall s = refl
  slot_called ks h (Ended (value v) n) s = ap (λ o. gives_back o n) (slot_back ks h v s) ∙ slot_gives (back_in ks v s) n
  slot_called ks h (Ended (panic p) n) s = refl

  abbrev slot_store : Option Store → Option Store
  slot_store None = None
  slot_store (Some s) = Some (put s t x)

  module _ (table : List TypeDef) where
    mutual
      slot_matched : (p : Pattern) → EachPattern (λ k. k ≢ t) (λ k. k ≢ t) p → (v : Val) (s : Store) → matched table p v (put s t x) ≡ slot_store (matched table p v s)
      slot_matched (binds k) h v s = ap Some (put_swap t k.number x (Has v) s h)
      slot_matched anything h v s = refl
      slot_matched (parts ps) h (Tuple vs) s = slot_matched_all ps h vs s
      slot_matched (parts ps) h Nothing s = refl
      slot_matched (parts ps) h (Truth b) s = refl
      slot_matched (parts ps) h (Number n) s = refl
      slot_matched (parts ps) h (Row vs) s = refl
      slot_matched (parts ps) h (Ctor a b vs) s = refl
      slot_matched (parts ps) h (Exit v) s = refl
      slot_matched (parts ps) h (Cont v) s = refl
      slot_matched (taken u name ps) h (Ctor a b vs) s = either (is_ctor (ctor_named table u name) a b) _ _ (slot_matched_all ps h vs s)
        where
          either : (c : Bool) (y z : Option Store) → y ≡ slot_store z → (if c then y else None) ≡ slot_store (if c then z else None)
          either true y z e = e
          either false y z e = refl
      slot_matched (taken u name ps) h Nothing s = refl
      slot_matched (taken u name ps) h (Truth b) s = refl
      slot_matched (taken u name ps) h (Number n) s = refl
      slot_matched (taken u name ps) h (Row vs) s = refl
      slot_matched (taken u name ps) h (Tuple vs) s = refl
      slot_matched (taken u name ps) h (Exit v) s = refl
      slot_matched (taken u name ps) h (Cont v) s = refl

      slot_matched_all : (ps : Patterns) → EachPatterns (λ k. k ≢ t) (λ k. k ≢ t) ps → (vs : Vals) (s : Store) → matched_all table ps vs (put s t x) ≡ slot_store (matched_all table ps vs s)
      slot_matched_all no_patterns h NoVals s = refl
      slot_matched_all no_patterns h (Also v vs) s = refl
      slot_matched_all (pattern p ps) h NoVals s = refl
      slot_matched_all (pattern p ps) h (Also v vs) s =
          ap (λ o. and_then o (matched_all table ps vs)) (slot_matched p h.0 v s) ∙ rest (matched table p v s) (slot_matched_all ps h.1 vs)
        where
          rest : (o : Option Store) → ((m : Store) → matched_all table ps vs (put m t x) ≡ slot_store (matched_all table ps vs m)) → and_then (slot_store o) (matched_all table ps vs) ≡ slot_store (and_then o (matched_all table ps vs))
          rest None f = refl
          rest (Some m) f = f m

  slot_at : (o : Option Store) (f : Store → Out) → ((s : Store) → f (put s t x) ≡ slot t x (f s)) → at_store (slot_store o) f ≡ slot t x (at_store o f)
  slot_at None f h = refl
  slot_at (Some m) f h = h m

  slot_bound : (w : World) (p : Pattern) → EachPattern (λ k. k ≢ t) (λ k. k ≢ t) p → (v : Val) (f : Store → Out) → ((s : Store) → f (put s t x) ≡ slot t x (f s)) → (s : Store) → with_bound w p v f (put s t x) ≡ slot t x (with_bound w p v f s)
  slot_bound w p h v f g s =
      slot_leave (bound p) s _ (at_store (matched w.types p v s) f) (ap (λ o. at_store o f) (slot_matched w.types p h v s) ∙ slot_at (matched w.types p v s) f g)

  slot_number : (i : Local) → i.number ≢ t → (j : ℕ) (f : Store → Out) → ((s : Store) → f (put s t x) ≡ slot t x (f s)) → (s : Store) → with_number i j f (put s t x) ≡ slot t x (with_number i j f s)
  slot_number i h j f g s =
      slot_leave (i.number ∷ []) s _ (f (put s i.number (Has (size j)))) (ap f (put_swap t i.number x (Has (size j)) s h) ∙ g (put s i.number (Has (size j))))

  slot_fits : (o : Option Store) (ks : List ℕ) (s : Store) (f : Store → Out) (y z : Out) → ((m : Store) → f (put m t x) ≡ slot t x (f m)) → z ≡ slot t x y → if_fits (slot_store o) ks (put s t x) f z ≡ slot t x (if_fits o ks s f y)
  slot_fits None ks s f y z h e = e
  slot_fits (Some m) ks s f y z h e = slot_leave ks s (f (put m t x)) (f m) (h m)

  slot_set : (k : Local) → k.number ≢ t → (v : Val) (f : Store → Out) → ((s : Store) → f (put s t x) ≡ slot t x (f s)) → (s : Store) → f (put (put s t x) k.number (Has v)) ≡ slot t x (f (put s k.number (Has v)))
  slot_set k h v f g s = ap f (put_swap t k.number x (Has v) s h) ∙ g (put s k.number (Has v))

  slot_assigned_in : (k : Local) → k.number ≢ t → (o : Option Name) (way : List Pick) (v : Val) (f : Store → Out) → ((s : Store) → f (put s t x) ≡ slot t x (f s)) → (s : Store) → assigned_in k o way v f (put s t x) ≡ slot t x (assigned_in k o way v f s)
  slot_assigned_in k h o way v f g s =
      ap (λ y. having_value y (λ old. replies (replaced way (became o v) old) (λ new m. f (put m k.number (Has new)))) (put s t x)) (put_other t k.number x s h)
      ∙ slot_holding (s k.number) _ (λ old. slot_replies (replaced way (became o v) old) _ (λ new. slot_set k h new f g)) s

  slot_assigned : (k : Local) → k.number ≢ t → (o : Option Name) (way : List Pick) (v : Val) (f : Store → Out) → ((s : Store) → f (put s t x) ≡ slot t x (f s)) → (s : Store) → assigned k o way v f (put s t x) ≡ slot t x (assigned k o way v f s)
  slot_assigned k h None [] v f g s = slot_set k h v f g s
  slot_assigned k h None (pick ∷ way) v f g s = slot_assigned_in k h None (pick ∷ way) v f g s
  slot_assigned k h (Some o) way v f g s = slot_assigned_in k h (Some o) way v f g s

  module _ (w : World) (c : Calls) where
    mutual
      pub slot_exp : (e : Exp) → EachExp (λ k. k ≢ t) (λ k. k ≢ t) e → (lent : Bool) (s : Store) → run_exp w c e lent (put s t x) ≡ slot t x (run_exp w c e lent s)
      slot_exp (var k) h lent s =
          ap (λ y. read (w.moves k.number && not lent) k.number y (put s t x)) (put_other t k.number x s h)
          ∙ slot_read (w.moves k.number && not lent) k.number h (s k.number) s
      slot_exp (lit n) h lent s = refl
      slot_exp (truth b) h lent s = refl
      slot_exp unit h lent s = refl
      slot_exp (const name) h lent s = slot_given (w.constants name) s
      slot_exp (tuple es) h lent s = slot_exps es h none_lent _ (λ vs m. refl) s
      slot_exp (list es) h lent s = slot_exps es h none_lent _ (λ vs m. refl) s
      slot_exp (ctor u name es) h lent s = slot_exps es h none_lent _ (λ vs. slot_given (built (ctor_named w.types u name) vs)) s
      slot_exp (op name es) h lent s = slot_exps es h (operand_lent name) _ (λ vs. slot_replies (applied name vs) give (λ v m. refl)) s
      slot_exp (call f es) h lent s = slot_exps es h (w.lent f) _ (λ vs. slot_called [] tt (c f vs)) s
      slot_exp (and a b) h lent s =
          slot_then _ (run_exp w c a false s) _ _ (slot_exp a h.0 false s) (λ v m. slot_choose v (run_exp w c b false m) (give (Truth false) m) _ _ (slot_exp b h.1 false m) refl)
      slot_exp (or a b) h lent s =
          slot_then _ (run_exp w c a false s) _ _ (slot_exp a h.0 false s) (λ v m. slot_choose v (give (Truth true) m) (run_exp w c b false m) _ _ refl (slot_exp b h.1 false m))
      slot_exp (in_side r) h lent s = slot_rhs r h s
      slot_exp (exit e) h lent s = slot_then _ (run_exp w c e false s) _ _ (slot_exp e h false s) (λ v m. refl)
      slot_exp (cont e) h lent s = slot_then _ (run_exp w c e false s) _ _ (slot_exp e h false s) (λ v m. refl)

      slot_exps : (es : Exps) → EachExps (λ k. k ≢ t) (λ k. k ≢ t) es → (lent : ℕ → Bool) (k : List Val → Store → Out) → ((vs : List Val) (s : Store) → k vs (put s t x) ≡ slot t x (k vs s)) → (s : Store) → run_exps w c es lent k (put s t x) ≡ slot t x (run_exps w c es lent k s)
      slot_exps no_exps h lent k q s = q [] s
      slot_exps (exp e es) h lent k q s =
          slot_then _ (run_exp w c e (lent 0) s) _ _ (slot_exp e h.0 (lent 0) s) (λ v. slot_exps es h.1 (λ i. lent (suc i)) _ (λ vs. q (v ∷ vs)))

      slot_args : (es : Args) → EachArgs (λ k. k ≢ t) (λ k. k ≢ t) es → (lent : ℕ → Bool) (k : List Val → Store → Out) → ((vs : List Val) (s : Store) → k vs (put s t x) ≡ slot t x (k vs s)) → (s : Store) → run_args w c es lent k (put s t x) ≡ slot t x (run_args w c es lent k s)
      slot_args no_args h lent k q s = q [] s
      slot_args (arg e es) h lent k q s =
          slot_then _ (run_exp w c e (lent 0) s) _ _ (slot_exp e h.0 (lent 0) s) (λ v. slot_args es h.1 (λ i. lent (suc i)) _ (λ vs. q (v ∷ vs)))
      slot_args (lend y es) h lent k q s =
          ap (λ z. having_value z (λ v. run_args w c es (λ i. lent (suc i)) (λ vs. k (v ∷ vs))) (put s t x)) (put_other t y.number x s h.0)
          ∙ slot_holding (s y.number) _ (λ v. slot_args es h.1 (λ i. lent (suc i)) _ (λ vs. q (v ∷ vs))) s

      pub slot_rhs : (r : Rhs) → EachRhs (λ k. k ≢ t) (λ k. k ≢ t) r → (s : Store) → run_rhs w c r (put s t x) ≡ slot t x (run_rhs w c r s)
      slot_rhs (plain e) h s = slot_exp e h false s
      slot_rhs (if_else e a b) h s =
          slot_then _ (run_exp w c e false s) _ _ (slot_exp e h.0 false s) (λ v m. slot_choose v (run_block w c a m) (run_block w c b m) _ _ (slot_block a h.1 m) (slot_block b h.2 m))
      slot_rhs (match_on e xs) h s = slot_then _ (run_exp w c e false s) _ _ (slot_exp e h.0 false s) (λ v. slot_arms xs h.1 v)
      slot_rhs (block b) h s = slot_block b h s
      slot_rhs (lendcall f es) h s = slot_args es h (w.lent f) _ (λ vs. slot_called (lent_by es) (lent_others es h) (c f vs)) s
      slot_rhs (quest e) h s = slot_then _ (run_exp w c e false s) _ _ (slot_exp e h false s) slot_asked
      slot_rhs (forcf i lo hi b) h s =
          slot_then _ (run_exp w c lo false s) _ _ (slot_exp lo h.1 false s) (λ y m. slot_then _ (run_exp w c hi false m) _ _ (slot_exp hi h.2 false m) (λ z m'.
          slot_from_to y z _ _ (λ a n. slot_turns_cf _ (λ j. slot_number i h.0 j _ (slot_block b h.3)) n a m')))
      slot_rhs (carry how i lo hi first p b) h s =
          slot_then _ (run_exp w c lo false s) _ _ (slot_exp lo h.1 false s) (λ y m. slot_then _ (run_exp w c hi false m) _ _ (slot_exp hi h.2 false m) (λ z m'.
          slot_then _ (run_exp w c first false m') _ _ (slot_exp first h.3 false m') (λ v m''.
          slot_from_to y z _ _ (λ a n. slot_rounds how _ (λ j u. slot_number i h.0 j _ (slot_bound w p h.4 u _ (slot_block b h.5))) n a v m''))))

      slot_arms : (xs : Arms) → EachArms (λ k. k ≢ t) (λ k. k ≢ t) xs → (v : Val) (s : Store) → run_arms w c xs v (put s t x) ≡ slot t x (run_arms w c xs v s)
      slot_arms no_arms h v s = refl
      slot_arms (arm p b xs) h v s =
          ap (λ o. if_fits o (bound p) (put s t x) (run_block w c b) (run_arms w c xs v (put s t x))) (slot_matched w.types p h.0 v s)
          ∙ slot_fits (matched w.types p v s) (bound p) s (run_block w c b) (run_arms w c xs v s) _ (slot_block b h.1) (slot_arms xs h.2 v s)

      slot_steps : (steps : Steps) → EachSteps (λ k. k ≢ t) (λ k. k ≢ t) steps → (k : List Pick → Store → Out) → ((way : List Pick) (s : Store) → k way (put s t x) ≡ slot t x (k way s)) → (s : Store) → run_steps w c steps k (put s t x) ≡ slot t x (run_steps w c steps k s)
      slot_steps here h k q s = q [] s
      slot_steps (at e steps) h k q s = slot_then _ (run_exp w c e false s) _ _ (slot_exp e h.0 false s) (λ v. slot_steps steps h.1 _ (λ way. q (item v ∷ way)))
      slot_steps (part i steps) h k q s = slot_steps steps h _ (λ way. q (part_no i ∷ way)) s

      pub slot_block : (b : Block) → EachBlock (λ k. k ≢ t) (λ k. k ≢ t) b → (s : Store) → run_block w c b (put s t x) ≡ slot t x (run_block w c b s)
      slot_block (let_in p r b) h s = slot_then _ (run_rhs w c r s) _ _ (slot_rhs r h.1 s) (λ v. slot_bound w p h.0 v _ (slot_block b h.2))
      slot_block (do_in r b) h s = slot_then _ (run_rhs w c r s) _ _ (slot_rhs r h.0 s) (λ v. slot_block b h.1)
      slot_block (set_in k r b) h s = slot_then _ (run_rhs w c r s) _ _ (slot_rhs r h.1 s) (λ v. slot_set k h.0 v _ (slot_block b h.2))
      slot_block (place_in o k steps r b) h s =
          slot_then _ (run_rhs w c r s) _ _ (slot_rhs r h.1 s) (λ v. slot_steps steps h.2 _ (λ way. slot_assigned k h.0 o way v _ (slot_block b h.3)))
      slot_block (for_in i lo hi body b) h s =
          slot_then _
          (follow (run_exp w c lo false s) (λ y m. follow (run_exp w c hi false m) (λ z m'. from_to y z (λ a n. turns_of (λ j. with_number i j (run_block w c body)) a n m'))))
          _ _
          (slot_then _ (run_exp w c lo false s) _ _ (slot_exp lo h.1 false s) (λ y m. slot_then _ (run_exp w c hi false m) _ _ (slot_exp hi h.2 false m) (λ z m'.
          slot_from_to y z _ _ (λ a n. slot_turns _ (λ j. slot_number i h.0 j _ (slot_block body h.3)) n a m'))))
          (λ v. slot_block b h.4)
      slot_block (ends r) h s = slot_rhs r h s
      slot_block (returns e) h s = slot_then _ (run_exp w c e false s) _ _ (slot_exp e h false s) (λ v m. refl)
      slot_block (bind z p r b) h s =
          slot_then _ (run_rhs w c r s) _ _ (slot_rhs r h.1 s) (λ v m. slot_control v _ _ _ _ (λ y. refl) (λ y. slot_bound w p h.0 y _ (slot_block b h.2) m))

-- a local that a block does not name changes nothing, and is not changed
pub fresh_block : (w : World) (c : Calls) (b : Block) → FreshChangesNothing w c b
fresh_block w c b t x h s = slot_block t x w c b h s
