-- The names of a pattern are those that have values where it fits.
use Rattle.std.proofs.Common.{◌≡◌, ℕ, List, [], ◌∷◌, ◌++◌, Option, Some, None, Bool, true, false, cond, refl, sym, ap, ◌∙◌}
use Rattle.std.specs.Prelude.{⊤, ◌||◌, is_some, if◌then◌else◌}
use Rattle.std.proofs.Math.Path.{fun_ext}
use Rattle.std.proofs.lemmas.Bool.{true≢false}
use Rattle.hs_values.specs.declared.value.Sort.TheVariants as sort
use Rattle.hs_control.specs.Control.{Val, Vals, NoVals, Also}
use Rattle.hs_em.specs.Plain.{Var, Pat, binds, anything, parts, taken, Pats, no_patterns, pattern, Arm, on_ctor, on_parts, on_none, on_holder, on_any, TypeDef}
use Rattle.hs_em.specs.Headers.{member}
use Rattle.hs_em.specs.Match.{same_var, has_var, vars_of, all_vars, arm_vars, Env, unbound, only, first_of_two, over, both, with_parts, tuple_parts, made_parts, member_parts, holder_sort, holder_number, matched, matched_all, arm_matched}
use Rattle.hs_em.specs.Means.{without}

-- the locals of a list are those that have values
abbrev pub Covers : List Var → Env → Type 0
Covers xs s = (y : Var) → has_var y xs ≡ is_some (s y)

abbrev pub Covered : List Var → Option Env → Type 0
Covered xs None = ⊤
Covered xs (Some s) = Covers xs s

has_var-append : (y : Var) (xs ys : List Var) → has_var y (xs ++ ys) ≡ (has_var y xs || has_var y ys)
has_var-append y [] ys = refl
has_var-append y (x ∷ xs) ys = go (same_var x y) (has_var-append y xs ys)
  where
    go : (b : Bool) → has_var y (xs ++ ys) ≡ (has_var y xs || has_var y ys) → (b || has_var y (xs ++ ys)) ≡ ((b || has_var y xs) || has_var y ys)
    go true h = refl
    go false h = h

covers_only : (x : Var) (v : Val) → Covers (x ∷ []) (only x v)
covers_only x v y = go (same_var x y)
  where
    go : (b : Bool) → (b || false) ≡ is_some (if b then Some v else None)
    go true = refl
    go false = refl

covers_over : (xs ys : List Var) (s r : Env) → Covers xs s → Covers ys r → Covers (xs ++ ys) (over s r)
covers_over xs ys s r a b y =
    has_var-append y xs ys ∙ ap (λ p. p || has_var y ys) (a y) ∙ ap (λ q. is_some (s y) || q) (b y) ∙ go (s y) (r y)
  where
    go : (o q : Option Val) → (is_some o || is_some q) ≡ is_some (first_of_two o q)
    go None q = refl
    go (Some v) q = refl

covered_both : (xs ys : List Var) (s r : Option Env) → Covered xs s → Covered ys r → Covered (xs ++ ys) (both s r)
covered_both xs ys None r a b = tt
covered_both xs ys (Some s) None a b = tt
covered_both xs ys (Some s) (Some r) a b = covers_over xs ys s r a b

covered_parts : (xs : List Var) (o : Option Vals) (f : Vals → Option Env) → ((vs : Vals) → Covered xs (f vs)) → Covered xs (with_parts o f)
covered_parts xs None f h = tt
covered_parts xs (Some vs) f h = h vs

module _ (types : List TypeDef) where
  mutual
    pub covers : (p : Pat) (v : Val) → Covered (vars_of p) (matched types p v)
    covers (binds x) v = covers_only x v
    covers anything v = λ y. refl
    covers (parts ps) v = covered_parts (all_vars ps) (tuple_parts v) (matched_all types ps) (covers_all ps)
    covers (taken t name ps) v = covered_parts (all_vars ps) (member_parts (member types t name) v) (matched_all types ps) (covers_all ps)

    pub covers_all : (ps : Pats) (vs : Vals) → Covered (all_vars ps) (matched_all types ps vs)
    covers_all no_patterns NoVals = λ y. refl
    covers_all no_patterns (Also v vs) = tt
    covers_all (pattern p ps) NoVals = tt
    covers_all (pattern p ps) (Also v vs) =
        covered_both (vars_of p) (all_vars ps) (matched types p v) (matched_all types ps vs) (covers p v) (covers_all ps vs)

  no_vars : (vs : Vals) → Covered [] (matched_all types no_patterns vs)
  no_vars vs = covers_all no_patterns vs

  one_pattern : (p : Pat) (vs : Vals) → Covered (vars_of p) (matched_all types (pattern p no_patterns) vs)
  one_pattern p NoVals = tt
  one_pattern p (Also v NoVals) = go (matched types p v) (covers p v)
    where
      go : (o : Option Env) → Covered (vars_of p) o → Covered (vars_of p) (both o (Some unbound))
      go None h = tt
      go (Some s) h = λ y. h y ∙ last (s y)
        where
          last : (q : Option Val) → is_some q ≡ is_some (first_of_two q None)
          last None = refl
          last (Some w) = refl
  one_pattern p (Also v (Also w vs)) = go (matched types p v)
    where
      go : (o : Option Env) → Covered (vars_of p) (both o None)
      go None = tt
      go (Some s) = tt

  pub covers_arm : (a : Arm) (v : Val) → Covered (arm_vars a) (arm_matched types a v)
  covers_arm (on_ctor t name) v = covered_parts [] (member_parts (member types t name) v) (matched_all types no_patterns) no_vars
  covers_arm (on_parts t name ps) v =
      covered_parts (all_vars ps) (member_parts (member types t name) v) (matched_all types ps) (covers_all ps)
  covers_arm on_none v = covered_parts [] (made_parts sort.Option 0 v) (matched_all types no_patterns) no_vars
  covers_arm (on_holder h p) v =
      covered_parts (vars_of p) (made_parts (holder_sort h) (holder_number h) v) (matched_all types (pattern p no_patterns)) (one_pattern p)
  covers_arm on_any v = λ y. refl

-- what is hidden may be left out
pub hidden : (xs : List Var) (m s r : Env) → Covers xs m → over (without xs s) (over m r) ≡ over m (over s r)
hidden xs m s r c = fun_ext (λ y. go y (has_var y xs) (m y) (c y))
  where
    go : (y : Var) (b : Bool) (o : Option Val) → b ≡ is_some o → first_of_two (cond b None (s y)) (first_of_two o (r y)) ≡ first_of_two o (first_of_two (s y) (r y))
    go y true (Some v) e = refl
    go y false None e = refl
    go y true None e = absurd (true≢false e)
    go y false (Some v) e = absurd (true≢false (sym e))

-- one behind the other
pub over_over : (m o r : Env) → over (over m o) r ≡ over m (over o r)
over_over m o r = fun_ext (λ y. go (m y) (o y) (r y))
  where
    go : (a b c : Option Val) → first_of_two (first_of_two a b) c ≡ first_of_two a (first_of_two b c)
    go None b c = refl
    go (Some v) b c = refl

-- behind a fold's pattern and its local
pub hidden_twice : (xs : List Var) (x : Var) (v : Val) (m s r : Env) → Covers xs m → over (without xs (without (x ∷ []) s)) (over (over m (only x v)) r) ≡ over (over m (only x v)) (over s r)
hidden_twice xs x v m s r c =
    ap (over (without xs (without (x ∷ []) s))) (over_over m (only x v) r)
    ∙ hidden xs m (without (x ∷ []) s) (over (only x v) r) c
    ∙ ap (over m) (hidden (x ∷ []) (only x v) s r (covers_only x v))
    ∙ sym (over_over m (only x v) (over s r))

-- nothing behind
pub over_unbound : (s : Env) → over s unbound ≡ s
over_unbound s = fun_ext (λ y. go (s y))
  where
    go : (o : Option Val) → first_of_two o None ≡ o
    go None = refl
    go (Some v) = refl
