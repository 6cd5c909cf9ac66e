-- The module of a sound program in which nothing is assigned is spelled, scoped and of the program's shape.
use Rattle.std.proofs.Common.{◌≡◌, ◌≢◌, ℕ, zero, suc, ◌^◌, ◌<◌, List, [], ◌∷◌, map, length, get_or, Bool, true, false, cond, eqb, ◌||◌, bytes_eq, Option, Some, None, codes, refl, sym, ap, ◌∙◌, subst, arith, true≢false}
use Rattle.std.proofs.lemmas.Bool.{eqb-true, eq-eqb}
use Rattle.std.proofs.lemmas.Slice.Eq.{bytes_eq-Decides}
use Rattle.std.proofs.lemmas.Map.Keys.{IsDistinct-head, IsDistinct-tail}
use Rattle.std.specs.List.{AllByRecursion, IsDistinct, list_any}
use Rattle.hs_first_tree.specs.Value.{ValType, U32}
use Rattle.hs_first_tree.specs.Operation.{row_types}
use Rattle.hs_first_tree.specs.Plain as tree
use Rattle.hs_base.specs.Names.{is_name}
use Rattle.hs_first_tree.specs.Sound.{ScopedExp, ScopedExps, ScopedRhs, ScopedStmts, ScopedBlock, TypedExp, TypedExps, TypedRhs, TypedStmts, TypedBlock, SoundFunction}
use Rattle.hs_first_em.specs.Plain.{EmVar, Em, local, number, op, bind, given, Ems, no_ems, em, EmPar, EmDef}
use Rattle.hs_first_em.specs.Spelled.{is_module_name, is_let, SpelledVar, SpelledEm, SpelledEms, SpelledPars, SpelledDefs, Spelled}
use Rattle.hs_first_em.specs.Means.{same_var}
use Rattle.hs_first_em.specs.Scoped.{has_var, DistinctVars, count, ScopedEm, ScopedEms, vars_of, ScopedDefs, Scoped}
use Rattle.hs_pipeline.specs.Lower.{lowered_var, lowered_exp, lowered_exps, lowered_rhs, lowered_stmts, lowered_block, lowered_param, lowered_function, lowered}
use Rattle.hs_pipeline.specs.Same.{Shape}
use Rattle.hs_pipeline.specs.Counted.{Numbered}
use Rattle.hs_pipeline.proofs.Meanings.{same_lowered}

-- the module has the program's headers, in order
pub types_lowered : (names : List (List ℕ)) (ps : List tree.Param) → map (λ (p : EmPar). p.type) (map (lowered_param names) ps) ≡ map (λ (p : tree.Param). p.type) ps
types_lowered names [] = refl
types_lowered names (p ∷ ps) = ap (λ ts. p.type ∷ ts) (types_lowered names ps)

pub lowered_shape : (p : List tree.Function) → Shape p (map lowered_function p)
lowered_shape [] = tt
lowered_shape (f ∷ fs) = (record { name = refl; params = types_lowered f.locals f.params; returns = refl }, lowered_shape fs)

-- each of the names is one
name_at : (ws : List (List ℕ)) (k : ℕ) → AllByRecursion (λ w. is_name w ≡ true) ws → k < length ws → is_name (get_or ws k []) ≡ true
name_at [] k h i = absurd (omega arith)
name_at (w ∷ ws) zero (a, h) i = a
name_at (w ∷ ws) (suc k) (a, h) i = name_at ws k h (omega arith)

-- the locals of a function
var_spelled : (ws : List (List ℕ)) (k : ℕ) → AllByRecursion (λ w. is_name w ≡ true) ws → length ws < 2 ^ 64 → k < length ws → SpelledVar (lowered_var ws k)
var_spelled ws k h n i = (name_at ws k h i, omega (arith, n, i))

-- an operation of known types is the sum of two operands
sum_name : (w : List ℕ) (ts : List ValType) (t : ValType) → row_types w ≡ Some (ts, t) → (w ≡ codes "u32_add") × (ts ≡ U32 ∷ U32 ∷ [])
sum_name w ts t e = go (bytes_eq w (codes "u32_add")) refl e
  where
    go : (b : Bool) → bytes_eq w (codes "u32_add") ≡ b → cond {A = Option (List ValType × ValType)} b (Some (U32 ∷ U32 ∷ [], U32)) None ≡ Some (ts, t) → (w ≡ codes "u32_add") × (ts ≡ U32 ∷ U32 ∷ [])
    go true d f =
        let first : List ValType × ValType = (U32 ∷ U32 ∷ [], U32) in
        let second : List ValType × ValType = (ts, t) in
        let pair : first ≡ second = cc f in
        ((bytes_eq-Decides w (codes "u32_add")).0 d, sym (ap (λ (x : List ValType × ValType). x.0) pair))
    go false d f = absurd (cc f)

two : (ws : List (List ℕ)) (types : ℕ → ValType) (es : tree.Exps) → TypedExps types es (U32 ∷ U32 ∷ []) → count (lowered_exps ws es) ≡ 2
two ws types tree.no_exps h = absurd h
two ws types (tree.exp a tree.no_exps) (x, h) = absurd h
two ws types (tree.exp a (tree.exp b tree.no_exps)) h = refl
two ws types (tree.exp a (tree.exp b (tree.exp c es))) (x, (y, h)) = absurd h

some : (ws : List (List ℕ)) (es : tree.Exps) → count (lowered_exps ws es) ≡ 2 → lowered_exps ws es ≢ no_ems
some ws tree.no_exps h = absurd (omega arith)
some ws (tree.exp e es) h = λ q. cc q

no_let : (ws : List (List ℕ)) (e : tree.Exp) → is_let (lowered_exp ws e) ≡ false
no_let ws (tree.var k) = refl
no_let ws (tree.lit n) = refl
no_let ws (tree.op w es) = refl

-- locals of a list, as they are printed
has_any : (ws : List (List ℕ)) (k : ℕ) (js : List ℕ) → has_var (lowered_var ws k) (map (lowered_var ws) js) ≡ list_any (eqb k) js
has_any ws k [] = refl
has_any ws k (j ∷ js) = ap (λ b. b || has_var (lowered_var ws k) (map (lowered_var ws) js)) (same_lowered ws k j ∙ flip j k) ∙ ap (λ b. eqb k j || b) (has_any ws k js)
  where
    flip : (a b : ℕ) → eqb a b ≡ eqb b a
    flip a b = go (eqb a b) refl (eqb b a) refl
      where
        go : (x : Bool) → eqb a b ≡ x → (y : Bool) → eqb b a ≡ y → x ≡ y
        go true d true f = refl
        go true d false f = absurd (true≢false (sym (eq-eqb b a (sym (eqb-true a b d))) ∙ f))
        go false d true f = absurd (true≢false (sym (eq-eqb a b (sym (eqb-true b a f))) ∙ d))
        go false d false f = refl

module _ (ws : List (List ℕ)) (named : AllByRecursion (λ w. is_name w ≡ true) ws) (few : length ws < 2 ^ 64) (types : ℕ → ValType) where
  mutual
    exp_spelled : (e : tree.Exp) (js : List ℕ) (t : ValType) → ScopedExp (length ws) js e → TypedExp types e t → SpelledEm (lowered_exp ws e)
    exp_spelled (tree.var k) js t s h = var_spelled ws k named few s.0
    exp_spelled (tree.lit n) js t s h = h.0
    exp_spelled (tree.op w es) js t s (ts, e, h) =
        let (sum, args) = sum_name w ts t e in
        (sum, some ws es (two ws types es (subst (TypedExps types es) args h)), exps_spelled es js ts s h)

    exps_spelled : (es : tree.Exps) (js : List ℕ) (ts : List ValType) → ScopedExps (length ws) js es → TypedExps types es ts → SpelledEms (lowered_exps ws es)
    exps_spelled tree.no_exps js ts s h = tt
    exps_spelled (tree.exp e es) js [] s h = absurd h
    exps_spelled (tree.exp e es) js (t ∷ ts) (a, s) (b, h) = (no_let ws e, exp_spelled e js t a b, exps_spelled es js ts s h)

  mutual
    exp_scoped : (e : tree.Exp) (js : List ℕ) (t : ValType) → ScopedExp (length ws) js e → TypedExp types e t → ScopedEm (map (lowered_var ws) js) (lowered_exp ws e)
    exp_scoped (tree.var k) js t s h = has_any ws k js ∙ s.1
    exp_scoped (tree.lit n) js t s h = tt
    exp_scoped (tree.op w es) js t s (ts, e, h) =
        let (sum, args) = sum_name w ts t e in
        (two ws types es (subst (TypedExps types es) args h), exps_scoped es js ts s h)

    exps_scoped : (es : tree.Exps) (js : List ℕ) (ts : List ValType) → ScopedExps (length ws) js es → TypedExps types es ts → ScopedEms (map (lowered_var ws) js) (lowered_exps ws es)
    exps_scoped tree.no_exps js ts s h = tt
    exps_scoped (tree.exp e es) js [] s h = absurd h
    exps_scoped (tree.exp e es) js (t ∷ ts) (a, s) (b, h) = (exp_scoped e js t a b, exps_scoped es js ts s h)

  rhs_spelled : (r : tree.Rhs) (js : List ℕ) (t : ValType) → ScopedRhs (length ws) js r → TypedRhs types r t → SpelledEm (lowered_rhs ws r)
  rhs_spelled (tree.plain e) js t s h = exp_spelled e js t s h

  rhs_scoped : (r : tree.Rhs) (js : List ℕ) (t : ValType) → ScopedRhs (length ws) js r → TypedRhs types r t → ScopedEm (map (lowered_var ws) js) (lowered_rhs ws r)
  rhs_scoped (tree.plain e) js t s h = exp_scoped e js t s h

  stmts_spelled : (xs : tree.Stmts) (r : tree.Rhs) (js : List ℕ) (t : ValType) → ScopedStmts (length ws) js xs r → TypedStmts types xs → TypedRhs types r t → SpelledEm (lowered_stmts ws xs (lowered_rhs ws r))
  stmts_spelled tree.no_stmts r js t s h q = rhs_spelled r js t s q
  stmts_spelled (tree.stmt (tree.bind k x) xs) r js t (a, b, s) (c, h) q =
      (var_spelled ws k named few b, rhs_spelled x js (types k) a c, stmts_spelled xs r (k ∷ js) t s h q)
  stmts_spelled (tree.stmt (tree.set k x) xs) r js t (a, b, d, s) (c, h) q =
      (var_spelled ws k named few b, rhs_spelled x js (types k) a c, stmts_spelled xs r js t s h q)

  or_last : (x a : Bool) → a ≡ true → (x || a) ≡ true
  or_last true a e = refl
  or_last false a e = e

  -- an assigned local is in scope already, so that a binding of it hides it
  more : (y z : EmVar) (xs ys : List EmVar) → ((y : EmVar) → has_var y xs ≡ true → has_var y ys ≡ true) → has_var y (z ∷ xs) ≡ true → has_var y (z ∷ ys) ≡ true
  more y z xs ys f p = go (same_var y z) p
    where
      go : (q : Bool) → (q || has_var y xs) ≡ true → (q || has_var y ys) ≡ true
      go true e = refl
      go false e = f y e

  mutual
    em_under : (e : Em) (xs ys : List EmVar) → ((y : EmVar) → has_var y xs ≡ true → has_var y ys ≡ true) → ScopedEm xs e → ScopedEm ys e
    em_under (local y) xs ys f h = f y h
    em_under (number n) xs ys f h = tt
    em_under (op w es) xs ys f h = (h.0, ems_under es xs ys f h.1)
    em_under (bind z a b) xs ys f h = (em_under a xs ys f h.0, em_under b (z ∷ xs) (z ∷ ys) (λ y p. more y z xs ys f p) h.1)
    em_under (given v) xs ys f h = tt

    ems_under : (es : Ems) (xs ys : List EmVar) → ((y : EmVar) → has_var y xs ≡ true → has_var y ys ≡ true) → ScopedEms xs es → ScopedEms ys es
    ems_under no_ems xs ys f h = tt
    ems_under (em e es) xs ys f h = (em_under e xs ys f h.0, ems_under es xs ys f h.1)

  exp_wider : (e : Em) (x : EmVar) (xs : List EmVar) → ScopedEm xs e → ScopedEm (x ∷ xs) e
  exp_wider e x xs h = em_under e xs (x ∷ xs) (λ y p. or_last (same_var y x) (has_var y xs) p) h

  stmts_scoped : (xs : tree.Stmts) (r : tree.Rhs) (js : List ℕ) (t : ValType) → ScopedStmts (length ws) js xs r → TypedStmts types xs → TypedRhs types r t → ScopedEm (map (lowered_var ws) js) (lowered_stmts ws xs (lowered_rhs ws r))
  stmts_scoped tree.no_stmts r js t s h q = rhs_scoped r js t s q
  stmts_scoped (tree.stmt (tree.bind k x) xs) r js t (a, b, s) (c, h) q =
      (rhs_scoped x js (types k) a c, stmts_scoped xs r (k ∷ js) t s h q)
  stmts_scoped (tree.stmt (tree.set k x) xs) r js t (a, b, d, s) (c, h) q =
      (rhs_scoped x js (types k) a c, exp_wider (lowered_stmts ws xs (lowered_rhs ws r)) (lowered_var ws k) (map (lowered_var ws) js) (stmts_scoped xs r js t s h q))

  pars_spelled : (ps : List tree.Param) → AllByRecursion (λ p. p.local < length ws) ps → SpelledPars (map (lowered_param ws) ps)
  pars_spelled [] h = tt
  pars_spelled (p ∷ ps) (a, h) = (var_spelled ws p.local named few a, pars_spelled ps h)

vars_lowered : (ws : List (List ℕ)) (ps : List tree.Param) → vars_of (map (lowered_param ws) ps) ≡ map (lowered_var ws) (map (λ (p : tree.Param). p.local) ps)
vars_lowered ws [] = refl
vars_lowered ws (p ∷ ps) = ap (λ xs. lowered_var ws p.local ∷ xs) (vars_lowered ws ps)

none_any : (k : ℕ) (js : List ℕ) → AllByRecursion (λ j. eqb k j ≡ false) js → list_any (eqb k) js ≡ false
none_any k [] h = refl
none_any k (j ∷ js) (a, h) = rw a (none_any k js h)

vars_distinct : (ws : List (List ℕ)) (js : List ℕ) → IsDistinct eqb js → DistinctVars (map (lowered_var ws) js)
vars_distinct ws [] h = tt
vars_distinct ws (j ∷ js) h = (has_any ws j js ∙ none_any j js (IsDistinct-head eqb j js h), vars_distinct ws js (IsDistinct-tail eqb j js h))

function_spelled : (f : tree.Function) → SoundFunction f → Numbered f → (is_name f.name ≡ true) × SpelledPars (map (lowered_param f.locals) f.params) × SpelledEm (lowered_block f.locals f.block)
function_spelled f s numbered = (s.name, pars_spelled f.locals s.locals numbered s.typed.0 f.params s.within, go f.block s.scoped s.typed.2)
  where
    go : (b : tree.Block) → ScopedBlock (length f.locals) (map (λ (p : tree.Param). p.local) f.params) b → TypedBlock s.typed.0 b f.returns → SpelledEm (lowered_block f.locals b)
    go (tree.ends xs r) a (c, d) = stmts_spelled f.locals s.locals numbered s.typed.0 xs r (map (λ (p : tree.Param). p.local) f.params) f.returns a c d

function_scoped : (f : tree.Function) → SoundFunction f → Numbered f → DistinctVars (vars_of (map (lowered_param f.locals) f.params)) × ScopedEm (vars_of (map (lowered_param f.locals) f.params)) (lowered_block f.locals f.block)
function_scoped f s numbered =
    let js : List ℕ = map (λ (p : tree.Param). p.local) f.params in
    let e = vars_lowered f.locals f.params in (
      subst DistinctVars (sym e) (vars_distinct f.locals js s.apart),
      subst (λ xs. ScopedEm xs (lowered_block f.locals f.block)) (sym e) (go f.block s.scoped s.typed.2),
    )
  where
    go : (b : tree.Block) → ScopedBlock (length f.locals) (map (λ (p : tree.Param). p.local) f.params) b → TypedBlock s.typed.0 b f.returns → ScopedEm (map (lowered_var f.locals) (map (λ (p : tree.Param). p.local) f.params)) (lowered_block f.locals b)
    go (tree.ends xs r) a (c, d) = stmts_scoped f.locals s.locals numbered s.typed.0 xs r (map (λ (p : tree.Param). p.local) f.params) f.returns a c d

defs_spelled : (p : List tree.Function) → AllByRecursion SoundFunction p → AllByRecursion Numbered p → SpelledDefs (map lowered_function p)
defs_spelled [] h n = tt
defs_spelled (f ∷ fs) (a, h) (b, n) = (function_spelled f a b, defs_spelled fs h n)

defs_scoped : (p : List tree.Function) → AllByRecursion SoundFunction p → AllByRecursion Numbered p → ScopedDefs (map lowered_function p)
defs_scoped [] h n = tt
defs_scoped (f ∷ fs) (a, h) (b, n) = (function_scoped f a b, defs_scoped fs h n)

names_lowered : (p : List tree.Function) → map (λ (d : EmDef). d.name) (map lowered_function p) ≡ map (λ (f : tree.Function). f.name) p
names_lowered [] = refl
names_lowered (f ∷ fs) = ap (λ ws. f.name ∷ ws) (names_lowered fs)

pub lowered_spelled : (name : List ℕ) (p : List tree.Function) → is_module_name name ≡ true → AllByRecursion SoundFunction p → AllByRecursion Numbered p → Spelled (lowered name p)
lowered_spelled name p is h n = record { name = is; defs = defs_spelled p h n }

pub lowered_scoped : (name : List ℕ) (p : List tree.Function) → IsDistinct bytes_eq (map (λ (f : tree.Function). f.name) p) → AllByRecursion SoundFunction p → AllByRecursion Numbered p → Scoped (lowered name p)
lowered_scoped name p once h n = record { once = subst (IsDistinct bytes_eq) (sym (names_lowered p)) once; defs = defs_scoped p h n }
