-- The program of a file whose names break no rule is sound.
use Rattle.std.proofs.Common.{◌≡◌, ◌≢◌, ◌⊎◌, inl, inr, ℕ, zero, suc, ◌+◌, ◌<◌, ◌≤◌, List, [], ◌∷◌, ◌++◌, map, length, Bool, true, false, cond, eqb, ◌||◌, bytes_eq, Option, Some, None, Result, Ok, Err, IfOk, refl, sym, ap, ◌∙◌, subst, arith, length-append}
use Rattle.std.proofs.lemmas.List.{length-map}
use Rattle.std.proofs.lemmas.Bool.Decides.{eqb_tells}
use Rattle.std.proofs.lemmas.Map.Keys.{IsDistinct-cons}
use Rattle.std.specs.List.{AllByRecursion, IsDistinct, list_any}
use Rattle.hs_parser.specs.declared.stop.ParseStop.{ParseStop}
use Rattle.hs_base.specs.declared.rule.Rule.TheVariants.{N3, N10}
use Rattle.hs_first_tree.specs.Value.{U32}
use Rattle.hs_first_tree.specs.Plain as tree
use Rattle.hs_first_tree.specs.Of.{stmts_of}
use Rattle.hs_base.specs.Names.{is_name}
use Rattle.hs_first_tree.specs.Features.{Feature, src}
use Rattle.hs_first_tree.specs.Count.{uses}
use Rattle.hs_first_tree.specs.Sound.{ScopedExp, ScopedRhs, ScopedStmts, binds_stmts, TypedExp, TypedStmts, SoundFunction, Sound}
use Rattle.hs_front.specs.declared.syntax.Span.{Span}
use Rattle.hs_front.specs.declared.syntax.Prim.{Prim}
use Rattle.hs_front.specs.declared.syntax.Prim.TheVariants as prims
use Rattle.hs_front.specs.declared.syntax.Sum.{Sum}
use Rattle.hs_front.specs.declared.syntax.Stmt.{Stmt}
use Rattle.hs_front.specs.declared.syntax.Stmt.TheVariants as stmts
use Rattle.hs_front.specs.declared.syntax.File.{File}
use Rattle.hs_front.specs.Scope.{Scope, text_at, found, bound}
use Rattle.hs_front.specs.Marks.{Mark, mark, where_none, prim_marks, parts_marks, sum_marks, stmt_marks, behind_stmt, body_marks, param_marks, with_params, name_marks}
use Rattle.hs_front.specs.Program.{number_of, added, params_from, prim_tree, parts_tree, sum_tree, stmts_tree, behind_stmts, names_bound, program_from}
use Rattle.hs_front.specs.Walk.{file_walk, Gives}
use Rattle.hs_front.proofs.Walked.{FileAgrees, file_agrees}
use Rattle.hs_front.proofs.Fair.{IsNamed, PrimFair, SumFair, StmtFair, FileFair}

-- consecutive numbers
abbrev upto : ℕ → ℕ → List ℕ
upto k zero = []
upto k (suc n) = k ∷ upto (k + 1) n

upto_other : (j k n : ℕ) → j < k → AllByRecursion (λ y. eqb j y ≡ false) (upto k n)
upto_other j k zero h = tt
upto_other j k (suc n) h = (go (eqb_tells j k), upto_other j (k + 1) n (omega arith))
  where
    go : ((eqb j k ≡ true) × (j ≡ k)) ⊎ ((eqb j k ≡ false) × (j ≢ k)) → eqb j k ≡ false
    go (inl (a, b)) = absurd (omega (arith, b, h))
    go (inr (a, b)) = a

none_twice : {K : Type 0} (e : K → K → Bool) → IsDistinct e []
unfolding IsDistinct
none_twice e = tt

upto_once : (k n : ℕ) → IsDistinct eqb (upto k n)
upto_once k zero = none_twice eqb
upto_once k (suc n) = IsDistinct-cons eqb k (upto (k + 1) n) (upto_other k (k + 1) n (omega arith)) (upto_once (k + 1) n)

upto_more : (k n m : ℕ) → upto k n ++ upto (k + n) m ≡ upto k (n + m)
upto_more k zero m = let e : k + 0 ≡ k = omega arith in let f : 0 + m ≡ m = omega arith in rw (e, f) refl
upto_more k (suc n) m =
    let e : k + suc n ≡ k + 1 + n = omega arith in
    let f : suc n + m ≡ suc (n + m) = omega arith in
    rw (e, f) (ap (λ xs. k ∷ xs) (upto_more (k + 1) n m))

upto_start : (n m : ℕ) → upto 0 n ++ upto n m ≡ upto 0 (n + m)
upto_start n m = let e : 0 + n ≡ n = omega arith in subst (λ i. upto 0 n ++ upto i m ≡ upto 0 (n + m)) e (upto_more 0 n m)

upto_has : (j k n : ℕ) → k ≤ j → j < k + n → list_any (eqb j) (upto k n) ≡ true
upto_has j k zero h i = absurd (omega arith)
upto_has j k (suc n) h i = go (eqb_tells j k) (λ l. upto_has j (k + 1) n l (omega arith))
  where
    go : ((eqb j k ≡ true) × (j ≡ k)) ⊎ ((eqb j k ≡ false) × (j ≢ k)) → (k + 1 ≤ j → list_any (eqb j) (upto (k + 1) n) ≡ true) → (eqb j k || list_any (eqb j) (upto (k + 1) n)) ≡ true
    go (inl (a, b)) ih = ap (λ x. x || list_any (eqb j) (upto (k + 1) n)) a
    go (inr (a, b)) ih = ap (λ x. x || list_any (eqb j) (upto (k + 1) n)) a ∙ ih (omega (arith, b, h))

-- ---- parameters

params_local : (k : ℕ) (ps : List Span) → map (λ (p : tree.Param). p.local) (params_from k ps) ≡ upto k (length ps)
params_local k [] = refl
params_local k (p ∷ ps) = ap (λ xs. k ∷ xs) (params_local (k + 1) ps)

params_length : (k : ℕ) (ps : List Span) → length (params_from k ps) ≡ length ps
params_length k [] = refl
params_length k (p ∷ ps) = ap suc (params_length (k + 1) ps)

params_within : (k n : ℕ) (ps : List Span) → k + length ps ≤ n → AllByRecursion (λ (p : tree.Param). p.local < n) (params_from k ps)
params_within k n [] h = tt
params_within k n (p ∷ ps) h = (omega arith, params_within (k + 1) n ps (omega arith))

params_typed : (k : ℕ) (ps : List Span) → AllByRecursion (λ (p : tree.Param). U32 ≡ p.type) (params_from k ps)
params_typed k [] = tt
params_typed k (p ∷ ps) = (refl, params_typed (k + 1) ps)

-- ---- marks

no_marks_left : (ms ns : List Mark) → ms ++ ns ≡ [] → ms ≡ []
no_marks_left [] ns e = refl
no_marks_left (m ∷ ms) ns e = absurd (cc e)

no_marks_right : (ms ns : List Mark) → ms ++ ns ≡ [] → ns ≡ []
no_marks_right [] ns e = e
no_marks_right (m ∷ ms) ns e = absurd (cc e)

found_below : (w : List ℕ) (scope : Scope) (l : ℕ × Bool) → found w scope ≡ Some l → l.0 < length scope
found_below w [] l e = absurd (cc e)
found_below w (x ∷ xs) l e = go (bytes_eq w x.name) e (λ f. found_below w xs l f)
  where
    go : (b : Bool) → cond {A = Option (ℕ × Bool)} b (Some (length xs, x.mutable)) (found w xs) ≡ Some l → (found w xs ≡ Some l → l.0 < length xs) → l.0 < suc (length xs)
    go true f ih = let here : ℕ × Bool = (length xs, x.mutable) in let same : here ≡ l = cc f in subst (λ (q : ℕ × Bool). q.0 < suc (length xs)) same (omega arith)
    go false f ih = let h = ih f in omega (arith, h)

-- a local that is not marked is in scope
known_below : (w : List ℕ) (scope : Scope) (m : Mark) → where_none (found w scope) m ≡ [] → number_of (found w scope) < length scope
known_below w scope m e = go (found w scope) e (λ l. found_below w scope l)
  where
    go : (o : Option (ℕ × Bool)) → where_none o m ≡ [] → ((l : ℕ × Bool) → o ≡ Some l → l.0 < length scope) → number_of o < length scope
    go None e h = absurd (cc e)
    go (Some l) e h = h l refl

-- ---- expressions

-- an expression of locals below a number, and of numbers in their range
abbrev Good : ℕ → List ℕ → tree.Exp → Type 0
Good count js e = ScopedExp count js e × TypedExp (λ k. U32) e U32

-- the numbers below this are bound
abbrev Bound : ℕ → List ℕ → Type 0
Bound n js = (k : ℕ) → k < n → list_any (eqb k) js ≡ true

added_good : (count : ℕ) (js : List ℕ) (a b : tree.Exp) → Good count js a → Good count js b → Good count js (added a b)
added_good count js a b (s, h) (t, k) = ((s, (t, tt)), (U32 ∷ U32 ∷ [], refl, (h, (k, tt))))

-- one more number is bound
bound_more : (n : ℕ) (js : List ℕ) → Bound n js → Bound (suc n) (n ∷ js)
bound_more n js h k l = go (eqb_tells k n)
  where
    go : ((eqb k n ≡ true) × (k ≡ n)) ⊎ ((eqb k n ≡ false) × (k ≢ n)) → (eqb k n || list_any (eqb k) js) ≡ true
    go (inl (a, b)) = ap (λ x. x || list_any (eqb k) js) a
    go (inr (a, b)) = ap (λ x. x || list_any (eqb k) js) a ∙ h k (omega (arith, b, l))

module _ (text : List ℕ) where
  module _ (count : ℕ) (js : List ℕ) (scope : Scope) (within : length scope ≤ count) (all : Bound (length scope) js) where
    prim_good : (p : Prim) → PrimFair text p → prim_marks text scope p ≡ [] → Good count js (prim_tree text scope p)
    prim_good (prims.Name n) f e = let k = known_below (text_at text n) scope (mark N3 n) e in ((omega (arith, k, within), all (number_of (found (text_at text n) scope)) k), refl)
    prim_good (prims.Int n) f e = (tt, (f, refl))

    parts_good : (e : tree.Exp) (ps : List Prim) → Good count js e → AllByRecursion (PrimFair text) ps → parts_marks text scope ps ≡ [] → Good count js (parts_tree text scope e ps)
    parts_good e [] g f m = g
    parts_good e (p ∷ ps) g (f, fs) m =
        parts_good (added e (prim_tree text scope p)) ps (added_good count js e (prim_tree text scope p) g (prim_good p f (no_marks_left (prim_marks text scope p) (parts_marks text scope ps) m))) fs
        (no_marks_right (prim_marks text scope p) (parts_marks text scope ps) m)

    sum_good : (s : Sum) → SumFair text s → sum_marks text scope s ≡ [] → Good count js (sum_tree text scope s)
    sum_good s (f, fs) m =
        parts_good (prim_tree text scope s.first) s.more (prim_good s.first f (no_marks_left (prim_marks text scope s.first) (parts_marks text scope s.more) m)) fs
        (no_marks_right (prim_marks text scope s.first) (parts_marks text scope s.more) m)

  -- ---- statements

  -- what statements are behind a scope: in scope, of their types, and binding the numbers that follow
  abbrev Follows : ℕ → List ℕ → Scope → List Stmt → tree.Rhs → Type 0
  Follows count js scope xs tail =
      ScopedStmts count js (stmts_of (stmts_tree text scope xs)) tail × TypedStmts (λ k. U32) (stmts_of (stmts_tree text scope xs))
      × (binds_stmts (stmts_of (stmts_tree text scope xs)) ≡ upto (length scope) (length (names_bound text xs)))
      × (length (behind_stmts text scope xs) ≡ length scope + length (names_bound text xs))

  -- the value behind statements is in scope
  abbrev Tail : ℕ → Scope → tree.Rhs → Type 0
  Tail count behind tail = (ks : List ℕ) → Bound (length behind) ks → length behind ≤ count → ScopedRhs count ks tail

  stmts_good : (count : ℕ) (js : List ℕ) (scope : Scope) (xs : List Stmt) (v : Sum) (tail : tree.Rhs)
      → length scope + length (names_bound text xs) ≤ count → Bound (length scope) js → AllByRecursion (StmtFair text) xs → body_marks text scope xs v ≡ []
      → Tail count (behind_stmts text scope xs) tail → Follows count js scope xs tail
  stmts_good count js scope [] v tail l all f m t = (t js all (omega (arith, l)), tt, refl, omega arith)
  stmts_good count js scope (stmts.Let b n s ∷ xs) v tail l all ((fn, fs), fx) m t =
      let next : Scope = bound b (text_at text n) scope in
      let mine : sum_marks text scope s ≡ [] = no_marks_left (sum_marks text scope s) (body_marks text next xs v) m in
      let others : body_marks text next xs v ≡ [] = no_marks_right (sum_marks text scope s) (body_marks text next xs v) m in
      let good = sum_good count js scope (omega (arith, l)) all s fs mine in
      let rest : Follows count (length scope ∷ js) next xs tail = stmts_good count (length scope ∷ js) next xs v tail (omega (arith, l)) (bound_more (length scope) js all) fx others t in
      let o : suc (length scope) ≡ length scope + 1 = omega arith in
      let k = rest.3 in
      ((good.0, omega (arith, l), rest.0), (good.1, rest.1), ap (λ ns. length scope ∷ ns) (rest.2 ∙ ap (λ i. upto i (length (names_bound text xs))) o), omega (arith, k))
  stmts_good count js scope (stmts.Set n s ∷ xs) v tail l all ((fn, fs), fx) m t =
      let mine : where_none (found (text_at text n) scope) (mark N10 n) ++ sum_marks text scope s ≡ [] = no_marks_left (stmt_marks text scope (stmts.Set n s)) (body_marks text scope xs v) m in
      let others : body_marks text scope xs v ≡ [] = no_marks_right (stmt_marks text scope (stmts.Set n s)) (body_marks text scope xs v) m in
      let low = known_below (text_at text n) scope (mark N10 n) (no_marks_left (where_none (found (text_at text n) scope) (mark N10 n)) (sum_marks text scope s) mine) in
      let good = sum_good count js scope (omega (arith, l)) all s fs (no_marks_right (where_none (found (text_at text n) scope) (mark N10 n)) (sum_marks text scope s) mine) in
      let rest : Follows count js scope xs tail = stmts_good count js scope xs v tail l all fx others t in
      ((good.0, omega (arith, low, l), all (number_of (found (text_at text n) scope)) low, rest.0), (good.1, rest.1), rest.2, rest.3)

  value_marks : (scope : Scope) (xs : List Stmt) (v : Sum) → body_marks text scope xs v ≡ [] → sum_marks text (behind_stmts text scope xs) v ≡ []
  value_marks scope [] v m = m
  value_marks scope (x ∷ xs) v m = value_marks (behind_stmt text scope x) xs v (no_marks_right (stmt_marks text scope x) (body_marks text (behind_stmt text scope x) xs v) m)

  with_params_length : (ps : List Span) (scope : Scope) → length (with_params text ps scope) ≡ length scope + length ps
  with_params_length [] scope = omega arith
  with_params_length (p ∷ ps) scope = with_params_length ps (bound false (text_at text p) scope) ∙ (let e : suc (length scope) + length ps ≡ length scope + suc (length ps) = omega arith in e)

  -- ---- names

  params_named : (ps : List Span) → AllByRecursion (IsNamed text) ps → AllByRecursion (λ w. is_name w ≡ true) (map (text_at text) ps)
  params_named [] h = tt
  params_named (p ∷ ps) (a, h) = (a, params_named ps h)

  bound_named : (xs : List Stmt) → AllByRecursion (StmtFair text) xs → AllByRecursion (λ w. is_name w ≡ true) (names_bound text xs)
  bound_named [] h = tt
  bound_named (stmts.Let b n s ∷ xs) ((a, f), h) = (a, bound_named xs h)
  bound_named (stmts.Set n s ∷ xs) (f, h) = bound_named xs h

  both_all : {A : Type 0} (P : A → Type 0) (xs ys : List A) → AllByRecursion P xs → AllByRecursion P ys → AllByRecursion P (xs ++ ys)
  both_all P [] ys h k = k
  both_all P (x ∷ xs) ys (a, h) k = (a, both_all P xs ys h k)

  -- what is known of the program of such a file
  pub program_sound : (f : File) → FileFair text f → name_marks text f ≡ [] → ((x : Feature) → src x ≡ false → uses x (program_from text f) ≡ 0) → Sound src (program_from text f)
  program_sound f fair none absent =
      let ps = f.parameters in
      let xs = f.body.statements in
      let v = f.body.value in
      let scope = with_params text ps [] in
      let marks : body_marks text scope xs v ≡ [] = no_marks_right (param_marks text [] ps) (body_marks text scope xs v) none in
      let n : length scope ≡ length ps = with_params_length ps [] ∙ (let q : 0 + length ps ≡ length ps = omega arith in q) in
      let count : ℕ = length (map (text_at text) ps ++ names_bound text xs) in
      let total : length (map (text_at text) ps ++ names_bound text xs) ≡ length ps + length (names_bound text xs) =
      length-append (map (text_at text) ps) (names_bound text xs) ∙ ap (λ i. i + length (names_bound text xs)) (length-map ps (text_at text)) in
      let locals : map (λ (p : tree.Param). p.local) (params_from 0 ps) ≡ upto 0 (length ps) = params_local 0 ps in
      let start : Bound (length scope) (map (λ (p : tree.Param). p.local) (params_from 0 ps)) =
      λ k l. ap (λ js. list_any (eqb k) js) locals ∙ upto_has k 0 (length ps) (omega arith) (omega (arith, l, n)) in
      let behind = behind_stmts text scope xs in
      let tail : tree.Rhs = tree.plain (sum_tree text behind v) in
      let values = value_marks scope xs v marks in
      let follows : Follows count (map (λ (p : tree.Param). p.local) (params_from 0 ps)) scope xs tail =
      stmts_good count (map (λ (p : tree.Param). p.local) (params_from 0 ps)) scope xs v tail (omega (arith, n, total)) start fair.body.0 marks
      (λ ks all l. (sum_good count ks behind l all v fair.body.1 values).0) in
      let typed = (sum_good (length behind) (upto 0 (length behind)) behind (omega arith) (λ k l. upto_has k 0 (length behind) (omega arith) (omega (arith, l))) v fair.body.1 values).1 in
      let few = fair.few in
      let one : SoundFunction _ = record {
        name = fair.name;
        locals = both_all (λ w. is_name w ≡ true) (map (text_at text) ps) (names_bound text xs) (params_named ps fair.params) (bound_named xs fair.body.0);
        few = omega (arith, few, params_length 0 ps);
        apart = subst (IsDistinct eqb) (sym locals) (upto_once 0 (length ps));
        within = params_within 0 count ps (omega (arith, total));
        scoped = follows.0;
        typed = ((λ k. U32), params_typed 0 ps, (follows.1, typed));
      } in
      record {
        absent = absent;
        names = IsDistinct-cons bytes_eq (text_at text f.name) [] tt (none_twice bytes_eq);
        each = (one, tt);
        once = λ e. (
          subst (IsDistinct eqb) (sym (ap (λ js. js ++ binds_stmts (stmts_of (stmts_tree text scope xs))) locals ∙ (ap (λ js. upto 0 (length ps) ++ js) (follows.2 ∙ ap (λ i. upto i (length (names_bound text xs))) n) ∙ upto_start (length ps) (length (names_bound text xs)))))
              (upto_once 0 (length ps + length (names_bound text xs))),
          tt,
        );
      }

  -- the program that the steps give is sound
  pub given_sound : (f : File) → FileFair text f → {A : Type 0} (of : A → List tree.Function) (r : Result A ParseStop) → Gives text (file_walk text f) of r
      → IfOk r (λ x. (y : Feature) → src y ≡ false → uses y (of x) ≡ 0) → IfOk r (λ x. Sound src (of x))
  given_sound f fair of (Ok x) g absent =
      let made = subst (FileAgrees text f) g (file_agrees text f) in
      subst (Sound src) (sym made.2) (program_sound f fair made.0 (λ y off. ap (uses y) (sym made.2) ∙ absent y off))
  given_sound f fair of (Err e) g absent = tt
