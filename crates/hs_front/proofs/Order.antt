-- The names of a file stand in the text in the order in which its tree has them.
use Rattle.std.proofs.Common.{◌≡◌, inl, inr, ℕ, zero, suc, ◌≤◌, ◌<◌, Bool, true, false, cond, List, [], ◌∷◌, ◌++◌, map, bytes_eq, Option, Some, None, refl, sym, ap, ◌∙◌, subst, arith}
use Rattle.std.specs.List.{list_any, AllByRecursion}
use Rattle.std.proofs.lemmas.List.{map-append}
use Rattle.hs_base.specs.declared.rule.Rule.TheVariants.{N3, N6, N10, T11}
use Rattle.hs_grammar.specs.Form.{Pure, Tok, Map, Seq, Alt}
use Rattle.hs_grammar.specs.Derives.{Derivings, Derives, DerivesBy, DerivesAs}
use Rattle.hs_lexer.specs.declared.token.Token.{Token}
use Rattle.hs_lexer.specs.Places.{Placed}
use Rattle.hs_front.specs.declared.symbol.Symbol.{Symbol}
use Rattle.hs_front.specs.declared.symbol.Kind.TheVariants.{Number}
use Rattle.hs_front.specs.declared.syntax.Span.{Span}
use Rattle.hs_front.specs.declared.syntax.Prim.{Prim}
use Rattle.hs_front.specs.declared.syntax.Prim.TheVariants as prims
use Rattle.hs_front.specs.declared.syntax.Sum.{Sum}
use Rattle.hs_front.specs.declared.syntax.Stmt.{Stmt}
use Rattle.hs_front.specs.declared.syntax.Stmt.TheVariants as stmts
use Rattle.hs_front.specs.declared.syntax.Body.{Body}
use Rattle.hs_front.specs.declared.syntax.File.{File}
use Rattle.hs_front.specs.Lexis.{lexis}
use Rattle.hs_front.specs.Symbols.{symbols_of}
use Rattle.hs_front.specs.Written.{AFile, rules, F, up_to, local, prim, addend, sum, sum_of, param, next_param, params, assigned, mutable, binding, assignment, stmt, body, only, with_stmt, title, opening, file, written}
use Rattle.hs_front.specs.Scope.{Scope, text_at, found, bound}
use Rattle.hs_front.specs.Marks.{Mark, mark, where_none, where_fixed, prim_marks, parts_marks, sum_marks, stmt_marks, behind_stmt, body_marks, param_marks, with_params, name_marks, type_marks_from, type_marks, IsOneOf, IsFirst}

-- ---- numbers that increase between two bounds

abbrev pub Spread : ℕ → List ℕ → ℕ → Type 0
Spread lo [] hi = lo ≤ hi
Spread lo (x ∷ xs) hi = (lo < x) × Spread x xs hi

abbrev spread_cut : (lo : ℕ) (xs ys : List ℕ) (hi : ℕ) → Spread lo (xs ++ ys) hi → (mid : ℕ) × Spread lo xs mid × Spread mid ys hi
spread_cut lo [] ys hi s = (lo, omega arith, s)
spread_cut lo (x ∷ xs) ys hi (a, s) = let c : (mid : ℕ) × Spread x xs mid × Spread mid ys hi = spread_cut x xs ys hi s in (c.0, (a, c.1), c.2)

spread_lower : (lo mid : ℕ) (ys : List ℕ) (hi : ℕ) → lo ≤ mid → Spread mid ys hi → Spread lo ys hi
spread_lower lo mid [] hi h s = omega (arith, h, s)
spread_lower lo mid (y ∷ ys) hi h (a, s) = (omega (arith, h, a), s)

spread_join : (lo : ℕ) (xs : List ℕ) (mid : ℕ) (ys : List ℕ) (hi : ℕ) → Spread lo xs mid → Spread mid ys hi → Spread lo (xs ++ ys) hi
spread_join lo [] mid ys hi s t = spread_lower lo mid ys hi s t
spread_join lo (x ∷ xs) mid ys hi (a, s) t = (a, spread_join x xs mid ys hi s t)

spread_within : (lo : ℕ) (xs : List ℕ) (hi : ℕ) → Spread lo xs hi → lo ≤ hi
spread_within lo [] hi s = s
spread_within lo (x ∷ xs) hi (a, s) = let h = spread_within x xs hi s in omega (arith, a, h)

-- ---- names of trees, by where they end

ends_of : List Symbol → List ℕ
ends_of w = map (λ (s : Symbol). s.span.end) w

abbrev prim_ends : Prim → List ℕ
prim_ends (prims.Name n) = n.end ∷ []
prim_ends (prims.Int n) = []

abbrev prims_ends : List Prim → List ℕ
prims_ends [] = []
prims_ends (p ∷ ps) = prim_ends p ++ prims_ends ps

abbrev sum_ends : Sum → List ℕ
sum_ends s = prim_ends s.first ++ prims_ends s.more

abbrev stmt_ends : Stmt → List ℕ
stmt_ends (stmts.Let m n s) = n.end ∷ sum_ends s
stmt_ends (stmts.Set n s) = n.end ∷ sum_ends s

abbrev body_ends : List Stmt → Sum → List ℕ
body_ends [] v = sum_ends v
body_ends (x ∷ xs) v = stmt_ends x ++ body_ends xs v

abbrev spans_ends : List Span → List ℕ
spans_ends [] = []
spans_ends (p ∷ ps) = p.end ∷ spans_ends ps

abbrev pub file_ends : File → List ℕ
file_ends f = spans_ends f.parameters ++ body_ends f.body.statements f.body.value

none : {A : Type 0} → A → List ℕ
none a = []

module _ (ρ : Derivings lexis rules) where
  -- what the form derives has its names in the order of the tokens
  record Ordered {C : Type 0} (f : F C) (names : C → List ℕ) : Type 0 where
    kept : (w : List Symbol) (x : C) → Derives ρ f w x → (lo hi : ℕ) → Spread lo (ends_of w) hi → Spread lo (names x) hi

  no_names : {C : Type 0} (f : F C) → Ordered f (λ c. [])
  no_names f = record { kept = λ w x d lo hi s. spread_within lo (ends_of w) hi s }

  one_name : {C : Type 0} (ks : List lexis.kind) (h : Symbol → C) (names : C → List ℕ) → ((t : Symbol) → names (h t) ≡ t.span.end ∷ []) → Ordered (Tok ks h) names
  unfolding ends_of
  one_name ks h names e = record {
    kept = λ w x (t, i, k, j) lo hi s. subst (λ c. Spread lo (names c) hi) j (subst (λ ns. Spread lo ns hi) (sym (e t)) (subst (λ v. Spread lo (ends_of v) hi) i s));
  }

  mapped : {A C : Type 0} (h : A → C) (f : F A) (names : C → List ℕ) → Ordered f (λ a. names (h a)) → Ordered (Map h f) names
  mapped h f names o = record { kept = λ w x (a, d, e) lo hi s. subst (λ c. Spread lo (names c) hi) e (o.kept w a d lo hi s) }

  in_order : {A B C : Type 0} (h : A → B → C) (f : F A) (g : F B) (first : A → List ℕ) (second : B → List ℕ) (names : C → List ℕ)
      → ((a : A) (b : B) → names (h a b) ≡ first a ++ second b) → Ordered f first → Ordered g second → Ordered (Seq h f g) names
  unfolding ends_of
  in_order {A} {B} {C} h f g first second names e o p = record { kept = go }
    where
      go : (w : List Symbol) (x : C) → Derives ρ (Seq h f g) w x → (lo hi : ℕ) → Spread lo (ends_of w) hi → Spread lo (names x) hi
      go w x (u, v, a, b, i, d, c, j) lo hi s =
          let joined : ends_of w ≡ ends_of u ++ ends_of v = ap ends_of i ∙ map-append (λ (s : Symbol). s.span.end) u v in
          let cut : (mid : ℕ) × Spread lo (ends_of u) mid × Spread mid (ends_of v) hi = spread_cut lo (ends_of u) (ends_of v) hi (subst (λ ns. Spread lo ns hi) joined s) in
          subst (λ c. Spread lo (names c) hi) j
          (subst (λ ns. Spread lo ns hi) (sym (e a b)) (spread_join lo (first a) cut.0 (second b) hi (o.kept u a d lo cut.0 cut.1) (p.kept v b c cut.0 hi cut.2)))

  either : {C : Type 0} (f g : F C) (names : C → List ℕ) → Ordered f names → Ordered g names → Ordered (Alt f g) names
  either {C} f g names o p = record { kept = go }
    where
      go : (w : List Symbol) (x : C) → Derives ρ (Alt f g) w x → (lo hi : ℕ) → Spread lo (ends_of w) hi → Spread lo (names x) hi
      go w x (inl d) lo hi s = o.kept w x d lo hi s
      go w x (inr d) lo hi s = p.kept w x d lo hi s

  nothing : {C : Type 0} (c : C) (names : C → List ℕ) → names c ≡ [] → Ordered (Pure c) names
  nothing c names e = record {
    kept = λ w x (i, j) lo hi s. subst (λ c. Spread lo (names c) hi) j (subst (λ ns. Spread lo ns hi) (sym e) (spread_within lo (ends_of w) hi s));
  }

  local_ordered : (names : Span → List ℕ) → ((n : Span) → names n ≡ n.end ∷ []) → Ordered local names
  unfolding local
  local_ordered names e = one_name _ _ names (λ t. e t.span)

  prim_ordered : Ordered prim prim_ends
  unfolding prim
  prim_ordered =
      either (Map prims.Name local) (Tok (Number ∷ []) (λ s. prims.Int s.value)) prim_ends (mapped prims.Name local prim_ends (local_ordered (λ n. prim_ends (prims.Name n)) (λ n. refl)))
      (record { kept = λ w x (t, i, k, j) lo hi s. subst (λ c. Spread lo (prim_ends c) hi) j (spread_within lo (ends_of w) hi s) })

  addend_ordered : Ordered addend prim_ends
  unfolding addend
  addend_ordered = in_order _ _ prim (λ _. []) prim_ends prim_ends (λ a b. refl) (no_names _) prim_ordered

  more_ordered : (n : ℕ) → Ordered (up_to n addend) prims_ends
  unfolding up_to
  more_ordered zero = nothing [] prims_ends refl
  more_ordered (suc n) = either _ _ prims_ends (in_order (λ a as'. a ∷ as') addend (up_to n addend) prim_ends prims_ends prims_ends (λ a b. refl) addend_ordered (more_ordered n)) (nothing [] prims_ends refl)

  sum_ordered : Ordered sum sum_ends
  unfolding sum
  sum_ordered = in_order sum_of prim (up_to 61 addend) prim_ends prims_ends sum_ends (λ a b. refl) prim_ordered (more_ordered 61)

  param_ordered : (names : Span → List ℕ) → ((n : Span) → names n ≡ n.end ∷ []) → Ordered param names
  unfolding param
  param_ordered names e = in_order _ local _ names (λ _. []) names (λ a b. sym (append_none (names a))) (local_ordered names e) (no_names _)
    where
      append_none : (xs : List ℕ) → xs ++ [] ≡ xs
      append_none [] = refl
      append_none (x ∷ xs) = ap (λ ys. x ∷ ys) (append_none xs)

  next_ordered : (names : Span → List ℕ) → ((n : Span) → names n ≡ n.end ∷ []) → Ordered next_param names
  unfolding next_param
  next_ordered names e = in_order _ _ param (λ _. []) names names (λ a b. refl) (no_names _) (param_ordered names e)

  abbrev one : Span → List ℕ
  one n = n.end ∷ []

  nexts_ordered : (n : ℕ) → Ordered (up_to n next_param) spans_ends
  unfolding up_to
  nexts_ordered zero = nothing [] spans_ends refl
  nexts_ordered (suc n) = either _ _ spans_ends (in_order (λ a as'. a ∷ as') next_param (up_to n next_param) one spans_ends spans_ends (λ a b. refl) (next_ordered one (λ n. refl)) (nexts_ordered n)) (nothing [] spans_ends refl)

  params_ordered : Ordered params spans_ends
  unfolding params
  params_ordered = either _ _ spans_ends (in_order (λ p ps. p ∷ ps) param (up_to 31 next_param) one spans_ends spans_ends (λ a b. refl) (param_ordered one (λ n. refl)) (nexts_ordered 31)) (nothing [] spans_ends refl)

  assigned_ordered : Ordered assigned sum_ends
  unfolding assigned
  assigned_ordered = in_order _ _ _ (λ _. []) sum_ends sum_ends (λ a b. refl) (no_names _) (in_order _ sum _ sum_ends (λ _. []) sum_ends (λ a b. sym (append_none (sum_ends a))) sum_ordered (no_names _))
    where
      append_none : (xs : List ℕ) → xs ++ [] ≡ xs
      append_none [] = refl
      append_none (x ∷ xs) = ap (λ ys. x ∷ ys) (append_none xs)

  abbrev pair_ends : Span × Sum → List ℕ
  pair_ends r = r.0.end ∷ sum_ends r.1

  binding_ordered : Ordered binding stmt_ends
  unfolding binding
  binding_ordered =
      in_order _ _ _ (λ _. []) stmt_ends stmt_ends (λ a b. refl) (no_names _)
      (in_order (λ m (r : Span × Sum). stmts.Let m r.0 r.1) mutable _ (λ _. []) pair_ends stmt_ends (λ a b. refl) (no_names _)
      (in_order _ param assigned one sum_ends pair_ends (λ a b. refl) (param_ordered one (λ n. refl)) assigned_ordered))

  assignment_ordered : Ordered assignment stmt_ends
  unfolding assignment
  assignment_ordered = in_order stmts.Set local assigned one sum_ends stmt_ends (λ a b. refl) (local_ordered one (λ n. refl)) assigned_ordered

  stmt_ordered : Ordered stmt stmt_ends
  unfolding stmt
  stmt_ordered = either binding assignment stmt_ends binding_ordered assignment_ordered

  abbrev ends_in : Body → List ℕ
  ends_in b = body_ends b.statements b.value

  body_ordered : (n : ℕ) → Ordered (body n) ends_in
  unfolding body
  body_ordered zero = mapped only sum ends_in sum_ordered
  body_ordered (suc n) = either _ _ ends_in (in_order with_stmt stmt (body n) stmt_ends ends_in ends_in (λ a b. refl) stmt_ordered (body_ordered n)) (mapped only sum ends_in sum_ordered)

  abbrev rest_ends : List Span × Body → List ℕ
  rest_ends r = spans_ends r.0 ++ ends_in r.1

  file_ordered : Ordered file file_ends
  unfolding file
  file_ordered =
      in_order _ title _ (λ _. []) rest_ends file_ends (λ a b. refl) (no_names title)
      (in_order _ params _ spans_ends ends_in rest_ends (λ a b. refl) params_ordered
      (in_order _ opening _ (λ _. []) ends_in ends_in (λ a b. refl) (no_names opening)
      (in_order _ (body 1024) _ ends_in (λ _. []) ends_in (λ a b. sym (append_none (ends_in a))) (body_ordered 1024) (no_names _))))
    where
      append_none : (xs : List ℕ) → xs ++ [] ≡ xs
      append_none [] = refl
      append_none (x ∷ xs) = ap (λ ys. x ∷ ys) (append_none xs)

-- the tokens of a text end one behind the other
tokens_spread : (text : List ℕ) (lo : ℕ) (ts : List Token) (hi : ℕ) → Placed lo hi ts → Spread lo (ends_of (symbols_of text ts)) hi
unfolding ends_of
tokens_spread text lo [] hi p = p
tokens_spread text lo (t ∷ ts) hi (a, b, p) = (omega (arith, a, b), tokens_spread text t.end ts hi p)

-- and so do the names of the file that they say
pub file_spread : (text : List ℕ) (ts : List Token) (hi : ℕ) (f : File) → Placed 0 hi ts → DerivesAs written AFile (symbols_of text ts) f → Spread 0 (file_ends f) hi
file_spread text ts hi f p (zero, d) = absurd d
file_spread text ts hi f p (suc n, d) = (file_ordered (DerivesBy written n)).kept (symbols_of text ts) f d 0 hi (tokens_spread text 0 ts hi p)

-- ---- marks

abbrev pub marks_ends : List Mark → List ℕ
marks_ends ms = map (λ (m : Mark). m.at.end) ms

-- the marks stand at some of the names, in their order
abbrev Keeps : List Mark → List ℕ → Type 0
Keeps ms xs = (lo hi : ℕ) → Spread lo xs hi → Spread lo (marks_ends ms) hi

keeps_none : (xs : List ℕ) → Keeps [] xs
keeps_none xs lo hi s = spread_within lo xs hi s

keeps_append : (ms ns : List Mark) (xs ys : List ℕ) → Keeps ms xs → Keeps ns ys → Keeps (ms ++ ns) (xs ++ ys)
keeps_append ms ns xs ys k l lo hi s =
    let cut : (mid : ℕ) × Spread lo xs mid × Spread mid ys hi = spread_cut lo xs ys hi s in
    subst (λ zs. Spread lo zs hi) (sym (map-append (λ (m : Mark). m.at.end) ms ns)) (spread_join lo (marks_ends ms) cut.0 (marks_ends ns) hi (k lo cut.0 cut.1) (l cut.0 hi cut.2))

module _ (text : List ℕ) where
  none_keeps : (o : Option (ℕ × Bool)) (m : Mark) → Keeps (where_none o m) (m.at.end ∷ [])
  none_keeps None m lo hi s = s
  none_keeps (Some l) m lo hi s = spread_within lo (m.at.end ∷ []) hi s

  fixed_keeps : (o : Option (ℕ × Bool)) (m : Mark) → Keeps (where_fixed o m) (m.at.end ∷ [])
  fixed_keeps None m lo hi s = spread_within lo (m.at.end ∷ []) hi s
  fixed_keeps (Some l) m lo hi s = go l.1
    where
      go : (b : Bool) → Spread lo (marks_ends (cond b [] (m ∷ []))) hi
      go true = spread_within lo (m.at.end ∷ []) hi s
      go false = s

  prim_keeps : (scope : Scope) (p : Prim) → Keeps (prim_marks text scope p) (prim_ends p)
  prim_keeps scope (prims.Name n) = none_keeps (found (text_at text n) scope) (mark N3 n)
  prim_keeps scope (prims.Int n) = keeps_none []

  parts_keep : (scope : Scope) (ps : List Prim) → Keeps (parts_marks text scope ps) (prims_ends ps)
  parts_keep scope [] = keeps_none []
  parts_keep scope (p ∷ ps) = keeps_append (prim_marks text scope p) (parts_marks text scope ps) (prim_ends p) (prims_ends ps) (prim_keeps scope p) (parts_keep scope ps)

  sum_keeps : (scope : Scope) (s : Sum) → Keeps (sum_marks text scope s) (sum_ends s)
  sum_keeps scope s = keeps_append (prim_marks text scope s.first) (parts_marks text scope s.more) (prim_ends s.first) (prims_ends s.more) (prim_keeps scope s.first) (parts_keep scope s.more)

  stmt_keeps : (scope : Scope) (x : Stmt) → Keeps (stmt_marks text scope x) (stmt_ends x)
  stmt_keeps scope (stmts.Let m n s) = keeps_append [] (sum_marks text scope s) (n.end ∷ []) (sum_ends s) (keeps_none (n.end ∷ [])) (sum_keeps scope s)
  stmt_keeps scope (stmts.Set n s) =
      keeps_append (where_none (found (text_at text n) scope) (mark N10 n)) (sum_marks text scope s) (n.end ∷ []) (sum_ends s) (none_keeps (found (text_at text n) scope) (mark N10 n)) (sum_keeps scope s)

  body_keeps : (scope : Scope) (xs : List Stmt) (v : Sum) → Keeps (body_marks text scope xs v) (body_ends xs v)
  body_keeps scope [] v = sum_keeps scope v
  body_keeps scope (x ∷ xs) v =
      keeps_append (stmt_marks text scope x) (body_marks text (behind_stmt text scope x) xs v) (stmt_ends x) (body_ends xs v) (stmt_keeps scope x) (body_keeps (behind_stmt text scope x) xs v)

  param_keeps : (before : List (List ℕ)) (ps : List Span) → Keeps (param_marks text before ps) (spans_ends ps)
  param_keeps before [] = keeps_none []
  param_keeps before (p ∷ ps) =
      keeps_append (cond (list_any (bytes_eq (text_at text p)) before) (mark N6 p ∷ []) []) (param_marks text (before ++ text_at text p ∷ []) ps) (p.end ∷ []) (spans_ends ps)
      (go (list_any (bytes_eq (text_at text p)) before)) (param_keeps (before ++ text_at text p ∷ []) ps)
    where
      go : (b : Bool) → Keeps (cond b (mark N6 p ∷ []) []) (p.end ∷ [])
      go true lo hi s = s
      go false lo hi s = spread_within lo (p.end ∷ []) hi s

  types_keep : (scope : Scope) (xs : List Stmt) (v : Sum) → Keeps (type_marks_from text scope xs) (body_ends xs v)
  types_keep scope [] v = keeps_none (sum_ends v)
  types_keep scope (stmts.Let m n s ∷ xs) v =
      keeps_append [] (type_marks_from text (bound m (text_at text n) scope) xs) (n.end ∷ sum_ends s) (body_ends xs v) (keeps_none (n.end ∷ sum_ends s)) (types_keep (bound m (text_at text n) scope) xs v)
  types_keep scope (stmts.Set n s ∷ xs) v =
      keeps_append (where_fixed (found (text_at text n) scope) (mark T11 n)) (type_marks_from text scope xs) (n.end ∷ sum_ends s) (body_ends xs v)
      (λ lo hi h. let cut : (mid : ℕ) × Spread lo (n.end ∷ []) mid × Spread mid (sum_ends s) hi = spread_cut lo (n.end ∷ []) (sum_ends s) hi h in
      let last = spread_within cut.0 (sum_ends s) hi cut.2 in
      fixed_keeps (found (text_at text n) scope) (mark T11 n) lo hi (cut.1.0, let low = cut.1.1 in omega (arith, low, last)))
      (types_keep scope xs v)

  -- the marks of names end one behind the other
  pub names_spread : (f : File) (hi : ℕ) → Spread 0 (file_ends f) hi → Spread 0 (marks_ends (name_marks text f)) hi
  names_spread f hi s =
      keeps_append (param_marks text [] f.parameters) (body_marks text (with_params text f.parameters []) f.body.statements f.body.value) (spans_ends f.parameters) (body_ends f.body.statements f.body.value)
      (param_keeps [] f.parameters) (body_keeps (with_params text f.parameters []) f.body.statements f.body.value) 0 hi s

  -- and so do those of types
  pub types_spread : (f : File) (hi : ℕ) → Spread 0 (file_ends f) hi → Spread 0 (marks_ends (type_marks text f)) hi
  types_spread f hi s =
      keeps_append [] (type_marks text f) (spans_ends f.parameters) (body_ends f.body.statements f.body.value) (keeps_none (spans_ends f.parameters))
      (types_keep (with_params text f.parameters []) f.body.statements f.body.value) 0 hi s

-- ---- the first

all_later : (bound lo : ℕ) (ms : List Mark) (hi : ℕ) → bound ≤ lo → Spread lo (marks_ends ms) hi → AllByRecursion (λ (n : Mark). bound ≤ n.at.end) ms
all_later bound lo [] hi h s = tt
all_later bound lo (m ∷ ms) hi h (a, s) = (omega (arith, h, a), all_later bound m.at.end ms hi (omega (arith, h, a)) s)

-- the head of marks that end one behind the other is the first
pub head_first : (m : Mark) (rest ms : List Mark) (hi : ℕ) → ms ≡ m ∷ rest → Spread 0 (marks_ends ms) hi → IsFirst m ms
head_first m rest ms hi e s =
    let (a, t) = subst (λ xs. Spread 0 (marks_ends xs) hi) e s in
    subst (IsFirst m) (sym e) (inl refl, (omega arith, all_later m.at.end m.at.end rest hi (omega arith) t))

later : (m : Mark) (lo : ℕ) (ms : List Mark) (hi : ℕ) → Spread lo (marks_ends ms) hi → IsOneOf m ms → lo < m.at.end
later m lo [] hi s i = absurd i
later m lo (n ∷ ns) hi (a, s) (inl e) = subst (λ (x : Mark). lo < x.at.end) e a
later m lo (n ∷ ns) hi (a, s) (inr i) = let h = later m n.at.end ns hi s i in omega (arith, h, a)

-- the first of marks that end one behind the other is their head
pub first_head : (m : Mark) (ms : List Mark) (hi : ℕ) → Spread 0 (marks_ends ms) hi → IsFirst m ms → (rest : List Mark) × (ms ≡ m ∷ rest)
first_head m [] hi s (i, all) = absurd i
first_head m (n ∷ ns) hi s (inl e, all) = (ns, ap (λ x. x ∷ ns) e)
first_head m (n ∷ ns) hi (a, s) (inr i, (b, all)) = let h = later m n.at.end ns hi s i in absurd (omega (arith, h, b))
