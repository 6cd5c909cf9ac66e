-- What the resolver's steps give is what the definitions say.
use Rattle.std.proofs.Common.{◌≡◌, ◌⊎◌, inl, inr, ℕ, List, [], ◌∷◌, ◌++◌, length, Bool, true, false, cond, bytes_eq, Option, Some, None, refl, sym, ap, ◌∙◌, subst}
use Rattle.std.specs.List.{list_any}
use Rattle.hs_base.specs.declared.rule.Rule.TheVariants.{N3, N6, N10, T11}
use Rattle.hs_first_tree.specs.Plain as tree
use Rattle.hs_first_tree.specs.Of.{stmts_of}
use Rattle.hs_front.specs.declared.syntax.Span.{Span}
use Rattle.hs_front.specs.declared.syntax.Prim.{Prim}
use Rattle.hs_front.specs.declared.syntax.Prim.TheVariants as prims
use Rattle.hs_front.specs.declared.syntax.Sum.{Sum}
use Rattle.hs_front.specs.declared.syntax.Stmt.{Stmt}
use Rattle.hs_front.specs.declared.syntax.Stmt.TheVariants as stmts
use Rattle.hs_front.specs.declared.syntax.File.{File}
use Rattle.hs_front.specs.Scope.{Scope, text_at, found, bound}
use Rattle.hs_front.specs.Marks.{Mark, mark, where_none, where_fixed, prim_marks, parts_marks, sum_marks, stmt_marks, behind_stmt, body_marks, param_marks, with_params, name_marks, type_marks_from, type_marks}
use Rattle.hs_front.specs.Program.{number_of, added, prim_tree, parts_tree, sum_tree, stmt_tree, stmts_tree, behind_stmts, block_tree, around, program_from}
use Rattle.hs_front.specs.Walk.{Walk, Makes, Breaks, ◌>>=◌, known, assignable, with_scope, prim_walk, parts_walk, sum_walk, stmt_walk, stmts_walk, block_walk, param_walk, type_walk, file_walk}

-- the mark is the first in the list
abbrev pub IsHead : Mark → List Mark → Type 0
IsHead m ms = (rest : List Mark) × (ms ≡ m ∷ rest)

-- a step makes the value where there are no marks, else it gives the first of them
abbrev pub Agrees : {A : Type 0} → List Mark → A → Walk A → Type 0
Agrees ms v (Makes x) = (ms ≡ []) × (x ≡ v)
Agrees ms v (Breaks m) = IsHead m ms

-- one step behind another
then_ : {A B : Type 0} (ms ns : List Mark) (v : A) (u : B) (w : Walk A) (k : A → Walk B) → Agrees ms v w → Agrees ns u (k v) → Agrees (ms ++ ns) u (w >>= k)
then_ ms ns v u (Makes x) k (e, f) h =
    subst (λ xs. Agrees (xs ++ ns) u (k x)) (sym e) (subst (λ y. Agrees ns u (k y)) (sym f) h)
then_ ms ns v u (Breaks m) k (rest, e) h = (rest ++ ns, ap (λ xs. xs ++ ns) e)

-- a step whose value something is made of
maps : {A B : Type 0} (ms : List Mark) (v : A) (h : A → B) (w : Walk A) → Agrees ms v w → Agrees ms (h v) (w >>= λ x. Makes (h x))
maps ms v h (Makes x) (e, f) = (e, ap h f)
maps ms v h (Breaks m) a = a

module _ (text : List ℕ) where
  known_agrees : (o : Option (ℕ × Bool)) (m : Mark) → Agrees (where_none o m) (number_of o) (known o m)
  known_agrees None m = ([], refl)
  known_agrees (Some l) m = (refl, refl)

  prim_agrees : (scope : Scope) (p : Prim) → Agrees (prim_marks text scope p) (prim_tree text scope p) (prim_walk text scope p)
  prim_agrees scope (prims.Name n) =
      maps (where_none (found (text_at text n) scope) (mark N3 n)) (number_of (found (text_at text n) scope)) (λ k. tree.var k) (known (found (text_at text n) scope) (mark N3 n))
      (known_agrees (found (text_at text n) scope) (mark N3 n))
  prim_agrees scope (prims.Int n) = (refl, refl)

  parts_agrees : (scope : Scope) (e : tree.Exp) (ps : List Prim) → Agrees (parts_marks text scope ps) (parts_tree text scope e ps) (parts_walk text scope e ps)
  parts_agrees scope e [] = (refl, refl)
  parts_agrees scope e (p ∷ ps) =
      then_ (prim_marks text scope p) (parts_marks text scope ps) (prim_tree text scope p) (parts_tree text scope (added e (prim_tree text scope p)) ps) (prim_walk text scope p) (λ x. parts_walk text scope (added e x) ps)
      (prim_agrees scope p) (parts_agrees scope (added e (prim_tree text scope p)) ps)

  sum_agrees : (scope : Scope) (s : Sum) → Agrees (sum_marks text scope s) (sum_tree text scope s) (sum_walk text scope s)
  sum_agrees scope s =
      then_ (prim_marks text scope s.first) (parts_marks text scope s.more) (prim_tree text scope s.first) (sum_tree text scope s) (prim_walk text scope s.first) (λ x. parts_walk text scope x s.more)
      (prim_agrees scope s.first) (parts_agrees scope (prim_tree text scope s.first) s.more)

  stmt_agrees : (scope : Scope) (x : Stmt) → Agrees (stmt_marks text scope x) (with_scope (stmt_tree text scope x) (behind_stmt text scope x)) (stmt_walk text scope x)
  stmt_agrees scope (stmts.Let m n s) =
      maps (sum_marks text scope s) (sum_tree text scope s) (λ e. with_scope (tree.bind (length scope) (tree.plain e)) (bound m (text_at text n) scope)) (sum_walk text scope s) (sum_agrees scope s)
  stmt_agrees scope (stmts.Set n s) =
      let o = found (text_at text n) scope in
      then_ (where_none o (mark N10 n)) (sum_marks text scope s) (number_of o) (with_scope (tree.set (number_of o) (tree.plain (sum_tree text scope s))) scope) (known o (mark N10 n))
      (λ k. sum_walk text scope s >>= λ e. Makes (with_scope (tree.set k (tree.plain e)) scope))
      (known_agrees o (mark N10 n))
      (maps (sum_marks text scope s) (sum_tree text scope s) (λ e. with_scope (tree.set (number_of o) (tree.plain e)) scope) (sum_walk text scope s) (sum_agrees scope s))

  -- statements, and then the value, of which something is made
  abbrev body_walk : {C : Type 0} → (List tree.Stmt → tree.Exp → C) → Scope → List Stmt → Sum → Walk C
  body_walk make scope xs v = stmts_walk text scope xs >>= λ z. sum_walk text z.1 v >>= λ e. Makes (make z.0 e)

  body_more : {C : Type 0} (make : List tree.Stmt → tree.Exp → C) (y : tree.Stmt × Scope) (v : Sum) (w : Walk (List tree.Stmt × Scope))
      → ((w >>= λ z. Makes (with_scope (y.0 ∷ z.0) z.1)) >>= λ z. sum_walk text z.1 v >>= λ e. Makes (make z.0 e)) ≡ (w >>= λ z. sum_walk text z.1 v >>= λ e. Makes (make (y.0 ∷ z.0) e))
  body_more make y v (Makes z) = refl
  body_more make y v (Breaks m) = refl

  body_step : {C : Type 0} (make : List tree.Stmt → tree.Exp → C) (xs : List Stmt) (v : Sum) (w : Walk (tree.Stmt × Scope))
      → ((w >>= λ y. stmts_walk text y.1 xs >>= λ z. Makes (with_scope (y.0 ∷ z.0) z.1)) >>= λ z. sum_walk text z.1 v >>= λ e. Makes (make z.0 e))
      ≡ (w >>= λ y. body_walk (λ zs e. make (y.0 ∷ zs) e) y.1 xs v)
  body_step make xs v (Makes y) = body_more make y v (stmts_walk text y.1 xs)
  body_step make xs v (Breaks m) = refl

  body_agrees : {C : Type 0} (make : List tree.Stmt → tree.Exp → C) (scope : Scope) (xs : List Stmt) (v : Sum)
      → Agrees (body_marks text scope xs v) (make (stmts_tree text scope xs) (sum_tree text (behind_stmts text scope xs) v)) (body_walk make scope xs v)
  body_agrees make scope [] v = maps (sum_marks text scope v) (sum_tree text scope v) (make []) (sum_walk text scope v) (sum_agrees scope v)
  body_agrees make scope (x ∷ xs) v =
      let behind = behind_stmt text scope x in
      let value = make (stmts_tree text scope (x ∷ xs)) (sum_tree text (behind_stmts text behind xs) v) in
      subst (Agrees (body_marks text scope (x ∷ xs) v) value) (sym (body_step make xs v (stmt_walk text scope x)))
      (then_ (stmt_marks text scope x) (body_marks text behind xs v) (with_scope (stmt_tree text scope x) behind) value (stmt_walk text scope x) (λ y. body_walk (λ zs e. make (y.0 ∷ zs) e) y.1 xs v)
      (stmt_agrees scope x) (body_agrees (λ zs e. make (stmt_tree text scope x ∷ zs) e) behind xs v))

  params_agree : (before : List (List ℕ)) (ps : List Span) → Agrees (param_marks text before ps) tt (param_walk text before ps)
  params_agree before [] = (refl, refl)
  params_agree before (p ∷ ps) = go (list_any (bytes_eq (text_at text p)) before) (params_agree (before ++ text_at text p ∷ []) ps)
    where
      go : (b : Bool) → Agrees (param_marks text (before ++ text_at text p ∷ []) ps) tt (param_walk text (before ++ text_at text p ∷ []) ps)
          → Agrees (cond b (mark N6 p ∷ []) [] ++ param_marks text (before ++ text_at text p ∷ []) ps) tt (cond b (Breaks (mark N6 p)) (param_walk text (before ++ text_at text p ∷ []) ps))
      go true h = (param_marks text (before ++ text_at text p ∷ []) ps, refl)
      go false h = h

  assignable_agrees : (o : Option (ℕ × Bool)) (m : Mark) → Agrees (where_fixed o m) tt (assignable o m)
  assignable_agrees None m = (refl, refl)
  assignable_agrees (Some l) m = go l.1
    where
      go : (b : Bool) → Agrees {A = Unit {0}} (cond b [] (m ∷ [])) tt (cond b (Makes tt) (Breaks m))
      go true = (refl, refl)
      go false = ([], refl)

  types_agree : (scope : Scope) (xs : List Stmt) → Agrees (type_marks_from text scope xs) tt (type_walk text scope xs)
  types_agree scope [] = (refl, refl)
  types_agree scope (stmts.Let m n s ∷ xs) = types_agree (bound m (text_at text n) scope) xs
  types_agree scope (stmts.Set n s ∷ xs) =
      let o = found (text_at text n) scope in
      then_ (where_fixed o (mark T11 n)) (type_marks_from text scope xs) tt tt (assignable o (mark T11 n)) (λ _. type_walk text scope xs) (assignable_agrees o (mark T11 n)) (types_agree scope xs)

  -- what the steps for a file give: its program where no name is marked, or the first mark of the first stage that has one
  abbrev pub FileAgrees : File → Walk (List tree.Function) → Type 0
  FileAgrees f (Makes p) = (name_marks text f ≡ []) × (type_marks text f ≡ []) × (p ≡ program_from text f)
  FileAgrees f (Breaks m) = IsHead m (name_marks text f) ⊎ ((name_marks text f ≡ []) × IsHead m (type_marks text f))

  pub file_agrees : (f : File) → FileAgrees f (file_walk text f)
  file_agrees f =
      go (param_walk text [] f.parameters) (block_walk text (with_params text f.parameters []) f.body.statements f.body.value) (type_walk text (with_params text f.parameters []) f.body.statements)
      (params_agree [] f.parameters) (body_agrees (λ zs e. tree.ends (stmts_of zs) (tree.plain e)) (with_params text f.parameters []) f.body.statements f.body.value)
      (types_agree (with_params text f.parameters []) f.body.statements)
    where
      go : (p : Walk (Unit {0})) (b : Walk tree.Block) (t : Walk (Unit {0})) → Agrees (param_marks text [] f.parameters) tt p
          → Agrees (body_marks text (with_params text f.parameters []) f.body.statements f.body.value) (block_tree text (with_params text f.parameters []) f.body.statements f.body.value) b
          → Agrees (type_marks text f) tt t
          → FileAgrees f (p >>= λ _. b >>= λ x. t >>= λ _. Makes (around text f x))
      go (Breaks m) b t (rest, e) h k = inl (rest ++ body_marks text (with_params text f.parameters []) f.body.statements f.body.value, ap (λ xs. xs ++ body_marks text (with_params text f.parameters []) f.body.statements f.body.value) e)
      go (Makes u) (Breaks m) t (e, i) (rest, h) k = inl (rest, ap (λ xs. xs ++ body_marks text (with_params text f.parameters []) f.body.statements f.body.value) e ∙ h)
      go (Makes u) (Makes x) (Breaks m) (e, i) (h, j) k = inr (ap (λ xs. xs ++ body_marks text (with_params text f.parameters []) f.body.statements f.body.value) e ∙ h, k)
      go (Makes u) (Makes x) (Makes v) (e, i) (h, j) (k, l) = (ap (λ xs. xs ++ body_marks text (with_params text f.parameters []) f.body.statements f.body.value) e ∙ h, k, ap (around text f) j)
