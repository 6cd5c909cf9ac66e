-- What the steps of a resolver give: what they make of a file, or the first name that breaks a rule.
use Rattle.std.specs.Prelude.{◌≡◌, ℕ, List, [], ◌∷◌, ◌++◌, length, Bool, bytes_eq, Option, Some, None, Result, Ok, Err, if◌then◌else◌}
use Rattle.std.specs.List.{list_any}
use Rattle.hs_base.specs.declared.rule.Rule.TheVariants.{N3, N6, N10, T11}
use Rattle.hs_parser.specs.declared.stop.ParseStop.{ParseStop}
use Rattle.hs_parser.specs.declared.stop.ParseStop.TheVariants as stop
use Rattle.hs_first_tree.specs.Plain as tree
use Rattle.hs_first_tree.specs.Of.{stmts_of}
use Rattle.hs_front.specs.declared.syntax.Span.{Span}
use Rattle.hs_front.specs.declared.syntax.Prim.{Prim}
use Rattle.hs_front.specs.declared.syntax.Prim.TheVariants as prims
use Rattle.hs_front.specs.declared.syntax.Sum.{Sum}
use Rattle.hs_front.specs.declared.syntax.Stmt.{Stmt}
use Rattle.hs_front.specs.declared.syntax.Stmt.TheVariants as stmts
use Rattle.hs_front.specs.declared.syntax.File.{File}
use Rattle.hs_front.specs.Scope.{Scope, text_at, found, bound}
use Rattle.hs_front.specs.Marks.{Mark, mark, with_params}
use Rattle.hs_front.specs.Program.{added, around}
use Rattle.hs_front.specs.Told.{told_at}

-- what a step gives
pub data Walk (A : Type 0) : Type 0 where
  Makes : A → Walk A
  Breaks : Mark → Walk A

-- a step, and the steps that follow from what it makes
infixl 10 ◌>>=◌
abbrev pub ◌>>=◌ : {A B : Type 0} → Walk A → (A → Walk B) → Walk B
Makes a >>= k = k a
Breaks m >>= k = Breaks m

-- the local that there is, or the mark
abbrev pub known : Option (ℕ × Bool) → Mark → Walk ℕ
known None m = Breaks m
known (Some l) m = Makes l.0

-- nothing, where the local may be assigned
abbrev pub assignable : Option (ℕ × Bool) → Mark → Walk (Unit {0})
assignable None m = Makes tt
assignable (Some l) m = if l.1 then Makes tt else Breaks m

-- a pair of what is made and the locals in scope
abbrev pub with_scope : {A : Type 0} → A → Scope → A × Scope
with_scope a scope = (a, scope)

module _ (text : List ℕ) where
  abbrev pub prim_walk : Scope → Prim → Walk tree.Exp
  prim_walk scope (prims.Name n) = known (found (text_at text n) scope) (mark N3 n) >>= λ k. Makes (tree.var k)
  prim_walk scope (prims.Int n) = Makes (tree.lit n)

  abbrev pub parts_walk : Scope → tree.Exp → List Prim → Walk tree.Exp
  parts_walk scope e [] = Makes e
  parts_walk scope e (p ∷ ps) = prim_walk scope p >>= λ x. parts_walk scope (added e x) ps

  abbrev pub sum_walk : Scope → Sum → Walk tree.Exp
  sum_walk scope s = prim_walk scope s.first >>= λ x. parts_walk scope x s.more

  abbrev pub stmt_walk : Scope → Stmt → Walk (tree.Stmt × Scope)
  stmt_walk scope (stmts.Let m n s) = sum_walk scope s >>= λ e. Makes (with_scope (tree.bind (length scope) (tree.plain e)) (bound m (text_at text n) scope))
  stmt_walk scope (stmts.Set n s) =
      known (found (text_at text n) scope) (mark N10 n) >>= λ k. sum_walk scope s >>= λ e. Makes (with_scope (tree.set k (tree.plain e)) scope)

  abbrev pub stmts_walk : Scope → List Stmt → Walk (List tree.Stmt × Scope)
  stmts_walk scope [] = Makes (with_scope [] scope)
  stmts_walk scope (x ∷ xs) = stmt_walk scope x >>= λ y. stmts_walk y.1 xs >>= λ z. Makes (with_scope (y.0 ∷ z.0) z.1)

  abbrev pub block_walk : Scope → List Stmt → Sum → Walk tree.Block
  block_walk scope xs v = stmts_walk scope xs >>= λ z. sum_walk z.1 v >>= λ e. Makes (tree.ends (stmts_of z.0) (tree.plain e))

  abbrev pub param_walk : List (List ℕ) → List Span → Walk (Unit {0})
  param_walk before [] = Makes tt
  param_walk before (p ∷ ps) = if list_any (bytes_eq (text_at text p)) before then Breaks (mark N6 p) else param_walk (before ++ text_at text p ∷ []) ps

  abbrev pub type_walk : Scope → List Stmt → Walk (Unit {0})
  type_walk scope [] = Makes tt
  type_walk scope (stmts.Let m n s ∷ xs) = type_walk (bound m (text_at text n) scope) xs
  type_walk scope (stmts.Set n s ∷ xs) = assignable (found (text_at text n) scope) (mark T11 n) >>= λ _. type_walk scope xs

  abbrev pub file_walk : File → Walk (List tree.Function)
  file_walk f =
      param_walk [] f.parameters >>= λ _. block_walk (with_params text f.parameters []) f.body.statements f.body.value
      >>= λ b. type_walk (with_params text f.parameters []) f.body.statements >>= λ _. Makes (around text f b)

  -- the answer is what the steps give, seen through a function; or there was no memory
  abbrev pub Gives : {A B : Type 0} → Walk B → (A → B) → Result A ParseStop → Type 0
  Gives o f (Ok x) = o ≡ Makes (f x)
  Gives o f (Err (stop.Broken b)) = (m : Mark) × (o ≡ Breaks m) × (b ≡ told_at text m)
  Gives o f (Err stop.TooDeep) = ⊥
  Gives o f (Err stop.NoMemory) = Unit {0}

  -- the same, with the locals in scope behind it
  abbrev pub GivesIn : {A B : Type 0} → Walk (B × Scope) → (A → B) → Result A ParseStop → Scope → Type 0
  GivesIn o f (Ok x) scope = o ≡ Makes (with_scope (f x) scope)
  GivesIn o f (Err (stop.Broken b)) scope = (m : Mark) × (o ≡ Breaks m) × (b ≡ told_at text m)
  GivesIn o f (Err stop.TooDeep) scope = ⊥
  GivesIn o f (Err stop.NoMemory) scope = Unit {0}
