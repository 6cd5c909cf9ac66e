-- Which plain programs are trees of a stage: their features, names, scopes and types.
use Rattle.std.specs.Prelude.{◌≡◌, ℕ, ◌^◌, ◌<◌, ◌≤◌, List, [], ◌∷◌, ◌++◌, map, length, true, false, eqb, bytes_eq, Some, ⊤}
use Rattle.std.specs.List.{AllByRecursion, IsDistinct, list_any}
use Rattle.hs_first_tree.specs.Value.{ValType, U32}
use Rattle.hs_first_tree.specs.Plain.{Exp, var, lit, op, Exps, no_exps, exp, Rhs, plain, Stmt, bind, set, Stmts, no_stmts, stmt, Block, ends, Function}
use Rattle.hs_first_tree.specs.Features.{Feature, Assign, Stage}
use Rattle.hs_base.specs.Names.{is_name}
use Rattle.hs_first_tree.specs.Operation.{row_types}
use Rattle.hs_first_tree.specs.Count.{uses}

abbrev mutual
  -- each local that is read is one of the first `count`, and is bound
  pub ScopedExp : ℕ → List ℕ → Exp → Type 0
  ScopedExp count bound (var k) = (k < count) × (list_any (eqb k) bound ≡ true)
  ScopedExp count bound (lit n) = ⊤
  ScopedExp count bound (op name es) = ScopedExps count bound es

  -- the same of operands
  pub ScopedExps : ℕ → List ℕ → Exps → Type 0
  ScopedExps count bound no_exps = ⊤
  ScopedExps count bound (exp e es) = ScopedExp count bound e × ScopedExps count bound es

-- the same of a right side
abbrev pub ScopedRhs : ℕ → List ℕ → Rhs → Type 0
ScopedRhs count bound (plain e) = ScopedExp count bound e

-- statements and the value behind them: a binding lasts to the end of its block, and what is assigned is bound
abbrev pub ScopedStmts : ℕ → List ℕ → Stmts → Rhs → Type 0
ScopedStmts count bound no_stmts tail = ScopedRhs count bound tail
ScopedStmts count bound (stmt (bind k r) xs) tail = ScopedRhs count bound r × (k < count) × ScopedStmts count (k ∷ bound) xs tail
ScopedStmts count bound (stmt (set k r) xs) tail =
    ScopedRhs count bound r × (k < count) × (list_any (eqb k) bound ≡ true) × ScopedStmts count bound xs tail

-- a block
abbrev pub ScopedBlock : ℕ → List ℕ → Block → Type 0
ScopedBlock count bound (ends xs tail) = ScopedStmts count bound xs tail

-- the locals that statements bind, in the order of the text
abbrev pub binds_stmts : Stmts → List ℕ
binds_stmts no_stmts = []
binds_stmts (stmt (bind k r) xs) = k ∷ binds_stmts xs
binds_stmts (stmt (set k r) xs) = binds_stmts xs

-- the locals that a block binds
abbrev pub binds : Block → List ℕ
binds (ends xs tail) = binds_stmts xs

abbrev mutual
  -- an expression is of the type, where the locals are of these types
  pub TypedExp : (ℕ → ValType) → Exp → ValType → Type 0
  TypedExp types (var k) t = types k ≡ t
  TypedExp types (lit n) t = (n < 2 ^ 32) × (t ≡ U32)
  TypedExp types (op name es) t = (ts : List ValType) × (row_types name ≡ Some (ts, t)) × TypedExps types es ts

  -- operands are of the types, as many as they are
  pub TypedExps : (ℕ → ValType) → Exps → List ValType → Type 0
  TypedExps types no_exps [] = ⊤
  TypedExps types no_exps (t ∷ ts) = ⊥
  TypedExps types (exp e es) [] = ⊥
  TypedExps types (exp e es) (t ∷ ts) = TypedExp types e t × TypedExps types es ts

-- a right side is of the type
abbrev pub TypedRhs : (ℕ → ValType) → Rhs → ValType → Type 0
TypedRhs types (plain e) t = TypedExp types e t

-- what is bound or assigned is of its local's type
abbrev pub TypedStmt : (ℕ → ValType) → Stmt → Type 0
TypedStmt types (bind k r) = TypedRhs types r (types k)
TypedStmt types (set k r) = TypedRhs types r (types k)

-- the same of statements
abbrev pub TypedStmts : (ℕ → ValType) → Stmts → Type 0
TypedStmts types no_stmts = ⊤
TypedStmts types (stmt x xs) = TypedStmt types x × TypedStmts types xs

-- a block is of the type
abbrev pub TypedBlock : (ℕ → ValType) → Block → ValType → Type 0
TypedBlock types (ends xs tail) t = TypedStmts types xs × TypedRhs types tail t

-- each local has one type, which its parameter, its bindings and its reads have
abbrev pub Typed : Function → Type 0
Typed f = (types : ℕ → ValType) × AllByRecursion (λ p. types p.local ≡ p.type) f.params × TypedBlock types f.block f.returns

-- a function of any stage: its names are names, it has at most 32 parameters, each a local of its own, and its scopes and types are kept
pub record SoundFunction (f : Function) : Type 0 where
  pub name : is_name f.name ≡ true
  pub locals : AllByRecursion (λ w. is_name w ≡ true) f.locals
  pub few : length f.params ≤ 32
  pub apart : IsDistinct eqb (map (λ p. p.local) f.params)
  pub within : AllByRecursion (λ p. p.local < length f.locals) f.params
  pub scoped : ScopedBlock (length f.locals) (map (λ p. p.local) f.params) f.block
  pub typed : Typed f

-- each local of the function is bound at one place
abbrev pub BoundOnce : Function → Type 0
BoundOnce f = IsDistinct eqb (map (λ p. p.local) f.params ++ binds f.block)

-- a program of a stage: it uses no feature that the stage lacks, no two functions share a name, each function is sound, and
-- while locals may be assigned each is bound at one place
pub record Sound (stage : Stage) (p : List Function) : Type 0 where
  pub absent : (f : Feature) → stage f ≡ false → uses f p ≡ 0
  pub names : IsDistinct bytes_eq (map (λ f. f.name) p)
  pub each : AllByRecursion SoundFunction p
  pub once : stage Assign ≡ true → AllByRecursion BoundOnce p
