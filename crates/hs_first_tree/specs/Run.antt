-- Runs of trees: a relation between the store before, the outcome, the store after and the number of turns.
use Rattle.std.specs.Prelude.{◌≡◌, ◌⊎◌, ℕ, ◌+◌, List, [], ◌∷◌}
use Rattle.hs_first_tree.specs.Value.{Value, Number}
use Rattle.hs_first_tree.specs.Operation.{Applied, Is, Fails, Kind, applied}
use Rattle.hs_first_tree.specs.Plain.{Exp, var, lit, op, Exps, no_exps, exp, Rhs, plain, Stmt, bind, set, Stmts, no_stmts, stmt, Block, ends}
use Rattle.hs_first_tree.specs.Store.{Has, Store, put, Outcome, Gives, Exits, Panics}

-- store before, outcome, store after, turns
abbrev pub Rel : Type 1
Rel = Store → Outcome → Store → ℕ → Type 0

-- the outcome ends what it stands in
abbrev pub Ends : Outcome → Type 0
Ends (Gives v) = ⊥
Ends (Exits v) = Unit {0}
Ends (Panics p) = Unit {0}

-- this outcome, without a turn and with the store as it was
abbrev pub Just : Outcome → Rel
Just p s o s' n = (o ≡ p) × (s' ≡ s) × (n ≡ 0)

-- the first gives a value and the second follows it, or the first ends the run
abbrev pub Then : Rel → (Value → Rel) → Rel
Then R K s o s' n =
    ((v : Value) × (m : Store) × (a : ℕ) × (b : ℕ) × R s (Gives v) m a × K v m o s' b × (n ≡ a + b))
    ⊎ (Ends o × R s o s' n)

-- the value of a local
abbrev pub Reads : ℕ → Rel
Reads k s o s' n = (v : Value) × (s k ≡ Has v) × Just (Gives v) s o s' n

-- what an operation gives; where it gives nothing there is no run
abbrev pub Applies : Applied → Rel
Applies (Is v) = Just (Gives v)
Applies (Fails p) = Just (Panics p)
Applies Kind = λ s o s' n. ⊥

-- with the value in the local, which holds afterwards what it held before
abbrev pub Binds : ℕ → Value → Rel → Rel
Binds k v R s o s' n = (m : Store) × R (put s k (Has v)) o m n × (s' ≡ put m k (s k))

abbrev mutual
  -- runs of an expression
  pub RunsExp : Exp → Rel
  RunsExp (var k) = Reads k
  RunsExp (lit n) = Just (Gives (Number n))
  RunsExp (op name es) = RunsExps es (λ vs. Applies (applied name vs))

  -- operands run from left to right, and what follows takes their values
  pub RunsExps : Exps → (List Value → Rel) → Rel
  RunsExps no_exps K = K []
  RunsExps (exp e es) K = Then (RunsExp e) (λ v. RunsExps es (λ vs. K (v ∷ vs)))

-- runs of a right side
abbrev pub RunsRhs : Rhs → Rel
RunsRhs (plain e) = RunsExp e

-- a statement runs, and then what follows it in its block
abbrev pub RunsStmt : Stmt → Rel → Rel
RunsStmt (bind k r) R = Then (RunsRhs r) (λ v. Binds k v R)
RunsStmt (set k r) R = Then (RunsRhs r) (λ v s. R (put s k (Has v)))

-- statements run in order, and then what follows them
abbrev pub RunsStmts : Stmts → Rel → Rel
RunsStmts no_stmts R = R
RunsStmts (stmt x xs) R = RunsStmt x (RunsStmts xs R)

-- runs of a block: its statements, then its value
abbrev pub RunsBlock : Block → Rel
RunsBlock (ends xs r) = RunsStmts xs (RunsRhs r)
