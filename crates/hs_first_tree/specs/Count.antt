-- Counts of nodes: how often a program uses a feature, how many loops a function has, and how often it calls another.
use Rattle.std.specs.Prelude.{ℕ, ◌+◌, List, [], ◌∷◌, if◌then◌else◌}
use Rattle.hs_first_tree.specs.Features.{Feature, Assign, same}
use Rattle.hs_first_tree.specs.Plain.{Exp, var, lit, op, Exps, no_exps, exp, Rhs, plain, Stmt, bind, set, Stmts, no_stmts, stmt, Block, ends, Function}

-- what a node counts, without the nodes inside it
pub record Weights : Type 0 where
  pub of_exp : Exp → ℕ
  pub of_stmt : Stmt → ℕ

abbrev mutual
  -- an expression with all inside it
  pub total_exp : Weights → Exp → ℕ
  total_exp w (var k) = w.of_exp (var k)
  total_exp w (lit n) = w.of_exp (lit n)
  total_exp w (op name es) = w.of_exp (op name es) + total_exps w es

  -- operands
  pub total_exps : Weights → Exps → ℕ
  total_exps w no_exps = 0
  total_exps w (exp e es) = total_exp w e + total_exps w es

-- a right side
abbrev pub total_rhs : Weights → Rhs → ℕ
total_rhs w (plain e) = total_exp w e

-- a statement with all inside it
abbrev pub total_stmt : Weights → Stmt → ℕ
total_stmt w (bind k r) = w.of_stmt (bind k r) + total_rhs w r
total_stmt w (set k r) = w.of_stmt (set k r) + total_rhs w r

-- statements
abbrev pub total_stmts : Weights → Stmts → ℕ
total_stmts w no_stmts = 0
total_stmts w (stmt x xs) = total_stmt w x + total_stmts w xs

-- a block
abbrev pub total_block : Weights → Block → ℕ
total_block w (ends xs r) = total_stmts w xs + total_rhs w r

-- 1 where the features are the same
abbrev pub mark : Feature → Feature → ℕ
mark f g = if same f g then 1 else 0

-- 1 for a statement that has the feature
abbrev pub marks : Feature → Stmt → ℕ
marks f (bind k r) = 0
marks f (set k r) = mark f Assign

-- one for each node that has the feature; no expression has one yet
abbrev pub having : Feature → Weights
having f = record { of_exp = λ e. 0; of_stmt = marks f }

-- one for each loop; the language has none yet
abbrev pub looping : Weights
looping = record { of_exp = λ e. 0; of_stmt = λ x. 0 }

-- one for each call of the function of this name; the language has none yet
abbrev pub calling : List ℕ → Weights
calling name = record { of_exp = λ e. 0; of_stmt = λ x. 0 }

-- how often a program uses the feature
abbrev pub uses : Feature → List Function → ℕ
uses f [] = 0
uses f (g ∷ p) = total_block (having f) g.block + uses f p

-- how many loops a function has
abbrev pub loops : Function → ℕ
loops g = total_block looping g.block

-- how often a function calls the one of this name
abbrev pub calls : List ℕ → Function → ℕ
calls name g = total_block (calling name) g.block
