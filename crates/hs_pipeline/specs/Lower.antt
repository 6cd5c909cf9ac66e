-- The module of a program in which nothing is assigned: one definition for each function.
use Rattle.std.specs.Prelude.{ℕ, List, [], map, get_or}
use Rattle.hs_first_tree.specs.Plain as tree
use Rattle.hs_first_em.specs.Plain.{EmVar, Em, local, number, op, bind, Ems, no_ems, em, EmPar, EmDef, Module}

-- a local with the name that its function's list gives it
abbrev pub lowered_var : List (List ℕ) → ℕ → EmVar
lowered_var names k = record { name = get_or names k []; number = k }

abbrev mutual
  -- an expression
  pub lowered_exp : List (List ℕ) → tree.Exp → Em
  lowered_exp names (tree.var k) = local (lowered_var names k)
  lowered_exp names (tree.lit n) = number n
  lowered_exp names (tree.op w es) = op w (lowered_exps names es)

  -- operands
  pub lowered_exps : List (List ℕ) → tree.Exps → Ems
  lowered_exps names tree.no_exps = no_ems
  lowered_exps names (tree.exp e es) = em (lowered_exp names e) (lowered_exps names es)

-- a right side
abbrev pub lowered_rhs : List (List ℕ) → tree.Rhs → Em
lowered_rhs names (tree.plain e) = lowered_exp names e

-- what follows a statement, with the local that the statement gives its value; an assignment is a binding here, and stands in no such program
abbrev pub lowered_stmt : List (List ℕ) → tree.Stmt → Em → Em
lowered_stmt names (tree.bind k r) e = bind (lowered_var names k) (lowered_rhs names r) e
lowered_stmt names (tree.set k r) e = bind (lowered_var names k) (lowered_rhs names r) e

-- statements and what follows them
abbrev pub lowered_stmts : List (List ℕ) → tree.Stmts → Em → Em
lowered_stmts names tree.no_stmts e = e
lowered_stmts names (tree.stmt x xs) e = lowered_stmt names x (lowered_stmts names xs e)

-- a block
abbrev pub lowered_block : List (List ℕ) → tree.Block → Em
lowered_block names (tree.ends xs r) = lowered_stmts names xs (lowered_rhs names r)

-- a parameter
abbrev pub lowered_param : List (List ℕ) → tree.Param → EmPar
lowered_param names p = record { var = lowered_var names p.local; type = p.type }

-- a function
abbrev pub lowered_function : tree.Function → EmDef
lowered_function f =
    record { name = f.name; params = map (lowered_param f.locals) f.params; returns = f.returns; body = lowered_block f.locals f.block }

-- the module of this name for the program
abbrev pub lowered : List ℕ → List tree.Function → Module
lowered name p = record { name = name; defs = map lowered_function p }
