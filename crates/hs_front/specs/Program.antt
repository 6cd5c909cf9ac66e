-- The program of a file whose names are known.
use Rattle.std.specs.Prelude.{ℕ, ◌+◌, List, [], ◌∷◌, ◌++◌, map, length, Bool, codes, Option, Some, None}
use Rattle.hs_first_tree.specs.Value.{U32}
use Rattle.hs_first_tree.specs.Plain as tree
use Rattle.hs_first_tree.specs.Of.{stmts_of}
use Rattle.hs_front.specs.declared.syntax.Span.{Span}
use Rattle.hs_front.specs.declared.syntax.Prim.{Prim}
use Rattle.hs_front.specs.declared.syntax.Prim.TheVariants as prims
use Rattle.hs_front.specs.declared.syntax.Sum.{Sum}
use Rattle.hs_front.specs.declared.syntax.Stmt.{Stmt}
use Rattle.hs_front.specs.declared.syntax.Stmt.TheVariants as stmts
use Rattle.hs_front.specs.declared.syntax.File.{File}
use Rattle.hs_front.specs.Scope.{Scope, text_at, found}
use Rattle.hs_front.specs.Marks.{behind_stmt, with_params}

-- a local's number, and 0 where there is no local
abbrev pub number_of : Option (ℕ × Bool) → ℕ
number_of None = 0
number_of (Some l) = l.0

-- the sum of two expressions
abbrev pub added : tree.Exp → tree.Exp → tree.Exp
added a b = tree.op (codes "u32_add") (tree.exp a (tree.exp b tree.no_exps))

-- parameters, as many as these, numbered from k on
abbrev pub params_from : ℕ → List Span → List tree.Param
params_from k [] = []
params_from k (p ∷ ps) = record { local = k; type = U32 } ∷ params_from (k + 1) ps

module _ (text : List ℕ) where
  -- a part of a sum
  abbrev pub prim_tree : Scope → Prim → tree.Exp
  prim_tree scope (prims.Name n) = tree.var (number_of (found (text_at text n) scope))
  prim_tree scope (prims.Int n) = tree.lit n

  -- the sum so far with the parts behind it, from left to right
  abbrev pub parts_tree : Scope → tree.Exp → List Prim → tree.Exp
  parts_tree scope e [] = e
  parts_tree scope e (p ∷ ps) = parts_tree scope (added e (prim_tree scope p)) ps

  abbrev pub sum_tree : Scope → Sum → tree.Exp
  sum_tree scope s = parts_tree scope (prim_tree scope s.first) s.more

  -- a binding binds the next number
  abbrev pub stmt_tree : Scope → Stmt → tree.Stmt
  stmt_tree scope (stmts.Let m n s) = tree.bind (length scope) (tree.plain (sum_tree scope s))
  stmt_tree scope (stmts.Set n s) = tree.set (number_of (found (text_at text n) scope)) (tree.plain (sum_tree scope s))

  abbrev pub stmts_tree : Scope → List Stmt → List tree.Stmt
  stmts_tree scope [] = []
  stmts_tree scope (x ∷ xs) = stmt_tree scope x ∷ stmts_tree (behind_stmt text scope x) xs

  -- the locals in scope behind statements
  abbrev pub behind_stmts : Scope → List Stmt → Scope
  behind_stmts scope [] = scope
  behind_stmts scope (x ∷ xs) = behind_stmts (behind_stmt text scope x) xs

  abbrev pub block_tree : Scope → List Stmt → Sum → tree.Block
  block_tree scope xs v = tree.ends (stmts_of (stmts_tree scope xs)) (tree.plain (sum_tree (behind_stmts scope xs) v))

  -- the names that statements bind, in the order of the text
  abbrev pub names_bound : List Stmt → List (List ℕ)
  names_bound [] = []
  names_bound (stmts.Let m n s ∷ xs) = text_at text n ∷ names_bound xs
  names_bound (stmts.Set n s ∷ xs) = names_bound xs

  -- the program of one function with this block
  abbrev pub around : File → tree.Block → List tree.Function
  around f block =
      record {
        name = text_at text f.name;
        locals = map (text_at text) f.parameters ++ names_bound f.body.statements;
        params = params_from 0 f.parameters;
        returns = U32;
        block = block;
      } ∷ []

  -- the file's program
  abbrev pub program_from : File → List tree.Function
  program_from f = around f (block_tree (with_params text f.parameters []) f.body.statements f.body.value)
