-- Programs without assignments: each assignment is a binding of its local, which lasts to the end of its block.
use Rattle.std.specs.Prelude.{List, map}
use Rattle.hs_first_tree.specs.Plain.{Stmt, bind, set, Stmts, no_stmts, stmt, Block, ends, Function}

-- a statement
abbrev pub stmt_without : Stmt → Stmt
stmt_without (bind k r) = bind k r
stmt_without (set k r) = bind k r

-- statements
abbrev pub stmts_without : Stmts → Stmts
stmts_without no_stmts = no_stmts
stmts_without (stmt x xs) = stmt (stmt_without x) (stmts_without xs)

-- a block
abbrev pub block_without : Block → Block
block_without (ends xs r) = ends (stmts_without xs) r

-- a function
abbrev pub function_without : Function → Function
function_without f =
    record {
      name = f.name;
      locals = f.locals;
      params = f.params;
      returns = f.returns;
      block = block_without f.block;
    }

-- a program
abbrev pub program_without : List Function → List Function
program_without p = map function_without p
