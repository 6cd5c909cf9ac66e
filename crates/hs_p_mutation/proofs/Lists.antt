-- Lists of statements.
use Rattle.std.proofs.Common.{◌≡◌, List, [], ◌∷◌, map, refl, ap}
use Rattle.hs_first_tree.specs.Plain.{Stmt, stmt}
use Rattle.hs_first_tree.specs.Of.{stmts_of}
use Rattle.hs_p_mutation.specs.Without.{stmt_without, stmts_without}

pub stmts_of_map : (xs : List Stmt) → stmts_of (map stmt_without xs) ≡ stmts_without (stmts_of xs)
stmts_of_map [] = refl
stmts_of_map (x ∷ xs) = ap (stmt (stmt_without x)) (stmts_of_map xs)
