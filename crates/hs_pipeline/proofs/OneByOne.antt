-- The operands and the statements of a block, one by one.
use Rattle.std.proofs.Common.{◌≡◌, ℕ, List, [], ◌∷◌, ◌++◌, map, refl, ap}
use Rattle.hs_first_tree.specs.Plain as tree
use Rattle.hs_first_tree.specs.Of.{exps_of, stmts_of}
use Rattle.hs_first_em.specs.Plain.{Em, em}
use Rattle.hs_first_em.specs.Of.{ems_of}
use Rattle.hs_pipeline.specs.Lower.{lowered_exp, lowered_exps, lowered_stmt, lowered_stmts}

pub operands_lowered : (names : List (List ℕ)) (es : List tree.Exp) → ems_of (map (lowered_exp names) es) ≡ lowered_exps names (exps_of es)
operands_lowered names [] = refl
operands_lowered names (e ∷ es) = ap (em (lowered_exp names e)) (operands_lowered names es)

-- the last of some statements comes directly before what follows them
pub lowered_last : (names : List (List ℕ)) (xs : List tree.Stmt) (x : tree.Stmt) (e : Em) → lowered_stmts names (stmts_of (xs ++ (x ∷ []))) e ≡ lowered_stmts names (stmts_of xs) (lowered_stmt names x e)
lowered_last names [] x e = refl
lowered_last names (y ∷ xs) x e = ap (lowered_stmt names y) (lowered_last names xs x e)

-- the last of what is mapped
pub map_last : {A B : Type 0} (f : A → B) (xs : List A) (x : A) → map f (xs ++ (x ∷ [])) ≡ map f xs ++ (f x ∷ [])
map_last f [] x = refl
map_last f (y ∷ xs) x = ap (λ ys. f y ∷ ys) (map_last f xs x)
