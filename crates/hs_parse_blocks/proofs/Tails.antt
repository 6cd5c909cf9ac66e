-- The last statement of a block as its tail.
use Rattle.std.proofs.Common.{◌≡◌, List, [], ◌∷◌, ◌++◌, Option, Some, None, refl, ap, ◌∙◌, append-nil}
use Rattle.hs_syntax.specs.declared.exp.Exp.{Exp}
use Rattle.hs_syntax.specs.declared.exp.Stmt.{Stmt}
use Rattle.hs_forms.specs.Blocks.{bare_in, ending, split_tail}

split_last : (ss : List Stmt) (s : Stmt) → split_tail (ss ++ s ∷ []) ≡ (ss ++ (ending s (bare_in s)).0, (ending s (bare_in s)).1)
split_last [] s = refl
split_last (t ∷ []) s = refl
split_last (t ∷ (u ∷ ss)) s = ap (λ p. (t ∷ p.0, p.1)) (split_last (u ∷ ss) s)

-- a statement that stands alone is the tail
pub split_bare : (ss : List Stmt) (s : Stmt) (e : Exp) → bare_in s ≡ Some e → split_tail (ss ++ s ∷ []) ≡ (ss, Some e)
split_bare ss s e h = split_last ss s ∙ ap {B = List Stmt × Option Exp} (λ o. (ss ++ (ending s o).0, (ending s o).1)) h ∙ ap {B = List Stmt × Option Exp} (λ l. (l, Some e)) (append-nil ss)

-- another one is none
pub split_other : (ss : List Stmt) (s : Stmt) → bare_in s ≡ None → split_tail (ss ++ s ∷ []) ≡ (ss ++ s ∷ [], None)
split_other ss s h = split_last ss s ∙ ap {B = List Stmt × Option Exp} (λ o. (ss ++ (ending s o).0, (ending s o).1)) h
