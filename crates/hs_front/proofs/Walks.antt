-- Steps behind what was made so far.
use Rattle.std.proofs.Common.{◌≡◌, List, [], ◌∷◌, ◌++◌, refl, sym, ap, append_assoc}
use Rattle.hs_first_tree.specs.Plain as tree
use Rattle.hs_front.specs.Scope.{Scope}
use Rattle.hs_front.specs.Walk.{Walk, Makes, Breaks, ◌>>=◌, with_scope}

-- with these statements before those that a step makes
abbrev pub behind : List tree.Stmt → Walk (List tree.Stmt × Scope) → Walk (List tree.Stmt × Scope)
behind us o = o >>= λ xs. Makes (with_scope (us ++ xs.0) xs.1)

pub behind-nil : (o : Walk (List tree.Stmt × Scope)) → behind [] o ≡ o
behind-nil (Makes xs) = refl
behind-nil (Breaks m) = refl

pub behind-push : (us : List tree.Stmt) (x : tree.Stmt) (o : Walk (List tree.Stmt × Scope)) → behind us (o >>= λ xs. Makes (with_scope (x ∷ xs.0) xs.1)) ≡ behind (us ++ x ∷ []) o
behind-push us x (Makes xs) = ap (λ ys. Makes (with_scope ys xs.1)) (sym (append_assoc us (x ∷ []) xs.0))
behind-push us x (Breaks m) = refl
