-- The pieces of a printed text.
use Rattle.std.proofs.Common.{◌≡◌, ℕ, zero, suc, ◌+◌, List, [], ◌∷◌, ◌++◌, Bool, true, false, codes, refl, sym, ap, ◌∙◌, arith, append_assoc}
use Rattle.hs_first_em.specs.Plain.{EmVar, Em, bind}
use Rattle.hs_first_em.specs.Spelled.{is_let}
use Rattle.hs_fstar.specs.Reads.{var_text}
use Rattle.hs_fstar.specs.Layout.{spaces, bound_text, em_text}
use Rattle.hs_fstar.specs.Lines.{indent_of_bound, gap, let_text, in_text}

-- one more space
pub spaces_next : (n : ℕ) → spaces (n + 1) ≡ spaces n ++ (32 ∷ [])
spaces_next zero = refl
spaces_next (suc n) =
    let e : suc n + 1 ≡ suc (n + 1) = omega arith in
    ap spaces e ∙ ap (λ s. 32 ∷ s) (spaces_next n)

-- what a local is bound to, between its pieces
bound_pieces : (q : Bool) (n : ℕ) (e : ℕ → List ℕ) (more : List ℕ) → bound_text q n e ++ (10 ∷ more) ≡ gap q (indent_of_bound q n) ++ (e (indent_of_bound q n) ++ (gap q n ++ (codes "in" ++ (10 ∷ more))))
bound_pieces false n e more = simp append_assoc
bound_pieces true n e more = simp append_assoc

-- a `let`, by its pieces
pub let_pieces : (n : ℕ) (x : EmVar) (a b : Em) → em_text n (bind x a b) ≡ let_text x (is_let a) (indent_of_bound (is_let a) n) ++ (em_text (indent_of_bound (is_let a) n) a ++ (in_text (is_let a) n ++ em_text n b))
let_pieces n x a b =
    ap (λ s. codes "let " ++ (var_text x ++ (codes " =" ++ s))) (bound_pieces (is_let a) n (λ m. em_text m a) (spaces n ++ em_text n b))
    ∙ simp append_assoc

-- a `let` that was written piece by piece
pub let_written : (n inner : ℕ) (x : EmVar) (a b : Em) (t0 t1 t2 t3 t4 : List ℕ) → inner ≡ indent_of_bound (is_let a) n → t1 ≡ t0 ++ let_text x (is_let a) inner → t2 ≡ t1 ++ em_text inner a
    → t3 ≡ t2 ++ in_text (is_let a) n → t4 ≡ t3 ++ em_text n b → t4 ≡ t0 ++ em_text n (bind x a b)
let_written n inner x a b t0 t1 t2 t3 t4 e p q r s =
    let l : t4 ≡ (((t0 ++ let_text x (is_let a) inner) ++ em_text inner a) ++ in_text (is_let a) n) ++ em_text n b = cc in
    l ∙ (append_assoc _ (in_text (is_let a) n) (em_text n b)
    ∙ (append_assoc (t0 ++ let_text x (is_let a) inner) (em_text inner a) _
    ∙ (append_assoc t0 (let_text x (is_let a) inner) _
    ∙ (ap (λ m. t0 ++ (let_text x (is_let a) m ++ (em_text m a ++ (in_text (is_let a) n ++ em_text n b)))) e
    ∙ ap (λ y. t0 ++ y) (sym (let_pieces n x a b))))))
