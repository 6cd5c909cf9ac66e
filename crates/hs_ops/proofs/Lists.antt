-- Items written back from the last to the first.
use Rattle.std.proofs.Common.{◌≡◌, ℕ, zero, suc, ◌+◌, ◌<◌, ◌≤◌, List, [], ◌∷◌, ◌++◌, length, take, drop, set, refl, sym, ap, ◌∙◌, append_assoc, arith, length-append, length-set}

-- what stands behind the first places of a row, after a write at the last of them
pub set_front : {X : Type 0} → (row t : List X) (k : ℕ) (x : X) → k < length row → set (take (suc k) row ++ t) k x ≡ take k row ++ x ∷ t
set_front [] t k x h = absurd (omega arith)
set_front (y ∷ row) t zero x h = refl
set_front (y ∷ row) t (suc k) x h = ap (λ l. y ∷ l) (set_front row t k x (omega arith))

-- the items that are left, those that are written, and the row with these
abbrev pub Written : {X : Type 0} → List X → ℕ → List X → List X → List X → Type 0
Written {X} row start items now left =
    (length now ≡ length row)
    × ((done : List X) × (left ++ done ≡ items) × (now ≡ take (start + length left) row ++ (done ++ drop (start + length items) row)))

-- one more item is written
pub written_more : {X : Type 0} → (row items now left rest : List X) (x : X) (start n : ℕ) → start + length items ≤ length row → left ≡ rest ++ x ∷ [] → n ≡ length rest → Written row start items now left → Written row start items (set now (start + n) x) rest
written_more {X} row items now left rest x start n h e m w =
    let all : rest ++ (x ∷ w.1.0) ≡ items = sym (append_assoc rest (x ∷ []) w.1.0) ∙ ap (λ l. l ++ w.1.0) (sym e) ∙ w.1.1 in
    let many : length left ≡ suc (length rest) = omega (arith, ap length e, length-append rest (x ∷ [])) in
    let some : length rest < length items = omega (arith, ap length all, length-append rest (x ∷ w.1.0)) in
    let place : start + length left ≡ suc (start + length rest) = omega arith in
    let below : start + length rest < length row = omega arith in
    let tail : List X = w.1.0 ++ drop (start + length items) row in
    let now_is : now ≡ take (suc (start + length rest)) row ++ tail = w.1.2 ∙ ap (λ p. take p row ++ tail) place in
    let here : start + n ≡ start + length rest = omega arith in
    (length-set now (start + n) x ∙ w.0, (x ∷ w.1.0, all, ap (λ l. set l (start + n) x) now_is ∙ ap (λ p. set (take (suc (start + length rest)) row ++ tail) p x) here ∙ set_front row tail (start + length rest) x below))
