-- Heights as far as 32 bits hold them, item by item.
use Rattle.std.proofs.Common.{◌≡◌, ℕ, suc, ◌+◌, List, [], ◌∷◌, ◌++◌, take, get_or, map, max, ◌<◌, length, ap, ◌∙◌, refl, arith}
use Rattle.std.proofs.lemmas.List.{take_more}
use Rattle.std.proofs.lemmas.List.Sums.{fold-append}
use Rattle.hs_syntax.specs.Height.{greatest, above, chained, capped}

map_one : {E : Type 0} (f : E → ℕ) (xs : List E) (x : E) → map f (xs ++ x ∷ []) ≡ map f xs ++ f x ∷ []
map_one f [] x = refl
map_one f (y ∷ xs) x = ap (λ l. f y ∷ l) (map_one f xs x)

-- the greatest of one item more
pub greatest_more : {E : Type 0} (f : E → ℕ) (xs : List E) (i : ℕ) (d : E) → i < length xs → (now item : ℕ) → now ≡ capped (greatest (map f (take i xs))) → item ≡ capped (f (get_or xs i d))
    → max item now ≡ capped (greatest (map f (take (i + 1) xs)))
unfolding capped
greatest_more f xs i d h now item e k =
    let more : greatest (map f (take (i + 1) xs)) ≡ max (greatest (map f (take i xs))) (f (get_or xs i d)) =
    ap (λ l. greatest (map f l)) (take_more xs i d h) ∙ ap greatest (map_one f (take i xs) (get_or xs i d)) ∙ fold-append max 0 (map f (take i xs)) (f (get_or xs i d) ∷ []) in
    omega (arith, e, k, more)

-- one node more
pub chained_more : {E : Type 0} (f : E → ℕ) (xs : List E) (i : ℕ) (d : E) (n : ℕ) → i < length xs → (now item : ℕ) → now ≡ capped (chained n (map f (take i xs))) → item ≡ capped (f (get_or xs i d))
    → capped (suc (max item now)) ≡ capped (chained n (map f (take (i + 1) xs)))
unfolding capped
chained_more f xs i d n h now item e k =
    let more : chained n (map f (take (i + 1) xs)) ≡ suc (max (chained n (map f (take i xs))) (f (get_or xs i d))) =
    ap (λ l. chained n (map f l)) (take_more xs i d h) ∙ ap (chained n) (map_one f (take i xs) (get_or xs i d)) ∙ fold-append above n (map f (take i xs)) (f (get_or xs i d) ∷ []) in
    omega (arith, e, k, more)
