-- The heights on the way are those of the nodes, and what is added one by one is looked over item by item.
use Rattle.std.proofs.Common.{ℕ, suc, ◌≡◌, refl, sym, ◌∙◌, ap, ap₂, max, Option, Some, None, List, [], ◌∷◌, arith}
use Rattle.hs_marks.specs.declared.breach.Breach.{Breach}
use Rattle.hs_marks.specs.Marked as m
use Rattle.hs_marks.specs.First.{or_else, or_own}
use Rattle.hs_limits.specs.Outline.{Outline, Node, none, join, node, counted, through, apart, one, chain, height}
use Rattle.hs_limits.specs.Breaks.{broken, marked}
use Rattle.hs_limits.specs.Walk.{high, walked, first_in, first_high, high_chain, first_chain, reach}

-- the height on the way is the greater of the one before and the row's
high_is : (o : Outline) (h : ℕ) → high o h ≡ max h (height o)
high_is none h = omega arith
high_is (join a b) h = let i = high_is a h in let j = high_is b (high a h) in omega (arith, i, j)
high_is (node at counted over parts) h = let i = high_is parts 0 in omega (arith, i)
high_is (node at through over parts) h = high_is parts h
high_is (node at apart over parts) h = omega arith

-- on the way each node breaks what it breaks
pub walked_is : (o : Outline) → walked o ≡ marked o
walked_is none = refl
walked_is (join a b) = ap₂ m.join (walked_is a) (walked_is b)
walked_is (node at kind over parts) =
    ap₂ (λ h. m.node at (broken kind over h)) (let i = high_is parts 0 in omega (arith, i)) (walked_is parts)

or_own_is : (p q : Option Breach) → or_own p q ≡ or_else p q
or_own_is None None = refl
or_own_is None (Some q) = refl
or_own_is (Some p) None = refl
or_own_is (Some p) (Some q) = refl

or_else_assoc : (p q r : Option Breach) → or_else (or_else p q) r ≡ or_else p (or_else q r)
or_else_assoc None q r = refl
or_else_assoc (Some p) q r = refl

or_else_none : (p : Option Breach) → or_else p None ≡ p
or_else_none None = refl
or_else_none (Some p) = refl

abbrev above : ℕ → Outline → Node → Outline
above at o n = node (reach at n) counted None (join o (one n))

above_high : (at : ℕ) (o : Outline) (n : Node) (h : ℕ) → high (above at o n) 0 ≡ suc (high (one n) (high o 0))
above_high at o n h = omega arith

-- what is added one by one, item by item
pub first_of_chain : (at : ℕ) (o : Outline) (ns : List Node) → first_in (chain at o ns) ≡ or_else (first_in o) (first_chain at ns (high o 0))
first_of_chain at o [] = sym (or_else_none (first_in o))
first_of_chain at o (n ∷ ns) =
    let own : Option Breach = first_high (reach at n) (high (one n) (high o 0)) in
    first_of_chain at (above at o n) ns
    ∙ ap₂ or_else (or_own_is (or_else (first_in o) (first_in (one n))) own ∙ or_else_assoc (first_in o) (first_in (one n)) own) (ap (first_chain at ns) (above_high at o n 0))
    ∙ or_else_assoc (first_in o) (or_else (first_in (one n)) own) (first_chain at ns (suc (high (one n) (high o 0))))
    ∙ ap (or_else (first_in o)) (or_else_assoc (first_in (one n)) own (first_chain at ns (suc (high (one n) (high o 0)))))

pub high_of_chain : (at : ℕ) (o : Outline) (ns : List Node) (h : ℕ) → high (chain at o ns) h ≡ max h (high_chain ns (high o 0))
high_of_chain at o [] h = let i = high_is o h in let j = high_is o 0 in omega (arith, i, j)
high_of_chain at o (n ∷ ns) h = high_of_chain at (above at o n) ns h ∙ ap (λ k. max h (high_chain ns k)) (above_high at o n 0)
