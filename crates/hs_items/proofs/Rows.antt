-- Steps of a walk over a row of nodes.
use Rattle.std.proofs.Common.{ℕ, ◌+◌, ◌≡◌, ◌<◌, sym, ◌∙◌, ap, List, map, length, get_or, drop, Option, Some, None}
use Rattle.std.proofs.lemmas.List.{drop_more}
use Rattle.hs_marks.specs.declared.breach.Breach.{Breach}
use Rattle.hs_marks.specs.Marked.{Marked}
use Rattle.hs_marks.specs.First.{or_else, first}
use Rattle.hs_items.specs.Nodes.{row}

module _ (A : Type 0) (f : A → Marked) (xs : List A) (i : ℕ) (x : A) (before : Option Breach) (less : i < length xs) (here : x ≡ get_or xs i x) (from : before ≡ first (row (map f (drop i xs)))) where
  next_is : before ≡ or_else (first (f x)) (first (row (map f (drop (i + 1) xs))))
  next_is =
      from ∙ ap (λ (ys : List A). first (row (map f ys))) (drop_more xs i x less)
      ∙ ap (λ (y : A). or_else (first (f y)) (first (row (map f (drop (i + 1) xs))))) (sym here)

  -- the first of the rest is broken
  pub row_stops : (b : Breach) → first (f x) ≡ Some b → before ≡ Some b
  row_stops b e = next_is ∙ ap (λ (q : Option Breach). or_else q (first (row (map f (drop (i + 1) xs))))) e

  -- nothing is broken in the first of the rest
  pub row_goes : first (f x) ≡ None → before ≡ first (row (map f (drop (i + 1) xs)))
  row_goes e = next_is ∙ ap (λ (q : Option Breach). or_else q (first (row (map f (drop (i + 1) xs))))) e
