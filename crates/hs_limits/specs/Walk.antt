-- What is broken first on the way through a tree, and the heights on the way.
use Rattle.std.specs.Prelude.{ℕ, suc, ◌≡◌, max, Bool, false, nat_eq, Option, Some, None, List, [], ◌∷◌, Result}
use Rattle.hs_syntax.specs.declared.span.Span.{Span}
use Rattle.hs_marks.specs.declared.breach.Breach.{Breach}
use Rattle.hs_marks.specs.Marked as m
use Rattle.hs_marks.specs.Marked.{Marked}
use Rattle.hs_marks.specs.First.{first, breach, or_else}
use Rattle.hs_marks.specs.Says.{Says}
use Rattle.hs_limits.specs.Outline.{Outline, Node, Surplus, none, join, node, counted, through, apart, one, all, upto}
use Rattle.hs_limits.specs.Breaks.{broken}

-- the greater of a height and those of a row
abbrev pub high : Outline → ℕ → ℕ
high none h = h
high (join a b) h = high b (high a h)
high (node at counted over parts) h = max h (suc (high parts 0))
high (node at through over parts) h = high parts h
high (node at apart over parts) h = h

-- the rules that each node breaks, by the heights on the way
abbrev pub walked : Outline → Marked
walked none = m.none
walked (join a b) = m.join (walked a) (walked b)
walked (node at kind over parts) = m.node at (broken kind over (high parts 0)) (walked parts)

abbrev pub first_in : Outline → Option Breach
first_in o = first (walked o)

-- a walk that begins with a height gives the greater of it and the row's, where nothing is broken
abbrev pub Gives : Outline → ℕ → Result ℕ Breach → Type 0
Gives o before result = Says (first_in o) (λ h. h ≡ high o before) result

-- an item's number is the limit
abbrev pub is_limit : Option ℕ → ℕ → Bool
is_limit None i = false
is_limit (Some limit) i = nat_eq i limit

-- nodes with a limit on how many there are, or without
abbrev pub listed : Option ℕ → Surplus → List Node → Outline
listed None what ns = all ns
listed (Some limit) what ns = upto limit what ns

-- a node that begins here and ends where this one does
abbrev pub reach : ℕ → Node → Span
reach start n = record { start = start; end = n.at.end }

-- what an expression, a statement or a block over parts of this height breaks
abbrev pub first_high : Span → ℕ → Option Breach
first_high at h = breach at (broken counted None h)

-- what is added one by one behind a node of this height, from this place on
abbrev pub high_chain : List Node → ℕ → ℕ
high_chain [] h = h
high_chain (n ∷ ns) h = high_chain ns (suc (high (one n) h))

abbrev pub first_chain : ℕ → List Node → ℕ → Option Breach
first_chain start [] h = None
first_chain start (n ∷ ns) h = or_else (first_in (one n)) (or_else (first_high (reach start n) (high (one n) h)) (first_chain start ns (suc (high (one n) h))))
