-- What a tree is to places and limits: its nodes, each with its bytes and its parts in the order of the text.
use Rattle.std.specs.Prelude.{ℕ, suc, ◌+◌, max, cond, nat_eq, Option, Some, None, List, [], ◌∷◌}
use Rattle.hs_syntax.specs.declared.span.Span.{Span}

-- what a node is to heights: one more than its parts, as high as they are, or no part of what is around it
pub data Kind : Type 0 where
  counted : Kind
  through : Kind
  apart : Kind

-- what a node can be one too many of
pub data Surplus : Type 0 where
  parameter : Surplus
  statement : Surplus
  part : Surplus

-- nodes in a row: none, those of two rows, or one with its bytes, what it is to heights, what it is one too many of, and the
-- row of its parts
pub data Outline : Type 0 where
  none : Outline
  join : Outline → Outline → Outline
  node : Span → Kind → Option Surplus → Outline → Outline

-- a node before it is known what it is one too many of
pub record Node : Type 0 where
  pub at : Span
  pub kind : Kind
  pub parts : Outline

abbrev pub one : Node → Outline
one n = node n.at n.kind None n.parts

abbrev pub maybe : Option Node → Outline
maybe None = none
maybe (Some n) = one n

abbrev pub all : List Node → Outline
all [] = none
all (n ∷ ns) = join (one n) (all ns)

-- nodes that are numbered from i on, of which the one with the limit as its number is one too many
abbrev pub numbered : ℕ → Surplus → ℕ → List Node → Outline
numbered limit what i [] = none
numbered limit what i (n ∷ ns) = join (node n.at n.kind (cond (nat_eq i limit) (Some what) None) n.parts) (numbered limit what (i + 1) ns)

-- nodes of which the first past the limit is one too many
abbrev pub upto : ℕ → Surplus → List Node → Outline
upto limit what ns = numbered limit what 0 ns

-- what is added one by one behind a first node and groups to the left: a node for each, which begins where the first one does
-- and ends where it ends
abbrev pub chain : ℕ → Outline → List Node → Outline
chain start before [] = before
chain start before (n ∷ ns) = chain start (node (record { start = start; end = n.at.end }) counted None (join before (one n))) ns

abbrev pub rise : Kind → ℕ → ℕ
rise counted h = suc h
rise through h = h
rise apart h = 0

-- the greatest height of the nodes of a row, 0 where it has none
abbrev pub height : Outline → ℕ
height none = 0
height (join a b) = max (height a) (height b)
height (node at kind over parts) = rise kind (height parts)
