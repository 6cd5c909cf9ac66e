-- Which rules the nodes of a file break.
use Rattle.std.specs.Prelude.{ℕ, ◌≡◌, cond, ltb, Option, Some, None, List, [], ◌∷◌, ◌++◌}
use Rattle.hs_base.specs.declared.rule.Rule.{Rule}
use Rattle.hs_base.specs.declared.rule.Rule.TheVariants.{S2, S4, S6, S8}
use Rattle.hs_syntax.specs.declared.exp.Block.{Block}
use Rattle.hs_syntax.specs.declared.exp.Exp.{Exp}
use Rattle.hs_syntax.specs.declared.exp.Stmt.{Stmt}
use Rattle.hs_syntax.specs.declared.file.File.{File}
use Rattle.hs_syntax.specs.Height.{height_of, stmt_height, block_height}
use Rattle.hs_marks.specs.Marked as m
use Rattle.hs_marks.specs.Marked.{Marked, Mark, marks}
use Rattle.hs_limits.specs.Outline.{Outline, Kind, Surplus, none, join, node, counted, through, apart, parameter, statement, part, one, rise, height}
use Rattle.hs_limits.specs.Nodes.{node_of_exp, node_of_stmt, node_of_block, outline_of}

-- the height of an expression, a statement or a block is at most 64
abbrev pub too_high : Kind → ℕ → List Rule
too_high counted h = cond (ltb 64 h) (S2 ∷ []) []
too_high through h = []
too_high apart h = []

abbrev pub too_many : Option Surplus → List Rule
too_many None = []
too_many (Some parameter) = S4 ∷ []
too_many (Some statement) = S6 ∷ []
too_many (Some part) = S8 ∷ []

-- what a node over parts of this height breaks
abbrev pub broken : Kind → Option Surplus → ℕ → List Rule
broken kind over h = too_high kind (rise kind h) ++ too_many over

-- the nodes of a row with the rules that each breaks
abbrev pub marked : Outline → Marked
marked none = m.none
marked (join a b) = m.join (marked a) (marked b)
marked (node at kind over parts) = m.node at (broken kind over (height parts)) (marked parts)

-- all that the nodes of a file break
abbrev pub marks_of : File → List Mark
marks_of file = marks (marked (outline_of file)) 0

-- the height of a node is that of the expression, the statement or the block
abbrev pub HeightsAgree : Type 0
HeightsAgree =
    ((e : Exp) → height (one (node_of_exp e)) ≡ height_of e)
    × ((s : Stmt) → height (one (node_of_stmt s)) ≡ stmt_height s)
    × ((b : Block) → height (one (node_of_block b)) ≡ block_height b)
