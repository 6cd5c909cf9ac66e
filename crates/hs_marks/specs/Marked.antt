-- What a tree is to rules: its nodes with the rules that each breaks, and all that is broken in it.
use Rattle.std.specs.Prelude.{ℕ, suc, List, [], ◌++◌, map}
use Rattle.hs_base.specs.declared.rule.Rule.{Rule}
use Rattle.hs_syntax.specs.declared.span.Span.{Span}

-- nodes in a row: none, those of two rows, or one with its bytes, the rules that it breaks itself, and the row of its parts
pub data Marked : Type 0 where
  none : Marked
  join : Marked → Marked → Marked
  node : Span → List Rule → Marked → Marked

-- a rule that a node breaks: the node's bytes, and in how many nodes it lies
pub record Mark : Type 0 where
  pub rule : Rule
  pub at : Span
  pub depth : ℕ

abbrev pub mark : Span → ℕ → Rule → Mark
mark at depth rule = record { rule = rule; at = at; depth = depth }

-- all that the nodes of a row break, which lie in so many nodes
abbrev pub marks : Marked → ℕ → List Mark
marks none depth = []
marks (join a b) depth = marks a depth ++ marks b depth
marks (node at rules parts) depth = marks parts (suc depth) ++ map (mark at depth) rules
