-- Nodes lie where they should: each has a byte at least, its parts lie in it, and one behind the other.
use Rattle.std.specs.Prelude.{ℕ, ◌<◌, ◌≤◌}
use Rattle.hs_syntax.specs.declared.file.File.{File}
use Rattle.hs_limits.specs.Outline.{Outline, none, join, node}
use Rattle.hs_limits.specs.Nodes.{outline_of}

-- the nodes of a row lie between two places, one behind the other, and the parts of each in it
abbrev pub Nested : Outline → ℕ → ℕ → Type 0
Nested none low high = low ≤ high
Nested (join a b) low high = (middle : ℕ) × Nested a low middle × Nested b middle high
Nested (node at kind over parts) low high = (low ≤ at.start) × (at.start < at.end) × (at.end ≤ high) × Nested parts at.start at.end

-- a file's nodes, before some place
abbrev pub NestedFile : File → Type 0
NestedFile file = (end : ℕ) × Nested (outline_of file) 0 end
