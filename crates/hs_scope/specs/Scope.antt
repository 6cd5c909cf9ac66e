-- The bindings in scope, and what a name means there. The latest binding stands first.
use Rattle.std.specs.Prelude.{ℕ, ◌-◌, List, [], ◌∷◌, length, drop, bytes_eq, Option, Some, None, if◌then◌else◌}

-- a name, and the number that it stands for
pub record Binding : Type 0 where
  pub name : List ℕ
  pub number : ℕ

-- what a name means: the number of the latest binding of it
abbrev pub look : List ℕ → List Binding → Option ℕ
look name [] = None
look name (b ∷ bs) = if bytes_eq name b.name then Some b.number else look name bs

-- so many of the bindings, the oldest; all, where there are no more
abbrev pub oldest : ℕ → List Binding → List Binding
oldest kept scope = drop (length scope - kept) scope
