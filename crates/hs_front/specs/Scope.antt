-- The locals in scope.
use Rattle.std.specs.Prelude.{ℕ, ◌-◌, List, [], ◌∷◌, length, Bool, bytes_eq, take, drop, Option, Some, None, if◌then◌else◌}
use Rattle.hs_front.specs.declared.syntax.Span.{Span}

-- the bytes of the text at a place
abbrev pub text_at : List ℕ → Span → List ℕ
text_at text at = take (at.end - at.start) (drop at.start text)

-- a local in scope: its name, and whether it may be assigned
pub record Local : Type 0 where
  pub name : List ℕ
  pub mutable : Bool

-- the locals in scope, the latest first; a local's number is how many were bound before it
abbrev pub Scope : Type 0
Scope = List Local

-- the number of the latest local of this name, and whether it may be assigned
abbrev pub found : List ℕ → Scope → Option (ℕ × Bool)
found w [] = None
found w (x ∷ xs) = if bytes_eq w x.name then Some (length xs, x.mutable) else found w xs

-- with a local of this name
abbrev pub bound : Bool → List ℕ → Scope → Scope
bound m w scope = record { name = w; mutable = m } ∷ scope
