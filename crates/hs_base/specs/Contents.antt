-- The contents of files, found under their names by the first match.
use Rattle.std.specs.Prelude.{◌≡◌, ℕ, ◌<◌, List, [], ◌∷◌, length, ⊤, None, Some, bytes_eq, true, false, zero, suc, if◌then◌else◌}
use Rattle.std.specs.declared.option.Option.{Option}

-- a name, and the bytes under it
abbrev pub Entry : Type 0
Entry = List ℕ × List ℕ

-- the map of files that tell nothing
abbrev pub untold : Option (List Entry)
untold = None

-- the bytes under the first entry of this name
abbrev pub bytes_under : List ℕ → List Entry → Option (List ℕ)
bytes_under name [] = None
bytes_under name (entry ∷ rest) = if bytes_eq entry.0 name then Some entry.1 else bytes_under name rest

-- the first entry of this name is the one at this place
abbrev pub StandsAt : List ℕ → List Entry → ℕ → Type 0
StandsAt name [] at = ⊥
StandsAt name (entry ∷ rest) zero = bytes_eq entry.0 name ≡ true
StandsAt name (entry ∷ rest) (suc at) = (bytes_eq entry.0 name ≡ false) × StandsAt name rest at

-- these bytes stand under the name, where the map is told
abbrev pub Holds : Option (List Entry) → List ℕ → List ℕ → Type 0
Holds None name bytes = ⊤
Holds (Some entries) name bytes = bytes_under name entries ≡ Some bytes

-- nothing stands under the name, where the map is told
abbrev pub Lacks : Option (List Entry) → List ℕ → Type 0
Lacks None name = ⊤
Lacks (Some entries) name = bytes_under name entries ≡ None

-- more than limit bytes stand under the name, where the map is told
abbrev pub Exceeds : Option (List Entry) → List ℕ → ℕ → Type 0
Exceeds None name limit = ⊤
Exceeds (Some entries) name limit = (bytes : List ℕ) × (bytes_under name entries ≡ Some bytes) × (limit < length bytes)

-- these bytes stand under the name now, and under each other name what stood there
abbrev pub Added : List ℕ → List ℕ → List Entry → List Entry → Type 0
Added name bytes old new = (other : List ℕ) → bytes_under other new ≡ (if bytes_eq name other then Some bytes else bytes_under other old)
