-- Names as the code holds them, and an index from names to numbers.
use Rattle.std.specs.Prelude.{◌≡◌, ℕ, List, map, bytes_eq, Option}
use denote.Ref.{Bor}
use Rattle.indexmap.specs.IndexMap.{IndexMap, get_by}

-- the bytes of names
abbrev pub bytes_of : List (Bor (List ℕ)) → List (List ℕ)
bytes_of names = map (λ name. name.now) names

-- the index has for each name what the name means
abbrev pub Answers : {S : Type 0} → (List ℕ → Option ℕ) → IndexMap (Bor (List ℕ)) ℕ S → Type 0
Answers meaning index = (name : List ℕ) → get_by (λ key. bytes_eq name key.now) index ≡ meaning name
