-- What a walk through a part gives.
use Rattle.std.specs.Prelude.{◌≡◌, ◌≤◌, ℕ, List, ◌++◌, length, Result}
use Rattle.hs_marks.specs.First.{first}
use Rattle.hs_marks.specs.Says.{Makes}
use Rattle.hs_marks.specs.declared.halt.Halt.{Halt}
use Rattle.hs_scope.specs.Scope.{Binding}
use Rattle.hs_resolver.specs.declared.known.Known.{Known}
use Rattle.hs_resolver.specs.Parts.{Part, Seen, names_from}

-- what is known behind, where nothing is broken; else what is broken first
abbrev pub Saw : {A : Type 0} → Seen → Known → Result A Halt → Type 0
Saw seen new result = Makes (first seen.nodes) (λ a. new ≡ seen.behind) result

abbrev pub Walks : {A : Type 0} → Part → Known → Known → Result A Halt → Type 0
Walks p old new result = Saw (p old) new result

-- two parts that break the same first, and behind which the same is known
abbrev pub Alike : Seen → Seen → Type 0
Alike a b = (first a.nodes ≡ first b.nodes) × (a.behind ≡ b.behind)

-- what was in scope still is, behind what came to it
abbrev pub Grows : List Binding → List Binding → Type 0
Grows old new = (more : List Binding) × (new ≡ more ++ old)

-- the pattern or the list of parameters that begins behind so many binding places has bound these names
abbrev pub Began : List ℕ → List (List ℕ) → ℕ → Known → Type 0
Began text names start k = (names ≡ names_from text start k) × (start ≤ length k.places)
