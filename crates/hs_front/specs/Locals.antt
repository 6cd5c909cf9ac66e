-- The locals in scope, as the code holds them: the latest last, and an index from names to the latest of each.
use Rattle.std.specs.Prelude.{◌≡◌, ℕ, Bool, List, map, reverse, bytes_eq, option_map}
use denote.Ref.{Bor}
use Rattle.indexmap.specs.IndexMap.{IndexMap, get_by}
use Rattle.hs_front.specs.declared.scope.Local as coded
use Rattle.hs_front.specs.declared.scope.Found as latest
use Rattle.hs_front.specs.Scope.{Local, Scope, found}

-- a local
abbrev pub local_of : coded.Local → Local
local_of l = record { name = l.name.now; mutable = l.mutable }

-- the locals, the latest first
abbrev pub scope_of : List coded.Local → Scope
scope_of ls = reverse (map local_of ls)

-- the number of a local, and whether it may be assigned
abbrev pub pair_of : latest.Found → ℕ × Bool
pair_of l = (l.number, l.mutable)

-- the index has the latest local of each name
abbrev pub Indexes : {S : Type 0} → List coded.Local → IndexMap (Bor (List ℕ)) latest.Found S → Type 0
Indexes ls m = (w : List ℕ) → option_map pair_of (get_by (λ k. bytes_eq w k.now) m) ≡ found w (scope_of ls)
