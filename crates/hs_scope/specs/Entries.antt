-- The bindings in scope as the code holds them: the latest last, each with what its name meant before it, and an index.
use Rattle.std.specs.Prelude.{◌≡◌, ℕ, List, [], ◌∷◌, map, reverse}
use denote.Ref.{Bor}
use Rattle.indexmap.specs.IndexMap.{IndexMap}
use Rattle.hs_scope.specs.declared.scope.Entry.{Entry}
use Rattle.hs_scope.specs.Scope.{Binding, look}
use Rattle.hs_scope.specs.Index.{Answers}

-- an entry's binding
abbrev pub binding_of : Entry → Binding
binding_of e = record { name = e.name.now; number = e.number }

-- the bindings of entries
abbrev pub scope_of : List Entry → List Binding
scope_of entries = map binding_of (reverse entries)

-- each entry knows what its name means by the entries behind it
abbrev pub Remembers : List Entry → Type 0
Remembers [] = Unit {0}
Remembers (e ∷ es) = (e.hidden ≡ look e.name.now (map binding_of es)) × Remembers es

-- each entry knows what it hides, and the index has the latest of each name
pub record Indexed {S : Type 0} (entries : List Entry) (index : IndexMap (Bor (List ℕ)) ℕ S) : Type 0 where
  pub hidden : Remembers (reverse entries)
  pub latest : Answers (λ name. look name (scope_of entries)) index
