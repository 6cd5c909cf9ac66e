-- The locals that are known at a place: their types, and how each may be used.
use Rattle.std.specs.Prelude.{ℕ, ◌-◌, suc, Bool, true, false, ◌&&◌, nat_eq, leb, List, [], ◌∷◌, length, drop, Option, Some, None, if◌then◌else◌}
use Rattle.std.specs.List.{list_any}
use Rattle.hs_syntax.specs.declared.span.Span.{Span}
use Rattle.hs_syntax.specs.declared.item.Mode.{Mode}
use Rattle.hs_syntax.specs.declared.item.Mode.TheVariants as mode
use Rattle.hs_symbols.specs.declared.referent.Referent.{Referent}
use Rattle.hs_symbols.specs.declared.referent.Referent.TheVariants as r
use Rattle.hs_resolver.specs.declared.known.Use.{Use}
use Rattle.hs_values.specs.declared.types.ValType.{ValType}

-- what a local is
pub data Sort : Type 0 where
  -- bound without `mut`
  fixed : Sort
  -- bound with `mut`
  mutable : Sort
  -- the variable of a loop
  turn : Sort
  -- a parameter `x: &T`
  shared : Sort
  -- a parameter `x: &mut T`
  lent : Sort

abbrev pub sort_if : Bool → Sort
sort_if true = mutable
sort_if false = fixed

abbrev pub sort_of : Mode → Sort
sort_of mode.Value = fixed
sort_of mode.Mut = mutable
sort_of mode.Shared = shared
sort_of mode.Lent = lent

-- whether a local is a reference parameter
abbrev pub is_reference : Sort → Bool
is_reference shared = true
is_reference lent = true
is_reference _ = false

abbrev pub is_lent : Sort → Bool
is_lent lent = true
is_lent _ = false

abbrev pub is_turn : Sort → Bool
is_turn turn = true
is_turn _ = false

-- a local, by its number in its function: its type, where what it is bound to has one, and what it is
pub record Entry : Type 0 where
  pub number : ℕ
  pub type : Option ValType
  pub sort : Sort

-- the locals that are known, the latest first
abbrev pub Scope : Type 0
Scope = List Entry

abbrev pub entry_of : ℕ → Scope → Option Entry
entry_of k [] = None
entry_of k (e ∷ es) = if nat_eq k e.number then Some e else entry_of k es

-- all but the latest
abbrev pub without_latest : Scope → Scope
without_latest scope = drop 1 scope

-- so many of them, the oldest; all, where there are no more
abbrev pub oldest : ℕ → Scope → Scope
oldest kept scope = drop (length scope - kept) scope

-- ---- what names stand for

abbrev pub is_span : Span → Span → Bool
is_span s z = nat_eq s.start z.start && nat_eq s.end z.end

abbrev pub inside : Span → Span → Bool
inside s z = leb z.start s.start && leb s.end z.end

-- what the name with these bytes of the text stands for
abbrev pub referent_at : List Use → Span → Option Referent
referent_at [] n = None
referent_at (u ∷ us) n = if is_span n u.name then Some u.referent else referent_at us n

abbrev pub number_in : Option Referent → Option ℕ
number_in (Some (r.Local k)) = Some k
number_in _ = None

abbrev pub entry_in : Scope → Option ℕ → Option Entry
entry_in scope None = None
entry_in scope (Some k) = entry_of k scope

abbrev pub stands_for : ℕ → Referent → Bool
stands_for k (r.Local j) = nat_eq k j
stands_for k _ = false

module _ (uses : List Use) where
  -- the number of the local that a name stands for
  abbrev pub number_at : Span → Option ℕ
  number_at n = number_in (referent_at uses n)

  -- the local that a name stands for
  abbrev pub local_at : Scope → Span → Option Entry
  local_at scope n = entry_in scope (number_at n)

  -- whether a name of these bytes of the text stands for the local
  abbrev pub occurs : ℕ → Span → Bool
  occurs k s = list_any (λ (u : Use). inside u.name s && stands_for k u.referent) uses

-- the place of the binding place with these bytes among those of a function, which is the number of its local
abbrev pub place_from : ℕ → List Span → Span → Option ℕ
place_from k [] s = None
place_from k (z ∷ zs) s = if is_span s z then Some k else place_from (suc k) zs s

abbrev pub place_of : List Span → Span → Option ℕ
place_of places s = place_from 0 places s
