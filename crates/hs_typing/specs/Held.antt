-- The locals that are known, as the code holds them: the latest last.
use Rattle.std.specs.Prelude.{ℕ, List, map, reverse, Some}
use Rattle.hs_values.specs.declared.types.ValType.{ValType}
use Rattle.hs_typing.specs.declared.locals.Entry.{Entry as HeldEntry}
use Rattle.hs_typing.specs.declared.locals.Typed.{Typed}
use Rattle.hs_typing.specs.declared.locals.Locals.{Locals}
use Rattle.hs_typing.specs.Locals.{Entry, Scope}
use Rattle.hs_typing.specs.Views.{type_of, sort_of}

-- a local
abbrev pub entry_of : HeldEntry → Entry
entry_of e = record { number = e.number; type = Some (type_of e.ty); sort = sort_of e.sort }

-- its number and its type
abbrev pub type_in : HeldEntry → ℕ × ValType
type_in e = (e.number, type_of e.ty)

abbrev pub scope_in : List HeldEntry → Scope
scope_in es = map entry_of (reverse es)

-- the locals that are known
abbrev pub scope_of : Locals → Scope
scope_of locals = scope_in locals.bound

abbrev pub all_typed : List Typed → List (ℕ × ValType)
all_typed ts = map (λ (t : Typed). (t.number, type_of t.ty)) ts

-- the numbers and the types of all that ever were, in the order in which they were bound
abbrev pub typed_of : Locals → List (ℕ × ValType)
typed_of locals = all_typed locals.typed
