-- The operations of a table, by their numbers and by their names.
use Rattle.std.proofs.Common.{◌≡◌, List, [], ◌∷◌, ◌++◌, ℕ, zero, suc, ◌<◌, Bool, true, false, ◌&&◌, if◌then◌else◌, Option, Some, None, option_map, length, map, slice_get, slice_index_or, refl, sym, ap, subst, ◌∙◌, arith}
use Rattle.std.specs.Prelude.{bytes_eq}
use Rattle.std.specs.List.{list_all}
use Rattle.std.proofs.lemmas.Option.{slice_get-map, slice_get-get_or}
use Rattle.std.proofs.lemmas.Slice.Eq.{bytes_eq-Decides}
use Rattle.hs_ops.specs.declared.operation.Operation.{Operation}
use Rattle.hs_ops.specs.declared.row.OpRow.{OpRow}
use Rattle.hs_ops.specs.declared.table.Entry.{Entry}
use Rattle.hs_ops.specs.Known.{is_known}
use Rattle.hs_ops.specs.Names.{name_of}
use Rattle.hs_ops.proofs.Order.{rising-Distinct}
use Rattle.hs_ops.specs.Table.{Table, called, names, Distinct, row_in, entry_in, rising, row_at, first_called, operation_named, IsTable}

-- the name at the place of an operation
pub name_at : (t : Table) (i : ℕ) (o : Operation) → slice_get t.operations i ≡ Some o → slice_get (names t) i ≡ Some (called t o)
name_at t i o h = slice_get-map (called t) t.operations i ∙ ap (option_map (called t)) h

-- the row is that of its operation, as the table calls it
pub row_is : (t : Table) (i : ℕ) (o : Operation) (row : OpRow) → slice_get t.operations i ≡ Some o → row_at t i ≡ Some row → row_in t o ≡ row
row_is t i o row h k = some_same (sym (ap (option_map (row_in t)) h) ∙ k)
  where
    some_same : {x y : OpRow} → Some x ≡ Some y → x ≡ y
    some_same e = cc e

both : (a b : Bool) → a && b ≡ true → (a ≡ true) × (b ≡ true)
both true true e = (refl, refl)
both true false e = cc e
both false b e = cc e

-- an operation of a table is one that there is
pub known_in : (os : List Operation) (i : ℕ) (o : Operation) → list_all is_known os ≡ true → slice_get os i ≡ Some o → is_known o ≡ true
known_in [] i o h e = cc e
known_in (x ∷ os) zero o h e = let same : x ≡ o = cc e in subst (λ (y : Operation). is_known y ≡ true) same (both (is_known x) (list_all is_known os) h).0
known_in (x ∷ os) (suc i) o h e = known_in os i o (both (is_known x) (list_all is_known os) h).1 e

module _ (prefix name : List ℕ) where
  absent_in : (os : List Operation) → ((i : ℕ) → slice_get (map (λ o. prefix ++ name_of o) os) i ≡ Some name → ⊥) → first_called prefix os name ≡ None
  absent_in [] h = refl
  absent_in (o ∷ os) h = by (bytes_eq (prefix ++ name_of o) name) refl (absent_in os (λ i. h (suc i)))
    where
      by : (b : Bool) → bytes_eq (prefix ++ name_of o) name ≡ b → first_called prefix os name ≡ None → (if b then Some o else first_called prefix os name) ≡ None
      by true same rest = absurd (h zero (ap Some ((bytes_eq-Decides (prefix ++ name_of o) name).0 same)))
      by false differs rest = rest

  found_in : (os : List Operation) (i : ℕ) → Distinct (map (λ o. prefix ++ name_of o) os) → slice_get (map (λ o. prefix ++ name_of o) os) i ≡ Some name → first_called prefix os name ≡ slice_get os i
  found_in [] i d h = refl
  found_in (o ∷ os) zero d h =
      let same : prefix ++ name_of o ≡ name = cc h in
      ap (λ b. if b then Some o else first_called prefix os name) ((bytes_eq-Decides (prefix ++ name_of o) name).1 same)
  found_in (o ∷ os) (suc i) d h = by (bytes_eq (prefix ++ name_of o) name) refl (found_in os i (λ j k x a b. pred (d (suc j) (suc k) x a b)) h)
    where
      pred : {j k : ℕ} → suc j ≡ suc k → j ≡ k
      pred {j} {k} e = omega arith

      by : (b : Bool) → bytes_eq (prefix ++ name_of o) name ≡ b → first_called prefix os name ≡ slice_get os i → (if b then Some o else first_called prefix os name) ≡ slice_get os i
      by true same rest = let none : zero ≡ suc i = d zero (suc i) name (ap Some ((bytes_eq-Decides (prefix ++ name_of o) name).0 same)) h in absurd (omega arith)
      by false differs rest = rest

  -- a name of no operation that there is is none of a table
  foreign_in : (os : List Operation) → list_all is_known os ≡ true → ((o : Operation) → is_known o ≡ true → prefix ++ name_of o ≡ name → ⊥) → (i : ℕ) → slice_get (map (λ o. prefix ++ name_of o) os) i ≡ Some name → ⊥
  foreign_in [] h never i e = cc e
  foreign_in (o ∷ os) h never zero e = never o (both (is_known o) (list_all is_known os) h).0 (cc e)
  foreign_in (o ∷ os) h never (suc i) e = foreign_in os (both (is_known o) (list_all is_known os) h).1 never i e

-- where no row has the name, no operation is named so
pub named_absent : (t : Table) (name : List ℕ) → ((i : ℕ) → slice_get (names t) i ≡ Some name → ⊥) → operation_named t name ≡ None
named_absent t name h = absent_in t.prefix name t.operations h

-- where names are distinct, the operation named so is the one at the place of the name
pub named_at : (t : Table) (name : List ℕ) (i : ℕ) → Distinct (names t) → slice_get (names t) i ≡ Some name → operation_named t name ≡ slice_get t.operations i
named_at t name i d h = found_in t.prefix name t.operations i d h

-- a name of no operation that there is stands in no table
pub foreign_at : (t : Table) (name : List ℕ) → list_all is_known t.operations ≡ true → ((o : Operation) → is_known o ≡ true → called t o ≡ name → ⊥) → (i : ℕ) → slice_get (names t) i ≡ Some name → ⊥
foreign_at t name h never i e = foreign_in t.prefix name t.operations h never i e

pub foreign_named : (t : Table) (name : List ℕ) → list_all is_known t.operations ≡ true → ((o : Operation) → is_known o ≡ true → called t o ≡ name → ⊥) → operation_named t name ≡ None
foreign_named t name h never = named_absent t name (foreign_at t name h never)

names_of : (t : Table) (os : List Operation) → map (called t) os ≡ map (λ (e : Entry). e.row.name) (map (entry_in t) os)
names_of t [] = refl
names_of t (o ∷ os) = ap (λ l. called t o ∷ l) (names_of t os)

-- the names of a table are those of its entries
pub names_are : {n : ℕ} (t : Table) (es : List Entry) → IsTable n t es → names t ≡ map (λ (e : Entry). e.row.name) es
names_are t es is = names_of t t.operations ∙ ap (map (λ (e : Entry). e.row.name)) is.whole

-- the operation at the place of an entry, and its row
pub entry_there : {n : ℕ} (t : Table) (es : List Entry) (i : ℕ) (e : Entry) → IsTable n t es → slice_get es i ≡ Some e → (slice_get t.operations i ≡ Some e.operation) × (row_at t i ≡ Some e.row)
entry_there t es i e is h = by (slice_get t.operations i) (sym (slice_get-map (entry_in t) t.operations i) ∙ ap (λ l. slice_get l i) is.whole ∙ h)
  where
    by : (m : Option Operation) → option_map (entry_in t) m ≡ Some e → (m ≡ Some e.operation) × (option_map (row_in t) m ≡ Some e.row)
    by None k = cc k
    by (Some o) k = let same : entry_in t o ≡ e = cc k in (ap (λ (x : Entry). Some x.operation) same, ap (λ (x : Entry). Some x.row) same)

-- what a search among the entries of a table finds
module _ {n : ℕ} (shown t : Table) (es slice : List Entry) (view : shown ≡ t) (whole : IsTable n shown es) (same : slice ≡ es) where
  pub is_table : IsTable n t es
  is_table = subst (λ (x : Table). IsTable n x es) view whole

  pub slice_names : names t ≡ map (λ (e : Entry). e.row.name) slice
  slice_names = names_are t es is_table ∙ ap (map (λ (e : Entry). e.row.name)) (sym same)

  pub slice_rises : rising (map (λ (e : Entry). e.row.name) slice) ≡ true
  slice_rises = ap rising (sym slice_names) ∙ is_table.sorted

  pub names_distinct : Distinct (names t)
  names_distinct = rising-Distinct (names t) is_table.sorted

  pub place_found : (i : ℕ) (name : List ℕ) → slice_get (map (λ (e : Entry). e.row.name) slice) i ≡ Some name → slice_get (names t) i ≡ Some name
  place_found i name h = ap (λ l. slice_get l i) slice_names ∙ h

  pub place_named : (i : ℕ) (name : List ℕ) → slice_get (map (λ (e : Entry). e.row.name) slice) i ≡ Some name → operation_named t name ≡ slice_get t.operations i
  place_named i name h = named_at t name i names_distinct (place_found i name h)

  pub place_own : (i : ℕ) (name : List ℕ) → slice_get (map (λ (e : Entry). e.row.name) slice) i ≡ Some name → ((o : Operation) → is_known o ≡ true → called t o ≡ name → ⊥) → ⊥
  place_own i name h never = foreign_at t name is_table.known never i (place_found i name h)

  pub nowhere : (name : List ℕ) → ((i : ℕ) → slice_get (map (λ (e : Entry). e.row.name) slice) i ≡ Some name → ⊥) → (i : ℕ) → slice_get (names t) i ≡ Some name → ⊥
  nowhere name h i at = h i (ap (λ l. slice_get l i) (sym slice_names) ∙ at)

  entry_of_place : (i : ℕ) (d : Entry) → i < n → slice_get es i ≡ Some (slice_index_or slice i d)
  entry_of_place i d h = ap (λ l. slice_get l i) (sym same) ∙ slice_get-get_or slice i d (omega (arith, ap length same, is_table.count))

  pub place_operation : (i : ℕ) (d : Entry) → i < n → slice_get t.operations i ≡ Some (slice_index_or slice i d).operation
  place_operation i d h = (entry_there t es i (slice_index_or slice i d) is_table (entry_of_place i d h)).0

  pub place_row : (i : ℕ) (d : Entry) → i < n → row_at t i ≡ Some (slice_index_or slice i d).row
  place_row i d h = (entry_there t es i (slice_index_or slice i d) is_table (entry_of_place i d h)).1

  pub place_known : (i : ℕ) (d : Entry) → i < n → is_known (slice_index_or slice i d).operation ≡ true
  place_known i d h = known_in t.operations i (slice_index_or slice i d).operation is_table.known (place_operation i d h)
