-- Tables of operations: rows in the order of their names, each with the operation that it stands for.
use Rattle.std.specs.Prelude.{◌≡◌, ℕ, ◌≤◌, Bool, true, ◌&&◌, List, [], ◌∷◌, ◌++◌, length, map, Option, Some, None, option_map, slice_get, bytes_eq, if◌then◌else◌, IsTrue}
use Rattle.std.specs.List.{list_all}
use Rattle.std.specs.Cmp.Lexicographic.{slice_cmp}
use Rattle.std.specs.Ordering.{nat_cmp, is_lt}
use Rattle.hs_values.specs.declared.value.Value.{Value}
use Rattle.hs_ops.specs.Answer.{Answer, given}
use Rattle.hs_ops.specs.Op.{answer}
use Rattle.hs_ops.specs.Known.{is_known}
use Rattle.hs_ops.specs.Names.{name_of}
use Rattle.hs_ops.specs.Row.{row_of}
use Rattle.hs_ops.specs.declared.row.OpRow.{OpRow}
use Rattle.hs_ops.specs.declared.operation.Operation.{Operation}
use Rattle.hs_ops.specs.declared.table.Entry.{Entry}

-- a table: the bytes before each name, and the operations of its rows in order
pub record Table : Type 0 where
  pub prefix : List ℕ
  pub operations : List Operation

-- how a table calls an operation: by its name behind the prefix
abbrev pub called : Table → Operation → List ℕ
called t o = t.prefix ++ name_of o

-- the names of the rows
abbrev pub names : Table → List (List ℕ)
names t = map (called t) t.operations

-- whether each name is below the next, byte by byte
abbrev pub rising : List (List ℕ) → Bool
rising [] = true
rising (x ∷ []) = true
rising (x ∷ y ∷ ys) = is_lt (slice_cmp nat_cmp x y) && rising (y ∷ ys)

-- no name stands at two places
abbrev pub Distinct : List (List ℕ) → Type 0
Distinct xs = (i j : ℕ) (x : List ℕ) → slice_get xs i ≡ Some x → slice_get xs j ≡ Some x → i ≡ j

-- the row of an operation, as a table calls it
abbrev pub row_in : Table → Operation → OpRow
row_in t o = row_of (called t o) o

-- the row with its operation
abbrev pub entry_in : Table → Operation → Entry
entry_in t o = record { row = row_in t o; operation = o }

-- the table with these entries, whose names begin with the prefix
abbrev pub table_of : List ℕ → List Entry → Table
table_of prefix entries = record { prefix = prefix; operations = map (λ e. e.operation) entries }

-- what every table keeps: n rows, at most 65,536, with rising names, each that of an operation that there is, and called as the
-- table calls the operation
pub record IsTable (n : ℕ) (t : Table) (entries : List Entry) : Type 0 where
  pub count : length entries ≡ n
  pub bounded : n ≤ 65536
  pub sorted : IsTrue (rising (names t))
  pub whole : map (entry_in t) t.operations ≡ entries
  pub known : IsTrue (list_all is_known t.operations)

-- the first of these operations that is called so behind a prefix
abbrev pub first_called : List ℕ → List Operation → List ℕ → Option Operation
first_called prefix [] name = None
first_called prefix (o ∷ os) name = if bytes_eq (prefix ++ name_of o) name then Some o else first_called prefix os name

-- the operation of the row that has the name, where one has it
abbrev pub operation_named : Table → List ℕ → Option Operation
operation_named t name = first_called t.prefix t.operations name

-- the operation of the row of this number, where there is a number
abbrev pub operation_at : Table → Option ℕ → Option Operation
operation_at t None = None
operation_at t (Some i) = slice_get t.operations i

-- what the operation of this name gives for arguments
abbrev pub answer_named : Table → List ℕ → List Value → Answer
answer_named t name args = given (operation_named t name) (λ o. answer o args)

-- the row of this number
abbrev pub row_at : Table → ℕ → Option OpRow
row_at t i = option_map (row_in t) (slice_get t.operations i)

-- what the row of this number gives for arguments
abbrev pub answer_at : Table → ℕ → List Value → Answer
answer_at t i args = given (slice_get t.operations i) (λ o. answer o args)

-- whether the row of this number is that of the operation
abbrev pub StandsFor : Table → ℕ → Operation → Type 0
StandsFor t i o = slice_get t.operations i ≡ Some o
