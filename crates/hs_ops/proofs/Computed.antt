-- Facts about the table of all operations that compute.
use Rattle.std.proofs.Common.{◌≡◌, suc, true, List, [], ◌∷◌, ◌++◌, length, map, refl, ap, ◌∙◌, lit≤}
use Rattle.std.specs.List.{list_all}
use Rattle.hs_ops.specs.declared.operation.Operation.{Operation}
use Rattle.hs_ops.specs.declared.table.Entry.{Entry}
use Rattle.hs_ops.specs.Known.{is_known}
use Rattle.hs_ops.specs.Standard.{entry_for, rows_of, for_kind, for_kinds, for_tuple, for_tuples, first_singles, middle_singles, last_singles, signed_kinds, secret_kinds, unsigned_kinds, counts, standard_operations, standard_table}
use Rattle.hs_ops.specs.Table.{Table, IsTable, names, rising, table_of}

counted : length standard_operations ≡ 639
unfolding standard_operations for_kinds for_kind for_tuples for_tuple
counted = refl

pub standard_sorted : rising (names standard_table) ≡ true
unfolding standard_operations for_kinds for_kind for_tuples for_tuple
standard_sorted = refl

pub all_known : list_all is_known standard_operations ≡ true
unfolding standard_operations for_kinds for_kind for_tuples for_tuple
all_known = refl

-- entries of operations show these operations
shown : (os : List Operation) → map (λ (e : Entry). e.operation) (map entry_for os) ≡ os
shown [] = refl
shown (o ∷ os) = ap (λ l. o ∷ l) (shown os)

length_entries : (os : List Operation) → length (map entry_for os) ≡ length os
length_entries [] = refl
length_entries (o ∷ os) = ap suc (length_entries os)

-- the entries of all operations make the table of them
pub standard_shown : table_of [] (map entry_for standard_operations) ≡ standard_table
standard_shown = let made : List Operation → Table = λ os. record { prefix = []; operations = os } in ap made (shown standard_operations)

pub standard_IsTable : IsTable 639 standard_table (map entry_for standard_operations)
standard_IsTable = record { count = length_entries standard_operations ∙ counted; bounded = lit≤ tt; sorted = standard_sorted; whole = refl; known = all_known }

-- its runs, one behind the other
standard_runs : rows_of first_singles ++ rows_of (for_kinds signed_kinds) ++ rows_of middle_singles ++ rows_of (for_kinds secret_kinds) ++ rows_of last_singles ++ rows_of (for_tuples counts) ++ rows_of (for_kinds unsigned_kinds) ≡ map entry_for standard_operations
unfolding standard_operations rows_of for_kinds for_kind for_tuples for_tuple
standard_runs = refl

-- entries put one run after another
pub standard_from_runs : (none a b c d e f g : List Entry) → none ≡ [] → a ≡ none ++ rows_of first_singles → b ≡ a ++ rows_of (for_kinds signed_kinds) → c ≡ b ++ rows_of middle_singles → d ≡ c ++ rows_of (for_kinds secret_kinds) → e ≡ d ++ rows_of last_singles → f ≡ e ++ rows_of (for_tuples counts) → g ≡ f ++ rows_of (for_kinds unsigned_kinds) → g ≡ map entry_for standard_operations
standard_from_runs none a b c d e f g h0 h1 h2 h3 h4 h5 h6 h7 =
    rw (h7, h6, h5, h4, h3, h2, h1, h0) standard_runs
