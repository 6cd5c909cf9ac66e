-- The order of items by their needs. Items are numbered from 0, and each has a list of needs, which are numbers of items.
use Rattle.std.specs.Prelude.{◌≡◌, ℕ, suc, ◌<◌, ◌++◌, ◌&&◌, Bool, true, false, not, cond, nat_eq, Option, Some, None, List, [], ◌∷◌, length, slice_index_or}
use Rattle.std.specs.List.{list_any, list_all}

-- whether a list has the item
abbrev pub has : List ℕ → ℕ → Bool
has listed item = list_any (nat_eq item) listed

-- whether an item with these needs is ready: it is not listed yet, and its needs all are
abbrev pub is_ready : List ℕ → ℕ → List ℕ → Bool
is_ready listed item needs = not (has listed item) && list_all (has listed) needs

-- the first that is ready of the items from this number on
abbrev pub ready_from : List ℕ → ℕ → List (List ℕ) → Option ℕ
ready_from listed item [] = None
ready_from listed item (needs ∷ items) = cond (is_ready listed item needs) (Some item) (ready_from listed (suc item) items)

-- the first item in source order that is ready
abbrev pub ready : List ℕ → List (List ℕ) → Option ℕ
ready listed items = ready_from listed 0 items

-- what comes behind these in the order: again and again the first item that is ready, until there is none
abbrev pub IsOrder : List (List ℕ) → List ℕ → List ℕ → Type 0
IsOrder items listed [] = ready listed items ≡ None
IsOrder items listed (item ∷ rest) = (ready listed items ≡ Some item) × IsOrder items (listed ++ item ∷ []) rest

-- the first of so many items that a list lacks, none where it has each
abbrev pub IsLeftOut : List ℕ → ℕ → Option ℕ → Type 0
IsLeftOut listed count None = (item : ℕ) → item < count → has listed item ≡ true
IsLeftOut listed count (Some item) = (item < count) × (has listed item ≡ false)
    × ((before : ℕ) → before < item → has listed before ≡ true)

-- wherever an item stands in the list it stands for the first time, and all its needs stand before it
abbrev pub StandBehindNeeds : List (List ℕ) → List ℕ → Type 0
StandBehindNeeds items listed = (before after : List ℕ) (item : ℕ) → listed ≡ before ++ item ∷ after
    → (item < length items) × (has before item ≡ false) × (list_all (has before) (slice_index_or items item []) ≡ true)

-- each item that the list lacks has a need that it lacks
abbrev pub OthersLackNeeds : List (List ℕ) → List ℕ → Type 0
OthersLackNeeds items listed = (item : ℕ) → item < length items → has listed item ≡ false
    → list_all (has listed) (slice_index_or items item []) ≡ false
