-- The items that need an item, and counts of what they still wait for.
use Rattle.std.specs.Prelude.{◌≡◌, ℕ, suc, ◌<◌, cond, nat_eq, Option, Some, None, List, [], ◌∷◌, length, slice_index_or}

-- how often a list has a number
abbrev pub times : ℕ → List ℕ → ℕ
times n [] = 0
times n (m ∷ ms) = cond (nat_eq n m) (suc (times n ms)) (times n ms)

-- an item's list, which is empty where there is no such item
abbrev pub list_at : List (List ℕ) → ℕ → List ℕ
list_at items item = slice_index_or items item []

-- each item has a list of those that need it, each as often as it does
abbrev pub AreUsers : List (List ℕ) → List (List ℕ) → Type 0
AreUsers items users = (item user : ℕ) → item < length items → times user (list_at users item) ≡ times item (list_at items user)

-- the first item with a count above 0, none where each is 0
abbrev pub IsFirstOpen : List ℕ → Option ℕ → Type 0
IsFirstOpen counts None = (item : ℕ) → slice_index_or counts item 0 ≡ 0
IsFirstOpen counts (Some item) = (item < length counts) × (0 < slice_index_or counts item 0)
    × ((before : ℕ) → before < item → slice_index_or counts before 0 ≡ 0)
