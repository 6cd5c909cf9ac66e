-- What files in memory that can fail are seen as.
use Rattle.std.specs.Prelude.{ℕ, List}
use Rattle.hs_base.specs.Contents.{Entry}

-- the names with their bytes, the numbers of the fetches that are to fail, and how many fetches and faults there were
pub record ShelfState : Type 0 where
  pub entries : List Entry
  pub failing : List ℕ
  pub fetches : ℕ
  pub faults : ℕ
