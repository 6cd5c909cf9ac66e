-- Sinks in memory.
use Rattle.std.specs.Prelude.{ℕ, ◌-◌, min, List, length, Option, None, Some}

-- a sink in memory that can fail: its bytes, how many it has room for, the greatest count of bytes in a put,
-- the numbers of the puts that are to fail, and how many puts and faults there were
pub record HeapState : Type 0 where
  pub bytes : List ℕ
  pub room : ℕ
  pub most : Option ℕ
  pub failing : List ℕ
  pub puts : ℕ
  pub faults : ℕ

-- how many of so many bytes a put takes that doesn't fail: the least of them, the room left and the greatest count
abbrev pub share_of : HeapState → ℕ → ℕ
share_of heap len = elim heap.most as (λ _. ℕ) [
  | None ↦ min len (heap.room - length heap.bytes)
  | Some most ↦ min (min len (heap.room - length heap.bytes)) most
]

-- a sink in memory that never fails: its bytes, and how many it has room for
pub record SureHeapState : Type 0 where
  pub bytes : List ℕ
  pub room : ℕ
