-- What a reader has left, what a fetch reads of it, and which errors are told.
use Rattle.std.specs.Prelude.{◌≡◌, ◌≢◌, ◌⊎◌, ℕ, ◌+◌, ◌<◌, List, length, ⊤, None, Some}
use Rattle.std.specs.declared.option.Option.{Option}
use Rattle.std.specs.declared.io.Error.{Error}
use Rattle.std.specs.declared.io.ErrorKind.TheVariants.{Interrupted}
use Rattle.std.specs.IoError.{error_kind}
use Rattle.std.specs.Io.KnownBytes.{Consumes}

-- where so many repeats are left, the error is told: it is no interruption, or there are none
abbrev pub IsTold : Error → ℕ → Type 0
IsTold error left = (error_kind error ≢ Interrupted) ⊎ (left ≡ 0)

-- these are all the bytes that are left, where it is known what is left
abbrev pub IsAll : Option (List ℕ) → List ℕ → Type 0
IsAll None bytes = ⊤
IsAll (Some left) bytes = bytes ≡ left

-- more than limit bytes are left, where it is known what is left
abbrev pub HasMore : Option (List ℕ) → ℕ → Type 0
HasMore None limit = ⊤
HasMore (Some left) limit = limit < length left

-- limit bytes and one more were read
abbrev pub ReadPast : Option (List ℕ) → Option (List ℕ) → ℕ → Type 0
ReadPast old new limit = (bytes : List ℕ) × (length bytes ≡ limit + 1) × Consumes old new bytes
