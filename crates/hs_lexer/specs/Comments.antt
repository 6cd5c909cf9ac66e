-- Comments as trees: how `/*` and `*/` nest, without a count of what is open.
use Rattle.std.specs.Prelude.{◌≡◌, ℕ, List, [], ◌∷◌, ◌++◌, length, Bool, false, ◌&&◌, ◌||◌, eqb}

-- what stands behind a `/*`: bytes and comments, up to the `*/` that closes it
pub data Inside : Type 0 where
  Close : Inside
  Byte : ℕ → Inside → Inside
  Comment : Inside → Inside → Inside

-- its bytes, with those of its `*/`
abbrev pub bytes_of : Inside → List ℕ
bytes_of Close = 42 ∷ (47 ∷ [])
bytes_of (Byte b i) = b ∷ bytes_of i
bytes_of (Comment i j) = 47 ∷ (42 ∷ (bytes_of i ++ bytes_of j))

-- whether the byte begins `/*` or `*/` where it stands before these
abbrev pub begins_mark : ℕ → List ℕ → Bool
begins_mark b [] = false
begins_mark b (c ∷ s) = (eqb b 47 && eqb c 42) || (eqb b 42 && eqb c 47)

-- a byte stands for itself only where it begins neither
abbrev pub IsRead : Inside → Type 0
IsRead Close = Unit {0}
IsRead (Byte b i) = (begins_mark b (bytes_of i) ≡ false) × IsRead i
IsRead (Comment i j) = IsRead i × IsRead j

-- the text behind a `/*` begins with the inside of a comment and its `*/`, which are so many bytes
abbrev pub Closes : List ℕ → ℕ → Type 0
Closes s n = (i : Inside) × (rest : List ℕ) × IsRead i × (s ≡ bytes_of i ++ rest) × (n ≡ length (bytes_of i))
