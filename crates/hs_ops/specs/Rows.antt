-- Operations on sequences and arrays. Sums and products in their conditions are whole numbers without bound.
use Rattle.std.specs.Prelude.{ℕ, ◌+◌, ◌*◌, ◌-◌, min, Option, Some, None, Result, Ok, Err, eqb, leb, nat_lt, List, [], ◌∷◌, ◌++◌, length, take, drop, replicate, slice_get, slice_set, if◌then◌else◌}
use Rattle.std.specs.Int.{div_ceil}
use Rattle.hs_words.specs.declared.kinds.Panic.{Panic}
use Rattle.hs_words.specs.declared.kinds.Panic.TheVariants.{Division, Index, Length}
use Rattle.hs_values.specs.Fits.{max_length}
use Rattle.hs_values.specs.declared.value.Value.{Value}
use Rattle.hs_values.specs.declared.value.Value.TheVariants as value
use Rattle.hs_ops.specs.Answer.{Answer, Is, Fails, size_value, row, unary, binary, ternary, quaternary}
use Rattle.hs_ops.specs.Views.{any, as_size, as_row}

-- a sequence of so many items, with the items that it then has; Length above the greatest length
abbrev pub bounded : ℕ → List Value → Answer
bounded count items = if leb count max_length then row items else Fails Length

-- what was looked up; Index where nothing is there
abbrev pub found : Option Value → Answer
found None = Fails Index
found (Some v) = Is v

-- the item at place i
abbrev pub item : List Value → Answer
item = binary as_row as_size (λ a i. found (slice_get a i))

-- the items with the one at place i replaced
abbrev pub set : List Value → Answer
set = ternary as_row as_size any (λ a i x. if nat_lt i (length a) then row (slice_set a i x) else Fails Index)

-- the number of items
abbrev pub len : List Value → Answer
len = unary as_row (λ a. Is (size_value (length a)))

-- n times the value x
abbrev pub make : List Value → Answer
make = binary any as_size (λ x n. bounded n (replicate n x))

-- all arguments as items
abbrev pub list : List Value → Answer
list args = row args

-- the items of both
abbrev pub concat : List Value → Answer
concat = binary as_row as_row (λ a b. bounded (length a + length b) (a ++ b))

-- the items, and x last
abbrev pub push : List Value → Answer
push = binary as_row any (λ a x. bounded (length a + 1) (a ++ x ∷ []))

-- n items from place i on
abbrev pub slice : List Value → Answer
slice = ternary as_row as_size as_size (λ a i n. if leb (i + n) (length a) then row (take n (drop i a)) else Fails Index)

-- the items of a, with those of b in the place of its own from i on
abbrev pub written : List Value → ℕ → List Value → List Value
written a i b = take i a ++ b ++ drop (i + length b) a

abbrev pub put_at : List Value → ℕ → List Value → Answer
put_at a i b = if leb (i + length b) (length a) then row (written a i b) else Fails Index

abbrev pub put : List Value → Answer
put = ternary as_row as_size as_row put_at

-- how many chunks of n items there are, the last of which may be shorter
abbrev pub num_chunks : List Value → Answer
num_chunks = binary as_row as_size (λ a n. if eqb n 0 then Fails Division else Is (size_value (div_ceil (length a) n)))

-- how many items chunk i of n items has, where there are so many in all; Division where n is 0, then Index where there is no such chunk
abbrev pub chunk_length : ℕ → ℕ → ℕ → Result ℕ Panic
chunk_length all n i =
    if eqb n 0 then Err Division
    else (if leb all (i * n) then Err Index
    else Ok (min n (all - i * n)))

-- what follows with the length of a chunk
abbrev pub in_chunk : Result ℕ Panic → (ℕ → Answer) → Answer
in_chunk (Ok count) f = f count
in_chunk (Err p) f = Fails p

-- the length of chunk i of n items, and its items
abbrev pub get_chunk : List Value → Answer
get_chunk = ternary as_row as_size as_size (λ a n i.
    in_chunk (chunk_length (length a) n i) (λ count. Is (value.Tuple (size_value count ∷ value.Seq (take count (drop (i * n) a)) ∷ []))))

-- the items with chunk i of n items replaced by b, which has to be as long
abbrev pub set_chunk : List Value → Answer
set_chunk = quaternary as_row as_size as_size as_row (λ a n i b.
    in_chunk (chunk_length (length a) n i) (λ count. if eqb (length b) count then put_at a (i * n) b else Fails Length))

-- the same items as an array of n
abbrev pub to_array : List Value → Answer
to_array = binary as_size as_row (λ n s. if eqb (length s) n then row s else Fails Length)

-- the same items as a sequence
abbrev pub to_seq : List Value → Answer
to_seq = unary as_row row
