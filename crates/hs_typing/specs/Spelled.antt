-- How methods that only some types have are spelled.
use Rattle.std.specs.Prelude.{List, [], ◌∷◌, bytes_eq, codes, Option, Some, None, if◌then◌else◌}
use Rattle.hs_tree.specs.Plain.{Name}
use Rattle.hs_typing.specs.declared.words.NumberWord.{NumberWord}
use Rattle.hs_typing.specs.declared.words.NumberWord.TheVariants as number
use Rattle.hs_typing.specs.declared.words.RowWord.{RowWord}
use Rattle.hs_typing.specs.declared.words.RowWord.TheVariants as row

-- what stands behind a name in a list
abbrev pub listed : {A : Type 0} → List (Name × A) → Name → Option A
listed [] name = None
listed (r ∷ rows) name = if bytes_eq name r.0 then Some r.1 else listed rows name

-- ---- numbers

abbrev pub number_text : NumberWord → Name
number_text number.RotateLeft = codes "rotate_left"
number_text number.RotateRight = codes "rotate_right"
number_text number.WrappingAdd = codes "wrapping_add"
number_text number.WrappingSub = codes "wrapping_sub"
number_text number.WrappingMul = codes "wrapping_mul"
number_text number.Declassify = codes "declassify"
number_text number.ToLe = codes "to_le_bytes"
number_text number.ToBe = codes "to_be_bytes"

abbrev pub number_words : List (Name × NumberWord)
number_words =
    (codes "rotate_left", number.RotateLeft) ∷ (codes "rotate_right", number.RotateRight) ∷ (codes "wrapping_add", number.WrappingAdd) ∷ (codes "wrapping_sub", number.WrappingSub) ∷ (codes "wrapping_mul", number.WrappingMul)
    ∷ (codes "declassify", number.Declassify) ∷ (codes "to_le_bytes", number.ToLe) ∷ (codes "to_be_bytes", number.ToBe) ∷ []

-- ---- sequences and arrays

abbrev pub row_text : RowWord → Name
row_text row.Len = codes "len"
row_text row.Concat = codes "concat"
row_text row.Slice = codes "slice"
row_text row.Update = codes "update"
row_text row.NumChunks = codes "num_chunks"
row_text row.GetChunk = codes "get_chunk"
row_text row.SetChunk = codes "set_chunk"
row_text row.Push = codes "push"

abbrev pub row_words : List (Name × RowWord)
row_words =
    (codes "len", row.Len) ∷ (codes "concat", row.Concat) ∷ (codes "slice", row.Slice) ∷ (codes "update", row.Update) ∷ (codes "num_chunks", row.NumChunks) ∷ (codes "get_chunk", row.GetChunk) ∷ (codes "set_chunk", row.SetChunk)
    ∷ (codes "push", row.Push) ∷ []
