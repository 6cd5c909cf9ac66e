-- The classes of bytes that emitted texts are made of.
use Rattle.std.specs.Prelude.{ℕ, List, [], ◌∷◌, Bool, false, ◌||◌, eqb}
use Rattle.hs_base.specs.Names.{is_word_byte}

-- space, tab, line feed or carriage return
abbrev pub is_blank : ℕ → Bool
is_blank b = eqb b 32 || eqb b 9 || eqb b 10 || eqb b 13

-- whether the text begins with a byte of a word
abbrev pub begins_word : List ℕ → Bool
begins_word [] = false
begins_word (b ∷ bs) = is_word_byte b
