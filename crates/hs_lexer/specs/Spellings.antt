-- Spellings as a set of lists of bytes: words, strings and marks.
use Rattle.std.specs.Prelude.{◌≡◌, ℕ, ◌+◌, ◌≤◌, List, [], ◌∷◌, ◌++◌, Bool, true, false, ◌||◌, ◌&&◌, eqb, length, drop}
use Rattle.std.specs.List.{prefix_len, list_all}
use Rattle.hs_base.specs.Names.{is_word_byte}
use Rattle.hs_lexer.specs.declared.token.Token.{Token}
use Rattle.hs_lexer.specs.Bytes.{is_text_byte}
use Rattle.hs_lexer.specs.Marks.{is_mark}
use Rattle.hs_lexer.specs.Pieces.{begins_quote}

-- names, reserved words and integers: letters, digits and `_`, at least one
unfoldable pub is_word : List ℕ → Bool
is_word [] = false
is_word (b ∷ bs) = list_all is_word_byte (b ∷ bs)

-- a `"`, bytes of a text, a `"`
unfoldable pub is_string : List ℕ → Bool
is_string [] = false
is_string (b ∷ bs) =
    eqb b 34 && (begins_quote (drop (prefix_len is_text_byte bs) bs) && eqb (length bs) (prefix_len is_text_byte bs + 1))

-- whether the bytes are a word, a string or a mark
abbrev pub is_spelling : List ℕ → Bool
is_spelling bytes = is_word bytes || (is_string bytes || is_mark bytes)

-- no spelling that begins where the token begins is longer than the token
abbrev pub IsLongest : List ℕ → Token → Type 0
IsLongest text token =
    (w rest : List ℕ) → drop token.start text ≡ w ++ rest → is_spelling w ≡ true → token.start + length w ≤ token.end
