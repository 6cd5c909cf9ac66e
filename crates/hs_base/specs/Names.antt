-- Words and names: the bytes that they are made of, and the words that no name is.
use Rattle.std.specs.Prelude.{ℕ, List, [], ◌∷◌, Bool, false, ◌||◌, ◌&&◌, not, eqb, leb, bytes_eq, codes}
use Rattle.std.specs.List.{list_any, list_all}

-- an upper-case ASCII letter
unfoldable pub is_upper : ℕ → Bool
is_upper b = leb 65 b && leb b 90

-- an ASCII letter
unfoldable pub is_letter : ℕ → Bool
is_letter b = is_upper b || leb 97 b && leb b 122

-- a decimal digit
unfoldable pub is_digit : ℕ → Bool
is_digit b = leb 48 b && leb b 57

-- a letter or `_`: names and reserved words begin with these
unfoldable pub begins_name : ℕ → Bool
begins_name b = is_letter b || eqb b 95

-- a letter, a digit or `_`: names, reserved words and integers are made of these
unfoldable pub is_word_byte : ℕ → Bool
is_word_byte b = begins_name b || is_digit b

-- the reserved words
abbrev pub reserved : List (List ℕ)
reserved =
    codes "as" ∷ codes "break" ∷ codes "const" ∷ codes "continue" ∷ codes "crate" ∷ codes "else" ∷ codes "enum" ∷ codes "extern"
    ∷ codes "false" ∷ codes "fn" ∷ codes "for" ∷ codes "if" ∷ codes "impl" ∷ codes "in" ∷ codes "let" ∷ codes "loop" ∷ codes "match"
    ∷ codes "mod" ∷ codes "move" ∷ codes "mut" ∷ codes "pub" ∷ codes "ref" ∷ codes "return" ∷ codes "self" ∷ codes "Self"
    ∷ codes "static" ∷ codes "struct" ∷ codes "super" ∷ codes "trait" ∷ codes "true" ∷ codes "type" ∷ codes "unsafe" ∷ codes "use"
    ∷ codes "where" ∷ codes "while" ∷ codes "async" ∷ codes "await" ∷ codes "dyn" ∷ codes "abstract" ∷ codes "become" ∷ codes "box"
    ∷ codes "do" ∷ codes "final" ∷ codes "macro" ∷ codes "override" ∷ codes "priv" ∷ codes "typeof" ∷ codes "unsized"
    ∷ codes "virtual" ∷ codes "yield" ∷ codes "try" ∷ []

-- whether the word is one of the reserved words
unfoldable pub is_reserved : List ℕ → Bool
is_reserved word = list_any (bytes_eq word) reserved

-- whether the word is a name: a letter or `_`, then letters, digits and `_`, and neither `_` alone nor a reserved word
unfoldable pub is_name : List ℕ → Bool
is_name [] = false
is_name (b ∷ bs) =
    begins_name b && list_all is_word_byte bs && not (bytes_eq (b ∷ bs) (codes "_")) && not (is_reserved (b ∷ bs))
