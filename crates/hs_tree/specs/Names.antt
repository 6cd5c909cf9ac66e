-- Names: which words a program's functions and locals may have.
use Rattle.std.specs.Prelude.{ℕ, List, [], ◌∷◌, Bool, false, ◌||◌, ◌&&◌, not, eqb, leb, bytes_eq, codes}
use Rattle.std.specs.List.{list_any, list_all}

-- the words that no name is
abbrev pub reserved : List (List ℕ)
reserved =
    codes "as" ∷ codes "break" ∷ codes "const" ∷ codes "continue" ∷ codes "crate" ∷ codes "else" ∷ codes "enum" ∷ codes "extern"
    ∷ codes "false" ∷ codes "fn" ∷ codes "for" ∷ codes "if" ∷ codes "impl" ∷ codes "in" ∷ codes "let" ∷ codes "loop" ∷ codes "match"
    ∷ codes "mod" ∷ codes "move" ∷ codes "mut" ∷ codes "pub" ∷ codes "ref" ∷ codes "return" ∷ codes "self" ∷ codes "Self"
    ∷ codes "static" ∷ codes "struct" ∷ codes "super" ∷ codes "trait" ∷ codes "true" ∷ codes "type" ∷ codes "unsafe" ∷ codes "use"
    ∷ codes "where" ∷ codes "while" ∷ codes "async" ∷ codes "await" ∷ codes "dyn" ∷ codes "abstract" ∷ codes "become" ∷ codes "box"
    ∷ codes "do" ∷ codes "final" ∷ codes "macro" ∷ codes "override" ∷ codes "priv" ∷ codes "typeof" ∷ codes "unsized"
    ∷ codes "virtual" ∷ codes "yield" ∷ codes "try" ∷ []

-- whether the byte is a letter or `_`
abbrev pub is_letter : ℕ → Bool
is_letter b = leb 65 b && leb b 90 || leb 97 b && leb b 122 || eqb b 95

-- whether the byte is a letter, a digit or `_`
abbrev pub is_word_byte : ℕ → Bool
is_word_byte b = is_letter b || leb 48 b && leb b 57

-- whether the bytes are letters, digits and `_`, and do not begin with a digit
abbrev pub is_word : List ℕ → Bool
is_word [] = false
is_word (b ∷ bs) = is_letter b && list_all is_word_byte bs

-- whether the bytes are a name: a word that is neither `_` nor reserved
abbrev pub is_name : List ℕ → Bool
is_name w = is_word w && not (bytes_eq w (codes "_")) && not (list_any (bytes_eq w) reserved)
