-- The marks.
use Rattle.std.specs.Prelude.{ℕ, List, [], ◌∷◌, Bool, ◌||◌, codes, bytes_eq}
use Rattle.std.specs.List.{list_any}

-- whether the bytes are one of these
abbrev pub is_one_of : List (List ℕ) → List ℕ → Bool
is_one_of those bytes = list_any (bytes_eq bytes) those

-- the marks of one byte that are no operators
abbrev pub punctuation : List (List ℕ)
punctuation =
    codes "(" ∷ codes ")" ∷ codes "[" ∷ codes "]" ∷ codes "{" ∷ codes "}" ∷ codes "," ∷ codes ";" ∷ codes ":" ∷
    codes "." ∷ codes "?" ∷ codes "#" ∷ codes "_" ∷ []

-- the operators of one byte
abbrev pub operators : List (List ℕ)
operators =
    codes "=" ∷ codes "<" ∷ codes ">" ∷ codes "+" ∷ codes "-" ∷ codes "*" ∷ codes "/" ∷ codes "%" ∷ codes "&" ∷
    codes "|" ∷ codes "^" ∷ codes "!" ∷ []

-- the marks of two bytes that end in `=`
abbrev pub assignments : List (List ℕ)
assignments =
    codes "==" ∷ codes "!=" ∷ codes "<=" ∷ codes ">=" ∷ codes "+=" ∷ codes "-=" ∷ codes "*=" ∷ codes "/=" ∷
    codes "%=" ∷ codes "&=" ∷ codes "|=" ∷ codes "^=" ∷ []

-- the other marks of two bytes, and those of three
abbrev pub pairs : List (List ℕ)
pairs =
    codes "::" ∷ codes ".." ∷ codes "->" ∷ codes "=>" ∷ codes "&&" ∷ codes "||" ∷ codes "<<" ∷ codes ">>" ∷
    codes "<<=" ∷ codes ">>=" ∷ []

-- whether the bytes are one of the 47 marks
unfoldable pub is_mark : List ℕ → Bool
is_mark bytes =
    is_one_of punctuation bytes || is_one_of operators bytes
    || is_one_of assignments bytes || is_one_of pairs bytes
