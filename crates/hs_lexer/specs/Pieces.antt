-- What begins at a place of a text.
use Rattle.std.specs.Prelude.{ℕ, zero, suc, ◌+◌, ◌-◌, List, [], ◌∷◌, Bool, false, ◌&&◌, codes, eqb, leb, bytes_eq, length, Option, Some, None, Result, Ok, Err, take, drop, if◌then◌else◌}
use Rattle.std.specs.List.{prefix_len, take_while, starts_with}
use Rattle.std.specs.Option.{option_map}
use Rattle.hs_base.specs.Names.{is_digit, is_word_byte, is_reserved}
use Rattle.hs_base.specs.Positions.{is_in_line}
use Rattle.hs_base.specs.declared.rule.Rule.{Rule}
use Rattle.hs_base.specs.declared.rule.Rule.TheVariants.{X1, X2, S9}
use Rattle.hs_lexer.specs.declared.token.TokenKind.{TokenKind}
use Rattle.hs_lexer.specs.declared.token.TokenKind.TheVariants.{Name, Reserved, Text, Mark}
use Rattle.hs_lexer.specs.declared.piece.Piece.{Piece}
use Rattle.hs_lexer.specs.Bytes.{is_blank, is_text_byte}
use Rattle.hs_lexer.specs.Marks.{is_mark}
use Rattle.hs_lexer.specs.Numbers.{integer_of}

-- a blank or a comment of this many bytes
abbrev pub gap : ℕ → Piece
gap n = record { kind = None; length = n }

-- a spelling of this kind and this many bytes
abbrev pub spelling : TokenKind → ℕ → Piece
spelling kind n = record { kind = Some kind; length = n }

-- the greatest number, at most the given one, of items at the front of a list that pass a test together; 0 where none do
abbrev pub longest_front : (List ℕ → Bool) → ℕ → List ℕ → ℕ
longest_front test zero s = 0
longest_front test (suc n) s =
    if leb (suc n) (length s) && test (take (suc n) s) then suc n else longest_front test n s

-- the kind of a word that begins with a letter or `_`
unfoldable pub kind_of_name : List ℕ → Result TokenKind Rule
kind_of_name word =
    if bytes_eq word (codes "_") then Ok Mark
    else (if is_reserved word then Ok Reserved
    else (if leb (length word) 64 then Ok Name else Err S9))

-- the kind of a word: what begins with a digit is an integer
unfoldable pub kind_of_word : List ℕ → Result TokenKind Rule
kind_of_word [] = Err X1
kind_of_word (b ∷ bs) = if is_digit b then integer_of (b ∷ bs) else kind_of_name (b ∷ bs)

-- a spelling of so many bytes, where its kind is no broken rule
abbrev pub spelled : ℕ → Result TokenKind Rule → Result Piece Rule
spelled n (Ok kind) = Ok (spelling kind n)
spelled n (Err rule) = Err rule

-- the longest word that begins the text
unfoldable pub word_at : List ℕ → Result Piece Rule
word_at s = spelled (prefix_len is_word_byte s) (kind_of_word (take_while is_word_byte s))

-- whether the text begins with `"`
abbrev pub begins_quote : List ℕ → Bool
begins_quote [] = false
begins_quote (b ∷ bs) = eqb b 34

-- the string whose first `"` stands before this text
unfoldable pub string_before : List ℕ → Result Piece Rule
string_before s =
    let inside = prefix_len is_text_byte s in
    if begins_quote (drop inside s) then Ok (spelling Text (inside + 2)) else Err X1

-- the mark of so many bytes; no token begins where there are none
abbrev pub mark_of : ℕ → Result Piece Rule
mark_of zero = Err X1
mark_of (suc n) = Ok (spelling Mark (suc n))

-- the longest mark, of at most three bytes, that begins the text
unfoldable pub mark_at : List ℕ → Result Piece Rule
mark_at s = mark_of (longest_front is_mark 3 s)

-- the longest spelling but a string that begins the text
unfoldable pub spelling_at : List ℕ → Result Piece Rule
spelling_at [] = Err X1
spelling_at (b ∷ bs) = if is_word_byte b then word_at (b ∷ bs) else mark_at (b ∷ bs)

-- how many bytes a text has up to the end of the `*/` that closes this many open comments and one more; comments nest,
-- and no byte belongs to two of `/*` and `*/`
unfoldable pub closed_after : ℕ → List ℕ → Option ℕ
closed_after depth [] = None
closed_after depth (b ∷ []) = None
closed_after depth (b ∷ (c ∷ s)) =
    if eqb b 47 && eqb c 42 then option_map (λ n. n + 2) (closed_after (depth + 1) s)
    else (if eqb b 42 && eqb c 47
    then (if eqb depth 0 then Some 2 else option_map (λ n. n + 2) (closed_after (depth - 1) s))
    else option_map (λ n. n + 1) (closed_after depth (c ∷ s)))

-- a comment of two bytes more than this many, where it is closed
abbrev pub closed : Option ℕ → Result Piece Rule
closed None = Err X2
closed (Some n) = Ok (gap (n + 2))

-- the comment whose `/*` stands before this text
unfoldable pub comment_before : List ℕ → Result Piece Rule
comment_before s = closed (closed_after 0 s)

-- the one piece that begins a text: a blank, a comment, or the longest spelling; or the least rule that is broken there.
-- A text without bytes begins with none.
unfoldable pub piece_at : List ℕ → Result Piece Rule
piece_at [] = Err X1
piece_at (b ∷ bs) =
    if is_blank b then Ok (gap 1)
    else (if starts_with eqb (b ∷ bs) (codes "//") then Ok (gap (prefix_len is_in_line (drop 1 bs) + 2))
    else (if starts_with eqb (b ∷ bs) (codes "/*") then comment_before (drop 1 bs)
    else (if eqb b 34 then string_before bs
    else spelling_at (b ∷ bs))))
