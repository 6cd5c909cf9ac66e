-- The tokens of an emitted text: words and marks, with blanks and comments between them.
use Rattle.std.specs.Prelude.{ℕ, List, [], ◌∷◌, Bool, false, ◌||◌, ◌&&◌, eqb, Option, Some, None, option_and_then, if◌then◌else◌}
use Rattle.hs_base.specs.Names.{is_word_byte}
use Rattle.hs_fstar.specs.Bytes.{is_blank, begins_word}

-- a word is a longest run of letters, digits and `_`; a mark is one byte
pub data Token : Type 0 where
  Word : List ℕ → Token
  Mark : ℕ → Token

-- where a place in the text stands: outside comments, behind the `(` of an opening, inside a comment, behind the `*` of a closing
pub data Place : Type 0 where
  Outside : Place
  Opening : Place
  Inside : Place
  Closing : Place

-- one of ( ) : =
abbrev pub is_mark : ℕ → Bool
is_mark b = eqb b 40 || eqb b 41 || eqb b 58 || eqb b 61

-- whether the text begins with this byte
abbrev pub begins : ℕ → List ℕ → Bool
begins c [] = false
begins c (b ∷ bs) = eqb b c

-- whether a `(*` begins with this byte of the text
abbrev pub opens : ℕ → List ℕ → Bool
opens b bs = eqb b 40 && begins 42 bs

-- whether a `*)` begins with this byte of the text
abbrev pub closes : ℕ → List ℕ → Bool
closes b bs = eqb b 42 && begins 41 bs

-- the byte goes on the word that stands directly behind it
abbrev pub joined : ℕ → List Token → List Token
joined b (Word w ∷ ts) = Word (b ∷ w) ∷ ts
joined b ts = Word (b ∷ []) ∷ ts

-- a word that begins with this byte, before the text's tokens
abbrev pub with_word : ℕ → List ℕ → List Token → List Token
with_word b bs ts = if begins_word bs then joined b ts else Word (b ∷ []) ∷ ts

-- the tokens of a byte outside comments and of the text behind it
abbrev pub token_before : ℕ → List ℕ → List Token → Option (List Token)
token_before b bs ts =
    if is_blank b then Some ts
    else (if is_word_byte b then Some (with_word b bs ts)
    else (if is_mark b then Some (Mark b ∷ ts) else None))

-- the tokens of a text from a place on; none where a byte begins no token, or a comment is not closed or holds another
abbrev pub tokens_from : Place → List ℕ → Option (List Token)
tokens_from Outside [] = Some []
tokens_from Opening [] = None
tokens_from Inside [] = None
tokens_from Closing [] = None
tokens_from Outside (b ∷ bs) =
    if opens b bs then tokens_from Opening bs else option_and_then (token_before b bs) (tokens_from Outside bs)
tokens_from Opening (b ∷ bs) = tokens_from Inside bs
tokens_from Inside (b ∷ bs) =
    if opens b bs then None else (if closes b bs then tokens_from Closing bs else tokens_from Inside bs)
tokens_from Closing (b ∷ bs) = tokens_from Outside bs

-- the tokens of a text
abbrev pub tokens_of : List ℕ → Option (List Token)
tokens_of text = tokens_from Outside text
