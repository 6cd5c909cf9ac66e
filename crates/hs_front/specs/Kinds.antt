-- The kinds of words, numbers and marks, by which the first grammar tells tokens apart.
use Rattle.std.specs.Prelude.{ℕ, ◌^◌, List, [], ◌∷◌, Bool, true, false, ◌&&◌, ltb, bytes_eq, codes, Option, Some, None, if◌then◌else◌}
use Rattle.std.specs.List.{list_any}
use Rattle.std.specs.Str.{all_ascii_digits}
use Rattle.hs_words.specs.declared.kinds.IntTy.{IntTy}
use Rattle.hs_lexer.specs.declared.token.TokenKind.{TokenKind}
use Rattle.hs_lexer.specs.declared.token.TokenKind.TheVariants as token
use Rattle.hs_front.specs.declared.symbol.Kind.{Kind}
use Rattle.hs_front.specs.declared.symbol.Kind.TheVariants.{Pub, Fn, Let, Mut, U32, BuiltIn, Name, Number, LeftParenthesis, RightParenthesis, LeftBrace, RightBrace, Comma, Colon, Semicolon, Arrow, Equals, Plus, Other}

-- the names that no item may take
abbrev pub built_in : List (List ℕ)
built_in =
    codes "u8" ∷ codes "u16" ∷ codes "u32" ∷ codes "u64" ∷ codes "u128" ∷ codes "usize"
    ∷ codes "i8" ∷ codes "i16" ∷ codes "i32" ∷ codes "i64" ∷ codes "i128"
    ∷ codes "U8" ∷ codes "U16" ∷ codes "U32" ∷ codes "U64" ∷ codes "U128"
    ∷ codes "bool" ∷ codes "Seq" ∷ codes "Option" ∷ codes "Result" ∷ codes "Some" ∷ codes "None" ∷ codes "Ok" ∷ codes "Err"
    ∷ codes "U8_from_U16" ∷ codes "U8_from_U32" ∷ codes "U8_from_U64" ∷ codes "U8_from_U128"
    ∷ codes "U16_from_U8" ∷ codes "U16_from_U32" ∷ codes "U16_from_U64" ∷ codes "U16_from_U128"
    ∷ codes "U32_from_U8" ∷ codes "U32_from_U16" ∷ codes "U32_from_U64" ∷ codes "U32_from_U128"
    ∷ codes "U64_from_U8" ∷ codes "U64_from_U16" ∷ codes "U64_from_U32" ∷ codes "U64_from_U128"
    ∷ codes "U128_from_U8" ∷ codes "U128_from_U16" ∷ codes "U128_from_U32" ∷ codes "U128_from_U64" ∷ []

unfoldable pub is_built_in : List ℕ → Bool
is_built_in word = list_any (bytes_eq word) built_in

-- a name is the type's, another built-in one, or any other
abbrev pub name_kind : List ℕ → Kind
name_kind word = if bytes_eq word (codes "u32") then U32 else (if is_built_in word then BuiltIn else Name)

-- the reserved words of the language
unfoldable pub reserved_kind : List ℕ → Kind
reserved_kind word =
    if bytes_eq word (codes "pub") then Pub
    else (if bytes_eq word (codes "fn") then Fn
    else (if bytes_eq word (codes "let") then Let
    else (if bytes_eq word (codes "mut") then Mut else Other)))

abbrev pub is_none : Option IntTy → Bool
is_none None = true
is_none (Some kind) = false

-- a number of the language is decimal digits with a value below 2^32, without a suffix
abbrev pub number_kind : ℕ → Option IntTy → List ℕ → Kind
number_kind value suffix word = if all_ascii_digits word && (ltb value (2 ^ 32) && is_none suffix) then Number else Other

-- the marks of the language
unfoldable pub mark_kind : List ℕ → Kind
mark_kind word =
    if bytes_eq word (codes "(") then LeftParenthesis
    else (if bytes_eq word (codes ")") then RightParenthesis
    else (if bytes_eq word (codes "{") then LeftBrace
    else (if bytes_eq word (codes "}") then RightBrace
    else (if bytes_eq word (codes ",") then Comma
    else (if bytes_eq word (codes ":") then Colon
    else (if bytes_eq word (codes ";") then Semicolon
    else (if bytes_eq word (codes "->") then Arrow
    else (if bytes_eq word (codes "=") then Equals
    else (if bytes_eq word (codes "+") then Plus else Other)))))))))

-- the kind of a token with these bytes
abbrev pub kind_of : TokenKind → List ℕ → Kind
kind_of token.Name word = name_kind word
kind_of token.Reserved word = reserved_kind word
kind_of (token.Int value suffix) word = number_kind value suffix word
kind_of token.Text word = Other
kind_of token.Mark word = mark_kind word
