-- Integers: a base, digits, an ending.
use Rattle.std.specs.Prelude.{ℕ, ◌+◌, ◌-◌, ◌*◌, ◌^◌, List, [], ◌∷◌, Bool, true, ◌||◌, codes, bytes_eq, eqb, ltb, leb, Option, Some, None, Result, Ok, Err, take, drop, filter, if◌then◌else◌}
use Rattle.std.specs.List.{prefix_len, list_any, starts_with, find}
use Rattle.std.specs.Option.{option_map}
use Rattle.std.specs.Char.{digit_value}
use Rattle.std.specs.Str.Parse.{digits_value}
use Rattle.hs_base.specs.declared.rule.Rule.{Rule}
use Rattle.hs_base.specs.declared.rule.Rule.TheVariants.{X3, X4, X5, X6}
use Rattle.hs_words.specs.declared.kinds.IntTy.{IntTy}
use Rattle.hs_words.specs.declared.kinds.IntTy.TheVariants.{PU8, PU16, PU32, PU64, PU128, PUsize, PI8, PI16, PI32, PI64, PI128}
use Rattle.hs_words.specs.Kind.{width_of, is_signed}
use Rattle.hs_lexer.specs.declared.token.TokenKind.{TokenKind}
use Rattle.hs_lexer.specs.declared.token.TokenKind.TheVariants.{Int}

-- the base that an integer's prefix names, which is 10 where it has none, and what stands behind the prefix
unfoldable pub based : List ℕ → ℕ × List ℕ
based word =
    if starts_with eqb word (codes "0x") then (16, drop 2 word)
    else (if starts_with eqb word (codes "0o") then (8, drop 2 word)
    else (if starts_with eqb word (codes "0b") then (2, drop 2 word) else (10, word)))

-- a digit of the base, of either case
unfoldable pub is_digit_of : ℕ → ℕ → Bool
is_digit_of base b = ltb (digit_value b) base

-- a digit of the base or `_`
abbrev pub is_run_byte : ℕ → ℕ → Bool
is_run_byte base b = is_digit_of base b || eqb b 95

-- a value with one byte more, which counts where it is a digit
abbrev pub value_with : ℕ → ℕ → ℕ → ℕ
value_with base value b = if is_digit_of base b then value * base + digit_value b else value

-- the endings of integers, each with the kind that it names
abbrev pub suffixes : List (List ℕ × IntTy)
suffixes =
    (codes "u8", PU8) ∷ (codes "u16", PU16) ∷ (codes "u32", PU32) ∷ (codes "u64", PU64) ∷ (codes "u128", PU128)
    ∷ (codes "usize", PUsize) ∷ (codes "i8", PI8) ∷ (codes "i16", PI16) ∷ (codes "i32", PI32) ∷ (codes "i64", PI64)
    ∷ (codes "i128", PI128) ∷ []

-- the kind of integers that an ending names
unfoldable pub kind_named : List ℕ → Option IntTy
kind_named ending =
    option_map (λ (row : List ℕ × IntTy). row.1) (find (λ (row : List ℕ × IntTy). bytes_eq ending row.0) suffixes)

-- an ending's suffix: none where it is empty, no answer where it names no public kind
unfoldable pub suffix_of : List ℕ → Option (Option IntTy)
suffix_of [] = Some None
suffix_of (b ∷ bs) = option_map Some (kind_named (b ∷ bs))

-- whether a literal fits its suffix: with a minus before it, also 2 ^ (w - 1) of a signed kind does
unfoldable pub fits : Option IntTy → ℕ → Bool
fits None value = true
fits (Some kind) value =
    if is_signed kind then leb value (2 ^ (width_of kind - 1)) else ltb value (2 ^ width_of kind)

-- the integer of this value and suffix, or the limit that it passes
unfoldable pub limited : Option IntTy → ℕ → Result TokenKind Rule
limited suffix value =
    if ltb value (2 ^ 128) then (if fits suffix value then Ok (Int value suffix) else Err X6) else Err X5

-- the integer of these digits with this suffix
abbrev pub with_suffix : ℕ → List ℕ → Option (Option IntTy) → Result TokenKind Rule
with_suffix base digits None = Err X4
with_suffix base digits (Some suffix) = limited suffix (digits_value base digits)

-- the integer that a word spells, or the first rule that it breaks: the longest run of digits and `_` behind the prefix,
-- with a digit in it, then the ending
unfoldable pub integer_of : List ℕ → Result TokenKind Rule
integer_of word =
    let base = (based word).0 in
    let body = (based word).1 in
    let run = take (prefix_len (is_run_byte base) body) body in
    let ending = drop (prefix_len (is_run_byte base) body) body in
    if list_any (is_digit_of base) run then with_suffix base (filter (is_digit_of base) run) (suffix_of ending) else Err X3
