-- The bytes that only blanks and strings are made of.
use Rattle.std.specs.Prelude.{ℕ, Bool, ◌||◌, ◌&&◌, eqb, leb, not}

-- space, tab, line feed or carriage return
unfoldable pub is_blank : ℕ → Bool
is_blank b = eqb b 32 || eqb b 9 || eqb b 10 || eqb b 13

-- what stands between the quotes of a string: 0x20 to 0x7E without `"` and `\`
unfoldable pub is_text_byte : ℕ → Bool
is_text_byte b = leb 32 b && leb b 126 && not (eqb b 34) && not (eqb b 92)
