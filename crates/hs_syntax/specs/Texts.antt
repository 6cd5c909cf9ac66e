-- The bytes of a text.
use Rattle.std.specs.Prelude.{ℕ, ◌-◌, List, take, drop, length, min}
use Rattle.hs_syntax.specs.declared.span.Span.{Span}

-- the bytes of a span, as far as the text has them
unfoldable pub bytes_at : List ℕ → Span → List ℕ
bytes_at text s = take (s.end - s.start) (drop s.start text)
