-- Names and binding places of items stand in the order of the text.
use Rattle.std.specs.Prelude.{ℕ, ◌≡◌, ◌<◌, ◌≤◌, List, map, slice_get, Some}
use Rattle.hs_syntax.specs.declared.span.Span.{Span}
use Rattle.hs_resolver.specs.declared.known.Use.{Use}
use Rattle.hs_resolver.specs.declared.names.ItemNames.{ItemNames}

-- each has a byte at least, and they stand one behind the other in the text
pub record InOrder (spans : List Span) : Type 0 where
  pub proper : (k : ℕ) (s : Span) → slice_get spans k ≡ Some s → s.start < s.end
  pub behind : (j k : ℕ) (s z : Span) → j < k → slice_get spans j ≡ Some s → slice_get spans k ≡ Some z → s.end ≤ z.start

-- the bytes of these names
abbrev pub spans_of : List Use → List Span
spans_of uses = map (λ (u : Use). u.name) uses

-- the binding places of an item, and the names in it that stand for something; which place is which name, it leaves open
abbrev pub ItemInOrder : ItemNames → Type 0
ItemInOrder item = InOrder item.places × InOrder (spans_of item.uses)

abbrev pub EachInOrder : List ItemNames → Type 0
EachInOrder items = (k : ℕ) (item : ItemNames) → slice_get items k ≡ Some item → ItemInOrder item
