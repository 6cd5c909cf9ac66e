-- A name that stands for a local is spelled as the local's binding place is.
use Rattle.std.specs.Prelude.{ℕ, ◌≡◌, List, slice_get, Some}
use Rattle.hs_syntax.specs.declared.span.Span.{Span}
use Rattle.hs_syntax.specs.Texts.{bytes_at}
use Rattle.hs_symbols.specs.declared.referent.Referent.TheVariants as r
use Rattle.hs_resolver.specs.declared.known.Use.{Use}
use Rattle.hs_resolver.specs.declared.names.ItemNames.{ItemNames}

-- there is a binding place of this number, and this is how it is spelled
abbrev pub IsPlace : List ℕ → List Span → ℕ → List ℕ → Type 0
IsPlace text places number word = (s : Span) × (slice_get places number ≡ Some s) × (word ≡ bytes_at text s)

-- each name of an item that stands for a local
abbrev pub ItemSpelled : List ℕ → ItemNames → Type 0
ItemSpelled text item =
    (k number : ℕ) (u : Use) → slice_get item.uses k ≡ Some u → u.referent ≡ r.Local number → IsPlace text item.places number (bytes_at text u.name)

abbrev pub EachSpelled : List ℕ → List ItemNames → Type 0
EachSpelled text items = (k : ℕ) (item : ItemNames) → slice_get items k ≡ Some item → ItemSpelled text item
