-- Files in memory.
use Rattle.std.specs.Prelude.{List, [], ◌∷◌, string_bytes}
use Rattle.hs_base.specs.Contents.{Entry}
use Rattle.hs_base.specs.declared.shelf.Held.{Held}

-- the names and the bytes of what is held
abbrev pub entries_of : List Held → List Entry
entries_of [] = []
entries_of (held ∷ rest) = (string_bytes held.name, held.bytes.items) ∷ entries_of rest
