-- What is kept of the items of a file.
use Rattle.std.specs.Prelude.{ℕ, ◌≡◌, List}
use Rattle.hs_syntax.specs.declared.file.File.{File}
use Rattle.hs_symbols.specs.declared.declared.Declared.{Declared}
use Rattle.hs_symbols.specs.Symbols.{declared, titles}

-- what the items declare, and the names of that
pub record Kept (file : File) (all : List Declared) (names : List (List ℕ)) : Type 0 where
  pub declared : all ≡ declared file.text file.items
  pub titles : names ≡ titles file.text file.items
