-- The stages behind the grammar of the whole language and its limits: names, and then what items declare.
use Rattle.std.specs.Prelude.{◌⊎◌, Result, Ok, Err}
use Rattle.hs_base.specs.declared.place.Broken.{Broken}
use Rattle.hs_base.specs.declared.place.Stop.{Stop}
use Rattle.hs_base.specs.declared.place.Stop.TheVariants as stop
use Rattle.hs_syntax.specs.declared.file.File.{File}
use Rattle.hs_resolver.specs.Order.{KeepsNames, TellsNames}
use Rattle.hs_items.specs.Declares.{KeepsDecls, TellsDecls}

-- the file breaks no rule of these stages
abbrev pub KeepsRules : File → Type 0
KeepsRules file = KeepsNames file × KeepsDecls file

-- this is told of the file: of its names, or else of what its items declare
abbrev pub TellsRules : File → Broken → Type 0
TellsRules file told = TellsNames file told ⊎ (KeepsNames file × TellsDecls file told)

-- nothing where no rule of these stages is broken, else the told one
abbrev pub Keeps : {A : Type 0} → File → Result A Stop → Type 0
Keeps file (Ok x) = KeepsRules file
Keeps file (Err (stop.Broken told)) = TellsRules file told
Keeps file (Err stop.NoMemory) = Unit {0}
