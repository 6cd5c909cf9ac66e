-- What a fetch tells of a file that was not read.
use Rattle.hs_base.specs.declared.outside.FetchFault.{FetchFault}
use Rattle.hs_base.specs.declared.outside.FetchFault.TheVariants as told
use Rattle.hs_base.specs.declared.disk.ReadFault.{ReadFault}
use Rattle.hs_base.specs.declared.disk.ReadFault.TheVariants as fault

-- the same without the error
abbrev pub told_of : ReadFault → FetchFault
told_of fault.NotThere = told.NotThere
told_of fault.TooLarge = told.TooLarge
told_of (fault.Failed error) = told.Failed
told_of fault.NoMemory = told.NoMemory
