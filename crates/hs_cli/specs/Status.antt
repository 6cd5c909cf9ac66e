-- The statuses as numbers.
use Rattle.std.specs.Prelude.{ℕ}
use Rattle.hs_cli.specs.declared.status.Status.{Status}
use Rattle.hs_cli.specs.declared.status.Status.TheVariants.{Done, Refused, Usage, NotThere, BadVectors, Failing, ReadFault, WriteFault, NoMemory, TooLarge}

-- the number that the program ends with
abbrev pub code_of : Status → ℕ
code_of Done = 0
code_of Refused = 1
code_of Usage = 2
code_of NotThere = 3
code_of BadVectors = 4
code_of Failing = 5
code_of ReadFault = 6
code_of WriteFault = 7
code_of NoMemory = 8
code_of TooLarge = 9
