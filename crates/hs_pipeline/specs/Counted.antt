-- The numbers of a function's locals.
use Rattle.std.specs.Prelude.{◌^◌, ◌<◌, length}
use Rattle.hs_first_tree.specs.Plain.{Function}

-- a local's number is a usize
abbrev pub Numbered : Function → Type 0
Numbered f = length f.locals < 2 ^ 64
