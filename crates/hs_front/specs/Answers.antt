-- What the check of a text is to answer, where the text is accepted or a rule is told of it.
use Rattle.std.specs.Prelude.{◌≡◌, List, Result, Ok, Err}
use Rattle.hs_base.specs.declared.place.Broken.{Broken}
use Rattle.hs_parser.specs.declared.stop.ParseStop.{ParseStop}
use Rattle.hs_parser.specs.declared.stop.ParseStop.TheVariants as stop
use Rattle.hs_first_tree.specs.Plain as tree

-- too much nests, or there was no memory
abbrev pub IsFree : ParseStop → Type 0
IsFree (stop.Broken b) = ⊥
IsFree stop.TooDeep = Unit {0}
IsFree stop.NoMemory = Unit {0}

-- the answer is this program, seen through a function; or too much nests, or there was no memory
abbrev pub Only : {A : Type 0} → (A → List tree.Function) → List tree.Function → Result A ParseStop → Type 0
Only of p (Ok x) = of x ≡ p
Only of p (Err s) = IsFree s

-- this break was met; or too much nests, or there was no memory
abbrev pub IsBreak : Broken → ParseStop → Type 0
IsBreak b (stop.Broken c) = c ≡ b
IsBreak b stop.TooDeep = Unit {0}
IsBreak b stop.NoMemory = Unit {0}

-- the answer is this break; or too much nests, or there was no memory
abbrev pub OnlyBreak : {A : Type 0} → Broken → Result A ParseStop → Type 0
OnlyBreak b (Ok x) = ⊥
OnlyBreak b (Err s) = IsBreak b s

-- where the answer is a break, this is said of it
abbrev pub OnBreak : {A : Type 0} → Result A ParseStop → (Broken → Type 0) → Type 0
OnBreak (Ok x) P = Unit {0}
OnBreak (Err (stop.Broken b)) P = P b
OnBreak (Err stop.TooDeep) P = Unit {0}
OnBreak (Err stop.NoMemory) P = Unit {0}
