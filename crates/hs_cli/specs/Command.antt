-- What the words ask.
use Rattle.std.specs.Prelude.{◌≡◌, ℕ, List, [], ◌∷◌, Option, Some, None, true, bytes_eq, codes, if◌then◌else◌}
use Rattle.hs_first_em.specs.Spelled.{is_module_name}
use Rattle.hs_cli.specs.declared.command.Dialect.{Dialect}
use Rattle.hs_cli.specs.declared.command.Dialect.TheVariants.{FStar}

-- the module of this name, in this dialect, for the program of this file
pub record Print : Type 0 where
  pub dialect : Dialect
  pub module_name : List ℕ
  pub file : List ℕ

-- what is asked, one case for each command
pub data Command : Type 0 where
  AsksPrint : Print → Command

-- the dialect of this word
abbrev pub dialect_of : List ℕ → Option Dialect
dialect_of word = if bytes_eq word (codes "fstar") then Some FStar else None

-- to print in a dialect, where there is one and the name is a module's
abbrev pub print_of : Option Dialect → List ℕ → List ℕ → Option Command
print_of None name file = None
print_of (Some dialect) name file =
    if is_module_name name then Some (AsksPrint (record { dialect = dialect; module_name = name; file = file })) else None

-- what the words ask, where they match a form: `print DIALECT NAME FILE`
abbrev pub command_of : List (List ℕ) → Option Command
command_of (command ∷ dialect ∷ name ∷ file ∷ []) = if bytes_eq command (codes "print") then print_of (dialect_of dialect) name file else None
command_of _ = None

-- what a command names is a name of its kind
abbrev pub Named : Command → Type 0
Named (AsksPrint form) = is_module_name form.module_name ≡ true
