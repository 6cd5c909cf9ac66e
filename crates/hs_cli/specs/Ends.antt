-- What a call left on the sinks, and with which status.
use Rattle.std.specs.Prelude.{◌≡◌, ◌≢◌, ℕ, ◌≤◌, List, length, Option, Some, None, ⊤}
use Rattle.std.specs.Io.KnownBytes.{Keeps, Appends}
use Rattle.hs_first_tree.specs.Plain as tree
use Rattle.hs_front.specs.Told.{Accepted, Told}
use Rattle.hs_base.specs.Causes.{TookPrefix}
use Rattle.hs_base.specs.declared.place.Broken.{Broken}
use Rattle.hs_base.specs.Contents.{Entry, bytes_under}
use Rattle.hs_cli.specs.declared.status.Status.{Status}
use Rattle.hs_cli.specs.declared.status.Status.TheVariants.{Done, Refused, ReadFault, WriteFault, NoMemory}
use Rattle.hs_cli.specs.Command.{Print, Command, AsksPrint}
use Rattle.hs_cli.specs.Lines.{refused_line}
use Rattle.hs_cli.specs.Output.{Written, OutputFrom, Prints, Untold}

-- the two sinks took a whole output with this status
abbrev pub TookWhole : List (List ℕ) → Option (List Entry) → Status → Option (List ℕ) → Option (List ℕ) → Option (List ℕ) → Option (List ℕ) → Type 0
TookWhole words told status out_old out_new err_old err_new =
    (written : Written) × (written.status ≡ status) × OutputFrom words told written
    × Appends out_old out_new written.out × Appends err_old err_new written.err

abbrev pub TookNothing : Option (List ℕ) → Option (List ℕ) → Option (List ℕ) → Option (List ℕ) → Type 0
TookNothing out_old out_new err_old err_new = Keeps out_old out_new × Keeps err_old err_new

-- each sink took a prefix of its part of one output, which tells a failed read only where `read_rose`
abbrev pub TookParts : List (List ℕ) → Option (List Entry) → Type 0 → Option (List ℕ) → Option (List ℕ) → Option (List ℕ) → Option (List ℕ) → Type 0
TookParts words told read_rose out_old out_new err_old err_new =
    (written : Written) × OutputFrom words told written × (written.status ≡ ReadFault → read_rose)
    × TookPrefix out_old out_new written.out × TookPrefix err_old err_new written.err

-- the program of a text is printed, or the text is refused
pub record Answers (form : Print) (bytes : List ℕ) (status : Status) (out_old out_new err_old err_new : Option (List ℕ)) : Type 0 where
  -- Done exactly where the text is accepted
  pub done : (p : List tree.Function) → Accepted bytes p → status ≡ Done
  -- and exactly where no rule is told of it
  pub untold : Untold bytes → status ≡ Done
  -- Refused exactly where a rule is told of it, and the line on `err` tells that rule and its place
  pub refused : (b : Broken) → Told bytes b → (status ≡ Refused) × Appends err_old err_new (refused_line form.file b)
  -- with Refused a rule is told of the text
  pub told : status ≡ Refused → (b : Broken) × Told bytes b
  -- with Done the bytes that `out` took are exactly one module, which means what the program's calls give
  pub prints : status ≡ Done → (p : List tree.Function) × Accepted bytes p × (text : List ℕ) × Appends out_old out_new text × Prints form.module_name p text

-- what holds for the words of a print whose file is told within its limit
abbrev pub Headline : Option Command → Option (List Entry) → Status → Option (List ℕ) → Option (List ℕ) → Option (List ℕ) → Option (List ℕ) → Type 0
Headline None told status out_old out_new err_old err_new = ⊤
Headline (Some command) None status out_old out_new err_old err_new = ⊤
Headline (Some (AsksPrint form)) (Some files) status out_old out_new err_old err_new =
    (bytes : List ℕ) → bytes_under form.file files ≡ Some bytes → length bytes ≤ 262144 → status ≢ ReadFault → status ≢ WriteFault → status ≢ NoMemory
    → Answers form bytes status out_old out_new err_old err_new
