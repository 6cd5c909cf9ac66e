-- What a call writes, by its words and the files.
use Rattle.std.specs.Prelude.{◌≡◌, ◌⊎◌, ℕ, ◌<◌, ◌≤◌, List, [], length, ⊤, Option, Some, None}
use Rattle.hs_first_tree.specs.Plain as tree
use Rattle.hs_front.specs.Told.{Accepted, Told}
use Rattle.hs_base.specs.Contents.{Entry, bytes_under}
use Rattle.hs_base.specs.declared.place.Broken.{Broken}
use Rattle.hs_parser.specs.declared.stop.ParseStop.{ParseStop}
use Rattle.hs_parser.specs.declared.stop.ParseStop.TheVariants as stop
use Rattle.hs_cli.specs.declared.status.Status.{Status}
use Rattle.hs_cli.specs.declared.status.Status.TheVariants.{Done, Refused, Usage, NotThere, ReadFault, TooLarge}
use Rattle.hs_first_em.specs.Plain.{Module}
use Rattle.hs_first_em.specs.Spelled.{Spelled}
use Rattle.hs_first_em.specs.Scoped.{Scoped}
use Rattle.hs_fstar.specs.Reads.{Reads}
use Rattle.hs_fstar.specs.Layout.{layout}
use Rattle.hs_pipeline.specs.Same.{Same, Shape}
use Rattle.hs_cli.specs.Command.{Print, Command, AsksPrint, command_of}
use Rattle.hs_cli.specs.Lines.{usage_line, not_there_line, too_large_line, read_failed_line, refused_line}

-- a status, and what is on the two sinks
pub record Written : Type 0 where
  pub status : Status
  pub out : List ℕ
  pub err : List ℕ

abbrev pub says : Status → List ℕ → List ℕ → Written
says status out err = record { status = status; out = out; err = err }

-- the text is exactly one module, of this name, and that module means what the program's calls give
pub record Prints (name : List ℕ) (p : List tree.Function) (text : List ℕ) : Type 0 where
  pub made : Module
  pub reads : Reads text made
  pub once : (other : Module) → Reads text other → other ≡ made
  pub laid : text ≡ layout made
  pub named : made.name ≡ name
  pub spelled : Spelled made
  pub scoped : Scoped made
  pub same : Same p made
  pub shape : Shape p made.defs

-- no program is accepted
abbrev pub Unaccepted : List ℕ → Type 0
Unaccepted bytes = (p : List tree.Function) → Accepted bytes p → ⊥

-- no rule is told
abbrev pub Untold : List ℕ → Type 0
Untold bytes = (b : Broken) → Told bytes b → ⊥

-- only this rule is told, at this place
abbrev pub ToldAlone : List ℕ → Broken → Type 0
ToldAlone bytes broken = (b : Broken) → Told bytes b → b ≡ broken

-- what is written for a text: the module of its program, or, where it breaks a rule, the told one and its place
abbrev pub CarriedOut : Print → List ℕ → Written → Type 0
CarriedOut form bytes written =
    ((p : List tree.Function) × Accepted bytes p × Untold bytes × (written.status ≡ Done) × Prints form.module_name p written.out × (written.err ≡ []))
    ⊎ ((broken : Broken) × Told bytes broken × ToldAlone bytes broken × Unaccepted bytes × (written ≡ says Refused [] (refused_line form.file broken)))

-- what is written where the file was read
abbrev pub Read : Print → List ℕ → Written → Type 0
Read form bytes written =
    ((262144 < length bytes) × (written ≡ says TooLarge [] (too_large_line form.file)))
    ⊎ ((length bytes ≤ 262144) × CarriedOut form bytes written)

-- what is written for what stands under the file's name
abbrev pub Fetched : Print → Option (List ℕ) → Written → Type 0
Fetched form None written = written ≡ says NotThere [] (not_there_line form.file)
Fetched form (Some bytes) written = Read form bytes written

-- what is written for a print: the module, or what stands in its way; or that the read failed
abbrev pub Printed : Print → List Entry → Written → Type 0
Printed form files written =
    Fetched form (bytes_under form.file files) written ⊎ (written ≡ says ReadFault [] (read_failed_line form.file))

-- this may be written: what the command and the files ask for, or the line that tells the forms
abbrev pub OutputOf : Option Command → List Entry → Written → Type 0
OutputOf None files written = written ≡ says Usage [] usage_line
OutputOf (Some (AsksPrint form)) files written = Printed form files written

abbrev pub Output : List (List ℕ) → List Entry → Written → Type 0
Output words files written = OutputOf (command_of words) files written

-- these may be the files
abbrev pub MayBe : Option (List Entry) → List Entry → Type 0
MayBe None files = ⊤
MayBe (Some told) files = files ≡ told

-- this may be written for what the files tell
abbrev pub OutputFrom : List (List ℕ) → Option (List Entry) → Written → Type 0
OutputFrom words told written = (files : List Entry) × MayBe told files × Output words files written

-- this may be written for what the command asks of these files
abbrev pub OutputAt : Command → Option (List Entry) → Written → Type 0
OutputAt command told written = (files : List Entry) × MayBe told files × OutputOf (Some command) files written

-- the line of what stopped a check; want of memory has none
abbrev pub StoppedBy : ParseStop → List ℕ → Written → Type 0
StoppedBy (stop.Broken broken) file written = written ≡ says Refused [] (refused_line file broken)
StoppedBy stop.TooDeep file written = ⊥
StoppedBy stop.NoMemory file written = ⊥
