-- What a fetch gave leads to an output.
use Rattle.std.proofs.Common.{arith, ◌≡◌, ℕ, ◌+◌, ◌<◌, ◌≤◌, true, List, [], ◌∷◌, length, inl, inr, None, Some, Option, Result, Ok, Err, IfOk, bytes_eq, refl, sym, ap, subst, replicate, if◌then◌else◌}
use Rattle.std.proofs.lemmas.Slice.Eq.{bytes_eq-Decides}
use Rattle.std.proofs.lemmas.List.{length-replicate}
use Rattle.hs_first_tree.specs.Plain as tree
use Rattle.hs_base.specs.declared.place.Broken.{Broken}
use Rattle.hs_parser.specs.declared.stop.ParseStop.{ParseStop}
use Rattle.hs_parser.specs.declared.stop.ParseStop.TheVariants as stops
use Rattle.hs_front.specs.Told.{Accepted, Told}
use Rattle.hs_front.specs.Answers.{OnBreak, OnlyBreak}
use Rattle.hs_base.specs.Contents.{Entry, bytes_under, Holds, Lacks, Exceeds}
use Rattle.hs_cli.specs.declared.status.Status.TheVariants.{Usage, NotThere, TooLarge, ReadFault}
use Rattle.hs_cli.specs.Command.{Print, Command, AsksPrint, command_of}
use Rattle.hs_cli.specs.Lines.{usage_line, not_there_line, too_large_line, read_failed_line}
use Rattle.hs_cli.specs.Output.{Written, says, CarriedOut, StoppedBy, Fetched, OutputAt, OutputOf, OutputFrom, MayBe}

pub IfOk-map : {T E : Type 0} (r : Result T E) (P Q : T → Type 0) → ((a : T) → P a → Q a) → IfOk r P → IfOk r Q
IfOk-map (Ok a) P Q step h = step a h
IfOk-map (Err e) P Q step h = tt

bytes_eq-same : (xs : List ℕ) → bytes_eq xs xs ≡ true
bytes_eq-same xs = grind (arith, bytes_eq-Decides xs xs)

some_files : (told : Option (List Entry)) → (files : List Entry) × MayBe told files
some_files None = ([], tt)
some_files (Some files) = (files, refl)

-- files that hold what was found
with_bytes : (told : Option (List Entry)) (name bytes : List ℕ) → Holds told name bytes → (files : List Entry) × MayBe told files × (bytes_under name files ≡ Some bytes)
with_bytes None name bytes h = ((name, bytes) ∷ [], tt, ap (λ b. if b then Some bytes else None) (bytes_eq-same name))
with_bytes (Some files) name bytes h = (files, refl, h)

without : (told : Option (List Entry)) (name : List ℕ) → Lacks told name → (files : List Entry) × MayBe told files × (bytes_under name files ≡ None)
without None name h = ([], tt, refl)
without (Some files) name h = (files, refl, h)

with_many : (told : Option (List Entry)) (name : List ℕ) (limit : ℕ) → Exceeds told name limit
    → (files : List Entry) × (bytes : List ℕ) × MayBe told files × (bytes_under name files ≡ Some bytes) × (limit < length bytes)
with_many None name limit h =
    let bytes : List ℕ = replicate (limit + 1) 0 in
    ((name, bytes) ∷ [], bytes, tt, ap (λ b. if b then Some bytes else None) (bytes_eq-same name), omega (arith, length-replicate {A = ℕ} (limit + 1) 0))
with_many (Some files) name limit (bytes, found, more) = (files, bytes, refl, found, more)

pub usage_output : (words : List (List ℕ)) (told : Option (List Entry)) (written : Written)
    → None ≡ command_of words → written ≡ says Usage [] usage_line → OutputFrom words told written
usage_output words told written none w =
    let (files, may) = some_files told in
    (files, may, subst (λ c. OutputOf c files written) none w)

-- an output for what the words ask
pub asked_output : (words : List (List ℕ)) (told : Option (List Entry)) (command : Command) (written : Written)
    → Some command ≡ command_of words → OutputAt command told written → OutputFrom words told written
asked_output words told command written e (files, may, w) = (files, may, subst (λ c. OutputOf c files written) e w)

pub read_output : (told : Option (List Entry)) (form : Print) (written : Written)
    → written ≡ says ReadFault [] (read_failed_line form.file) → OutputAt (AsksPrint form) told written
read_output told form written w =
    let (files, may) = some_files told in
    (files, may, inr w)

pub lacks_output : (told : Option (List Entry)) (form : Print) (written : Written)
    → Lacks told form.file → written ≡ says NotThere [] (not_there_line form.file) → OutputAt (AsksPrint form) told written
lacks_output told form written lacks w =
    let (files, may, none) = without told form.file lacks in
    (files, may, inl (subst (λ b. Fetched form b written) (sym none) w))

pub exceeds_output : (told : Option (List Entry)) (form : Print) (written : Written)
    → Exceeds told form.file 262144 → written ≡ says TooLarge [] (too_large_line form.file) → OutputAt (AsksPrint form) told written
exceeds_output told form written exceeds w =
    let (files, bytes, may, some, long) = with_many told form.file 262144 exceeds in
    (files, may, inl (subst (λ b. Fetched form b written) (sym some) (inl (long, w))))

pub holds_output : (told : Option (List Entry)) (form : Print) (bytes : List ℕ) (written : Written)
    → Holds told form.file bytes → length bytes ≤ 262144 → CarriedOut form bytes written → OutputAt (AsksPrint form) told written
holds_output told form bytes written holds short w =
    let (files, may, some) = with_bytes told form.file bytes holds in
    (files, may, inl (subst (λ b. Fetched form b written) (sym some) (inr (short, w))))

-- a text that a check stopped at
pub stop_output : (form : Print) (bytes : List ℕ) (stop : ParseStop) (written : Written) → OnBreak {A = ℕ} (Err stop) (Told bytes)
    → ((b : Broken) → Told bytes b → OnlyBreak {A = ℕ} b (Err stop)) → ((p : List tree.Function) (b : Broken) → Accepted bytes p → Told bytes b → ⊥)
    → StoppedBy stop form.file written → CarriedOut form bytes written
stop_output form bytes (stops.Broken broken) written told only apart w = inr (broken, told, (λ b t. sym (only b t)), (λ p a. apart p broken a told), w)
stop_output form bytes stops.TooDeep written told only apart w = absurd w
stop_output form bytes stops.NoMemory written told only apart w = absurd w
