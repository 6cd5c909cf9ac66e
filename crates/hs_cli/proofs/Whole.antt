-- What a whole output says of the call that left it.
use Rattle.std.proofs.Common.{arith, ◌≡◌, ◌≢◌, inl, inr, ℕ, ◌<◌, ◌≤◌, List, length, Option, Some, None, IsNone, sym, ap, ◌∙◌, subst}
use Rattle.std.specs.Io.KnownBytes.{Appends}
use Rattle.hs_base.specs.Contents.{Entry, bytes_under}
use Rattle.hs_cli.specs.declared.status.Status.{Status}
use Rattle.hs_cli.specs.declared.status.Status.TheVariants.{Refused, Usage, WriteFault, NoMemory}
use Rattle.hs_cli.specs.Command.{Print, Command, AsksPrint, command_of}
use Rattle.hs_cli.specs.Lines.{refused_line}
use Rattle.hs_cli.specs.Output.{Written, says, CarriedOut, Fetched, OutputOf, OutputFrom, MayBe}
use Rattle.hs_cli.specs.Ends.{Answers, Headline}

carried_answers : (form : Print) (bytes : List ℕ) (written : Written) (out_old out_new err_old err_new : Option (List ℕ)) → CarriedOut form bytes written
    → Appends out_old out_new written.out → Appends err_old err_new written.err → Answers form bytes written.status out_old out_new err_old err_new
carried_answers form bytes written out_old out_new err_old err_new (inl (p, accepted, untold, done, prints, err)) took said =
    record {
      done = λ q a. done;
      untold = λ u. done;
      refused = λ b t. absurd (untold b t);
      told = λ r. absurd (cc (done, r));
      prints = λ e. (p, accepted, written.out, took, prints);
    }
carried_answers form bytes written out_old out_new err_old err_new (inr (broken, told, alone, none, e)) took said =
    let status : written.status ≡ Refused = ap (λ (w : Written). w.status) e in
    let line : written.err ≡ refused_line form.file broken = ap (λ (w : Written). w.err) e in
    record {
      done = λ q a. absurd (none q a);
      untold = λ u. absurd (u broken told);
      refused = λ b t. (status, subst (Appends err_old err_new) (line ∙ ap (refused_line form.file) (sym (alone b t))) said);
      told = λ r. (broken, told);
      prints = λ d. absurd (cc (status, d));
    }

fetched_answers : (form : Print) (found : Option (List ℕ)) (bytes : List ℕ) (written : Written) (out_old out_new err_old err_new : Option (List ℕ)) → found ≡ Some bytes → length bytes ≤ 262144
    → Fetched form found written → Appends out_old out_new written.out → Appends err_old err_new written.err → Answers form bytes written.status out_old out_new err_old err_new
fetched_answers form None bytes written out_old out_new err_old err_new e short w took said = absurd (cc e)
fetched_answers form (Some other) bytes written out_old out_new err_old err_new e short (inl (long, w)) took said =
    let same : other ≡ bytes = cc e in
    absurd (let l : 262144 < length bytes = subst (λ (b : List ℕ). 262144 < length b) same long in omega (arith, l, short))
fetched_answers form (Some other) bytes written out_old out_new err_old err_new e short (inr (less, w)) took said =
    let same : other ≡ bytes = cc e in
    subst (λ (b : List ℕ). Answers form b written.status out_old out_new err_old err_new) same (carried_answers form other written out_old out_new err_old err_new w took said)

headline_at : (command : Option Command) (told : Option (List Entry)) (files : List Entry) (written : Written) (out_old out_new err_old err_new : Option (List ℕ))
    → MayBe told files → OutputOf command files written → Appends out_old out_new written.out → Appends err_old err_new written.err → Headline command told written.status out_old out_new err_old err_new
headline_at None told files written out_old out_new err_old err_new may w took said = tt
headline_at (Some command) None files written out_old out_new err_old err_new may w took said = tt
headline_at (Some (AsksPrint form)) (Some told) files written out_old out_new err_old err_new may (inl w) took said =
    λ bytes found short nr nw nm. fetched_answers form (bytes_under form.file files) bytes written out_old out_new err_old err_new (ap (bytes_under form.file) may ∙ found) short w took said
headline_at (Some (AsksPrint form)) (Some told) files written out_old out_new err_old err_new may (inr w) took said =
    λ bytes found short nr nw nm. absurd (nr (ap (λ (x : Written). x.status) w))

pub headline_from : (words : List (List ℕ)) (told : Option (List Entry)) (written : Written) (out_old out_new err_old err_new : Option (List ℕ))
    → OutputFrom words told written → Appends out_old out_new written.out → Appends err_old err_new written.err → Headline (command_of words) told written.status out_old out_new err_old err_new
headline_from words told written out_old out_new err_old err_new (files, may, w) took said = headline_at (command_of words) told files written out_old out_new err_old err_new may w took said

usage_at : (command : Option Command) (files : List Entry) (written : Written) → OutputOf command files written → IsNone command → written.status ≡ Usage
usage_at None files written w h = ap (λ (x : Written). x.status) w
usage_at (Some command) files written w h = absurd (cc h)

pub usage_from : (words : List (List ℕ)) (told : Option (List Entry)) (written : Written) → OutputFrom words told written → IsNone (command_of words) → written.status ≡ Usage
usage_from words told written (files, may, w) h = usage_at (command_of words) files written w h

-- a whole output has no status of a failed write or of want of memory
ends_with : (written : Written) (status : Status) (out err : List ℕ) → written ≡ says status out err → status ≢ WriteFault → status ≢ NoMemory → (written.status ≢ WriteFault) × (written.status ≢ NoMemory)
ends_with written status out err w f m = let e : written.status ≡ status = ap (λ (x : Written). x.status) w in (λ h. f (sym e ∙ h), λ h. m (sym e ∙ h))

ends_at : (command : Option Command) (files : List Entry) (written : Written) → OutputOf command files written → (written.status ≢ WriteFault) × (written.status ≢ NoMemory)
ends_at None files written w = ends_with written _ _ _ w (λ e. cc e) (λ e. cc e)
ends_at (Some (AsksPrint form)) files written (inr w) = ends_with written _ _ _ w (λ e. cc e) (λ e. cc e)
ends_at (Some (AsksPrint form)) files written (inl w) = fetched (bytes_under form.file files) w
  where
    carried : (bytes : List ℕ) → CarriedOut form bytes written → (written.status ≢ WriteFault) × (written.status ≢ NoMemory)
    carried bytes (inl (p, accepted, untold, done, prints, err)) = (λ e. cc (done, e), λ e. cc (done, e))
    carried bytes (inr (broken, told, alone, none, w)) = ends_with written _ _ _ w (λ e. cc e) (λ e. cc e)

    fetched : (found : Option (List ℕ)) → Fetched form found written → (written.status ≢ WriteFault) × (written.status ≢ NoMemory)
    fetched None w = ends_with written _ _ _ w (λ e. cc e) (λ e. cc e)
    fetched (Some bytes) (inl (long, w)) = ends_with written _ _ _ w (λ e. cc e) (λ e. cc e)
    fetched (Some bytes) (inr (short, w)) = carried bytes w

pub ends_from : (words : List (List ℕ)) (told : Option (List Entry)) (written : Written) → OutputFrom words told written → (written.status ≢ WriteFault) × (written.status ≢ NoMemory)
ends_from words told written (files, may, w) = ends_at (command_of words) files written w
