-- What can be written for given words and files.
use Rattle.std.proofs.Common.{arith, ◌≡◌, inl, inr, ℕ, ◌+◌, ◌≤◌, List, [], length, Option, Some, None, sym, ap, subst, ◌∙◌}
use Rattle.hs_first_tree.specs.Plain as tree
use Rattle.hs_front.specs.Told.{Accepted, Told}
use Rattle.hs_base.specs.Heaps.{SureHeapState}
use Rattle.hs_base.specs.Contents.{Entry, bytes_under}
use Rattle.hs_base.specs.declared.place.Broken.{Broken}
use Rattle.hs_cli.specs.Command.{Print, AsksPrint, command_of}
use Rattle.hs_cli.specs.Lines.{not_there_line, too_large_line, read_failed_line, refused_line}
use Rattle.hs_cli.specs.Output.{Written, CarriedOut, Fetched, OutputOf, OutputFrom}

-- the output fits into this much room
abbrev pub Fits : ℕ → ℕ → Written → Type 0
Fits out err written = (length written.out ≤ out) × (length written.err ≤ err)

-- nothing, and a line
line_fits : (written : Written) (line : List ℕ) (room : ℕ) → written.out ≡ [] → written.err ≡ line → length line ≤ room → Fits 0 room written
line_fits written line room out err short =
    (omega (arith, ap (λ (bytes : List ℕ). length bytes) out), omega (arith, ap (λ (bytes : List ℕ). length bytes) err, short))

out_of : (a b : Written) → a ≡ b → a.out ≡ b.out
out_of a b e = ap (λ (x : Written). x.out) e

err_of : (a b : Written) → a ≡ b → a.err ≡ b.err
err_of a b e = ap (λ (x : Written). x.err) e

carried_fits : (form : Print) (bytes : List ℕ) (broken : Broken) (room : ℕ) (written : Written)
    → Told bytes broken → ((p : List tree.Function) (b : Broken) → Accepted bytes p → Told bytes b → ⊥) → ((b : Broken) → Told bytes b → broken ≡ b)
    → length (refused_line form.file broken) ≤ room → CarriedOut form bytes written → Fits 0 room written
carried_fits form bytes broken room written told apart only short (inl (p, accepted, _, _, _, _)) = absurd (apart p broken accepted told)
carried_fits form bytes broken room written told apart only short (inr (other, told', _, _, w)) =
    line_fits written (refused_line form.file broken) room (out_of _ _ w) (err_of _ _ w ∙ ap (refused_line form.file) (sym (only other told'))) short

found_fits : (form : Print) (found : Option (List ℕ)) (bytes : List ℕ) (broken : Broken) (room : ℕ) (written : Written) → found ≡ Some bytes
    → Told bytes broken → ((p : List tree.Function) (b : Broken) → Accepted bytes p → Told bytes b → ⊥) → ((b : Broken) → Told bytes b → broken ≡ b)
    → length (refused_line form.file broken) ≤ room → length (too_large_line form.file) ≤ room → Fetched form found written → Fits 0 room written
found_fits form None bytes broken room written e told apart only short large w = absurd (cc e)
found_fits form (Some other) bytes broken room written e told apart only short large (inl (_, w)) =
    line_fits written (too_large_line form.file) room (out_of _ _ w) (err_of _ _ w) large
found_fits form (Some other) bytes broken room written e told apart only short large (inr (_, w)) =
    let same : other ≡ bytes = cc e in
    carried_fits form bytes broken room written told apart only short (subst (λ (b : List ℕ). CarriedOut form b written) same w)

refusal_at : (form : Print) (files : List Entry) (bytes : List ℕ) (broken : Broken) (room : ℕ) (written : Written) → bytes_under form.file files ≡ Some bytes
    → Told bytes broken → ((p : List tree.Function) (b : Broken) → Accepted bytes p → Told bytes b → ⊥) → ((b : Broken) → Told bytes b → broken ≡ b)
    → length (refused_line form.file broken) ≤ room → length (too_large_line form.file) ≤ room → length (read_failed_line form.file) ≤ room
    → OutputOf (Some (AsksPrint form)) files written → Fits 0 room written
refusal_at form files bytes broken room written found told apart only short large failed (inl w) =
    found_fits form (bytes_under form.file files) bytes broken room written found told apart only short large w
refusal_at form files bytes broken room written found told apart only short large failed (inr w) =
    line_fits written (read_failed_line form.file) room (out_of _ _ w) (err_of _ _ w) failed

pub refusal_fits : (words : List (List ℕ)) (files : List Entry) (form : Print) (bytes : List ℕ) (broken : Broken) (room : ℕ) (written : Written)
    → command_of words ≡ Some (AsksPrint form) → bytes_under form.file files ≡ Some bytes
    → Told bytes broken → ((p : List tree.Function) (b : Broken) → Accepted bytes p → Told bytes b → ⊥) → ((b : Broken) → Told bytes b → broken ≡ b)
    → length (refused_line form.file broken) ≤ room → length (too_large_line form.file) ≤ room → length (read_failed_line form.file) ≤ room
    → OutputFrom words (Some files) written → Fits 0 room written
refusal_fits words files form bytes broken room written asked found told apart only short large failed (held, same, output) =
    refusal_at form held bytes broken room written (ap (bytes_under form.file) same ∙ found) told apart only short large failed (subst (λ f. OutputOf f held written) asked output)

absent_at : (form : Print) (files : List Entry) (room : ℕ) (written : Written) → (found : Option (List ℕ)) → found ≡ None → length (not_there_line form.file) ≤ room
    → Fetched form found written → Fits 0 room written
absent_at form files room written None e short w = line_fits written (not_there_line form.file) room (out_of _ _ w) (err_of _ _ w) short
absent_at form files room written (Some bytes) e short w = absurd (cc e)

absent_or_failed : (form : Print) (files : List Entry) (room : ℕ) (written : Written) → bytes_under form.file files ≡ None
    → length (not_there_line form.file) ≤ room → length (read_failed_line form.file) ≤ room
    → OutputOf (Some (AsksPrint form)) files written → Fits 0 room written
absent_or_failed form files room written none short failed (inl w) = absent_at form files room written (bytes_under form.file files) none short w
absent_or_failed form files room written none short failed (inr w) =
    line_fits written (read_failed_line form.file) room (out_of _ _ w) (err_of _ _ w) failed

pub absence_fits : (words : List (List ℕ)) (files : List Entry) (form : Print) (room : ℕ) (written : Written)
    → command_of words ≡ Some (AsksPrint form) → bytes_under form.file files ≡ None
    → length (not_there_line form.file) ≤ room → length (read_failed_line form.file) ≤ room
    → OutputFrom words (Some files) written → Fits 0 room written
absence_fits words files form room written asked none short failed (held, same, output) =
    absent_or_failed form held room written (ap (bytes_under form.file) same ∙ none) short failed (subst (λ f. OutputOf f held written) asked output)

-- what fits into a room fits into an empty sink that has it
pub into_empty : (heap : SureHeapState) (room count : ℕ) → heap ≡ record { bytes = []; room = room } → count ≤ room → length heap.bytes + count ≤ heap.room
into_empty heap room count empty fits =
    let whole : length {A = ℕ} [] + count ≤ room = omega (arith, fits) in
    subst (λ (h : SureHeapState). length h.bytes + count ≤ h.room) (sym empty) whole
