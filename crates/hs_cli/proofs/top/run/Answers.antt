use Rattle.std.proofs.Common.{length, map, string_bytes, inl, inr, subst, sym, ◌∙◌}
use Rattle.std.specs.Io.KnownBytes.{Appends}
use Rattle.hs_base.specs.Causes.{TookPrefix}
use Rattle.hs_cli.specs.Output.{OutputFrom}
use Rattle.hs_cli.specs.Written.{written_of}
use Rattle.hs_cli.proofs.Prefixes.{took_none, took_all, at_err, at_ok}
use Rattle.hs_cli.proofs.Whole.{headline_from, usage_from, ends_from}
use Rattle.hs_cli.proofs.top.run.Goals as goal

pub put_all-requires : goal.put_all-requires
put_all-requires g c =
    let output = subst (λ words. OutputFrom (map string_bytes words) (g.F.Files.told c.args.files.now) (written_of c.in-Ok.answer)) c.deref.ensures.value c.in-Ok.ensures.output in
    let (room, _) = c.requires (written_of c.in-Ok.answer) output in
    subst (λ bytes. g.O.Sink.accepts c.args.out.now (length bytes)) (sym c.deref-2.ensures.value) room

pub returns-then-is_err-clause-part : goal.returns-then-is_err-clause-part
returns-then-is_err-clause-part g c =
    let answer = c.in-Ok.answer in
    let output = subst (λ words. OutputFrom (map string_bytes words) (g.F.Files.told c.args.files.now) (written_of answer)) c.deref.ensures.value c.in-Ok.ensures.output in
    let prefix = at_err c.put_all.result _ (sym c.is_err.ensures.value ∙ c.if-is_err.true) c.put_all.ensures.err in
    λ _. inr (
      written_of answer,
      output,
      c.in-Ok.ensures.read,
      subst (TookPrefix (g.O.Sink.taken c.args.out.now) (g.O.Sink.taken c.put_all.new.sink)) c.deref-2.ensures.value prefix,
      took_none (g.E.Sink.taken c.args.err.now) answer.err.items,
    )

pub put_all-requires-2 : goal.put_all-requires-2
put_all-requires-2 g c =
    let output = subst (λ words. OutputFrom (map string_bytes words) (g.F.Files.told c.args.files.now) (written_of c.in-Ok.answer)) c.deref.ensures.value c.in-Ok.ensures.output in
    let (_, room) = c.requires (written_of c.in-Ok.answer) output in
    subst (λ bytes. g.E.Sink.accepts c.args.err.now (length bytes)) (sym c.deref-3.ensures.value) room

pub returns-then-is_err-2-clause-part : goal.returns-then-is_err-2-clause-part
returns-then-is_err-2-clause-part g c =
    let answer = c.in-Ok.answer in
    let output = subst (λ words. OutputFrom (map string_bytes words) (g.F.Files.told c.args.files.now) (written_of answer)) c.deref.ensures.value c.in-Ok.ensures.output in
    let whole = at_ok c.put_all.result _ (sym c.is_err.ensures.value ∙ c.if-is_err.false) c.put_all.ensures.ok in
    let prefix = at_err c.put_all-2.result _ (sym c.is_err-2.ensures.value ∙ c.if-is_err-2.true) c.put_all-2.ensures.err in
    λ _. inr (
      written_of answer,
      output,
      c.in-Ok.ensures.read,
      took_all (g.O.Sink.taken c.args.out.now) (g.O.Sink.taken c.put_all.new.sink) answer.out.items (subst (Appends (g.O.Sink.taken c.args.out.now) (g.O.Sink.taken c.put_all.new.sink)) c.deref-2.ensures.value whole),
      subst (TookPrefix (g.E.Sink.taken c.args.err.now) (g.E.Sink.taken c.put_all-2.new.sink)) c.deref-3.ensures.value prefix,
    )

pub returns-clause-headline : goal.returns-clause-headline
returns-clause-headline g c =
    let answer = c.in-Ok.answer in
    let output = subst (λ words. OutputFrom (map string_bytes words) (g.F.Files.told c.args.files.now) (written_of answer)) c.deref.ensures.value c.in-Ok.ensures.output in
    let whole = at_ok c.put_all.result _ (sym c.is_err.ensures.value ∙ c.if-is_err.false) c.put_all.ensures.ok in
    let whole_err = at_ok c.put_all-2.result _ (sym c.is_err-2.ensures.value ∙ c.if-is_err-2.false) c.put_all-2.ensures.ok in
    headline_from (map string_bytes c.args.words.now.items) (g.F.Files.told c.args.files.now) (written_of answer) (g.O.Sink.taken c.args.out.now) (g.O.Sink.taken c.put_all.new.sink)
    (g.E.Sink.taken c.args.err.now) (g.E.Sink.taken c.put_all-2.new.sink) output
    (subst (Appends (g.O.Sink.taken c.args.out.now) (g.O.Sink.taken c.put_all.new.sink)) c.deref-2.ensures.value whole)
    (subst (Appends (g.E.Sink.taken c.args.err.now) (g.E.Sink.taken c.put_all-2.new.sink)) c.deref-3.ensures.value whole_err)

pub returns-clause-part : goal.returns-clause-part
returns-clause-part g c =
    let answer = c.in-Ok.answer in
    let output = subst (λ words. OutputFrom (map string_bytes words) (g.F.Files.told c.args.files.now) (written_of answer)) c.deref.ensures.value c.in-Ok.ensures.output in
    λ fault. absurd ((ends_from (map string_bytes c.args.words.now.items) (g.F.Files.told c.args.files.now) (written_of answer) output).0 fault)

pub returns-clause-no_memory : goal.returns-clause-no_memory
returns-clause-no_memory g c =
    let answer = c.in-Ok.answer in
    let output = subst (λ words. OutputFrom (map string_bytes words) (g.F.Files.told c.args.files.now) (written_of answer)) c.deref.ensures.value c.in-Ok.ensures.output in
    λ none. absurd ((ends_from (map string_bytes c.args.words.now.items) (g.F.Files.told c.args.files.now) (written_of answer) output).1 none)

pub returns-clause-usage_first : goal.returns-clause-usage_first
returns-clause-usage_first g c =
    let answer = c.in-Ok.answer in
    let output = subst (λ words. OutputFrom (map string_bytes words) (g.F.Files.told c.args.files.now) (written_of answer)) c.deref.ensures.value c.in-Ok.ensures.output in
    λ none. inl (usage_from (map string_bytes c.args.words.now.items) (g.F.Files.told c.args.files.now) (written_of answer) output none)
