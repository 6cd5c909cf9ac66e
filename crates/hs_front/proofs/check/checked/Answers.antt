use Rattle.std.proofs.Common.{◌≡◌, Err, sym, ◌∙◌, ap, subst}
use Rattle.hs_first_tree.specs.Of.{program_of}
use Rattle.hs_grammar.specs.Derives.{DerivesAs}
use Rattle.hs_grammar.specs.Whole.{ParseBreak, Parses}
use Rattle.hs_front.specs.Symbols.{symbols_of}
use Rattle.hs_front.specs.Written.{AFile, written}
use Rattle.hs_front.specs.Told.{break_at, ToldBehind}
use Rattle.hs_front.specs.Walk.{Gives, file_walk}
use Rattle.hs_front.proofs.Whole.{file_accepted, file_told, file_only, file_only_break, break_told, break_accepts_none, break_only}
use Rattle.hs_front.proofs.Names.{symbols_fair}
use Rattle.hs_front.proofs.Fair.{derived_fair}
use Rattle.hs_front.proofs.Soundness.{given_sound}
use Rattle.hs_front.proofs.check.checked.Goals as goal

-- the tokens say the file
says : (c : goal.After-drop-seen-inside) → DerivesAs written AFile (symbols_of c.args.bytes.now c.args.tokens.now) c.in-Ok.file
says c = subst (λ w. DerivesAs written AFile w c.in-Ok.file) (c.as_slice.ensures ∙ c.in_ok-seen.ensures) c.in-Ok.ensures.parses

-- the tokens break the grammar
breaks : (c : goal.After-drop-seen-inside-in-Err-At) → ParseBreak written AFile (symbols_of c.args.bytes.now c.args.tokens.now) c.in-Err-At.number
breaks c =
    subst (λ w. ParseBreak written AFile w c.in-Err-At.number) (c.as_slice.ensures ∙ c.in_ok-seen.ensures)
    (subst (λ r. Parses written AFile 1 c.as_slice.result.now (Err r)) c.in-Err-At.field-0-is c.in-Err-At.ensures.parses)

-- the token that is told
told_of : (c : goal.After-drop-seen-inside-in-Err-At) → c.grammar_break.result ≡ break_at c.args.bytes.now c.args.tokens.now c.in-Err-At.number
told_of c = c.grammar_break.ensures ∙ ap (break_at c.args.bytes.now c.args.tokens.now) c.in-Err-At.number-is

gives : (c : goal.After-drop-seen-inside) → Gives c.args.bytes.now (file_walk c.args.bytes.now c.in-Ok.file) program_of c.program.result
gives c = subst (λ t. Gives t (file_walk t c.in-Ok.file) program_of c.program.result) c.new.ensures c.program.ensures.gives

pub returns-in-Ok-clause-accepted : goal.returns-in-Ok-clause-accepted
returns-in-Ok-clause-accepted c = file_accepted c.args.bytes.now c.args.tokens.now c.requires.placed (c.exact.ensures.unique AFile) (c.exact.ensures.apart AFile) program_of c.in-Ok.file (says c) c.program.result (gives c)

pub returns-in-Ok-clause-told : goal.returns-in-Ok-clause-told
returns-in-Ok-clause-told c = file_told c.args.bytes.now c.args.tokens.now c.requires.placed (c.exact.ensures.unique AFile) (c.exact.ensures.apart AFile) program_of c.in-Ok.file (says c) c.program.result (gives c)

pub returns-in-Ok-clause-only_program : goal.returns-in-Ok-clause-only_program
returns-in-Ok-clause-only_program c = file_only c.args.bytes.now c.args.tokens.now c.requires.placed (c.exact.ensures.unique AFile) (c.exact.ensures.apart AFile) program_of c.in-Ok.file (says c) c.program.result (gives c)

pub returns-in-Ok-clause-only_break : goal.returns-in-Ok-clause-only_break
returns-in-Ok-clause-only_break c = file_only_break c.args.bytes.now c.args.tokens.now c.requires.placed (c.exact.ensures.unique AFile) (c.exact.ensures.apart AFile) program_of c.in-Ok.file (says c) c.program.result (gives c)

pub returns-in-Err-At-clause-told : goal.returns-in-Err-At-clause-told
returns-in-Err-At-clause-told c = subst (ToldBehind c.args.bytes.now c.args.tokens.now) (sym (told_of c)) (break_told c.args.bytes.now c.args.tokens.now c.requires.placed (c.exact.ensures.unique AFile) (c.exact.ensures.apart AFile) c.in-Err-At.number (breaks c))

pub returns-in-Err-At-clause-only_program : goal.returns-in-Err-At-clause-only_program
returns-in-Err-At-clause-only_program c = break_accepts_none c.args.bytes.now c.args.tokens.now c.requires.placed (c.exact.ensures.unique AFile) (c.exact.ensures.apart AFile) c.in-Err-At.number (breaks c)

pub returns-in-Err-At-clause-only_break : goal.returns-in-Err-At-clause-only_break
returns-in-Err-At-clause-only_break c = λ b t. told_of c ∙ break_only c.args.bytes.now c.args.tokens.now c.requires.placed (c.exact.ensures.unique AFile) (c.exact.ensures.apart AFile) c.in-Err-At.number (breaks c) b t

pub returns-in-Ok-clause-sound : goal.returns-in-Ok-clause-sound
returns-in-Ok-clause-sound c =
    let fair = derived_fair c.args.bytes.now (symbols_of c.args.bytes.now c.args.tokens.now) c.in-Ok.file (says c) (symbols_fair c.args.bytes.now c.args.tokens.now c.requires.named) in
    given_sound c.args.bytes.now c.in-Ok.file fair program_of c.program.result (gives c) c.program.ensures.absent
