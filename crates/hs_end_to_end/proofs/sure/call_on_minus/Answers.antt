use Rattle.std.proofs.Common.{arith, ◌≡◌, List, map, string_bytes, codes, ℕ, ◌≤◌, length, Some, Err, ap, subst}
use Rattle.hs_base.specs.Names.{is_upper, is_letter, is_digit, begins_name, is_word_byte}
use Rattle.hs_base.specs.declared.place.Broken.{Broken}
use Rattle.hs_front.specs.Told.{Told}
use Rattle.hs_front.specs.Answers.{OnBreak, IsBreak}
use Rattle.hs_cli.specs.declared.command.Dialect.TheVariants.{FStar}
use Rattle.hs_cli.specs.Command.{Print, AsksPrint, command_of}
use Rattle.hs_cli.specs.Lines.{refused_line}
use Rattle.hs_end_to_end.proofs.Room.{refusal_fits, into_empty}
use Rattle.hs_end_to_end.proofs.sure.call_on_minus.Goals as goal

abbrev asked : Print
asked = record { dialect = FStar; module_name = codes "Add"; file = codes "add.rs" }

abbrev minus : List ℕ
minus = codes "pub fn f(a: u32) -> u32 { a - 1 }"

pub run-status-requires : goal.run-status-requires
unfolding is_word_byte begins_name is_letter is_upper is_digit
run-status-requires c = λ written output.
    let broken = c.in-Err-Broken.broken in
    let told : Told minus broken = subst (λ s. OnBreak {A = ℕ} (Err s) (Told minus)) c.in-Err-Broken.field-0-is c.in-Err-Broken.ensures.told in
    let only : (b : Broken) → Told minus b → broken ≡ b = λ b t. subst (λ s. IsBreak b s) c.in-Err-Broken.field-0-is (c.in-Err-Broken.ensures.only_break b t) in
    let form : command_of (map string_bytes c.in_ok-words.words.items) ≡ Some (AsksPrint asked) = ap command_of c.in_ok-words.ensures in
    let short : length (refused_line (codes "add.rs") broken) ≤ 46 = grind (arith, c.in_ok-line.ensures, c.len.ensures, c.if-len-ne46.false) in
    let (out, err) =
    refusal_fits (map string_bytes c.in_ok-words.words.items) c.add.new.self asked minus broken 46 written form
    (c.in_ok-add.ensures.ok (codes "add.rs")) told c.in-Err-Broken.ensures.apart only
    short (Prim.omega arith) (Prim.omega arith) output in
    (into_empty _ 0 (length written.out) c.in_ok-out.ensures out, into_empty _ 46 (length written.err) c.in_ok-err.ensures err)
