use Rattle.std.proofs.Common.{arith, ◌≡◌, List, map, string_bytes, codes, ℕ, ◌≤◌, length, Some, None, ap}
use Rattle.hs_base.specs.Names.{is_upper, is_letter, is_digit, begins_name, is_word_byte}
use Rattle.hs_base.specs.Contents.{bytes_under}
use Rattle.hs_cli.specs.declared.command.Dialect.TheVariants.{FStar}
use Rattle.hs_cli.specs.Command.{Print, AsksPrint, command_of}
use Rattle.hs_end_to_end.proofs.Room.{absence_fits, into_empty}
use Rattle.hs_end_to_end.proofs.sure.call_without_files.Goals as goal

abbrev asked : Print
asked = record { dialect = FStar; module_name = codes "Add"; file = codes "none.rs" }

pub run-status-requires : goal.run-status-requires
unfolding is_word_byte begins_name is_letter is_upper is_digit
run-status-requires c = λ written output.
    let form : command_of (map string_bytes c.in_ok-words.words.items) ≡ Some (AsksPrint asked) = ap command_of c.in_ok-words.ensures in
    let none : bytes_under (codes "none.rs") c.new-files.result ≡ None = ap (bytes_under (codes "none.rs")) c.new-files.ensures in
    let (out, err) =
    absence_fits (map string_bytes c.in_ok-words.words.items) c.new-files.result asked 21 written form none (Prim.omega arith) (Prim.omega arith) output in
    (into_empty _ 0 (length written.out) c.in_ok-out.ensures out, into_empty _ 21 (length written.err) c.in_ok-err.ensures err)
