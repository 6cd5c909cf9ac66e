use Rattle.std.proofs.Common.{◌≡◌, ◌∷◌, ◌++◌, OnOk, subst, sym}
use Rattle.hs_tree.specs.Plain.{Rhs}
use Rattle.hs_tree.specs.Text.{shown_rhs}
use Rattle.hs_tree.specs.Pending.{bytes_on, pending}
use Rattle.hs_tree.proofs.Lent.{lends}
use Rattle.hs_tree.proofs.open.open_rhs.Goals as goal

pub returns-in-LendCall : goal.returns-in-LendCall
returns-in-LendCall g c =
    let table = c.args.table.now in
    let names = c.args.names.now in
    subst
    (λ (r : Rhs). OnOk c.begin_named.result (c.begin_named.new.text.items ++ pending table names c.begin_named.new.stack ≡ c.args.text.now.items ++ 32 ∷ bytes_on (shown_rhs table r) (pending table names c.args.stack.now)))
    (sym (lends names c.args.rhs.now c.in-LendCall.field-0 c.in-LendCall.name c.in-LendCall.arguments c.in-LendCall.is))
    c.begin_named.ensures
