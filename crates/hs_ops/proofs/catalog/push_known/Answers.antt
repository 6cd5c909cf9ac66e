use Rattle.std.proofs.Common.{sym, ap, ◌∙◌, ◌++◌, refl}
use Rattle.std.proofs.lemmas.List.{append-nil}
use Rattle.hs_ops.proofs.Runs.{rows_of_known, rows_of_unknown}
use Rattle.hs_ops.proofs.catalog.push_known.Goals as goal

pub returns-in_ok-push : goal.returns-in_ok-push
returns-in_ok-push c =
    let k = rows_of_known c.args.operation (sym c.if-is_known.ensures) in
    rw (c.in_ok-push.ensures.ok, k, c.in_ok-row.ensures, c.in_ok-name_of.ensures) refl

pub returns-else-is_known : goal.returns-else-is_known
returns-else-is_known c = sym (ap (λ l. c.args.entries.now ++ l) (rows_of_unknown c.args.operation (sym c.if-is_known.ensures)) ∙ append-nil _)
