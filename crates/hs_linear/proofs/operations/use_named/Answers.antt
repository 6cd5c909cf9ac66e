use Rattle.std.proofs.Common.{sym, ap, ◌∙◌}
use Rattle.hs_ops.specs.Table.{Table, operation_named}
use Rattle.hs_linear.proofs.Uses.{no_part}
use Rattle.hs_linear.proofs.operations.use_named.Goals as goal

pub returns-in-None-clause-part : goal.returns-in-None-clause-part
returns-in-None-clause-part c = sym (no_part c.args.name.now (ap (λ (t : Table). operation_named t c.args.name.now) (sym c.requires) ∙ c.in-None.ensures.named))
