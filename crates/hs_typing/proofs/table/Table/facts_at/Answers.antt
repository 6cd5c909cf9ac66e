use Rattle.std.proofs.Common.{sym}
use Rattle.hs_typing.proofs.Measured.{kept_past}
use Rattle.hs_typing.proofs.table.Table.facts_at.Goals as goal

pub returns-in-None : goal.returns-in-None
returns-in-None c =
    kept_past c.args.self.now.types.now c.args.self.now.facts.now c.args.number c.nothing.result c.args.self.now.facts_agree (sym c.in-None.ensures) c.nothing.ensures
