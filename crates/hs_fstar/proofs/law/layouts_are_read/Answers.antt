use Rattle.hs_fstar.proofs.Printed.{layout_reads}
use Rattle.hs_fstar.proofs.law.layouts_are_read.Goals as goal

pub returns : goal.returns
returns c = layout_reads
