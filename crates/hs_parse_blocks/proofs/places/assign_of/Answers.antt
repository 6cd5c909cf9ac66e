use Rattle.hs_forms.specs.Blocks.{place_in}
use Rattle.hs_parse_blocks.proofs.Steps.{assigned_to}
use Rattle.hs_parse_blocks.proofs.places.assign_of.Goals as goal

pub returns : goal.returns
returns c =
    rw c.across-span.ensures
    (assigned_to c.args.exp c.args.op c.args.right c.args.close (place_in c.args.exp) c.in-Some.target c.in_ok-steps.steps c.in-Some.ensures c.in_ok-steps.ensures)
