-- Calls that lend, as plain right sides.
use Rattle.std.proofs.Common.{◌≡◌, List, map, ap, ◌∙◌}
use Rattle.hs_tree.specs.Plain as plain
use Rattle.hs_tree.specs.Of.{chained, exp_step, arg_step, rhs_step, carry_step, arm_step, step_step, stmt_step, tail_step, block_step, arg_of, rhs_of}
use Rattle.hs_tree.specs.declared.node.Arg.{Arg}
use Rattle.hs_tree.specs.declared.node.Rhs.{Rhs}
use Rattle.hs_tree.specs.declared.node.Rhs.TheVariants as variant
use Rattle.hs_tree.specs.declared.node.Arg.TheOpen.{Rhs-F}
use Rattle.hs_tree.specs.declared.node.Arg.TheFolds.{fold-roll-Rhs}
use Rattle.hs_tree.specs.declared.node.Arg.TheViews.{roll-Rhs}

module _ (names : List plain.Name) {F Place Nested Quest MutArg Exit Assign Loop Cf Acc Fold : Type 0} where
  -- a call that lends is one as a plain right side
  pub lends : (r : Rhs F Place Nested Quest MutArg Exit Assign Loop Cf Acc Fold) (mark : MutArg) (f : plain.Name) (es : List (Arg F Place Nested Quest MutArg Exit Assign Loop Cf Acc Fold)) → r ≡ variant.LendCall mark f es → rhs_of names r ≡ plain.lendcall f (chained (map (arg_of names) es) plain.no_args)
  unfolding roll-Rhs denote.Hole.Carrier.roll
  lends r mark f es e =
      ap (rhs_of names) e
      ∙ fold-roll-Rhs F Place Nested Quest MutArg Exit Assign Loop Cf Acc Fold (plain.Args → plain.Args) plain.Exp plain.Rhs (plain.Steps → plain.Steps) (plain.Block → plain.Block) plain.Block (plain.Arms → plain.Arms) plain.Block (plain.Carrying → plain.Rhs) (arg_step names) (exp_step names) (rhs_step names) (step_step names) (stmt_step names) (tail_step names) (arm_step names) (block_step names) (carry_step names) (Rhs-F.LendCall mark f es)
