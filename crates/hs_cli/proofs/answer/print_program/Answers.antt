use Rattle.hs_first_tree.specs.Of.{program_of}
use Rattle.hs_first_em.specs.Of.{module_of}
use Rattle.std.proofs.Common.{refl}
use Rattle.hs_cli.proofs.Prints.{laid_prints}
use Rattle.hs_cli.proofs.answer.print_program.Goals as goal

pub returns : goal.returns
returns c =
    let kept = c.in_ok-made.ensures in (
      refl,
      laid_prints c.args.module_name.now (program_of c.args.program.now) (module_of c.in_ok-made.made) c.in_ok-out.out.items
          c.layouts_are_read.ensures c.texts_are_read_once.ensures c.in_ok-out.ensures kept.named kept.spelled kept.scoped kept.same kept.shape,
      c.new.ensures.items,
    )
