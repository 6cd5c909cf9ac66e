use Rattle.hs_tree.proofs.Texts.{flat_text, mutargs_text, assigns_text}
use Rattle.hs_tree.proofs.small.small_programs_are_shown.Goals as goal

pub returns-clause-flat : goal.returns-clause-flat
returns-clause-flat c = flat_text

pub returns-clause-no_mut_arg : goal.returns-clause-no_mut_arg
returns-clause-no_mut_arg c = mutargs_text

pub returns-clause-no_assign : goal.returns-clause-no_assign
returns-clause-no_assign c = assigns_text
